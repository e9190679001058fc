-- The one printed text of a term in a context of named entries.
use Rattle.std.specs.Prelude.{ℕ, ◌+◌, ◌-◌, Bool, true, false, ◌&&◌, ◌||◌, ◌==◌, not, if◌then◌else◌, List, [], ◌∷◌, ◌++◌, codes, decimal}
use Rattle.std.specs.List.{list_any}
use Rattle.std.specs.Str.{bytes_eq}
use Rattle.ld_trees.specs.Term.{Term, Srt, star, square, Var, App, Lam, Pi, Con, Head, Named, Numbered, Terms, none, ◌▹◌}
use Rattle.ld_terms.specs.Names.{is_text_name, level_name}
use Rattle.term_syntax.specs.Lex.{Text}

-- The names of a context's entries. The first one has level 0.
abbrev pub Names : Type 0
Names = List Text

-- ---- shapes of terms

-- whether the variable of that index occurs
abbrev mutual
  pub occurs : ℕ → Term → Bool
  occurs i (Srt s) = false
  occurs i (Var j) = j == i
  occurs i (App f a) = occurs i f || occurs i a
  occurs i (Lam A M) = occurs i A || occurs (i + 1) M
  occurs i (Pi A B) = occurs i A || occurs (i + 1) B
  occurs i (Con h us) = occurs_in i us

  pub occurs_in : ℕ → Terms → Bool
  occurs_in i none = false
  occurs_in i (us ▹ u) = occurs_in i us || occurs i u

-- an abstraction or a product
abbrev pub is_binder : Term → Bool
is_binder (Lam A M) = true
is_binder (Pi A B) = true
is_binder _ = false

abbrev pub is_application : Term → Bool
is_application (App f a) = true
is_application _ = false

-- ---- variables

-- an entry's text: its name where that is a name and no later entry has it, else its level name
abbrev pub entry_text : ℕ → Text → Names → Text
entry_text level name later = if is_text_name name && not (list_any (bytes_eq name) later) then name else level_name level

-- The text of the variable of a level, where the list begins with the entry of the first level. A level that has no entry is that of a bound variable.
abbrev pub level_text : ℕ → Names → ℕ → Text
level_text first [] level = level_name level
level_text first (name ∷ later) level = if level == first then entry_text level name later else level_text (first + 1) later level

-- a variable below so many entries and binders
abbrev pub variable_text : Names → ℕ → ℕ → Text
variable_text names below i = level_text 0 names (below - (i + 1))

-- ---- terms

abbrev pub in_parentheses : Bool → Text → Text
in_parentheses stands text = if stands then 40 ∷ (text ++ 41 ∷ []) else text

-- `(%k : A)`
abbrev pub binder_text : ℕ → Text → Text
binder_text k domain = 40 ∷ (level_name k ++ (codes " : " ++ (domain ++ 41 ∷ [])))

-- one more argument behind others
abbrev pub joined : Terms → Text → Text → Text
joined none before text = text
joined (us ▹ u) before text = before ++ (44 ∷ 32 ∷ text)

-- `a(U, V)` or `?m[U, V]`
abbrev pub head_text : Head → Text → Text
head_text (Named a) arguments = a ++ (40 ∷ (arguments ++ 41 ∷ []))
head_text (Numbered m) arguments = 63 ∷ (decimal m ++ (91 ∷ (arguments ++ 93 ∷ [])))

-- the text of a term below so many entries and binders
abbrev mutual
  pub text : Names → ℕ → Term → Text
  text names k (Srt star) = 42 ∷ []
  text names k (Srt square) = 35 ∷ []
  text names k (Var i) = variable_text names k i
  text names k (App f a) = in_parentheses (is_binder f) (text names k f) ++ (32 ∷ in_parentheses (is_binder a || is_application a) (text names k a))
  text names k (Lam A M) = codes "fun " ++ (binder_text k (text names k A) ++ (codes " => " ++ text names (k + 1) M))
  text names k (Pi A B) = (if occurs 0 B then binder_text k (text names k A) else in_parentheses (is_binder A) (text names k A)) ++ (codes " -> " ++ text names (k + 1) B)
  text names k (Con h us) = head_text h (texts names k us)

  -- the arguments of a constant or metavariable
  pub texts : Names → ℕ → Terms → Text
  texts names k none = []
  texts names k (us ▹ u) = joined us (texts names k us) (text names k u)
