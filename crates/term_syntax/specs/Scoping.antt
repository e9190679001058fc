-- What a surface tree means: its names are resolved, from left to right, to a term or to the first refusal.
use Rattle.std.specs.Prelude.{ℕ, ◌+◌, ◌-◌, nat_lt, ◌==◌, if◌then◌else◌, List, [], ◌∷◌, map, length, Option, Some, None, Result, Ok, Err, Bool, false}
use Rattle.std.specs.Str.{bytes_eq}
use Rattle.ld_trees.specs.Term.{Term, Star, Var, App, Lam, Pi, Const, Terms, none, ◌▹◌}
use Rattle.ld_terms.specs.Names.{level_name}
use Rattle.term_syntax.specs.declared.surface.Label.{Label}
use Rattle.term_syntax.specs.declared.surface.Label.TheVariants as label
use Rattle.term_syntax.specs.declared.surface.Surface.{Surface, fold-Surface}
use Rattle.term_syntax.specs.declared.surface.Shape.TheOpen.{Shape-F}
use Rattle.term_syntax.specs.declared.scope_fault.ScopeFault.{ScopeFault}
use Rattle.term_syntax.specs.declared.scope_fault.ScopeFault.TheVariants.{UnknownName, WrongCount, Unsolved}
use Rattle.term_syntax.specs.Lex.{Text}
use Rattle.term_syntax.specs.Printing.{Names}

-- how many parameters the constant of a name has, if there is one
abbrev pub Arities : Type 0
Arities = Text → Option ℕ

-- the labels of the binders passed, the innermost first; an arrow's has none
abbrev pub Bound : Type 0
Bound = List (Option Label)

-- ---- names

abbrev pub same_label : Label → Label → Bool
same_label (label.Plain a) (label.Plain b) = bytes_eq a b
same_label (label.Level a) (label.Level b) = a == b
same_label _ _ = false

-- an index below one more entry or binder
abbrev pub later : Option ℕ → Option ℕ
later None = None
later (Some i) = Some (i + 1)

abbrev pub or_else : Option ℕ → Option ℕ → Option ℕ
or_else None b = b
or_else (Some a) b = Some a

-- the index of the last entry of that name
abbrev pub index_named : Text → Names → Option ℕ
index_named x [] = None
index_named x (name ∷ names) = or_else (index_named x names) (if bytes_eq x name then Some (length names) else None)

-- the index of the entry of that level
abbrev pub index_at : ℕ → ℕ → Option ℕ
index_at level entries = if nat_lt level entries then Some (entries - (level + 1)) else None

abbrev pub index_in_context : Label → Names → Option ℕ
index_in_context (label.Plain x) names = index_named x names
index_in_context (label.Level k) names = index_at k (length names)

-- the innermost binder of that name, else the entry that it names
abbrev pub index_of : Names → Label → Bound → Option ℕ
index_of names x [] = index_in_context x names
index_of names x (None ∷ bound) = later (index_of names x bound)
index_of names x (Some y ∷ bound) = if same_label x y then Some 0 else later (index_of names x bound)

-- the bytes of a label
abbrev pub label_text : Label → Text
label_text (label.Plain x) = x
label_text (label.Level k) = level_name k

-- ---- terms

abbrev pub Resolved : Type 0 → Type 0
Resolved A = Result A ScopeFault

infixl 10 ◌>>=◌
abbrev pub ◌>>=◌ : {A B : Type 0} → Resolved A → (A → Resolved B) → Resolved B
(Err e) >>= f = Err e
(Ok a) >>= f = f a

abbrev pub variable : ℕ → Label → Option ℕ → Resolved Term
variable at x None = Err (UnknownName at (label_text x))
variable at x (Some i) = Ok (Var i)

-- a head with its arguments, from left to right
abbrev pub applied : Term → List (Resolved Term) → Resolved Term
applied f [] = Ok f
applied f (a ∷ rest) = a >>= (λ a. applied (App f a) rest)

-- arguments behind others
abbrev pub arguments : Terms → List (Resolved Term) → Resolved Terms
arguments us [] = Ok us
arguments us (u ∷ rest) = u >>= (λ u. arguments (us ▹ u) rest)

-- whether a constant is known and is given as many arguments as it has parameters
abbrev pub fitting : ℕ → Text → Option ℕ → ℕ → Resolved (Unit {0})
fitting at a None given = Err (UnknownName at a)
fitting at a (Some wanted) given = if given == wanted then Ok tt else Err (WrongCount at a given wanted)

abbrev pub constant : ℕ → Text → Option ℕ → List (Resolved Term) → Resolved Term
constant at a known given = fitting at a known (length given) >>= (λ _. arguments none given >>= (λ us. Ok (Const a us)))

-- what a tree means below the binders passed
abbrev pub Meaning : Type 0
Meaning = Bound → Resolved Term

abbrev pub below : Bound → List Meaning → List (Resolved Term)
below bound = map (λ m. m bound)

module _ (arity : Arities) (names : Names) where
  -- one node of a tree at its place, with what each child means
  abbrev pub node_meaning : Shape-F (ℕ → Meaning) Meaning → ℕ → Meaning
  node_meaning Shape-F.Star at bound = Ok Star
  node_meaning Shape-F.Wild at bound = Err (Unsolved at)
  node_meaning Shape-F.Asked at bound = Err (Unsolved at)
  node_meaning (Shape-F.Named x) at bound = variable at x (index_of names x bound)
  node_meaning (Shape-F.Const a us) at bound = constant at a (arity a) (below bound us)
  node_meaning (Shape-F.App f us) at bound = f bound >>= (λ f. applied f (below bound us))
  node_meaning (Shape-F.Lam x A M) at bound = A bound >>= (λ A. M (Some x ∷ bound) >>= (λ M. Ok (Lam A M)))
  node_meaning (Shape-F.Pi x A B) at bound = A bound >>= (λ A. B (x ∷ bound) >>= (λ B. Ok (Pi A B)))

  unfoldable pub scope : Surface → Meaning
  scope = fold-Surface (ℕ → Meaning) Meaning node_meaning (λ t. t.shape t.at)
