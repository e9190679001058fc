-- What is printed is read again as the same term.
use Rattle.std.specs.Prelude.{◌≡◌, ◌≤◌, ◌<◌, ◌+◌, ℕ, [], ◌∷◌, length, Some, Ok}
use Rattle.std.specs.Str.{IsAscii}
use Rattle.ld_trees.specs.Term.{Term, Srt, star, square, Var, App, Lam, Pi, Con, Named, Numbered, Terms, none, ◌▹◌, count, depth}
use Rattle.ld_trees.specs.Scoping.{Scoped}
use Rattle.ld_terms.specs.Names.{IsTextName, IsEntryName}
use Rattle.term_syntax.specs.declared.surface.Surface.{Surface}
use Rattle.term_syntax.specs.Lex.{Text}
use Rattle.term_syntax.specs.Grammar.{IsText}
use Rattle.term_syntax.specs.Printing.{Names, text}
use Rattle.term_syntax.specs.Scoping.{Arities, scope}

-- Each entry from a level on has a name of the texts, or the level name of its own level.
abbrev pub NamedFrom : ℕ → Names → Type 0
NamedFrom level [] = Unit {0}
NamedFrom level (name ∷ names) = IsEntryName level name × NamedFrom (level + 1) names

-- the names of a context, of which there are few enough that each level below a term's binders has a level name
pub record IsContext (names : Names) : Type 0 where
  pub named : NamedFrom 0 names
  pub few : length names < 999999000

-- without `□` and metavariables, and each constant known by its name, with as many parameters as it has arguments
abbrev mutual
  pub IsReadable : Arities → Term → Type 0
  IsReadable arity (Srt star) = Unit {0}
  IsReadable arity (Srt square) = ⊥
  IsReadable arity (Var i) = Unit {0}
  IsReadable arity (App f a) = IsReadable arity f × IsReadable arity a
  IsReadable arity (Lam A M) = IsReadable arity A × IsReadable arity M
  IsReadable arity (Pi A B) = IsReadable arity A × IsReadable arity B
  IsReadable arity (Con (Named a) us) = IsTextName a × (arity a ≡ Some (count us)) × AreReadable arity us
  IsReadable arity (Con (Numbered m) us) = ⊥

  pub AreReadable : Arities → Terms → Type 0
  AreReadable arity none = Unit {0}
  AreReadable arity (us ▹ u) = AreReadable arity us × IsReadable arity u

-- the printed text is in the grammar, as a tree that means the term
abbrev pub ReadsBack : Arities → Names → Term → Type 0
ReadsBack arity names t = (s : Surface) × IsText (text names (length names) t) s × (scope arity names s [] ≡ Ok t)

-- the round trip: every readable term within the limit of depth is read back from its text
abbrev pub PrintedIsRead : Type 0
PrintedIsRead = (arity : Arities) (names : Names) (t : Term) → length names < 999999000 → Scoped (length names) t → IsReadable arity t → depth t ≤ 512 → ReadsBack arity names t

-- What scoping gives: each variable is bound or one of the context, and each constant is known, where only names of the texts are known.
abbrev pub ScopedIsReadable : Type 0
ScopedIsReadable = (arity : Arities) (names : Names) → ((a : Text) (n : ℕ) → arity a ≡ Some n → IsTextName a)
    → (s : Surface) (t : Term) → scope arity names s [] ≡ Ok t → Scoped (length names) t × IsReadable arity t

-- each constant has a name of the texts
abbrev mutual
  pub HasTextNames : Term → Type 0
  HasTextNames (Srt s) = Unit {0}
  HasTextNames (Var i) = Unit {0}
  HasTextNames (App f a) = HasTextNames f × HasTextNames a
  HasTextNames (Lam A M) = HasTextNames A × HasTextNames M
  HasTextNames (Pi A B) = HasTextNames A × HasTextNames B
  HasTextNames (Con (Named a) us) = IsTextName a × HaveTextNames us
  HasTextNames (Con (Numbered m) us) = HaveTextNames us

  pub HaveTextNames : Terms → Type 0
  HaveTextNames none = Unit {0}
  HaveTextNames (us ▹ u) = HaveTextNames us × HasTextNames u

-- A printed text is ASCII, whatever the entries of the context are called, and also where `□` and metavariables stand in the term.
abbrev pub PrintedIsAscii : Type 0
PrintedIsAscii = (names : Names) (k : ℕ) (t : Term) → HasTextNames t → IsAscii (text names k t)
