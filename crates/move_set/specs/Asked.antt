-- The holes `?` of a surface tree.
use Rattle.std.specs.Prelude.{ℕ, List, [], ◌∷◌, Option, Some, None}
use Rattle.term_syntax.specs.declared.surface.Surface.{Surface, fold-Surface}
use Rattle.term_syntax.specs.declared.surface.Shape.TheOpen.{Shape-F}

-- the first of some places
abbrev pub or_first : Option ℕ → Option ℕ → Option ℕ
or_first (Some at) o = Some at
or_first None o = o

abbrev pub first_of : List (Option ℕ) → Option ℕ
first_of [] = None
first_of (o ∷ os) = or_first o (first_of os)

-- one node of a tree at its place, with what was found in each child
abbrev pub node_first_asked : Shape-F (ℕ → Option ℕ) (Option ℕ) → ℕ → Option ℕ
node_first_asked Shape-F.Star at = None
node_first_asked Shape-F.Wild at = None
node_first_asked Shape-F.Asked at = Some at
node_first_asked (Shape-F.Named x) at = None
node_first_asked (Shape-F.Const a us) at = first_of us
node_first_asked (Shape-F.App f us) at = or_first f (first_of us)
node_first_asked (Shape-F.Lam x A M) at = or_first A M
node_first_asked (Shape-F.Pi x A B) at = or_first A B

-- the place of the first `?`, in text order
unfoldable pub first_asked : Surface → Option ℕ
first_asked = fold-Surface (ℕ → Option ℕ) (Option ℕ) node_first_asked (λ t. t.shape t.at)
