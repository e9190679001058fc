-- The holes of a text in text order, and that the metavariables of a text's holes are numbered in this order.
use Rattle.std.specs.Prelude.{◌≡◌, ℕ, suc, ◌≤◌, List, [], ◌∷◌, ◌++◌, length}
use Rattle.ld_trees.specs.Term.{Term}
use Rattle.ld_terms.specs.declared.globals.Local.{Local}
use Rattle.ld_terms.specs.declared.globals.Item.{Item}
use Rattle.term_syntax.specs.declared.surface.Surface.{Surface, fold-Surface}
use Rattle.term_syntax.specs.declared.surface.Shape.TheOpen.{Shape-F}
use Rattle.unification.specs.Steps.{Gave}
use Rattle.unification.specs.Refusals.{Plain}
use Rattle.elaboration.specs.Elaboration.{Made, synth, check, check_type}

-- ---- the holes of a text

-- a `?` or a `_`, with its place
pub data Hole : Type 0 where
  Asked : (at : ℕ) → Hole
  Wild : (at : ℕ) → Hole

-- those of some texts, one after another
abbrev pub holes_of_all : List (List Hole) → List Hole
holes_of_all [] = []
holes_of_all (hs ∷ hss) = hs ++ holes_of_all hss

-- those of one node of a text at its place, with those of each child
abbrev pub node_holes : Shape-F (ℕ → List Hole) (List Hole) → ℕ → List Hole
node_holes Shape-F.Star at = []
node_holes Shape-F.Wild at = Wild at ∷ []
node_holes Shape-F.Asked at = Asked at ∷ []
node_holes (Shape-F.Named x) at = []
node_holes (Shape-F.Const a us) at = holes_of_all us
node_holes (Shape-F.App f us) at = f ++ holes_of_all us
node_holes (Shape-F.Lam x A M) at = A ++ M
node_holes (Shape-F.Pi x A B) at = A ++ B

-- the holes of a text, in text order
unfoldable pub holes_of : Surface → List Hole
holes_of = fold-Surface (ℕ → List Hole) (List Hole) node_holes (λ t. t.shape t.at)

-- ---- their numbers

-- numbers that ascend strictly, none below the first bound and each below the second one
abbrev pub Ascend : ℕ → ℕ → List ℕ → Type 0
Ascend from below [] = from ≤ below
Ascend from below (k ∷ ks) = (from ≤ k) × Ascend (suc k) below ks

-- of holes and their numbers, the numbers of the `?`
abbrev pub asked_among : List Hole → List ℕ → List ℕ
asked_among (Asked at ∷ hs) (k ∷ ks) = k ∷ asked_among hs ks
asked_among (Wild at ∷ hs) (k ∷ ks) = asked_among hs ks
asked_among _ _ = []

-- and the numbers of the `_`, each with the place
abbrev pub wild_among : List Hole → List ℕ → List (ℕ × ℕ)
wild_among (Asked at ∷ hs) (k ∷ ks) = wild_among hs ks
wild_among (Wild at ∷ hs) (k ∷ ks) = (k, at) ∷ wild_among hs ks
wild_among _ _ = []

-- The holes of a text have one number each, which ascend strictly in text order and are those of metavariables that were declared on the
-- way. What was made lists the `?` and the `_` with these numbers.
pub record AreInTextOrder (metas : Plain) (t : Surface) (m : Made) : Type 0 where
  pub numbers : List ℕ
  pub each : length numbers ≡ length (holes_of t)
  pub ascend : Ascend (length metas) (length m.work.metas) numbers
  pub goals : m.work.goals ≡ asked_among (holes_of t) numbers
  pub holes : m.work.holes ≡ wild_among (holes_of t) numbers

-- Each text that is elaborated, in whichever direction, has its holes numbered in text order: from any metavariables, in any context.
abbrev pub HolesAreNumberedInTextOrder : Type 0
HolesAreNumberedInTextOrder = (items : List (Item Term)) (metas : Plain) (Γ : List (Local Term)) (t : Surface) (m : Made) (n left : ℕ)
    → (synth items metas Γ t n ≡ Gave m left → AreInTextOrder metas t m) × (check_type items metas Γ t n ≡ Gave m left → AreInTextOrder metas t m) × ((T : Term) → check items metas Γ t T n ≡ Gave m left → AreInTextOrder metas t m)
