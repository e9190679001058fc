-- The holes of a text, node by node, so that worked examples compute.
use Rattle.std.proofs.Common.{◌≡◌, ℕ, List, [], ◌∷◌, ◌++◌, length, map, ap, ap₂, sym, ◌∙◌, subst, arith}
use Rattle.term_syntax.specs.declared.surface.Label.{Label}
use Rattle.term_syntax.specs.declared.surface.Surface.{Surface, fold_out-Surface}
use Rattle.term_syntax.specs.declared.surface.Shape.{Shape, fold-Shape, fold-roll-Shape, roll-Shape}
use Rattle.term_syntax.specs.declared.surface.Shape.TheVariants as shape
use Rattle.term_syntax.specs.declared.surface.Shape.TheOpen.{Shape-F}
use Rattle.term_syntax.specs.Grammar as tree
use Rattle.term_syntax.specs.Lex.{Text}
use Rattle.unification.specs.Refusals.{Plain}
use Rattle.elaboration.specs.Elaboration.{Made}
use Rattle.elaboration.specs.Order.{Hole, Asked, Wild, holes_of_all, node_holes, holes_of, Ascend, asked_among, AreInTextOrder}

by_layer : (at : ℕ) (l : Shape-F Shape Surface) (s : Shape) → roll-Shape l ≡ s → holes_of (tree.node at s) ≡ fold-Shape (ℕ → List Hole) (List Hole) node_holes (λ t. t.shape t.at) (roll-Shape l) at
unfolding holes_of
by_layer at l s e =
    fold_out-Surface (ℕ → List Hole) (List Hole) node_holes (λ t. t.shape t.at) (tree.node at s)
    ∙ ap (λ s. fold-Shape (ℕ → List Hole) (List Hole) node_holes (λ t. t.shape t.at) s at) (sym e)

pub holes_wild : (at : ℕ) → holes_of (tree.node at shape.Wild) ≡ Wild at ∷ []
holes_wild at = by_layer at Shape-F.Wild shape.Wild shape.rolls-Wild ∙ ap (λ f. f at) (fold-roll-Shape (ℕ → List Hole) (List Hole) node_holes (λ t. t.shape t.at) Shape-F.Wild)

pub holes_asked : (at : ℕ) → holes_of (tree.node at shape.Asked) ≡ Asked at ∷ []
holes_asked at = by_layer at Shape-F.Asked shape.Asked shape.rolls-Asked ∙ ap (λ f. f at) (fold-roll-Shape (ℕ → List Hole) (List Hole) node_holes (λ t. t.shape t.at) Shape-F.Asked)

pub holes_named : (at : ℕ) (x : Label) → holes_of (tree.node at (shape.Named x)) ≡ []
holes_named at x = by_layer at (Shape-F.Named x) (shape.Named x) (shape.rolls-Named x) ∙ ap (λ f. f at) (fold-roll-Shape (ℕ → List Hole) (List Hole) node_holes (λ t. t.shape t.at) (Shape-F.Named x))

pub holes_call : (at : ℕ) (a : Text) (us : List Surface) (hss : List (List Hole)) → map holes_of us ≡ hss → holes_of (tree.node at (shape.Const a us)) ≡ holes_of_all hss
unfolding holes_of
holes_call at a us hss e =
    by_layer at (Shape-F.Const a us) (shape.Const a us) (shape.rolls-Const a us) ∙ ap (λ f. f at) (fold-roll-Shape (ℕ → List Hole) (List Hole) node_holes (λ t. t.shape t.at) (Shape-F.Const a us))
    ∙ ap holes_of_all e

pub holes_applied : (at : ℕ) (f : Surface) (us : List Surface) (gs : List Hole) (hss : List (List Hole)) → holes_of f ≡ gs → map holes_of us ≡ hss → holes_of (tree.node at (shape.App f us)) ≡ gs ++ holes_of_all hss
unfolding holes_of
holes_applied at f us gs hss d e =
    by_layer at (Shape-F.App f us) (shape.App f us) (shape.rolls-App f us) ∙ ap (λ f. f at) (fold-roll-Shape (ℕ → List Hole) (List Hole) node_holes (λ t. t.shape t.at) (Shape-F.App f us))
    ∙ ap₂ (λ gs hss. gs ++ holes_of_all hss) d e

pub holes_function : (at : ℕ) (x : Label) (A M : Surface) (hs gs : List Hole) → holes_of A ≡ hs → holes_of M ≡ gs → holes_of (tree.node at (shape.Lam x A M)) ≡ hs ++ gs
unfolding holes_of
holes_function at x A M hs gs d e =
    by_layer at (Shape-F.Lam x A M) (shape.Lam x A M) (shape.rolls-Lam x A M) ∙ ap (λ f. f at) (fold-roll-Shape (ℕ → List Hole) (List Hole) node_holes (λ t. t.shape t.at) (Shape-F.Lam x A M))
    ∙ ap₂ ◌++◌ d e

-- ---- numbers from right to left

from_the_right : (at by : ℕ) (ks : List ℕ) → length ks ≡ 2 → Ascend 0 2 ks → 1 ∷ 0 ∷ [] ≡ asked_among (Asked at ∷ Asked by ∷ []) ks → ⊥
from_the_right at by [] l a e = absurd (omega (arith, l))
from_the_right at by (k ∷ []) l a e = absurd (omega (arith, l))
from_the_right at by (k ∷ j ∷ []) l a e = let first : 1 ≡ k = cc in let second : 0 ≡ j = cc in let above = a.1.0 in omega (arith, first, second, above)
from_the_right at by (k ∷ j ∷ i ∷ ks) l a e = absurd (omega (arith, l))

pub not_from_the_right : (t : Surface) (at by : ℕ) (metas : Plain) (m : Made) → holes_of t ≡ Asked at ∷ Asked by ∷ [] → length metas ≡ 0 → length m.work.metas ≡ 2 → m.work.goals ≡ 1 ∷ 0 ∷ [] → AreInTextOrder metas t m → ⊥
not_from_the_right t at by metas m h none two goals o =
    from_the_right at by o.numbers
    (o.each ∙ ap length h)
    (subst (λ b. Ascend 0 b o.numbers) two (subst (λ a. Ascend a (length m.work.metas) o.numbers) none o.ascend))
    (sym goals ∙ o.goals ∙ ap (λ hs. asked_among hs o.numbers) h)
