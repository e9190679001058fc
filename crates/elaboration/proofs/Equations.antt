-- What a text is elaborated as, node by node, so that worked examples compute.
use Rattle.std.proofs.Common.{◌≡◌, ℕ, List, [], ◌∷◌, map, Option, refl, ap, ap₂, sym, ◌∙◌}
use Rattle.ld_trees.specs.Term.{Term}
use Rattle.ld_terms.specs.declared.globals.Item.{Item}
use Rattle.term_syntax.specs.declared.surface.Label.{Label}
use Rattle.term_syntax.specs.declared.surface.Surface.{Surface, fold_out-Surface}
use Rattle.term_syntax.specs.declared.surface.Shape.{Shape, fold-Shape, fold-roll-Shape, roll-Shape}
use Rattle.term_syntax.specs.declared.surface.Shape.TheVariants as shape
use Rattle.term_syntax.specs.declared.surface.Shape.TheOpen.{Shape-F}
use Rattle.term_syntax.specs.Grammar as tree
use Rattle.term_syntax.specs.Lex.{Text}
use Rattle.unification.specs.Steps.{Outcome}
use Rattle.elaboration.specs.Refusals.{Refusal}
use Rattle.elaboration.specs.Elaboration.{Elaborates, Want, Work, Surroundings, Made, node, elaborate}

module _ (items : List (Item Term)) where
  by_layer : (at : ℕ) (l : Shape-F Shape Surface) (s : Shape) → roll-Shape l ≡ s
      → elaborate items (tree.node at s) ≡ fold-Shape (ℕ → Elaborates) Elaborates (node items) (λ t. t.shape t.at) (roll-Shape l) at
  unfolding elaborate
  by_layer at l s e =
      fold_out-Surface (ℕ → Elaborates) Elaborates (node items) (λ t. t.shape t.at) (tree.node at s)
      ∙ ap (λ s. fold-Shape (ℕ → Elaborates) Elaborates (node items) (λ t. t.shape t.at) s at) (sym e)

  elaborate_star : (at : ℕ) → elaborate items (tree.node at shape.Star) ≡ node items Shape-F.Star at
  elaborate_star at = by_layer at Shape-F.Star shape.Star shape.rolls-Star ∙ ap (λ f. f at) (fold-roll-Shape (ℕ → Elaborates) Elaborates (node items) (λ t. t.shape t.at) Shape-F.Star)

  elaborate_wild : (at : ℕ) → elaborate items (tree.node at shape.Wild) ≡ node items Shape-F.Wild at
  elaborate_wild at = by_layer at Shape-F.Wild shape.Wild shape.rolls-Wild ∙ ap (λ f. f at) (fold-roll-Shape (ℕ → Elaborates) Elaborates (node items) (λ t. t.shape t.at) Shape-F.Wild)

  elaborate_asked : (at : ℕ) → elaborate items (tree.node at shape.Asked) ≡ node items Shape-F.Asked at
  elaborate_asked at = by_layer at Shape-F.Asked shape.Asked shape.rolls-Asked ∙ ap (λ f. f at) (fold-roll-Shape (ℕ → Elaborates) Elaborates (node items) (λ t. t.shape t.at) Shape-F.Asked)

  elaborate_named : (at : ℕ) (x : Label) → elaborate items (tree.node at (shape.Named x)) ≡ node items (Shape-F.Named x) at
  elaborate_named at x =
      by_layer at (Shape-F.Named x) (shape.Named x) (shape.rolls-Named x) ∙ ap (λ f. f at) (fold-roll-Shape (ℕ → Elaborates) Elaborates (node items) (λ t. t.shape t.at) (Shape-F.Named x))

  elaborate_const : (at : ℕ) (a : Text) (us : List Surface) → elaborate items (tree.node at (shape.Const a us)) ≡ node items (Shape-F.Const a (map (elaborate items) us)) at
  unfolding elaborate
  elaborate_const at a us =
      by_layer at (Shape-F.Const a us) (shape.Const a us) (shape.rolls-Const a us) ∙ ap (λ f. f at) (fold-roll-Shape (ℕ → Elaborates) Elaborates (node items) (λ t. t.shape t.at) (Shape-F.Const a us))

  elaborate_app : (at : ℕ) (f : Surface) (us : List Surface) → elaborate items (tree.node at (shape.App f us)) ≡ node items (Shape-F.App (elaborate items f) (map (elaborate items) us)) at
  unfolding elaborate
  elaborate_app at f us =
      by_layer at (Shape-F.App f us) (shape.App f us) (shape.rolls-App f us) ∙ ap (λ f. f at) (fold-roll-Shape (ℕ → Elaborates) Elaborates (node items) (λ t. t.shape t.at) (Shape-F.App f us))

  elaborate_lam : (at : ℕ) (x : Label) (A M : Surface) → elaborate items (tree.node at (shape.Lam x A M)) ≡ node items (Shape-F.Lam x (elaborate items A) (elaborate items M)) at
  unfolding elaborate
  elaborate_lam at x A M =
      by_layer at (Shape-F.Lam x A M) (shape.Lam x A M) (shape.rolls-Lam x A M) ∙ ap (λ f. f at) (fold-roll-Shape (ℕ → Elaborates) Elaborates (node items) (λ t. t.shape t.at) (Shape-F.Lam x A M))

  elaborate_pi : (at : ℕ) (x : Option Label) (A B : Surface) → elaborate items (tree.node at (shape.Pi x A B)) ≡ node items (Shape-F.Pi x (elaborate items A) (elaborate items B)) at
  unfolding elaborate
  elaborate_pi at x A B =
      by_layer at (Shape-F.Pi x A B) (shape.Pi x A B) (shape.rolls-Pi x A B) ∙ ap (λ f. f at) (fold-roll-Shape (ℕ → Elaborates) Elaborates (node items) (λ t. t.shape t.at) (Shape-F.Pi x A B))

-- ---- what a text is elaborated as, over what its children are

mutual
  pub data IsRead (items : List (Item Term)) : Surface → Elaborates → Type 0 where
    is_star : {at : ℕ} → IsRead items (tree.node at shape.Star) (node items Shape-F.Star at)
    is_wild : {at : ℕ} → IsRead items (tree.node at shape.Wild) (node items Shape-F.Wild at)
    is_asked : {at : ℕ} → IsRead items (tree.node at shape.Asked) (node items Shape-F.Asked at)
    is_named : {at : ℕ} {x : Label} → IsRead items (tree.node at (shape.Named x)) (node items (Shape-F.Named x) at)
    is_call : {at : ℕ} {a : Text} {us : List Surface} {vs : List Elaborates} → AreRead items us vs → IsRead items (tree.node at (shape.Const a us)) (node items (Shape-F.Const a vs) at)
    is_applied : {at : ℕ} {f : Surface} {us : List Surface} {g : Elaborates} {vs : List Elaborates} → IsRead items f g → AreRead items us vs → IsRead items (tree.node at (shape.App f us)) (node items (Shape-F.App g vs) at)
    is_function : {at : ℕ} {x : Label} {A M : Surface} {C N : Elaborates} → IsRead items A C → IsRead items M N → IsRead items (tree.node at (shape.Lam x A M)) (node items (Shape-F.Lam x C N) at)
    is_product : {at : ℕ} {x : Option Label} {A B : Surface} {C D : Elaborates} → IsRead items A C → IsRead items B D → IsRead items (tree.node at (shape.Pi x A B)) (node items (Shape-F.Pi x C D) at)

  pub data AreRead (items : List (Item Term)) : List Surface → List Elaborates → Type 0 where
    none_more : AreRead items [] []
    one_more : {u : Surface} {us : List Surface} {v : Elaborates} {vs : List Elaborates} → IsRead items u v → AreRead items us vs → AreRead items (u ∷ us) (v ∷ vs)

module _ (items : List (Item Term)) where
  mutual
    read : {t : Surface} {e : Elaborates} → IsRead items t e → elaborate items t ≡ e
    read (is_star {at = at}) = elaborate_star items at
    read (is_wild {at = at}) = elaborate_wild items at
    read (is_asked {at = at}) = elaborate_asked items at
    read (is_named {at = at} {x = x}) = elaborate_named items at x
    read (is_call {at = at} {a = a} {us = us} d) = elaborate_const items at a us ∙ ap (λ vs. node items (Shape-F.Const a vs) at) (all_read d)
    read (is_applied {at = at} {f = f} {us = us} d e) = elaborate_app items at f us ∙ ap₂ (λ g vs. node items (Shape-F.App g vs) at) (read d) (all_read e)
    read (is_function {at = at} {x = x} {A = A} {M = M} d e) = elaborate_lam items at x A M ∙ ap₂ (λ C N. node items (Shape-F.Lam x C N) at) (read d) (read e)
    read (is_product {at = at} {x = x} {A = A} {B = B} d e) = elaborate_pi items at x A B ∙ ap₂ (λ C D. node items (Shape-F.Pi x C D) at) (read d) (read e)

    all_read : {us : List Surface} {vs : List Elaborates} → AreRead items us vs → map (elaborate items) us ≡ vs
    all_read none_more = refl
    all_read (one_more d e) = ap₂ ◌∷◌ (read d) (all_read e)

-- what a text gives
pub computes : (items : List (Item Term)) (t : Surface) (want : Want) (w : Work) (here : Surroundings) (n : ℕ) (o : Outcome Refusal Made) {e : Elaborates} → IsRead items t e → e want w here n ≡ o → elaborate items t want w here n ≡ o
computes items t want w here n o d e = ap (λ f. f want w here n) (read items d) ∙ e
