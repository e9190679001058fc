-- What a text elaborates to, by the shape at its root: its units are paid, and then comes its node.
use Rattle.std.proofs.Common.{◌≡◌, ℕ, zero, suc, List, length, map, Option, ap, sym, ◌∙◌}
use Rattle.std.proofs.lemmas.List.{length-map}
use Rattle.ld_trees.specs.Term.{Term, Star, Square}
use Rattle.ld_terms.specs.Items.{item_named}
use Rattle.ld_terms.specs.declared.globals.Item.{Item}
use Rattle.term_syntax.specs.Lex.{Text}
use Rattle.term_syntax.specs.Scoping.{index_of, label_text}
use Rattle.term_syntax.specs.declared.surface.Label.{Label}
use Rattle.term_syntax.specs.declared.surface.Surface.{Surface, fold_out-Surface}
use Rattle.term_syntax.specs.declared.surface.Shape.{Shape, fold-Shape, fold-roll-Shape, roll-Shape}
use Rattle.term_syntax.specs.declared.surface.Shape.TheVariants as shape
use Rattle.term_syntax.specs.declared.surface.Shape.TheOpen.{Shape-F}
use Rattle.unification.specs.Steps.{Step, Outcome, OutOfFuel, go_on, spend}
use Rattle.elaboration.specs.Refusals.{Refusal, UnknownName}
use Rattle.elaboration.specs.Elaboration.{Work, Made, Want, Surroundings, Elaborates, with_goal, with_hole, meet, hole, variable, constant, application, function, product, node, elaborate}
use Rattle.elaborate.specs.Steps.{cost, node_cost, paid}

-- ---- units

cost_by : (t : Surface) (l : Shape-F Shape Surface) (s : Shape) → roll-Shape l ≡ s → t.shape ≡ s → cost t ≡ fold-Shape ℕ ℕ node_cost (λ t. t.shape) (roll-Shape l)
unfolding cost
cost_by t l s e is = fold_out-Surface ℕ ℕ node_cost (λ t. t.shape) t ∙ ap (fold-Shape ℕ ℕ node_cost (λ t. t.shape)) (is ∙ sym e)

pub cost_star : (t : Surface) → t.shape ≡ shape.Star → cost t ≡ 1
cost_star t is = cost_by t Shape-F.Star shape.Star shape.rolls-Star is ∙ fold-roll-Shape ℕ ℕ node_cost (λ t. t.shape) Shape-F.Star

pub cost_wild : (t : Surface) → t.shape ≡ shape.Wild → cost t ≡ 1
cost_wild t is = cost_by t Shape-F.Wild shape.Wild shape.rolls-Wild is ∙ fold-roll-Shape ℕ ℕ node_cost (λ t. t.shape) Shape-F.Wild

pub cost_asked : (t : Surface) → t.shape ≡ shape.Asked → cost t ≡ 1
cost_asked t is = cost_by t Shape-F.Asked shape.Asked shape.rolls-Asked is ∙ fold-roll-Shape ℕ ℕ node_cost (λ t. t.shape) Shape-F.Asked

pub cost_named : (t : Surface) (x : Label) → t.shape ≡ shape.Named x → cost t ≡ 1
cost_named t x is = cost_by t (Shape-F.Named x) (shape.Named x) (shape.rolls-Named x) is ∙ fold-roll-Shape ℕ ℕ node_cost (λ t. t.shape) (Shape-F.Named x)

pub cost_const : (t : Surface) (a : Text) (us : List Surface) → t.shape ≡ shape.Const a us → cost t ≡ 1
cost_const t a us is = cost_by t (Shape-F.Const a us) (shape.Const a us) (shape.rolls-Const a us) is ∙ fold-roll-Shape ℕ ℕ node_cost (λ t. t.shape) (Shape-F.Const a us)

pub cost_app : (t : Surface) (f : Surface) (us : List Surface) → t.shape ≡ shape.App f us → cost t ≡ length us
unfolding cost
cost_app t f us is = cost_by t (Shape-F.App f us) (shape.App f us) (shape.rolls-App f us) is ∙ fold-roll-Shape ℕ ℕ node_cost (λ t. t.shape) (Shape-F.App f us) ∙ length-map us cost

pub cost_lam : (t : Surface) (x : Label) (A M : Surface) → t.shape ≡ shape.Lam x A M → cost t ≡ 1
cost_lam t x A M is = cost_by t (Shape-F.Lam x A M) (shape.Lam x A M) (shape.rolls-Lam x A M) is ∙ fold-roll-Shape ℕ ℕ node_cost (λ t. t.shape) (Shape-F.Lam x A M)

pub cost_pi : (t : Surface) (x : Option Label) (A B : Surface) → t.shape ≡ shape.Pi x A B → cost t ≡ 1
cost_pi t x A B is = cost_by t (Shape-F.Pi x A B) (shape.Pi x A B) (shape.rolls-Pi x A B) is ∙ fold-roll-Shape ℕ ℕ node_cost (λ t. t.shape) (Shape-F.Pi x A B)

pub ruleset costs = (cost_star, cost_wild, cost_asked, cost_named, cost_const, cost_app, cost_lam, cost_pi)

one_unit : {A : Type 0} (k n : ℕ) (f : Step Refusal A) → k ≡ 1 → go_on (spend n) (λ _. f) ≡ go_on (paid k n) (λ _. f)
one_unit k zero f e = ap (λ k. go_on (paid k 0) (λ _. f)) (sym e)
one_unit k (suc n) f e = ap (λ k. go_on (paid k (suc n)) (λ _. f)) (sym e)

-- ---- nodes

module _ (items : List (Item Term)) where
  by_layer : (t : Surface) (l : Shape-F Shape Surface) (s : Shape) → roll-Shape l ≡ s → t.shape ≡ s
      → elaborate items t ≡ fold-Shape (ℕ → Elaborates) Elaborates (node items) (λ t. t.shape t.at) (roll-Shape l) t.at
  unfolding elaborate
  by_layer t l s e is =
      fold_out-Surface (ℕ → Elaborates) Elaborates (node items) (λ t. t.shape t.at) t
      ∙ ap (λ s. fold-Shape (ℕ → Elaborates) Elaborates (node items) (λ t. t.shape t.at) s t.at) (is ∙ sym e)

  module _ (t : Surface) (want : Want) (w : Work) (here : Surroundings) (n : ℕ) where
    abbrev Given : Outcome Refusal Made
    Given = elaborate items t want w here n

    -- what follows when the units of the node are paid
    abbrev Paid : Step Refusal Made → Outcome Refusal Made
    Paid rest = go_on (paid (cost t) n) (λ _. rest)

    from_layer : (f : Elaborates) → elaborate items t ≡ f → Given ≡ f want w here n
    from_layer f e = ap (λ (f : Elaborates). f want w here n) e

    pub at_star : t.shape ≡ shape.Star → Given ≡ Paid (meet items want w here Star Square)
    at_star is =
        from_layer _ (by_layer t Shape-F.Star shape.Star shape.rolls-Star is ∙ ap (λ f. f t.at) (fold-roll-Shape (ℕ → Elaborates) Elaborates (node items) (λ t. t.shape t.at) Shape-F.Star))
        ∙ one_unit (cost t) n (meet items want w here Star Square) (cost_star t is)

    pub at_wild : t.shape ≡ shape.Wild → Given ≡ Paid (hole items t.at (with_hole t.at) want w here)
    at_wild is =
        from_layer _ (by_layer t Shape-F.Wild shape.Wild shape.rolls-Wild is ∙ ap (λ f. f t.at) (fold-roll-Shape (ℕ → Elaborates) Elaborates (node items) (λ t. t.shape t.at) Shape-F.Wild))
        ∙ one_unit (cost t) n (hole items t.at (with_hole t.at) want w here) (cost_wild t is)

    pub at_asked : t.shape ≡ shape.Asked → Given ≡ Paid (hole items t.at with_goal want w here)
    at_asked is =
        from_layer _ (by_layer t Shape-F.Asked shape.Asked shape.rolls-Asked is ∙ ap (λ f. f t.at) (fold-roll-Shape (ℕ → Elaborates) Elaborates (node items) (λ t. t.shape t.at) Shape-F.Asked))
        ∙ one_unit (cost t) n (hole items t.at with_goal want w here) (cost_asked t is)

    pub at_named : (x : Label) → t.shape ≡ shape.Named x → Given ≡ Paid (variable items (UnknownName t.at (label_text x)) (index_of here.outer x here.bound) want w here)
    at_named x is =
        from_layer _ (by_layer t (Shape-F.Named x) (shape.Named x) (shape.rolls-Named x) is ∙ ap (λ f. f t.at) (fold-roll-Shape (ℕ → Elaborates) Elaborates (node items) (λ t. t.shape t.at) (Shape-F.Named x)))
        ∙ one_unit (cost t) n (variable items (UnknownName t.at (label_text x)) (index_of here.outer x here.bound) want w here) (cost_named t x is)

    pub at_const : (a : Text) (us : List Surface) → t.shape ≡ shape.Const a us → Given ≡ Paid (constant items t.at a (map (elaborate items) us) (item_named items a) want w here)
    unfolding elaborate
    at_const a us is =
        from_layer _ (by_layer t (Shape-F.Const a us) (shape.Const a us) (shape.rolls-Const a us) is ∙ ap (λ f. f t.at) (fold-roll-Shape (ℕ → Elaborates) Elaborates (node items) (λ t. t.shape t.at) (Shape-F.Const a us)))
        ∙ one_unit (cost t) n (constant items t.at a (map (elaborate items) us) (item_named items a) want w here) (cost_const t a us is)

    pub at_app : (f : Surface) (us : List Surface) → t.shape ≡ shape.App f us → Given ≡ Paid (application items (elaborate items f) (map (elaborate items) us) want w here)
    unfolding elaborate
    at_app f us is =
        let rest = application items (elaborate items f) (map (elaborate items) us) want w here in
        from_layer _ (by_layer t (Shape-F.App f us) (shape.App f us) (shape.rolls-App f us) is ∙ ap (λ f. f t.at) (fold-roll-Shape (ℕ → Elaborates) Elaborates (node items) (λ t. t.shape t.at) (Shape-F.App f us)))
        ∙ ap (λ k. go_on (paid k n) (λ _. rest)) (length-map us (elaborate items) ∙ sym (cost_app t f us is))

    pub at_lam : (x : Label) (A M : Surface) → t.shape ≡ shape.Lam x A M → Given ≡ Paid (function items x (elaborate items A) (elaborate items M) want w here)
    unfolding elaborate
    at_lam x A M is =
        from_layer _ (by_layer t (Shape-F.Lam x A M) (shape.Lam x A M) (shape.rolls-Lam x A M) is ∙ ap (λ f. f t.at) (fold-roll-Shape (ℕ → Elaborates) Elaborates (node items) (λ t. t.shape t.at) (Shape-F.Lam x A M)))
        ∙ one_unit (cost t) n (function items x (elaborate items A) (elaborate items M) want w here) (cost_lam t x A M is)

    pub at_pi : (x : Option Label) (A B : Surface) → t.shape ≡ shape.Pi x A B → Given ≡ Paid (product items x (elaborate items A) (elaborate items B) want w here)
    unfolding elaborate
    at_pi x A B is =
        from_layer _ (by_layer t (Shape-F.Pi x A B) (shape.Pi x A B) (shape.rolls-Pi x A B) is ∙ ap (λ f. f t.at) (fold-roll-Shape (ℕ → Elaborates) Elaborates (node items) (λ t. t.shape t.at) (Shape-F.Pi x A B)))
        ∙ one_unit (cost t) n (product items x (elaborate items A) (elaborate items B) want w here) (cost_pi t x A B is)

-- ---- without the units of a node

unpaid_by : (k n : ℕ) (o : Outcome Refusal Made) (rest : Step Refusal Made) → o ≡ go_on (paid k n) (λ _. rest) → paid k n ≡ OutOfFuel → o ≡ OutOfFuel
unpaid_by k n o rest e q = e ∙ ap (λ z. go_on z (λ _. rest)) q

module _ (items : List (Item Term)) (t : Surface) (want : Want) (w : Work) (here : Surroundings) (n : ℕ) where
  pub unpaid_star : t.shape ≡ shape.Star → paid (cost t) n ≡ OutOfFuel → elaborate items t want w here n ≡ OutOfFuel
  unpaid_star is e = unpaid_by (cost t) n _ _ (at_star items t want w here n is) e

  pub unpaid_wild : t.shape ≡ shape.Wild → paid (cost t) n ≡ OutOfFuel → elaborate items t want w here n ≡ OutOfFuel
  unpaid_wild is e = unpaid_by (cost t) n _ _ (at_wild items t want w here n is) e

  pub unpaid_asked : t.shape ≡ shape.Asked → paid (cost t) n ≡ OutOfFuel → elaborate items t want w here n ≡ OutOfFuel
  unpaid_asked is e = unpaid_by (cost t) n _ _ (at_asked items t want w here n is) e

  pub unpaid_named : (x : Label) → t.shape ≡ shape.Named x → paid (cost t) n ≡ OutOfFuel → elaborate items t want w here n ≡ OutOfFuel
  unpaid_named x is e = unpaid_by (cost t) n _ _ (at_named items t want w here n x is) e

  pub unpaid_const : (a : Text) (us : List Surface) → t.shape ≡ shape.Const a us → paid (cost t) n ≡ OutOfFuel → elaborate items t want w here n ≡ OutOfFuel
  unpaid_const a us is e = unpaid_by (cost t) n _ _ (at_const items t want w here n a us is) e

  pub unpaid_app : (f : Surface) (us : List Surface) → t.shape ≡ shape.App f us → paid (cost t) n ≡ OutOfFuel → elaborate items t want w here n ≡ OutOfFuel
  unpaid_app f us is e = unpaid_by (cost t) n _ _ (at_app items t want w here n f us is) e

  pub unpaid_lam : (x : Label) (A M : Surface) → t.shape ≡ shape.Lam x A M → paid (cost t) n ≡ OutOfFuel → elaborate items t want w here n ≡ OutOfFuel
  unpaid_lam x A M is e = unpaid_by (cost t) n _ _ (at_lam items t want w here n x A M is) e

  pub unpaid_pi : (x : Option Label) (A B : Surface) → t.shape ≡ shape.Pi x A B → paid (cost t) n ≡ OutOfFuel → elaborate items t want w here n ≡ OutOfFuel
  unpaid_pi x A B is e = unpaid_by (cost t) n _ _ (at_pi items t want w here n x A B is) e

pub ruleset unpaid = (unpaid_star, unpaid_wild, unpaid_asked, unpaid_named, unpaid_const, unpaid_app, unpaid_lam, unpaid_pi)
