-- The first `?` of a tree, by the shape at its root.
use Rattle.std.proofs.Common.{◌≡◌, ℕ, suc, ◌+◌, ◌<◌, ◌≤◌, List, ◌∷◌, length, map, drop, drop-cons, get_or, Option, Some, None, ap, ap₂, ◌∙◌, sym, arith}
use Rattle.std.proofs.lemmas.List.{drop_all}
use Rattle.term_syntax.specs.declared.surface.Label.{Label}
use Rattle.term_syntax.specs.declared.surface.Surface.{Surface, fold_out-Surface}
use Rattle.term_syntax.specs.declared.surface.Shape.{Shape, fold-Shape, fold-roll-Shape, roll-Shape}
use Rattle.term_syntax.specs.declared.surface.Shape.TheVariants as shape
use Rattle.term_syntax.specs.declared.surface.Shape.TheOpen.{Shape-F}
use Rattle.term_syntax.specs.Lex.{Text}
use Rattle.move_set.specs.Asked.{or_first, first_of, node_first_asked, first_asked}

abbrev Found : Type 0
Found = Option ℕ

by_layer : (t : Surface) (l : Shape-F Shape Surface) (s : Shape) → roll-Shape l ≡ s → t.shape ≡ s → first_asked t ≡ fold-Shape (ℕ → Found) Found node_first_asked (λ t. t.shape t.at) (roll-Shape l) t.at
unfolding first_asked
by_layer t l s e is = fold_out-Surface (ℕ → Found) Found node_first_asked (λ t. t.shape t.at) t ∙ ap (λ (s : Shape). fold-Shape (ℕ → Found) Found node_first_asked (λ t. t.shape t.at) s t.at) (is ∙ sym e)

rolled : (l : Shape-F Shape Surface) (at : ℕ) (f : ℕ → Found) → fold-Shape (ℕ → Found) Found node_first_asked (λ t. t.shape t.at) (roll-Shape l) ≡ f → fold-Shape (ℕ → Found) Found node_first_asked (λ t. t.shape t.at) (roll-Shape l) at ≡ f at
rolled l at f e = ap (λ (f : ℕ → Found). f at) e

pub asked_star : (t : Surface) → t.shape ≡ shape.Star → first_asked t ≡ None
asked_star t is = by_layer t Shape-F.Star shape.Star shape.rolls-Star is ∙ rolled Shape-F.Star t.at _ (fold-roll-Shape (ℕ → Found) Found node_first_asked (λ t. t.shape t.at) Shape-F.Star)

pub asked_wild : (t : Surface) → t.shape ≡ shape.Wild → first_asked t ≡ None
asked_wild t is = by_layer t Shape-F.Wild shape.Wild shape.rolls-Wild is ∙ rolled Shape-F.Wild t.at _ (fold-roll-Shape (ℕ → Found) Found node_first_asked (λ t. t.shape t.at) Shape-F.Wild)

pub asked_asked : (t : Surface) → t.shape ≡ shape.Asked → first_asked t ≡ Some t.at
asked_asked t is = by_layer t Shape-F.Asked shape.Asked shape.rolls-Asked is ∙ rolled Shape-F.Asked t.at _ (fold-roll-Shape (ℕ → Found) Found node_first_asked (λ t. t.shape t.at) Shape-F.Asked)

pub asked_named : (t : Surface) (x : Label) → t.shape ≡ shape.Named x → first_asked t ≡ None
asked_named t x is = by_layer t (Shape-F.Named x) (shape.Named x) (shape.rolls-Named x) is ∙ rolled (Shape-F.Named x) t.at _ (fold-roll-Shape (ℕ → Found) Found node_first_asked (λ t. t.shape t.at) (Shape-F.Named x))

pub asked_const : (t : Surface) (a : Text) (us : List Surface) → t.shape ≡ shape.Const a us → first_asked t ≡ first_of (map first_asked us)
unfolding first_asked
asked_const t a us is = by_layer t (Shape-F.Const a us) (shape.Const a us) (shape.rolls-Const a us) is ∙ rolled (Shape-F.Const a us) t.at _ (fold-roll-Shape (ℕ → Found) Found node_first_asked (λ t. t.shape t.at) (Shape-F.Const a us))

pub asked_app : (t : Surface) (f : Surface) (us : List Surface) → t.shape ≡ shape.App f us → first_asked t ≡ or_first (first_asked f) (first_of (map first_asked us))
unfolding first_asked
asked_app t f us is = by_layer t (Shape-F.App f us) (shape.App f us) (shape.rolls-App f us) is ∙ rolled (Shape-F.App f us) t.at _ (fold-roll-Shape (ℕ → Found) Found node_first_asked (λ t. t.shape t.at) (Shape-F.App f us))

pub asked_lam : (t : Surface) (x : Label) (A M : Surface) → t.shape ≡ shape.Lam x A M → first_asked t ≡ or_first (first_asked A) (first_asked M)
unfolding first_asked
asked_lam t x A M is = by_layer t (Shape-F.Lam x A M) (shape.Lam x A M) (shape.rolls-Lam x A M) is ∙ rolled (Shape-F.Lam x A M) t.at _ (fold-roll-Shape (ℕ → Found) Found node_first_asked (λ t. t.shape t.at) (Shape-F.Lam x A M))

pub asked_pi : (t : Surface) (x : Option Label) (A B : Surface) → t.shape ≡ shape.Pi x A B → first_asked t ≡ or_first (first_asked A) (first_asked B)
unfolding first_asked
asked_pi t x A B is = by_layer t (Shape-F.Pi x A B) (shape.Pi x A B) (shape.rolls-Pi x A B) is ∙ rolled (Shape-F.Pi x A B) t.at _ (fold-roll-Shape (ℕ → Found) Found node_first_asked (λ t. t.shape t.at) (Shape-F.Pi x A B))

pub ruleset asked_equations = (asked_star, asked_wild, asked_asked, asked_named, asked_const, asked_app, asked_lam, asked_pi)

-- ---- a list, tree by tree

pub rest_of : (us : List Surface) (i : ℕ) (u : Surface) → i < length us → u ≡ get_or us i u → first_of (map first_asked (drop i us)) ≡ or_first (first_asked u) (first_of (map first_asked (drop (i + 1) us)))
rest_of us i u l e =
    let s : suc i ≡ i + 1 = omega arith in
    ap (λ us. first_of (map first_asked us)) (drop-cons us i u l ∙ ap₂ (λ (y : Surface) k. y ∷ drop k us) (sym e) s)

pub none_left : (us : List Surface) (i : ℕ) → length us ≤ i → first_of (map first_asked (drop i us)) ≡ None
none_left us i l = ap (λ us. first_of (map first_asked us)) (drop_all i us l)
