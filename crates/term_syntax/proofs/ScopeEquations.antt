-- What a tree means, by the shape at its root.
use Rattle.std.proofs.Common.{◌≡◌, ℕ, List, ◌∷◌, map, Option, Some, Ok, Err, ap, sym, ◌∙◌}
use Rattle.ld_trees.specs.Term.{Star, Lam, Pi}
use Rattle.term_syntax.specs.declared.surface.Label.{Label}
use Rattle.term_syntax.specs.declared.surface.Surface.{Surface, fold_out-Surface}
use Rattle.term_syntax.specs.declared.surface.Shape.{Shape, fold-Shape, fold-roll-Shape, roll-Shape}
use Rattle.term_syntax.specs.declared.surface.Shape.TheVariants as shape
use Rattle.term_syntax.specs.declared.surface.Shape.TheOpen.{Shape-F}
use Rattle.term_syntax.specs.declared.scope_fault.ScopeFault.TheVariants.{Unsolved}
use Rattle.term_syntax.specs.Lex.{Text}
use Rattle.term_syntax.specs.Printing.{Names}
use Rattle.term_syntax.specs.Scoping.{Arities, Bound, Meaning, ◌>>=◌, index_of, variable, applied, constant, below, node_meaning, scope}

module _ (arity : Arities) (names : Names) where
  by_layer : (t : Surface) (l : Shape-F Shape Surface) (s : Shape) → roll-Shape l ≡ s → t.shape ≡ s
      → scope arity names t ≡ fold-Shape (ℕ → Meaning) Meaning (node_meaning arity names) (λ t. t.shape t.at) (roll-Shape l) t.at
  unfolding scope
  by_layer t l s e is =
      fold_out-Surface (ℕ → Meaning) Meaning (node_meaning arity names) (λ t. t.shape t.at) t
      ∙ ap (λ s. fold-Shape (ℕ → Meaning) Meaning (node_meaning arity names) (λ t. t.shape t.at) s t.at) (is ∙ sym e)

  pub scope_star : (t : Surface) (bound : Bound) → t.shape ≡ shape.Star → scope arity names t bound ≡ Ok Star
  scope_star t bound is =
      ap (λ f. f bound) (by_layer t Shape-F.Star shape.Star shape.rolls-Star is ∙ ap (λ f. f t.at) (fold-roll-Shape (ℕ → Meaning) Meaning (node_meaning arity names) (λ t. t.shape t.at) Shape-F.Star))

  pub scope_wild : (t : Surface) (bound : Bound) → t.shape ≡ shape.Wild → scope arity names t bound ≡ Err (Unsolved t.at)
  scope_wild t bound is =
      ap (λ f. f bound) (by_layer t Shape-F.Wild shape.Wild shape.rolls-Wild is ∙ ap (λ f. f t.at) (fold-roll-Shape (ℕ → Meaning) Meaning (node_meaning arity names) (λ t. t.shape t.at) Shape-F.Wild))

  pub scope_asked : (t : Surface) (bound : Bound) → t.shape ≡ shape.Asked → scope arity names t bound ≡ Err (Unsolved t.at)
  scope_asked t bound is =
      ap (λ f. f bound) (by_layer t Shape-F.Asked shape.Asked shape.rolls-Asked is ∙ ap (λ f. f t.at) (fold-roll-Shape (ℕ → Meaning) Meaning (node_meaning arity names) (λ t. t.shape t.at) Shape-F.Asked))

  pub scope_named : (t : Surface) (bound : Bound) (x : Label) → t.shape ≡ shape.Named x → scope arity names t bound ≡ variable t.at x (index_of names x bound)
  scope_named t bound x is =
      ap (λ f. f bound) (by_layer t (Shape-F.Named x) (shape.Named x) (shape.rolls-Named x) is ∙ ap (λ f. f t.at) (fold-roll-Shape (ℕ → Meaning) Meaning (node_meaning arity names) (λ t. t.shape t.at) (Shape-F.Named x)))

  pub scope_const : (t : Surface) (bound : Bound) (a : Text) (us : List Surface) → t.shape ≡ shape.Const a us → scope arity names t bound ≡ constant t.at a (arity a) (below bound (map (scope arity names) us))
  unfolding scope
  scope_const t bound a us is =
      ap (λ f. f bound) (by_layer t (Shape-F.Const a us) (shape.Const a us) (shape.rolls-Const a us) is ∙ ap (λ f. f t.at) (fold-roll-Shape (ℕ → Meaning) Meaning (node_meaning arity names) (λ t. t.shape t.at) (Shape-F.Const a us)))

  pub scope_app : (t : Surface) (bound : Bound) (f : Surface) (us : List Surface) → t.shape ≡ shape.App f us → scope arity names t bound ≡ scope arity names f bound >>= (λ f. applied f (below bound (map (scope arity names) us)))
  unfolding scope
  scope_app t bound f us is =
      ap (λ f. f bound) (by_layer t (Shape-F.App f us) (shape.App f us) (shape.rolls-App f us) is ∙ ap (λ f. f t.at) (fold-roll-Shape (ℕ → Meaning) Meaning (node_meaning arity names) (λ t. t.shape t.at) (Shape-F.App f us)))

  pub scope_lam : (t : Surface) (bound : Bound) (x : Label) (A M : Surface) → t.shape ≡ shape.Lam x A M → scope arity names t bound ≡ scope arity names A bound >>= (λ A. scope arity names M (Some x ∷ bound) >>= (λ M. Ok (Lam A M)))
  unfolding scope
  scope_lam t bound x A M is =
      ap (λ f. f bound) (by_layer t (Shape-F.Lam x A M) (shape.Lam x A M) (shape.rolls-Lam x A M) is ∙ ap (λ f. f t.at) (fold-roll-Shape (ℕ → Meaning) Meaning (node_meaning arity names) (λ t. t.shape t.at) (Shape-F.Lam x A M)))

  pub scope_pi : (t : Surface) (bound : Bound) (x : Option Label) (A B : Surface) → t.shape ≡ shape.Pi x A B → scope arity names t bound ≡ scope arity names A bound >>= (λ A. scope arity names B (x ∷ bound) >>= (λ B. Ok (Pi A B)))
  unfolding scope
  scope_pi t bound x A B is =
      ap (λ f. f bound) (by_layer t (Shape-F.Pi x A B) (shape.Pi x A B) (shape.rolls-Pi x A B) is ∙ ap (λ f. f t.at) (fold-roll-Shape (ℕ → Meaning) Meaning (node_meaning arity names) (λ t. t.shape t.at) (Shape-F.Pi x A B)))

pub ruleset scope_equations = (scope_star, scope_wild, scope_asked, scope_named, scope_const, scope_app, scope_lam, scope_pi)
