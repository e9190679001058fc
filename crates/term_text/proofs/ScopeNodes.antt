-- The outcome of scoping a node, from the outcomes of its parts.
use denote.Bor.{Bor}
use Rattle.std.proofs.Common.{◌≡◌, ℕ, List, ◌∷◌, length, map, Option, Some, Ok, ap, sym, ◌∙◌, subst}
use Rattle.std.proofs.lemmas.List.{length-map}
use Rattle.ld_trees.specs.Term.{Term, Lam, Pi, Const, Terms, none}
use Rattle.term_syntax.specs.declared.surface.Label.{Label}
use Rattle.term_syntax.specs.declared.surface.Surface.{Surface}
use Rattle.term_syntax.specs.declared.surface.Shape.TheVariants as shape
use Rattle.term_syntax.specs.declared.scope_fault.ScopeFault.{ScopeFault}
use Rattle.term_syntax.specs.Lex.{Text}
use Rattle.term_syntax.specs.Printing.{Names}
use Rattle.term_syntax.specs.Scoping.{Arities, Bound, Resolved, ◌>>=◌, applied, arguments, fitting, below, scope}
use Rattle.term_syntax.proofs.ScopeEquations.{scope_const, scope_app, scope_lam, scope_pi}
use Rattle.term_text.specs.Scoped.{Refuses, bound_of}
use Rattle.term_text.proofs.ScopeLaws.{refused}

refused_by : {A B : Type 0} (whole : Resolved B) (o : Resolved A) (f : A → Resolved B) (e : ScopeFault) → whole ≡ o >>= f → Refuses o e → Refuses whole e
refused_by whole o f e is bad = subst (λ w. Refuses w e) (sym is) (refused o f e bad)

second_by : {A B : Type 0} (whole : Resolved B) (o : Resolved A) (f : A → Resolved B) (a : A) → whole ≡ o >>= f → o ≡ Ok a → whole ≡ f a
second_by whole o f a is e = is ∙ ap (λ o. o >>= f) e

-- what holds of the outcome of one tree holds of an equal one's, below equal binders
pub at_same : (arity : Arities) (names : Names) (P : Resolved Term → Type 0) (bound : Bound) (u v : Surface) → u ≡ v → P (scope arity names u bound) → P (scope arity names v bound)
at_same arity names P bound u v e h = subst (λ w. P (scope arity names w bound)) e h

pub at_equal : (arity : Arities) (names : Names) (P : Resolved Term → Type 0) (u v : Surface) (l k : Option Label) (ls ks : List (Option (Bor Label))) → u ≡ v → l ≡ k → ls ≡ ks
    → P (scope arity names u (l ∷ bound_of ls)) → P (scope arity names v (k ∷ bound_of ks))
at_equal arity names P u v l k ls ks e f i h =
    subst (λ w. P (scope arity names w (k ∷ bound_of ks))) e (subst (λ m. P (scope arity names u (m ∷ bound_of ks))) f (subst (λ ms. P (scope arity names u (l ∷ bound_of ms))) i h))

module _ (arity : Arities) (names : Names) (t : Surface) (bound : Bound) where
  pub lam_domain : (x : Label) (A M : Surface) (e : ScopeFault) → t.shape ≡ shape.Lam x A M → Refuses (scope arity names A bound) e → Refuses (scope arity names t bound) e
  lam_domain x A M e is bad = refused_by _ (scope arity names A bound) (λ A. scope arity names M (Some x ∷ bound) >>= (λ M. Ok (Lam A M))) e (scope_lam arity names t bound x A M is) bad

  lam_under : (x : Label) (A M : Surface) (a : Term) → t.shape ≡ shape.Lam x A M → scope arity names A bound ≡ Ok a → scope arity names t bound ≡ scope arity names M (Some x ∷ bound) >>= (λ M. Ok (Lam a M))
  lam_under x A M a is e = second_by _ (scope arity names A bound) (λ A. scope arity names M (Some x ∷ bound) >>= (λ M. Ok (Lam A M))) a (scope_lam arity names t bound x A M is) e

  pub lam_body : (x : Label) (A M : Surface) (a : Term) (e : ScopeFault) → t.shape ≡ shape.Lam x A M → scope arity names A bound ≡ Ok a → Refuses (scope arity names M (Some x ∷ bound)) e → Refuses (scope arity names t bound) e
  lam_body x A M a e is s bad = refused_by _ (scope arity names M (Some x ∷ bound)) (λ M. Ok (Lam a M)) e (lam_under x A M a is s) bad

  pub lam_made : (x : Label) (A M : Surface) (a a' m made : Term) → t.shape ≡ shape.Lam x A M → scope arity names A bound ≡ Ok a → scope arity names M (Some x ∷ bound) ≡ Ok m → a' ≡ a → made ≡ Lam a' m → scope arity names t bound ≡ Ok made
  lam_made x A M a a' m made is s z same e = second_by _ (scope arity names M (Some x ∷ bound)) (λ M. Ok (Lam a M)) m (lam_under x A M a is s) z ∙ ap (λ a. Ok (Lam a m)) (sym same) ∙ ap (λ m. Ok m) (sym e)

  pub pi_domain : (x : Option Label) (A B : Surface) (e : ScopeFault) → t.shape ≡ shape.Pi x A B → Refuses (scope arity names A bound) e → Refuses (scope arity names t bound) e
  pi_domain x A B e is bad = refused_by _ (scope arity names A bound) (λ A. scope arity names B (x ∷ bound) >>= (λ B. Ok (Pi A B))) e (scope_pi arity names t bound x A B is) bad

  pi_under : (x : Option Label) (A B : Surface) (a : Term) → t.shape ≡ shape.Pi x A B → scope arity names A bound ≡ Ok a → scope arity names t bound ≡ scope arity names B (x ∷ bound) >>= (λ B. Ok (Pi a B))
  pi_under x A B a is e = second_by _ (scope arity names A bound) (λ A. scope arity names B (x ∷ bound) >>= (λ B. Ok (Pi A B))) a (scope_pi arity names t bound x A B is) e

  pub pi_codomain : (x : Option Label) (A B : Surface) (a : Term) (e : ScopeFault) → t.shape ≡ shape.Pi x A B → scope arity names A bound ≡ Ok a → Refuses (scope arity names B (x ∷ bound)) e → Refuses (scope arity names t bound) e
  pi_codomain x A B a e is s bad = refused_by _ (scope arity names B (x ∷ bound)) (λ B. Ok (Pi a B)) e (pi_under x A B a is s) bad

  pub pi_made : (x : Option Label) (A B : Surface) (a a' b made : Term) → t.shape ≡ shape.Pi x A B → scope arity names A bound ≡ Ok a → scope arity names B (x ∷ bound) ≡ Ok b → a' ≡ a → made ≡ Pi a' b → scope arity names t bound ≡ Ok made
  pi_made x A B a a' b made is s z same e = second_by _ (scope arity names B (x ∷ bound)) (λ B. Ok (Pi a B)) b (pi_under x A B a is s) z ∙ ap (λ a. Ok (Pi a b)) (sym same) ∙ ap (λ m. Ok m) (sym e)

  pub app_head : (f : Surface) (us : List Surface) (e : ScopeFault) → t.shape ≡ shape.App f us → Refuses (scope arity names f bound) e → Refuses (scope arity names t bound) e
  app_head f us e is bad = refused_by _ (scope arity names f bound) (λ f. applied f (below bound (map (scope arity names) us))) e (scope_app arity names t bound f us is) bad

  pub app_spine : (f : Surface) (us : List Surface) (h : Term) → t.shape ≡ shape.App f us → scope arity names f bound ≡ Ok h → scope arity names t bound ≡ applied h (below bound (map (scope arity names) us))
  app_spine f us h is e = second_by _ (scope arity names f bound) (λ f. applied f (below bound (map (scope arity names) us))) h (scope_app arity names t bound f us is) e

  given_count : (us : List Surface) → length (below bound (map (scope arity names) us)) ≡ length us
  given_count us = length-map (map (scope arity names) us) (λ m. m bound) ∙ length-map us (scope arity names)

  const_is : (a : Text) (us : List Surface) (n : ℕ) → t.shape ≡ shape.Const a us → n ≡ length us
      → scope arity names t bound ≡ fitting t.at a (arity a) n >>= (λ _. arguments none (below bound (map (scope arity names) us)) >>= (λ vs. Ok (Const a vs)))
  const_is a us n is count =
      scope_const arity names t bound a us is
      ∙ ap (λ n. fitting t.at a (arity a) n >>= (λ _. arguments none (below bound (map (scope arity names) us)) >>= (λ vs. Ok (Const a vs)))) (given_count us ∙ sym count)

  pub const_unfit : (a : Text) (us : List Surface) (n : ℕ) (e : ScopeFault) → t.shape ≡ shape.Const a us → n ≡ length us → Refuses (fitting t.at a (arity a) n) e → Refuses (scope arity names t bound) e
  const_unfit a us n e is count bad = refused_by _ (fitting t.at a (arity a) n) (λ _. arguments none (below bound (map (scope arity names) us)) >>= (λ vs. Ok (Const a vs))) e (const_is a us n is count) bad

  const_fits : (a : Text) (us : List Surface) (n : ℕ) → t.shape ≡ shape.Const a us → n ≡ length us → fitting t.at a (arity a) n ≡ Ok tt
      → scope arity names t bound ≡ arguments none (below bound (map (scope arity names) us)) >>= (λ vs. Ok (Const a vs))
  const_fits a us n is count fit = second_by _ (fitting t.at a (arity a) n) (λ _. arguments none (below bound (map (scope arity names) us)) >>= (λ vs. Ok (Const a vs))) tt (const_is a us n is count) fit

  pub const_arguments : (a : Text) (us : List Surface) (n : ℕ) (e : ScopeFault) → t.shape ≡ shape.Const a us → n ≡ length us → fitting t.at a (arity a) n ≡ Ok tt → Refuses (arguments none (below bound (map (scope arity names) us))) e → Refuses (scope arity names t bound) e
  const_arguments a us n e is count fit bad = refused_by _ (arguments none (below bound (map (scope arity names) us))) (λ vs. Ok (Const a vs)) e (const_fits a us n is count fit) bad

  pub const_made : (a : Text) (us : List Surface) (n : ℕ) (vs : Terms) (made : Term) → t.shape ≡ shape.Const a us → n ≡ length us → fitting t.at a (arity a) n ≡ Ok tt → arguments none (below bound (map (scope arity names) us)) ≡ Ok vs → made ≡ Const a vs → scope arity names t bound ≡ Ok made
  const_made a us n vs made is count fit s e = second_by _ (arguments none (below bound (map (scope arity names) us))) (λ vs. Ok (Const a vs)) vs (const_fits a us n is count fit) s ∙ ap (λ m. Ok m) (sym e)
