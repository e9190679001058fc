-- The theorem of a legal state holds no metavariable.
use Rattle.std.proofs.Common.{◌≡◌, ℕ, zero, suc, ◌<◌, List, [], ◌∷◌, Bool, true, false, ◌||◌, nat_eq, length, None, refl, ap, ◌∙◌, arith, eq-eqb}
use Rattle.ld_trees.specs.Term.{Named, Numbered, Term, Srt, Var, App, Lam, Pi, Con, Terms, none, ◌▹◌, count}
use Rattle.ld_rules.specs.Expansion.{Bodies, expand, expand_all, expanded}
use Rattle.ld_terms.specs.declared.globals.Item.{Item}
use Rattle.ld_terms.specs.declared.globals.Decl.{Decl}
use Rattle.conversion.specs.Globals.{context_of}
use Rattle.meta_trees.specs.MetaContext.{Metas}
use Rattle.meta_trees.specs.Dependencies.{occurs, occurs_in}
use Rattle.meta_laws.specs.Unfolding.{values}
use Rattle.meta_context.specs.Stored.{decl_of}
use Rattle.goal_state.specs.State.{rules_metas, root_type, IsLegalState}
use Rattle.state_print.specs.Pieces.{unfolded}
use Rattle.state_print.specs.Laws.{TheoremIsUnfolded}

or_left : (a b : Bool) → (a || b) ≡ false → a ≡ false
or_left true b e = absurd cc
or_left false b e = refl

or_right : (a b : Bool) → (a || b) ≡ false → b ≡ false
or_right true b e = absurd cc
or_right false b e = e

-- where no constant of a name has a body and no metavariable occurs, nothing is expanded
module _ (V : Bodies) (bare : (a : List ℕ) (n : ℕ) → V (Named a) n ≡ None) where
  mutual
    expand_bare : (t : Term) → ((k : ℕ) → occurs k t ≡ false) → expand V t ≡ t
    expand_bare (Srt s) f = refl
    expand_bare (Var i) f = refl
    expand_bare (App t u) f = λ i. App (expand_bare t (λ k. or_left (occurs k t) (occurs k u) (f k)) i) (expand_bare u (λ k. or_right (occurs k t) (occurs k u) (f k)) i)
    expand_bare (Lam t u) f = λ i. Lam (expand_bare t (λ k. or_left (occurs k t) (occurs k u) (f k)) i) (expand_bare u (λ k. or_right (occurs k t) (occurs k u) (f k)) i)
    expand_bare (Pi t u) f = λ i. Pi (expand_bare t (λ k. or_left (occurs k t) (occurs k u) (f k)) i) (expand_bare u (λ k. or_right (occurs k t) (occurs k u) (f k)) i)
    expand_bare (Con (Named a) us) f = ap (λ o. expanded o (Named a) (expand_all V us)) (bare a (count us)) ∙ ap (Con (Named a)) (expand_all_bare us f)
    expand_bare (Con (Numbered m) us) f = let e = or_left (nat_eq m m) (occurs_in m us) (f m) in let t : nat_eq m m ≡ true = eq-eqb m m refl in absurd cc

    expand_all_bare : (us : Terms) → ((k : ℕ) → occurs_in k us ≡ false) → expand_all V us ≡ us
    expand_all_bare none f = refl
    expand_all_bare (us ▹ u) f = λ i. expand_all_bare us (λ k. or_left (occurs_in k us) (occurs k u) (f k)) i ▹ expand_bare u (λ k. or_right (occurs_in k us) (occurs k u) (f k)) i

-- only metavariables are unfolded
no_named : (Σ : Metas) (r : ℕ) (a : List ℕ) (n : ℕ) → values Σ r (Named a) n ≡ None
no_named Σ zero a n = refl
no_named Σ (suc r) a n = refl

never : (b : Bool) → (b ≡ true → ⊥) → b ≡ false
never true f = absurd (f refl)
never false f = refl

or_true : (a b : Bool) → b ≡ true → (a || b) ≡ true
or_true true b e = refl
or_true false b e = e

pub theorem_is_unfolded : TheoremIsUnfolded
theorem_is_unfolded s ok = at s.items s.metas s.goals ok where
  none_below : (k : ℕ) → k < 0 → ⊥
  none_below k l = omega arith

  at : (items : List (Item Term)) (ds : List (Decl Term)) (goals : List ℕ) → IsLegalState (record { items = items; metas = ds; goals = goals })
      → unfolded ds (root_type (record { items = items; metas = ds; goals = goals })) ≡ root_type (record { items = items; metas = ds; goals = goals })
  at items [] goals ok = absurd ok.root
  at items (d ∷ ds) goals ok =
      let Σ = rules_metas (d ∷ ds) in
      let Γ = context_of (λ t. t) d.ctx in
      expand_bare (λ h k. values Σ (length Σ) h k) (no_named Σ (length Σ)) d.ty
      (λ k. never (occurs k d.ty) (λ o. none_below k (ok.legal.smaller 0 k (decl_of (λ t. t) d) refl (or_true (occurs_in k Γ) (occurs k d.ty) o))))
