-- The weak head form of a scoped term is scoped, and neither weak head form nor conversion refuses.
use Rattle.std.proofs.Common.{◌≡◌, ℕ, zero, suc, Bool, true, false, List, [], ◌∷◌, Option, Some, None, refl, sym, subst}
use Rattle.std.proofs.lemmas.Bool.{eqb-true}
use Rattle.std.proofs.lemmas.Option.{same_Some}
use Rattle.std.specs.Prelude.{nat_eq}
use Rattle.ld_trees.specs.Term.{Head, Term, App, Lam, Con, Terms, count, same}
use Rattle.ld_rules.specs.Environment.{Env, Item, item_of}
use Rattle.ld_trees.specs.Scoping.{AllScoped}
use Rattle.ld_rules.specs.Scoping.{AllKnown}
use Rattle.ld_rules.specs.ScopedItems.{IsScopedAt, IsScopedItem, HasScopedItems}
use Rattle.ld_rules.proofs.ScopedItems.{one_put_in, all_put_in}
use Rattle.conversion.specs.Runs.{Refusal, OutOfFuel, Run, pure, choose}
use Rattle.conversion.specs.WeakHead.{unfold_if, unfolded, apply_step, head_step, whnf}
use Rattle.conversion.specs.Conversion.{alike, are_twins, part_pairs, convert_each, conv_step, conv_deep, conv}
use Rattle.conversion.specs.Laws.{WeakHeadFormIsScoped}
use Rattle.conversion.proofs.Heads.{whnf_none, whnf_some, whnf_fuel}
use Rattle.conversion.proofs.Always.{Holds, Always, always_pure, always_spend, always_choose, always_bind}

module _ (Δ : Env) (items : HasScopedItems Δ) where
  apply_scoped : (m : ℕ) (f a : Term) (o : Option Term) (t : Term) → IsScopedAt Δ m (App f a) → ((g : Term) → IsScopedAt Δ m f → o ≡ Some g → IsScopedAt Δ m g) → apply_step f a o ≡ Some t → IsScopedAt Δ m t
  apply_scoped m (Lam A M) a o t k ih e = subst (IsScopedAt Δ m) (same_Some _ _ e) (one_put_in Δ m a M (k.0.1, k.1.1) (k.0.0.1, k.1.0.1))
  apply_scoped m f a None t k ih e = absurd cc
  apply_scoped m f a (Some g) t k ih e = let s = ih g (k.0.0, k.1.0) refl in subst (IsScopedAt Δ m) (same_Some _ _ e) ((s.0, k.0.1), (s.1, k.1.1))

  unfold_scoped : (m : ℕ) (us : Terms) (d : Item) (b : Bool) (o : Option Term) (t : Term) → IsScopedItem Δ d → AllScoped m us → AllKnown Δ us → nat_eq (count us) (count d.params) ≡ b → d.body ≡ o → unfold_if b o us ≡ Some t → IsScopedAt Δ m t
  unfold_scoped m us d true (Some M) t i k l n e q =
      let s = i.body M e in
      subst (IsScopedAt Δ m) (same_Some _ _ q) (all_put_in Δ m us M k l (subst (λ n. IsScopedAt Δ n M) (sym (eqb-true (count us) (count d.params) n)) s))
  unfold_scoped m us d _ _ t i k l n e q = absurd cc

  unfolded_scoped : (m : ℕ) (h : Head) (us : Terms) (o : Option Item) (t : Term) → AllScoped m us → AllKnown Δ us → item_of h Δ ≡ o → unfolded o us ≡ Some t → IsScopedAt Δ m t
  unfolded_scoped m h us None t k l p q = absurd cc
  unfolded_scoped m h us (Some d) t k l p q = unfold_scoped m us d _ _ t (items h d p) k l refl refl q

  step_scoped : (m : ℕ) (t t' : Term) → IsScopedAt Δ m t → head_step Δ t ≡ Some t' → IsScopedAt Δ m t'
  step_scoped m (App f a) t' k e = apply_scoped m f a (head_step Δ f) t' k (λ g s q. step_scoped m f g s q) e
  step_scoped m (Con h us) t' k e = unfolded_scoped m h us (item_of h Δ) t' k.0 k.1.1 refl e
  step_scoped m _ t' k e = absurd cc

  -- the weak head form is scoped, and there is no refusal
  pub always_whnf : (Q : Refusal → Type 0) (m : ℕ) (t : Term) → IsScopedAt Δ m t → Always (whnf Δ t) (IsScopedAt Δ m) Q
  always_whnf Q m t k zero = go (head_step Δ t) refl
    where
      go : (o : Option Term) → head_step Δ t ≡ o → Holds (IsScopedAt Δ m) Q (whnf Δ t 0)
      go None e = subst (Holds (IsScopedAt Δ m) Q) (sym (whnf_none Δ t e 0)) k
      go (Some t') e = subst (Holds (IsScopedAt Δ m) Q) (sym (whnf_fuel Δ t t' e)) tt
  always_whnf Q m t k (suc n) = go (head_step Δ t) refl (λ t' s. always_whnf Q m t' s n)
    where
      go : (o : Option Term) → head_step Δ t ≡ o → ((t' : Term) → IsScopedAt Δ m t' → Holds (IsScopedAt Δ m) Q (whnf Δ t' n)) → Holds (IsScopedAt Δ m) Q (whnf Δ t (suc n))
      go None e ih = subst (Holds (IsScopedAt Δ m) Q) (sym (whnf_none Δ t e (suc n))) k
      go (Some t') e ih = subst (Holds (IsScopedAt Δ m) Q) (sym (whnf_some Δ t t' e n)) (ih t' (step_scoped m t t' k e))

-- ---- conversion doesn't refuse

module _ (Δ : Env) (Q : Refusal → Type 0) where
  whnf_gives : (t : Term) → Always (whnf Δ t) (λ _. Unit {0}) Q
  whnf_gives t zero = go (head_step Δ t) refl
    where
      go : (o : Option Term) → head_step Δ t ≡ o → Holds (λ _. Unit {0}) Q (whnf Δ t 0)
      go None e = subst (Holds (λ _. Unit {0}) Q) (sym (whnf_none Δ t e 0)) tt
      go (Some t') e = subst (Holds (λ _. Unit {0}) Q) (sym (whnf_fuel Δ t t' e)) tt
  whnf_gives t (suc n) = go (head_step Δ t) refl (λ t'. whnf_gives t' n)
    where
      go : (o : Option Term) → head_step Δ t ≡ o → ((t' : Term) → Holds (λ _. Unit {0}) Q (whnf Δ t' n)) → Holds (λ _. Unit {0}) Q (whnf Δ t (suc n))
      go None e ih = subst (Holds (λ _. Unit {0}) Q) (sym (whnf_none Δ t e (suc n))) tt
      go (Some t') e ih = subst (Holds (λ _. Unit {0}) Q) (sym (whnf_some Δ t t' e n)) (ih t')

  module _ (c : Term → Term → Run Bool) (hc : (a b : Term) → Always (c a b) (λ _. Unit {0}) Q) where
    each_gives : (ps : List (Term × Term)) → Always (convert_each c ps) (λ _. Unit {0}) Q
    each_gives [] = always_pure (λ _. Unit {0}) Q true tt
    each_gives (p ∷ ps) = always_bind (λ _. Unit {0}) (λ _. Unit {0}) Q (c p.0 p.1) _ (hc p.0 p.1) (λ x _. always_choose (λ _. Unit {0}) Q x _ _ (λ _. each_gives ps) (λ _. always_pure (λ _. Unit {0}) Q false tt))

    step_gives : (a b : Term) → Always (conv_step Δ c a b) (λ _. Unit {0}) Q
    step_gives a b =
        let P : Bool → Type 0 = λ _. Unit {0} in
        let no : Always (pure false) P Q = always_pure P Q false tt in
        let yes : Always (pure true) P Q = always_pure P Q true tt in
        let first : Always (choose (are_twins Δ a b) (convert_each c (part_pairs a b)) (pure false)) P Q = always_choose P Q (are_twins Δ a b) _ _ (λ _. each_gives (part_pairs a b)) (λ _. no) in
        always_choose P Q (same a b) _ _ (λ _. yes) (λ _. always_spend P Q _ (always_bind P P Q _ _ first (λ done _. always_choose P Q done _ _ (λ _. yes) (λ _. always_bind (λ _. Unit {0}) P Q _ _ (whnf_gives a) (λ a' _. always_bind (λ _. Unit {0}) P Q _ _ (whnf_gives b) (λ b' _. always_choose P Q (alike a' b') _ _ (λ _. each_gives (part_pairs a' b')) (λ _. no)))))))

  deep_gives : (g : ℕ) (a b : Term) → Always (conv_deep Δ g a b) (λ _. Unit {0}) Q
  deep_gives zero a b = step_gives (λ a b n. OutOfFuel) (λ a b n. tt) a b
  deep_gives (suc g) a b = step_gives (λ a b. conv_deep Δ g a b) (λ a b. deep_gives g a b) a b

  pub always_conv : (a b : Term) → Always (conv Δ a b) (λ _. Unit {0}) Q
  always_conv a b n = deep_gives n a b n

pub whnf_is_scoped : WeakHeadFormIsScoped
whnf_is_scoped Δ m t t' n left items k e = subst (Holds (IsScopedAt Δ m) (λ _. Unit {0})) e (always_whnf Δ items (λ _. Unit {0}) m t k n)
