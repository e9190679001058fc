-- What is inferred for a scoped term is scoped, and so are the terms of each refusal.
use Rattle.std.proofs.Common.{◌≡◌, ℕ, zero, suc, ◌<◌, ◌≤◌, max, nat_eq, Option, Some, None, option_map, refl, sym, arith, subst as transport}
use Rattle.std.proofs.lemmas.Bool.{eqb-true}
use Rattle.ld_trees.specs.Term.{Sort, star, square, Head, Term, Srt, Var, App, Lam, Pi, Con, Terms, none, ◌▹◌, Star, Square, count, same, depth, depth_all}
use Rattle.ld_trees.specs.Substitution.{weaken, subst_all}
use Rattle.ld_rules.specs.Environment.{Ctx, type_at, Item, Env, item_of}
use Rattle.ld_trees.specs.Scoping.{AllScoped}
use Rattle.ld_rules.specs.Scoping.{AllKnown, ContextScoped, IsScoped}
use Rattle.ld_rules.specs.ScopedItems.{IsScopedAt, IsScopedItem, HasScopedItems, AreScoped}
use Rattle.ld_rules.proofs.ScopedItems.{one_put_in, all_put_in}
use Rattle.ld_rules.proofs.ScopedTerms.{weaken_scoped}
use Rattle.ld_rules.proofs.KnownConstants.{known_rename}
use Rattle.conversion.specs.Runs.{Refusal, NotType, NotFunction, Mismatch, ReductIllTyped, Run}
use Rattle.conversion.proofs.Always.{Holds, Always, always_pure, always_refuse, always_spend, always_choose, always_bind, always_then, always_more, always_or_refuse}
use Rattle.conversion.proofs.ScopedForms.{always_whnf, always_conv}
use Rattle.kernel_check.specs.Inference.{Infers, star_or, sort_in, sort_of, checked_product, product_form, fit, or_not_type, lam_type, infer_all, infer_item, infer_case, infer_deep, infer, infer_sort}
use Rattle.kernel_check.specs.ScopedFaults.{RefusalIsScoped, depth_of, RefusalIsShown}
use Rattle.kernel_check.specs.Laws.{InferenceIsScoped, SortRefusalsAreScoped, RefusalsAreScoped}

positive : (t : Term) → 0 < depth t
positive (Srt s) = omega arith
positive (Var i) = omega arith
positive (App f a) = omega arith
positive (Lam A M) = omega arith
positive (Pi A B) = omega arith
positive (Con h us) = omega arith

max_left : (a b : ℕ) → a ≤ max a b
max_left a b = omega arith

max_right : (a b : ℕ) → b ≤ max a b
max_right a b = omega arith

module _ (Δ : Env) (items : HasScopedItems Δ) where
  -- a context of scoped entries
  Stands : Ctx → Type 0
  Stands Γ = ContextScoped Γ × AllKnown Δ Γ

  -- a refusal at the context of a term itself
  here : (Γ : Ctx) (t : Term) (r : Refusal) → RefusalIsScoped Δ r → depth_of r ≡ count Γ → RefusalIsShown Δ Γ t r
  here Γ t r h e = (h, (omega (arith, e), omega (arith, e, positive t)))

  -- a refusal of a part is one of the whole
  wider : (Γ : Ctx) (u t : Term) (r : Refusal) → depth u ≤ depth t → RefusalIsShown Δ Γ u r → RefusalIsShown Δ Γ t r
  wider Γ u t r l h = (h.0, (h.1.0, let b = h.1.1 in omega (arith, b, l)))

  under : (Γ : Ctx) (A u t : Term) (r : Refusal) → depth u < depth t → RefusalIsShown Δ (Γ ▹ A) u r → RefusalIsShown Δ Γ t r
  under Γ A u t r l h = (h.0, (let a = h.1.0 in omega (arith, a), let b = h.1.1 in omega (arith, b, l)))

  entry_scoped : (Γ : Ctx) (i : ℕ) (T : Term) → Stands Γ → type_at Γ i ≡ Some T → IsScopedAt Δ (count Γ) T
  unfolding Stands
  entry_scoped none i T k e = absurd cc
  entry_scoped (Γ ▹ A) zero T k e = transport (IsScopedAt Δ (suc (count Γ))) (let q : weaken A ≡ T = cc in q) (weaken_scoped A (count Γ) k.0.1, known_rename Δ A suc k.1.1)
  entry_scoped (Γ ▹ A) (suc i) T k e = go (type_at Γ i) (λ U q. entry_scoped Γ i U (k.0.0, k.1.0) q) e
    where
      go : (o : Option Term) → ((U : Term) → o ≡ Some U → IsScopedAt Δ (count Γ) U) → option_map weaken o ≡ Some T → IsScopedAt Δ (suc (count Γ)) T
      go None f q = absurd cc
      go (Some U) f q = let s = f U refl in transport (IsScopedAt Δ (suc (count Γ))) (let p : weaken U ≡ T = cc in p) (weaken_scoped U (count Γ) s.0, known_rename Δ U suc s.1)

  star_shown : (Γ : Ctx) (t T : Term) → IsScopedAt Δ (count Γ) t → Always (star_or Γ t T) (λ _. Unit {0}) (RefusalIsShown Δ Γ t)
  star_shown Γ t (Srt star) k = always_pure (λ _. Unit {0}) (RefusalIsShown Δ Γ t) star tt
  star_shown Γ t _ k = always_refuse {A = Sort} (λ _. Unit {0}) (RefusalIsShown Δ Γ t) (NotType (count Γ) t) (here Γ t (NotType (count Γ) t) k refl)

  sort_in_shown : (Γ : Ctx) (t T : Term) → IsScopedAt Δ (count Γ) t → IsScopedAt Δ (count Γ) T → Always (sort_in Δ Γ t T) (λ _. Unit {0}) (RefusalIsShown Δ Γ t)
  sort_in_shown Γ t (Srt s) k l = always_pure (λ _. Unit {0}) (RefusalIsShown Δ Γ t) s tt
  sort_in_shown Γ t T k l = always_bind (IsScopedAt Δ (count Γ)) (λ _. Unit {0}) (RefusalIsShown Δ Γ t) _ _ (always_whnf Δ items (RefusalIsShown Δ Γ t) (count Γ) T l) (λ T' h. star_shown Γ t T' k)

  -- found and wanted at the context of a term
  fit_shown : (Γ : Ctx) (t a b : Term) → IsScopedAt Δ (count Γ) a → IsScopedAt Δ (count Γ) b → Always (fit Δ Γ a b) (λ _. Unit {0}) (RefusalIsShown Δ Γ t)
  fit_shown Γ t a b k l =
      let Q : Refusal → Type 0 = RefusalIsShown Δ Γ t in
      always_bind (λ _. Unit {0}) (λ _. Unit {0}) Q _ _ (always_conv Δ Q a b) (λ x _. always_choose (λ _. Unit {0}) Q x _ _ (λ _. always_pure {A = Unit {0}} (λ _. Unit {0}) Q tt tt) (λ _. always_refuse {A = Unit {0}} (λ _. Unit {0}) Q (Mismatch (count Γ) a b) (here Γ t (Mismatch (count Γ) a b) (k, l) refl)))

  module _ (f : Infers) (hf : (Γ : Ctx) (t : Term) → Stands Γ → IsScopedAt Δ (count Γ) t → Always (f Γ t) (IsScopedAt Δ (count Γ)) (RefusalIsShown Δ Γ t)) where
    sort_shown : (Γ : Ctx) (t : Term) → Stands Γ → IsScopedAt Δ (count Γ) t → Always (sort_of Δ f Γ t) (λ _. Unit {0}) (RefusalIsShown Δ Γ t)
    sort_shown Γ t w k = always_bind (IsScopedAt Δ (count Γ)) (λ _. Unit {0}) (RefusalIsShown Δ Γ t) _ _ (hf Γ t w k) (λ T l. sort_in_shown Γ t T k l)

    AreParts : Ctx → Term × Term → Type 0
    AreParts Γ p = IsScopedAt Δ (count Γ) p.0 × IsScopedAt Δ (suc (count Γ)) p.1

    checked_shown : (Γ : Ctx) (t g F P : Term) → Stands Γ → IsScopedAt Δ (count Γ) g → IsScopedAt Δ (count Γ) F → IsScopedAt Δ (count Γ) P → Always (checked_product Δ f Γ g F P) (AreParts Γ) (RefusalIsShown Δ Γ t)
    unfolding AreParts
    checked_shown Γ t g F (Pi A B) w k l p =
        let Q : Refusal → Type 0 = RefusalIsShown Δ Γ t in
        let parts : AreParts Γ (A, B) = ((p.0.0, p.1.0), (p.0.1, p.1.1)) in
        let r : Refusal = ReductIllTyped (count Γ) F (Pi A B) in
        always_choose (AreParts Γ) Q (same F (Pi A B)) _ _ (λ _. always_pure (AreParts Γ) Q (A, B) parts) (λ _. always_then (λ _. Unit {0}) (AreParts Γ) Q _ _ (always_or_refuse (λ _. Unit {0}) Q (RefusalIsShown Δ Γ (Pi A B)) _ r (sort_shown Γ (Pi A B) w p) (here Γ t r (l, p) refl)) (always_pure (AreParts Γ) Q (A, B) parts))
    checked_shown Γ t g F P w k l p = always_refuse (AreParts Γ) (RefusalIsShown Δ Γ t) (NotFunction (count Γ) g F) (here Γ t (NotFunction (count Γ) g F) (k, l) refl)

    product_shown : (Γ : Ctx) (t g F : Term) → Stands Γ → IsScopedAt Δ (count Γ) g → IsScopedAt Δ (count Γ) F → Always (product_form Δ f Γ g F) (AreParts Γ) (RefusalIsShown Δ Γ t)
    product_shown Γ t g F w k l = always_bind (IsScopedAt Δ (count Γ)) (AreParts Γ) (RefusalIsShown Δ Γ t) _ _ (always_whnf Δ items (RefusalIsShown Δ Γ t) (count Γ) F l) (λ P p. checked_shown Γ t g F P w k l p)

    lam_shown : (Γ : Ctx) (A M B : Term) → IsScopedAt Δ (count Γ) A → IsScopedAt Δ (suc (count Γ)) B → Always (lam_type Γ A B) (IsScopedAt Δ (count Γ)) (RefusalIsShown Δ Γ (Lam A M))
    lam_shown Γ A M (Srt square) k l = always_refuse (IsScopedAt Δ (count Γ)) (RefusalIsShown Δ Γ (Lam A M)) (NotType (suc (count Γ)) Square) ((tt, tt), (omega arith, let a = positive A in let b = max_left (depth A) (depth M) in omega (arith, a, b)))
    lam_shown Γ A M B k l = always_pure (IsScopedAt Δ (count Γ)) (RefusalIsShown Δ Γ (Lam A M)) (Pi A B) ((k.0, l.0), (k.1, l.1))

    all_shown : (Γ : Ctx) (h : Head) (us ps : Terms) → Stands Γ → AllScoped (count Γ) us → AllKnown Δ us → Stands ps → count us ≡ count ps → Always (infer_all Δ f Γ us ps) (λ _. Unit {0}) (RefusalIsShown Δ Γ (Con h us))
    unfolding Stands
    all_shown Γ h none ps w k l p n = always_pure {A = Unit {0}} (λ _. Unit {0}) (RefusalIsShown Δ Γ (Con h none)) tt tt
    all_shown Γ h (us ▹ u) none w k l p n = absurd (omega arith)
    all_shown Γ h (us ▹ u) (ps ▹ P) w k l p n =
        let t : Term = Con h (us ▹ u) in
        let Q : Refusal → Type 0 = RefusalIsShown Δ Γ t in
        let e : count us ≡ count ps = omega arith in
        let first : Always (infer_all Δ f Γ us ps) (λ _. Unit {0}) Q = always_more (λ _. Unit {0}) (RefusalIsShown Δ Γ (Con h us)) (λ _. Unit {0}) Q _ (λ x y. y) (λ r y. wider Γ (Con h us) t r (let a = max_left (depth_all us) (depth u) in omega (arith, a)) y) (all_shown Γ h us ps w k.0 l.0 (p.0.0, p.1.0) e) in
        let wanted : IsScopedAt Δ (count Γ) (subst_all us P) = all_put_in Δ (count Γ) us P k.0 l.0 (transport (λ m. IsScopedAt Δ m P) (sym e) (p.0.1, p.1.1)) in
        let next : Always (f Γ u) (IsScopedAt Δ (count Γ)) Q = always_more (IsScopedAt Δ (count Γ)) (RefusalIsShown Δ Γ u) (IsScopedAt Δ (count Γ)) Q _ (λ x y. y) (λ r y. wider Γ u t r (let a = max_right (depth_all us) (depth u) in omega (arith, a)) y) (hf Γ u w (k.1, l.1)) in
        always_then (λ _. Unit {0}) (λ _. Unit {0}) Q _ _ first (always_bind (IsScopedAt Δ (count Γ)) (λ _. Unit {0}) Q _ _ next (λ U s. fit_shown Γ t U (subst_all us P) s wanted))

    item_shown : (Γ : Ctx) (h : Head) (us : Terms) (o : Option Item) → Stands Γ → IsScopedAt Δ (count Γ) (Con h us) → item_of h Δ ≡ o → Always (infer_item Δ f Γ h us o) (IsScopedAt Δ (count Γ)) (RefusalIsShown Δ Γ (Con h us))
    unfolding Stands
    item_shown Γ h us None w k e = always_refuse (IsScopedAt Δ (count Γ)) (RefusalIsShown Δ Γ (Con h us)) (NotType (count Γ) (Con h us)) (here Γ (Con h us) (NotType (count Γ) (Con h us)) k refl)
    item_shown Γ h us (Some d) w k e =
        let P : Term → Type 0 = IsScopedAt Δ (count Γ) in
        let Q : Refusal → Type 0 = RefusalIsShown Δ Γ (Con h us) in
        let i : IsScopedItem Δ d = items h d e in
        always_choose P Q (nat_eq (count us) (count d.params)) _ _ (λ n. always_then (λ _. Unit {0}) P Q _ _ (all_shown Γ h us d.params w k.0 k.1.1 (i.params, i.params_known) (eqb-true _ _ n)) (always_pure P Q _ (all_put_in Δ (count Γ) us d.ty k.0 k.1.1 (transport (λ m. IsScopedAt Δ m d.ty) (sym (eqb-true (count us) (count d.params) n)) i.ty)))) (λ n. always_refuse P Q (NotType (count Γ) (Con h us)) (here Γ (Con h us) (NotType (count Γ) (Con h us)) k refl))

    -- a part at the same context, and one under an entry more
    part : {A : Type 0} (P : A → Type 0) (Γ : Ctx) (u t : Term) (m : Run A) → depth u ≤ depth t → Always m P (RefusalIsShown Δ Γ u) → Always m P (RefusalIsShown Δ Γ t)
    part P Γ u t m l h = always_more P (RefusalIsShown Δ Γ u) P (RefusalIsShown Δ Γ t) m (λ x y. y) (λ r y. wider Γ u t r l y) h

    part_under : {A : Type 0} (P : A → Type 0) (Γ : Ctx) (D u t : Term) (m : Run A) → depth u < depth t → Always m P (RefusalIsShown Δ (Γ ▹ D) u) → Always m P (RefusalIsShown Δ Γ t)
    part_under P Γ D u t m l h = always_more P (RefusalIsShown Δ (Γ ▹ D) u) P (RefusalIsShown Δ Γ t) m (λ x y. y) (λ r y. under Γ D u t r l y) h

    case_shown : (Γ : Ctx) (t : Term) → Stands Γ → IsScopedAt Δ (count Γ) t → Always (infer_case Δ f Γ t) (IsScopedAt Δ (count Γ)) (RefusalIsShown Δ Γ t)
    unfolding Stands AreParts
    case_shown Γ (Srt star) w k = always_pure (IsScopedAt Δ (count Γ)) (RefusalIsShown Δ Γ Star) Square (tt, tt)
    case_shown Γ (Srt square) w k = always_refuse (IsScopedAt Δ (count Γ)) (RefusalIsShown Δ Γ Square) (NotType (count Γ) Square) (here Γ Square (NotType (count Γ) Square) (tt, tt) refl)
    case_shown Γ (Var i) w k = go (type_at Γ i) refl
      where
        go : (o : Option Term) → type_at Γ i ≡ o → Always (or_not_type Γ (Var i) o) (IsScopedAt Δ (count Γ)) (RefusalIsShown Δ Γ (Var i))
        go None e = always_refuse (IsScopedAt Δ (count Γ)) (RefusalIsShown Δ Γ (Var i)) (NotType (count Γ) (Var i)) (here Γ (Var i) (NotType (count Γ) (Var i)) k refl)
        go (Some T) e = always_pure (IsScopedAt Δ (count Γ)) (RefusalIsShown Δ Γ (Var i)) T (entry_scoped Γ i T w e)
    case_shown Γ (App g a) w k =
        let P : Term → Type 0 = IsScopedAt Δ (count Γ) in
        let t : Term = App g a in
        let Q : Refusal → Type 0 = RefusalIsShown Δ Γ t in
        let kg : P g = (k.0.0, k.1.0) in
        let ka : P a = (k.0.1, k.1.1) in
        let lg : depth g ≤ depth t = let x = max_left (depth g) (depth a) in omega (arith, x) in
        let la : depth a ≤ depth t = let x = max_right (depth g) (depth a) in omega (arith, x) in
        always_bind P P Q _ _ (part P Γ g t _ lg (hf Γ g w kg)) (λ F l. always_bind (AreParts Γ) P Q _ _ (product_shown Γ t g F w kg l) (λ p q. always_bind P P Q _ _ (part P Γ a t _ la (hf Γ a w ka)) (λ U s. always_then (λ _. Unit {0}) P Q _ _ (fit_shown Γ t U p.0 s q.0) (always_pure P Q _ (one_put_in Δ (count Γ) a p.1 ka q.1)))))
    case_shown Γ (Lam A M) w k =
        let P : Term → Type 0 = IsScopedAt Δ (count Γ) in
        let t : Term = Lam A M in
        let Q : Refusal → Type 0 = RefusalIsShown Δ Γ t in
        let kA : P A = (k.0.0, k.1.0) in
        let lA : depth A ≤ depth t = let x = max_left (depth A) (depth M) in omega (arith, x) in
        let lM : depth M < depth t = let x = max_right (depth A) (depth M) in omega (arith, x) in
        always_then (λ _. Unit {0}) P Q _ _ (part (λ _. Unit {0}) Γ A t _ lA (sort_shown Γ A w kA)) (always_bind (IsScopedAt Δ (suc (count Γ))) P Q _ _ (part_under (IsScopedAt Δ (suc (count Γ))) Γ A M t _ lM (hf (Γ ▹ A) M ((w.0, kA.0), (w.1, kA.1)) (k.0.1, k.1.1))) (λ B l. lam_shown Γ A M B kA l))
    case_shown Γ (Pi A B) w k =
        let P : Term → Type 0 = IsScopedAt Δ (count Γ) in
        let t : Term = Pi A B in
        let Q : Refusal → Type 0 = RefusalIsShown Δ Γ t in
        let kA : P A = (k.0.0, k.1.0) in
        let lA : depth A ≤ depth t = let x = max_left (depth A) (depth B) in omega (arith, x) in
        let lB : depth B < depth t = let x = max_right (depth A) (depth B) in omega (arith, x) in
        always_then (λ _. Unit {0}) P Q _ _ (part (λ _. Unit {0}) Γ A t _ lA (sort_shown Γ A w kA)) (always_bind (λ _. Unit {0}) P Q _ _ (part_under (λ _. Unit {0}) Γ A B t _ lB (sort_shown (Γ ▹ A) B ((w.0, kA.0), (w.1, kA.1)) (k.0.1, k.1.1))) (λ s _. always_pure P Q (Srt s) (tt, tt)))
    case_shown Γ (Con h us) w k = item_shown Γ h us (item_of h Δ) w k refl

  deep_shown : (g : ℕ) (Γ : Ctx) (t : Term) → Stands Γ → IsScopedAt Δ (count Γ) t → Always (infer_deep Δ g Γ t) (IsScopedAt Δ (count Γ)) (RefusalIsShown Δ Γ t)
  deep_shown zero Γ t w k = λ n. tt
  deep_shown (suc g) Γ t w k = always_spend (IsScopedAt Δ (count Γ)) (RefusalIsShown Δ Γ t) _ (case_shown (λ G u. infer_deep Δ g G u) (λ G u x y. deep_shown g G u x y) Γ t w k)

  infer_shown : (Γ : Ctx) (t : Term) → Stands Γ → IsScopedAt Δ (count Γ) t → Always (infer Δ Γ t) (IsScopedAt Δ (count Γ)) (RefusalIsShown Δ Γ t)
  infer_shown Γ t w k n = deep_shown n Γ t w k n

-- of a context and an environment that are scoped
pub always_infer : (Δ : Env) (Γ : Ctx) (t : Term) → AreScoped Δ Γ → IsScoped Δ Γ t → Always (infer Δ Γ t) (IsScoped Δ Γ) (RefusalIsShown Δ Γ t)
unfolding Stands
always_infer Δ Γ t s k = infer_shown Δ s.items Γ t (s.entries, s.entries_known) k

pub always_infer_sort : (Δ : Env) (Γ : Ctx) (t : Term) → AreScoped Δ Γ → IsScoped Δ Γ t → Always (infer_sort Δ Γ t) (λ _. Unit {0}) (RefusalIsShown Δ Γ t)
unfolding Stands
always_infer_sort Δ Γ t s k = sort_shown Δ s.items (infer Δ) (infer_shown Δ s.items) Γ t (s.entries, s.entries_known) k

pub inference_is_scoped : InferenceIsScoped
inference_is_scoped Δ Γ t T n left s k e = transport (Holds (IsScoped Δ Γ) (RefusalIsShown Δ Γ t)) e (always_infer Δ Γ t s k n)

pub refusals_are_scoped : RefusalsAreScoped
refusals_are_scoped Δ Γ t r n left s k e = transport (Holds (IsScoped Δ Γ) (RefusalIsShown Δ Γ t)) e (always_infer Δ Γ t s k n)

pub sort_refusals_are_scoped : SortRefusalsAreScoped
sort_refusals_are_scoped Δ Γ t r n left s k e = transport (Holds (λ _. Unit {0}) (RefusalIsShown Δ Γ t)) e (always_infer_sort Δ Γ t s k n)
