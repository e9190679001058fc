-- What is inferred is derived.
use Rattle.std.proofs.Common.{◌≡◌, ℕ, zero, suc, true, nat_eq, Option, Some, None, refl, arith, inl, inr, subst as transport}
use Rattle.std.proofs.lemmas.Bool.{eqb-true}
use Rattle.ld_trees.specs.Term.{Sort, star, square, Head, Term, Srt, Var, App, Lam, Pi, Con, Terms, none, ◌▹◌, Star, Square, count, same}
use Rattle.ld_trees.specs.Substitution.{subst_all}
use Rattle.ld_trees.proofs.Equality.{same_decides}
use Rattle.ld_rules.specs.Environment.{Ctx, type_at, Item, Env, item_of}
use Rattle.ld_rules.specs.Reduction.{Equal}
use Rattle.ld_rules.specs.Derivation.{Derives, weak, form, appl, abst, inst, Fits, no_argument, argument, conv as by_conv}
use Rattle.ld_rules.specs.Legality.{IsLegal, IsValid}
use Rattle.ld_rules.proofs.SubstitutionLemma.{legal}
use Rattle.ld_rules.proofs.Entries.{last, entry_derives, substitute_arguments}
use Rattle.ld_rules.proofs.Validity.{valid, product}
use Rattle.ld_rules.proofs.Environments.{item_legal, legal_environment}
use Rattle.conversion.specs.Runs.{Gave}
use Rattle.conversion.proofs.Values.{Ensures, ensures_pure, ensures_refuse, ensures_spend, ensures_choose, ensures_bind, ensures_or_refuse, ensures_less}
use Rattle.conversion.proofs.Soundness.{ensures_whnf, conv_sound}
use Rattle.kernel_check.specs.Inference.{Infers, star_or, sort_in, sort_of, checked_product, product_form, fit, or_not_type, lam_type, infer_all, infer_item, infer_case, infer_deep, infer, infer_sort}

module _ (Δ : Env) where
  Sorted : Ctx → Term → Sort → Type 0
  Sorted Γ t s = Derives Δ Γ t (Srt s)

  star_sound : (Γ : Ctx) (t T : Term) → (T ≡ Star → Derives Δ Γ t Star) → Ensures (star_or Γ t T) (Sorted Γ t)
  unfolding Sorted
  star_sound Γ t (Srt star) h = ensures_pure (Sorted Γ t) star (h refl)
  star_sound Γ t _ h = ensures_refuse (Sorted Γ t) _

  sort_in_sound : (Γ : Ctx) (t T : Term) → Derives Δ Γ t T → Ensures (sort_in Δ Γ t T) (Sorted Γ t)
  unfolding Sorted
  sort_in_sound Γ t (Srt s) d = ensures_pure (Sorted Γ t) s d
  sort_in_sound Γ t T d =
      ensures_bind (λ x. Equal Δ T x) (Sorted Γ t) _ _ (ensures_whnf Δ T) (λ T' e. star_sound Γ t T' (λ q. by_conv d (legal d) (transport (Equal Δ T) q e)))

  -- found and wanted are equal
  fit_sound : (Γ : Ctx) (a b : Term) → Ensures (fit Δ Γ a b) (λ _. Equal Δ a b)
  fit_sound Γ a b =
      ensures_bind (λ x. x ≡ true → Equal Δ a b) (λ _. Equal Δ a b) _ _ (conv_sound Δ a b) (λ x h. ensures_choose (λ _. Equal Δ a b) x _ _ (λ e. ensures_pure (λ _. Equal Δ a b) tt (h e)) (λ e. ensures_refuse (λ _. Equal Δ a b) _))

  -- a valid type that is a product has a domain with a sort
  domain_sorted : {Γ : Ctx} {t A B : Term} → Derives Δ Γ t (Pi A B) → (s : Sort) × Derives Δ Γ A (Srt s)
  domain_sorted {Γ} {t} {A} {B} d = go (valid d)
    where
      go : IsValid Δ Γ (Pi A B) → (s : Sort) × Derives Δ Γ A (Srt s)
      go (inl e) = absurd cc
      go (inr h) = let p = product h.1 in (p.0, p.2)

  module _ (f : Infers) (hf : (Γ : Ctx) (t : Term) → Derives Δ Γ Star Square → Ensures (f Γ t) (λ T. Derives Δ Γ t T)) where
    sort_sound : (Γ : Ctx) (t : Term) → Derives Δ Γ Star Square → Ensures (sort_of Δ f Γ t) (Sorted Γ t)
    sort_sound Γ t ok = ensures_bind (λ T. Derives Δ Γ t T) (Sorted Γ t) _ _ (hf Γ t ok) (λ T d. sort_in_sound Γ t T d)

    IsProductOf : Ctx → Term → Term × Term → Type 0
    IsProductOf Γ t p = Derives Δ Γ t (Pi p.0 p.1)

    checked_sound : (Γ : Ctx) (t F F' : Term) → Derives Δ Γ t F → Equal Δ F F' → Ensures (checked_product Δ f Γ t F F') (IsProductOf Γ t)
    unfolding IsProductOf Sorted
    checked_sound Γ t F (Pi A B) d e =
        ensures_choose (IsProductOf Γ t) (same F (Pi A B)) _ _ (λ q. ensures_pure (IsProductOf Γ t) (A, B) (transport (Derives Δ Γ t) ((same_decides F (Pi A B)).0 q) d)) (λ q. ensures_bind (Sorted Γ (Pi A B)) (IsProductOf Γ t) _ _ (ensures_or_refuse (Sorted Γ (Pi A B)) _ _ (sort_sound Γ (Pi A B) (legal d))) (λ s h. ensures_pure (IsProductOf Γ t) (A, B) (by_conv d h e)))
    checked_sound Γ t F _ d e = ensures_refuse (IsProductOf Γ t) _

    product_sound : (Γ : Ctx) (t F : Term) → Derives Δ Γ t F → Ensures (product_form Δ f Γ t F) (IsProductOf Γ t)
    product_sound Γ t F d = ensures_bind (λ x. Equal Δ F x) (IsProductOf Γ t) _ _ (ensures_whnf Δ F) (λ F' e. checked_sound Γ t F F' d e)

    lam_sound : (Γ : Ctx) (A M B : Term) (s : Sort) → Derives Δ Γ A (Srt s) → Derives Δ (Γ ▹ A) M B → Ensures (lam_type Γ A B) (λ T. Derives Δ Γ (Lam A M) T)
    lam_sound Γ A M (Srt square) s a d = ensures_refuse _ _
    lam_sound Γ A M B s a d = ensures_pure (λ T. Derives Δ Γ (Lam A M) T) (Pi A B) (go (valid d))
      where
        go : IsValid Δ (Γ ▹ A) B → Derives Δ Γ (Lam A M) (Pi A B)
        go (inl e) = absurd cc
        go (inr h) = abst d (form a h.1)

    all_sound : (Γ : Ctx) (us ps : Terms) → Derives Δ Γ Star Square → Derives Δ ps Star Square → count us ≡ count ps → Ensures (infer_all Δ f Γ us ps) (λ _. Fits Δ Γ us ps)
    all_sound Γ none none ok lp n = ensures_pure (λ _. Fits Δ Γ none none) tt no_argument
    all_sound Γ none (ps ▹ P) ok lp n = absurd (omega arith)
    all_sound Γ (us ▹ u) none ok lp n = absurd (omega arith)
    all_sound Γ (us ▹ u) (ps ▹ P) ok lp n =
        let p = last lp in
        ensures_bind (λ _. Fits Δ Γ us ps) (λ _. Fits Δ Γ (us ▹ u) (ps ▹ P)) _ _ (all_sound Γ us ps ok (legal p.1) (omega arith)) (λ _ d. ensures_bind (λ U. Derives Δ Γ u U) (λ _. Fits Δ Γ (us ▹ u) (ps ▹ P)) _ _ (hf Γ u ok) (λ U e. ensures_less (λ _. Equal Δ U (subst_all us P)) (λ _. Fits Δ Γ (us ▹ u) (ps ▹ P)) _ (λ _ q. argument d (by_conv e (substitute_arguments ok p.1 d) q)) (fit_sound Γ U (subst_all us P))))

    item_sound : (Γ : Ctx) (h : Head) (us : Terms) (o : Option Item) → Derives Δ Γ Star Square → item_of h Δ ≡ o → Ensures (infer_item Δ f Γ h us o) (λ T. Derives Δ Γ (Con h us) T)
    item_sound Γ h us None ok e = ensures_refuse _ _
    item_sound Γ h us (Some d) ok e =
        let P : Term → Type 0 = λ T. Derives Δ Γ (Con h us) T in
        ensures_choose P (nat_eq (count us) (count d.params)) _ _ (λ n. ensures_bind (λ _. Fits Δ Γ us d.params) P _ _ (all_sound Γ us d.params ok (item_legal Δ h d (legal_environment ok) e) (eqb-true _ _ n)) (λ _ q. ensures_pure P _ (inst d ok q e))) (λ n. ensures_refuse P _)

    case_sound : (Γ : Ctx) (t : Term) → Derives Δ Γ Star Square → Ensures (infer_case Δ f Γ t) (λ T. Derives Δ Γ t T)
    unfolding Sorted IsProductOf
    case_sound Γ (Srt star) ok = ensures_pure (λ T. Derives Δ Γ Star T) Square ok
    case_sound Γ (Srt square) ok = ensures_refuse _ _
    case_sound Γ (Var i) ok = go (type_at Γ i) refl
      where
        go : (o : Option Term) → type_at Γ i ≡ o → Ensures (or_not_type Γ (Var i) o) (λ T. Derives Δ Γ (Var i) T)
        go None e = ensures_refuse _ _
        go (Some T) e = ensures_pure (λ T. Derives Δ Γ (Var i) T) T (entry_derives Γ i T ok e)
    case_sound Γ (App g a) ok =
        let P : Term → Type 0 = λ T. Derives Δ Γ (App g a) T in
        ensures_bind (λ F. Derives Δ Γ g F) P _ _ (hf Γ g ok) (λ F d. ensures_bind (IsProductOf Γ g) P _ _ (product_sound Γ g F d) (λ p dp. ensures_bind (λ U. Derives Δ Γ a U) P _ _ (hf Γ a ok) (λ U e. ensures_bind (λ _. Equal Δ U p.0) P _ _ (fit_sound Γ U p.0) (λ _ q. ensures_pure P _ (appl dp (by_conv e (domain_sorted dp).1 q))))))
    case_sound Γ (Lam A M) ok =
        let P : Term → Type 0 = λ T. Derives Δ Γ (Lam A M) T in
        ensures_bind (Sorted Γ A) P _ _ (sort_sound Γ A ok) (λ s a. ensures_bind (λ B. Derives Δ (Γ ▹ A) M B) P _ _ (hf (Γ ▹ A) M (weak ok a)) (λ B d. lam_sound Γ A M B s a d))
    case_sound Γ (Pi A B) ok =
        let P : Term → Type 0 = λ T. Derives Δ Γ (Pi A B) T in
        ensures_bind (Sorted Γ A) P _ _ (sort_sound Γ A ok) (λ s a. ensures_bind (Sorted (Γ ▹ A) B) P _ _ (sort_sound (Γ ▹ A) B (weak ok a)) (λ z b. ensures_pure P (Srt z) (form a b)))
    case_sound Γ (Con h us) ok = item_sound Γ h us (item_of h Δ) ok refl

  deep_sound : (g : ℕ) (Γ : Ctx) (t : Term) → Derives Δ Γ Star Square → Ensures (infer_deep Δ g Γ t) (λ T. Derives Δ Γ t T)
  deep_sound zero Γ t ok = λ n k x e. absurd cc
  deep_sound (suc g) Γ t ok = ensures_spend (λ T. Derives Δ Γ t T) _ (case_sound (λ G u. infer_deep Δ g G u) (λ G u k. deep_sound g G u k) Γ t ok)

  -- in a legal environment and context what is inferred is derived
  pub infer_sound : (Γ : Ctx) (t : Term) → Derives Δ Γ Star Square → Ensures (infer Δ Γ t) (λ T. Derives Δ Γ t T)
  infer_sound Γ t ok n = deep_sound n Γ t ok n

  pub infer_sort_sound : (Γ : Ctx) (t : Term) → Derives Δ Γ Star Square → Ensures (infer_sort Δ Γ t) (λ s. Derives Δ Γ t (Srt s))
  unfolding Sorted
  infer_sort_sound Γ t ok = sort_sound (infer Δ) infer_sound Γ t ok

pub inference_is_sound : (Δ : Env) (Γ : Ctx) (t T : Term) (n left : ℕ) → IsLegal Δ Γ → infer Δ Γ t n ≡ Gave T left → Derives Δ Γ t T
inference_is_sound Δ Γ t T n left ok e = infer_sound Δ Γ t ok n left T e

pub sort_is_sound : (Δ : Env) (Γ : Ctx) (t : Term) (s : Sort) (n left : ℕ) → IsLegal Δ Γ → infer_sort Δ Γ t n ≡ Gave s left → Derives Δ Γ t (Srt s)
sort_is_sound Δ Γ t s n left ok e = infer_sort_sound Δ Γ t ok n left s e
