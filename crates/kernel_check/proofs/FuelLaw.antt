-- The fuel law of inference, and inference in terms of itself.
use Rattle.std.proofs.Common.{◌≡◌, ℕ, zero, suc, ◌≤◌, nat_eq, Option, Some, None, refl, ap, arith}
use Rattle.ld_trees.specs.Term.{star, square, Head, Term, Srt, Var, App, Lam, Pi, Con, Terms, none, ◌▹◌, Square, count, same}
use Rattle.ld_rules.specs.Environment.{Ctx, type_at, Item, Env, item_of}
use Rattle.conversion.specs.Runs.{Refusal, Run, spend, ◌>>◌, other_refusal, or_refuse}
use Rattle.conversion.specs.Laws.{FuelLaw}
use Rattle.conversion.proofs.Runs.{Lawful, lawful_pure, lawful_refuse, lawful_spend, lawful_bind, lawful_choose, lawful_or_refuse, Below, below_spend, below_choose, below_bind, below_same, lawful_depth, fuel_law}
use Rattle.conversion.proofs.Heads.{lawful_whnf}
use Rattle.conversion.proofs.Levels.{lawful_conv}
use Rattle.kernel_check.specs.Inference.{Infers, star_or, sort_in, sort_of, checked_product, product_form, fit, or_not_type, lam_type, infer_all, infer_item, infer_case, infer_deep, infer, infer_sort}

pub below_or_refuse : {A : Type 0} (u : ℕ) (m k : Run A) (q : Refusal) → Below u m k → Below u (or_refuse m q) (or_refuse k q)
below_or_refuse u m k q h n l = ap (other_refusal q) (h n l)

pub lawful_then : {A B : Type 0} (m : Run A) (k : Run B) → Lawful m → Lawful k → Lawful (m >> k)
lawful_then m k lm lk = lawful_bind m (λ x. k) lm (λ x. lk)

pub below_then : {A B : Type 0} (u : ℕ) (m m' : Run A) (k k' : Run B) → Lawful m → Below u m m' → Below u k k' → Below u (m >> k) (m' >> k')
below_then u m m' k k' lm h l = below_bind u m m' (λ x. k) (λ x. k') lm h (λ x. l)

lawful_star_or : (Γ : Ctx) (t T : Term) → Lawful (star_or Γ t T)
lawful_star_or Γ t (Srt star) = lawful_pure star
lawful_star_or Γ t _ = lawful_refuse _

pub lawful_sort_in : (Δ : Env) (Γ : Ctx) (t T : Term) → Lawful (sort_in Δ Γ t T)
lawful_sort_in Δ Γ t (Srt s) = lawful_pure s
lawful_sort_in Δ Γ t _ = lawful_bind _ _ (lawful_whnf Δ _) (λ T'. lawful_star_or Γ t T')

lawful_fit : (Δ : Env) (Γ : Ctx) (a b : Term) → Lawful (fit Δ Γ a b)
lawful_fit Δ Γ a b = lawful_bind _ _ (lawful_conv Δ a b) (λ x. lawful_choose x _ _ (lawful_pure tt) (lawful_refuse _))

lawful_or_not_type : (Γ : Ctx) (t : Term) (o : Option Term) → Lawful (or_not_type Γ t o)
lawful_or_not_type Γ t (Some T) = lawful_pure T
lawful_or_not_type Γ t None = lawful_refuse _

pub lawful_lam_type : (Γ : Ctx) (A B : Term) → Lawful (lam_type Γ A B)
lawful_lam_type Γ A (Srt square) = lawful_refuse _
lawful_lam_type Γ A _ = lawful_pure _

module _ (Δ : Env) (f : Infers) (lf : (Γ : Ctx) (t : Term) → Lawful (f Γ t)) where
  pub lawful_sort_of : (Γ : Ctx) (t : Term) → Lawful (sort_of Δ f Γ t)
  lawful_sort_of Γ t = lawful_bind _ _ (lf Γ t) (λ T. lawful_sort_in Δ Γ t T)

  lawful_checked : (Γ : Ctx) (t F F' : Term) → Lawful (checked_product Δ f Γ t F F')
  lawful_checked Γ t F (Pi A B) =
      lawful_choose (same F (Pi A B)) _ _ (lawful_pure (A, B)) (lawful_then _ _ (lawful_or_refuse _ _ (lawful_sort_of Γ (Pi A B))) (lawful_pure (A, B)))
  lawful_checked Γ t F _ = lawful_refuse _

  lawful_product_form : (Γ : Ctx) (t F : Term) → Lawful (product_form Δ f Γ t F)
  lawful_product_form Γ t F = lawful_bind _ _ (lawful_whnf Δ F) (λ F'. lawful_checked Γ t F F')

  lawful_infer_all : (Γ : Ctx) (us ps : Terms) → Lawful (infer_all Δ f Γ us ps)
  lawful_infer_all Γ (us ▹ u) (ps ▹ P) =
      lawful_then _ _ (lawful_infer_all Γ us ps) (lawful_bind _ _ (lf Γ u) (λ U. lawful_fit Δ Γ U _))
  lawful_infer_all Γ none ps = lawful_pure tt
  lawful_infer_all Γ (us ▹ u) none = lawful_pure tt

  lawful_infer_item : (Γ : Ctx) (h : Head) (us : Terms) (o : Option Item) → Lawful (infer_item Δ f Γ h us o)
  lawful_infer_item Γ h us None = lawful_refuse _
  lawful_infer_item Γ h us (Some d) =
      lawful_choose (nat_eq (count us) (count d.params)) _ _ (lawful_then _ _ (lawful_infer_all Γ us d.params) (lawful_pure _)) (lawful_refuse _)

  lawful_infer_case : (Γ : Ctx) (t : Term) → Lawful (infer_case Δ f Γ t)
  lawful_infer_case Γ (Srt star) = lawful_pure Square
  lawful_infer_case Γ (Srt square) = lawful_refuse _
  lawful_infer_case Γ (Var i) = lawful_or_not_type Γ (Var i) (type_at Γ i)
  lawful_infer_case Γ (App g a) =
      lawful_bind _ _ (lf Γ g) (λ F. lawful_bind _ _ (lawful_product_form Γ g F) (λ (A, B). lawful_bind _ _ (lf Γ a) (λ A'. lawful_then _ _ (lawful_fit Δ Γ A' A) (lawful_pure _))))
  lawful_infer_case Γ (Lam A M) =
      lawful_then _ _ (lawful_sort_of Γ A) (lawful_bind _ _ (lf (Γ ▹ A) M) (λ B. lawful_lam_type Γ A B))
  lawful_infer_case Γ (Pi A B) =
      lawful_then _ _ (lawful_sort_of Γ A) (lawful_bind _ _ (lawful_sort_of (Γ ▹ A) B) (λ s. lawful_pure (Srt s)))
  lawful_infer_case Γ (Con h us) = lawful_infer_item Γ h us (item_of h Δ)

pub lawful_infer_deep : (Δ : Env) (g : ℕ) (Γ : Ctx) (t : Term) → Lawful (infer_deep Δ g Γ t)
lawful_infer_deep Δ zero Γ t = λ n. tt
lawful_infer_deep Δ (suc g) Γ t = lawful_spend _ (lawful_infer_case Δ (λ G u. infer_deep Δ g G u) (λ G u. lawful_infer_deep Δ g G u) Γ t)

module _ (Δ : Env) (u : ℕ) (f k : Infers) (lf : (Γ : Ctx) (t : Term) → Lawful (f Γ t)) (h : (Γ : Ctx) (t : Term) → Below u (f Γ t) (k Γ t)) where
  below_sort_of : (Γ : Ctx) (t : Term) → Below u (sort_of Δ f Γ t) (sort_of Δ k Γ t)
  below_sort_of Γ t = below_bind u _ _ _ _ (lf Γ t) (h Γ t) (λ T. below_same u _)

  below_checked : (Γ : Ctx) (t F F' : Term) → Below u (checked_product Δ f Γ t F F') (checked_product Δ k Γ t F F')
  below_checked Γ t F (Pi A B) =
      below_choose u (same F (Pi A B)) _ _ _ _ (below_same u _) (below_then u _ _ _ _ (lawful_or_refuse _ _ (lawful_sort_of Δ f lf Γ (Pi A B))) (below_or_refuse u _ _ _ (below_sort_of Γ (Pi A B))) (below_same u _))
  below_checked Γ t F _ = below_same u _

  below_product_form : (Γ : Ctx) (t F : Term) → Below u (product_form Δ f Γ t F) (product_form Δ k Γ t F)
  below_product_form Γ t F = below_bind u _ _ _ _ (lawful_whnf Δ F) (below_same u _) (λ F'. below_checked Γ t F F')

  below_infer_all : (Γ : Ctx) (us ps : Terms) → Below u (infer_all Δ f Γ us ps) (infer_all Δ k Γ us ps)
  below_infer_all Γ (us ▹ x) (ps ▹ P) =
      below_then u _ _ _ _ (lawful_infer_all Δ f lf Γ us ps) (below_infer_all Γ us ps) (below_bind u _ _ _ _ (lf Γ x) (h Γ x) (λ U. below_same u _))
  below_infer_all Γ none ps = below_same u _
  below_infer_all Γ (us ▹ x) none = below_same u _

  below_infer_item : (Γ : Ctx) (c : Head) (us : Terms) (o : Option Item) → Below u (infer_item Δ f Γ c us o) (infer_item Δ k Γ c us o)
  below_infer_item Γ c us None = below_same u _
  below_infer_item Γ c us (Some d) =
      below_choose u (nat_eq (count us) (count d.params)) _ _ _ _ (below_then u _ _ _ _ (lawful_infer_all Δ f lf Γ us d.params) (below_infer_all Γ us d.params) (below_same u _)) (below_same u _)

  below_infer_case : (Γ : Ctx) (t : Term) → Below u (infer_case Δ f Γ t) (infer_case Δ k Γ t)
  below_infer_case Γ (Srt star) = below_same u _
  below_infer_case Γ (Srt square) = below_same u _
  below_infer_case Γ (Var i) = below_same u _
  below_infer_case Γ (App g a) =
      below_bind u _ _ _ _ (lf Γ g) (h Γ g) (λ F. below_bind u _ _ _ _ (lawful_product_form Δ f lf Γ g F) (below_product_form Γ g F) (λ (A, B). below_bind u _ _ _ _ (lf Γ a) (h Γ a) (λ A'. below_same u _)))
  below_infer_case Γ (Lam A M) =
      below_then u _ _ _ _ (lawful_sort_of Δ f lf Γ A) (below_sort_of Γ A) (below_bind u _ _ _ _ (lf (Γ ▹ A) M) (h (Γ ▹ A) M) (λ B. below_same u _))
  below_infer_case Γ (Pi A B) =
      below_then u _ _ _ _ (lawful_sort_of Δ f lf Γ A) (below_sort_of Γ A) (below_bind u _ _ _ _ (lawful_sort_of Δ f lf (Γ ▹ A) B) (below_sort_of (Γ ▹ A) B) (λ s. below_same u _))
  below_infer_case Γ (Con c us) = below_infer_item Γ c us (item_of c Δ)

-- the bound on depth makes no difference to fewer units
below_infer : (Δ : Env) (u g k : ℕ) (Γ : Ctx) (t : Term) → u ≤ suc g → u ≤ suc k → Below u (infer_deep Δ g Γ t) (infer_deep Δ k Γ t)
below_infer Δ zero g k Γ t p q = λ n l. absurd (omega arith)
below_infer Δ (suc u) zero zero Γ t p q = below_same _ _
below_infer Δ (suc u) zero (suc k) Γ t p q = elim [ zero ↦ λ l. refl | suc n ↦ λ l. absurd (omega arith) ]
below_infer Δ (suc u) (suc g) zero Γ t p q = elim [ zero ↦ λ l. refl | suc n ↦ λ l. absurd (omega arith) ]
below_infer Δ (suc u) (suc g) (suc k) Γ t p q =
    below_spend u _ _ (below_infer_case Δ u (λ G x. infer_deep Δ g G x) (λ G x. infer_deep Δ k G x) (λ G x. lawful_infer_deep Δ g G x) (λ G x. below_infer Δ u g k G x (omega arith) (omega arith)) Γ t)

-- inference, in terms of itself
pub infer_is : (Δ : Env) (Γ : Ctx) (t : Term) (n : ℕ) → infer Δ Γ t n ≡ (spend >> infer_case Δ (infer Δ) Γ t) n
infer_is Δ Γ t zero = refl
infer_is Δ Γ t (suc n) =
    below_infer_case Δ (suc n) (λ G x. infer_deep Δ n G x) (infer Δ) (λ G x. lawful_infer_deep Δ n G x) (λ G x v l. below_infer Δ (suc v) n v G x (omega arith) (omega arith) v (omega arith)) Γ t n (omega arith)

pub lawful_infer : (Δ : Env) (Γ : Ctx) (t : Term) → Lawful (infer Δ Γ t)
lawful_infer Δ Γ t = lawful_depth (λ g. infer_deep Δ g Γ t) (λ g. lawful_infer_deep Δ g Γ t) (λ u g k p q. below_infer Δ u g k Γ t p q)

pub lawful_infer_sort : (Δ : Env) (Γ : Ctx) (t : Term) → Lawful (infer_sort Δ Γ t)
lawful_infer_sort Δ Γ t = lawful_sort_of Δ (infer Δ) (lawful_infer Δ) Γ t

pub inference_has_fuel_law : (Δ : Env) (Γ : Ctx) (t : Term) → FuelLaw (infer Δ Γ t)
inference_has_fuel_law Δ Γ t = fuel_law (infer Δ Γ t) (lawful_infer Δ Γ t)

pub sort_has_fuel_law : (Δ : Env) (Γ : Ctx) (t : Term) → FuelLaw (infer_sort Δ Γ t)
sort_has_fuel_law Δ Γ t = fuel_law (infer_sort Δ Γ t) (lawful_infer_sort Δ Γ t)
