-- Conversion level by level: the bound on the levels makes no difference, and the fuel law.
use Rattle.std.proofs.Common.{◌≡◌, ℕ, zero, suc, ◌≤◌, List, [], ◌∷◌, Bool, true, false, refl, ap, ◌∙◌, arith}
use Rattle.ld_trees.specs.Term.{Term, same}
use Rattle.ld_rules.specs.Environment.{Env}
use Rattle.conversion.specs.Runs.{OutOfFuel, Run, pure, choose}
use Rattle.conversion.specs.Conversion.{alike, are_twins, both, part_pairs, convert_each, conv_step, conv_deep, conv}
use Rattle.conversion.specs.Laws.{ConversionHasFuelLaw, ConversionUnfolds}
use Rattle.conversion.proofs.Runs.{Lawful, lawful_pure, lawful_spend, lawful_bind, lawful_choose, lawful_depth, Below, below_spend, below_choose, below_bind, below_same, fuel_law}
use Rattle.conversion.proofs.Heads.{lawful_whnf}

-- Conversion at a fixed depth.
pub lawful_both : (m k : Run Bool) → Lawful m → Lawful k → Lawful (both m k)
lawful_both m k h l = lawful_bind m (λ b. choose b k (pure false)) h (λ b. lawful_choose b k (pure false) l (lawful_pure false))

lawful_each : (c : Term → Term → Run Bool) → ((a b : Term) → Lawful (c a b)) → (ps : List (Term × Term)) → Lawful (convert_each c ps)
lawful_each c h [] = lawful_pure true
lawful_each c h (p ∷ ps) = lawful_both _ _ (h p.0 p.1) (lawful_each c h ps)

lawful_conv_step : (Δ : Env) (c : Term → Term → Run Bool) → ((a b : Term) → Lawful (c a b)) → (a b : Term) → Lawful (conv_step Δ c a b)
lawful_conv_step Δ c h a b =
    lawful_choose (same a b) _ _ (lawful_pure true) (lawful_spend _ (lawful_bind _ _ (lawful_choose (are_twins Δ a b) _ _ (lawful_each c h (part_pairs a b)) (lawful_pure false)) (λ done. lawful_choose done _ _ (lawful_pure true) (lawful_bind _ _ (lawful_whnf Δ a) (λ a'. lawful_bind _ _ (lawful_whnf Δ b) (λ b'. lawful_choose (alike a' b') _ _ (lawful_each c h (part_pairs a' b')) (lawful_pure false)))))))

lawful_conv_deep : (Δ : Env) (g : ℕ) (a b : Term) → Lawful (conv_deep Δ g a b)
lawful_conv_deep Δ zero = lawful_conv_step Δ (λ a b n. OutOfFuel) (λ a b n. tt)
lawful_conv_deep Δ (suc g) = lawful_conv_step Δ (λ a b. conv_deep Δ g a b) (lawful_conv_deep Δ g)

below_both : (u : ℕ) (m m' k k' : Run Bool) → Lawful m → Below u m m' → Below u k k' → Below u (both m k) (both m' k')
below_both u m m' k k' lm h l = below_bind u m m' _ _ lm h (λ b. below_choose u b k k' (pure false) (pure false) l (below_same u _))

module _ (u : ℕ) (c d : Term → Term → Run Bool) (lc : (a b : Term) → Lawful (c a b)) (h : (a b : Term) → Below u (c a b) (d a b)) where
  below_each : (ps : List (Term × Term)) → Below u (convert_each c ps) (convert_each d ps)
  below_each [] = below_same u _
  below_each (p ∷ ps) = below_both u _ _ _ _ (lc p.0 p.1) (h p.0 p.1) (below_each ps)

  below_step : (Δ : Env) (a b : Term) → Below (suc u) (conv_step Δ c a b) (conv_step Δ d a b)
  below_step Δ a b =
      below_choose (suc u) (same a b) _ _ _ _ (below_same (suc u) _) (below_spend u _ _ (below_bind u _ _ _ _ (lawful_choose (are_twins Δ a b) _ _ (lawful_each c lc (part_pairs a b)) (lawful_pure false)) (below_choose u (are_twins Δ a b) _ _ _ _ (below_each (part_pairs a b)) (below_same u _)) (λ done. below_choose u done _ _ _ _ (below_same u _) (below_bind u _ _ _ _ (lawful_whnf Δ a) (below_same u _) (λ a'. below_bind u _ _ _ _ (lawful_whnf Δ b) (below_same u _) (λ b'. below_choose u (alike a' b') _ _ _ _ (below_each (part_pairs a' b')) (below_same u _)))))))

-- what a conversion at depth g makes of its parts
abbrev parts_at : Env → ℕ → Term → Term → Run Bool
parts_at Δ zero = λ a b n. OutOfFuel
parts_at Δ (suc g) = λ a b. conv_deep Δ g a b

lawful_parts_at : (Δ : Env) (g : ℕ) (a b : Term) → Lawful (parts_at Δ g a b)
lawful_parts_at Δ zero a b = λ n. tt
lawful_parts_at Δ (suc g) a b = lawful_conv_deep Δ g a b

deep_step : (Δ : Env) (g : ℕ) (a b : Term) → conv_deep Δ g a b ≡ conv_step Δ (parts_at Δ g) a b
deep_step Δ zero a b = refl
deep_step Δ (suc g) a b = refl

-- the bound on depth makes no difference to fewer units
below_deep : (Δ : Env) (u g k : ℕ) (a b : Term) → u ≤ suc g → u ≤ suc k → Below u (conv_deep Δ g a b) (conv_deep Δ k a b)
below_deep Δ zero g k a b p q = λ n l. absurd (omega arith)
below_deep Δ (suc u) zero zero a b p q = below_same _ _
below_deep Δ (suc u) zero (suc k) a b p q = below_step u (parts_at Δ 0) (parts_at Δ (suc k)) (lawful_parts_at Δ 0) (λ a b n l. absurd (omega arith)) Δ a b
below_deep Δ (suc u) (suc g) zero a b p q = below_step u (parts_at Δ (suc g)) (parts_at Δ 0) (lawful_parts_at Δ (suc g)) (λ a b n l. absurd (omega arith)) Δ a b
below_deep Δ (suc u) (suc g) (suc k) a b p q = below_step u (parts_at Δ (suc g)) (parts_at Δ (suc k)) (lawful_parts_at Δ (suc g)) (λ a b. below_deep Δ u g k a b (omega arith) (omega arith)) Δ a b

conv_parts_at : (Δ : Env) (n : ℕ) (a b : Term) → Below n (parts_at Δ n a b) (conv Δ a b)
conv_parts_at Δ zero a b v l = absurd (omega arith)
conv_parts_at Δ (suc g) a b v l = below_deep Δ (suc v) g v a b (omega arith) (omega arith) v (omega arith)

-- conversion, in terms of itself
pub conv_is : ConversionUnfolds
conv_is Δ a b n =
    ap (λ m. m n) (deep_step Δ n a b) ∙ below_step n _ _ (lawful_parts_at Δ n) (conv_parts_at Δ n) Δ a b n (omega arith)

pub lawful_conv : (Δ : Env) (a b : Term) → Lawful (conv Δ a b)
lawful_conv Δ a b = lawful_depth (λ g. conv_deep Δ g a b) (λ g. lawful_conv_deep Δ g a b) (λ u g k p q. below_deep Δ u g k a b p q)

pub conv_has_fuel_law : ConversionHasFuelLaw
conv_has_fuel_law Δ a b = fuel_law (conv Δ a b) (lawful_conv Δ a b)
