-- Conversion by cases of its comparisons, and that it stays the same while the store grows.
use Rattle.std.proofs.Common.{◌≡◌, ◌≢◌, ℕ, zero, suc, ◌-◌, List, [], ◌∷◌, ◌++◌, Bool, true, false, ◌&&◌, Result, Err, refl, sym, ap, ap₂, ◌∙◌, subst, arith}
use Rattle.ld_trees.proofs.Equality.{same_is, same_itself}
use Rattle.ld_terms.specs.declared.halt.Halt.{Halt}
use Rattle.ld_terms.specs.declared.halt.Halt.TheVariants.{Fuel, Memory}
use Rattle.conversion.specs.Answers.{IsAnswer}
use Rattle.conversion.proofs.PartPairs.{pairs_back_append}
use Rattle.ld_trees.specs.Term.{Term, same}
use Rattle.ld_rules.specs.Environment.{Env}
use Rattle.ld_terms.specs.Views.{Keeps}
use Rattle.ld_terms.specs.declared.globals.Item.{Item as StoredItem}
use Rattle.ld_terms.specs.declared.globals.Decl.{Decl}
use Rattle.conversion.specs.Runs.{Outcome, Gave, OutOfFuel, Run, pure, spend, go_on, ◌>>=◌, ◌>>◌, choose}
use Rattle.conversion.specs.WeakHead.{whnf}
use Rattle.conversion.specs.Conversion.{conv, alike, is_defined_at_head, part_pairs, convert_each}
use Rattle.conversion.specs.Globals.{env_of, AreGlobalsOf}
use Rattle.conversion.specs.Spines.{by_parts, by_twins, by_forms, pairs_back}
use Rattle.conversion.proofs.Levels.{conv_is}
use Rattle.conversion.proofs.Lookups.{env_kept}

-- what is left after the first comparison
abbrev after_twins : Env → Term → Term → Bool → Run Bool
after_twins Δ a b done = choose done (pure true) (by_forms Δ a b)

abbrev after_unit : Env → Term → Term → Run Bool
after_unit Δ a b = by_twins Δ a b >>= after_twins Δ a b

spent : (Δ : Env) (a b : Term) (n : ℕ) → same a b ≡ false → n ≢ 0 → conv Δ a b n ≡ after_unit Δ a b (n - 1)
spent Δ a b zero e h = absurd (h refl)
spent Δ a b (suc n) e h =
    let q : n ≡ suc n - 1 = omega arith in
    conv_is Δ a b (suc n)
    ∙ ap (λ x. choose x (pure true) (spend >> after_unit Δ a b) (suc n)) e
    ∙ ap (after_unit Δ a b) q

pub conv_same : (Δ : Env) (a b : Term) (n : ℕ) → same a b ≡ true → conv Δ a b n ≡ Gave true n
conv_same Δ a b n e = conv_is Δ a b n ∙ ap (λ x. choose x (pure true) (spend >> after_unit Δ a b) n) e

pub conv_none : (Δ : Env) (a b : Term) → same a b ≡ false → conv Δ a b 0 ≡ OutOfFuel
conv_none Δ a b e = conv_is Δ a b 0 ∙ ap (λ x. choose x (pure true) (spend >> after_unit Δ a b) 0) e

pub conv_twins_fuel : (Δ : Env) (a b : Term) (n m : ℕ) → same a b ≡ false → n ≢ 0 → m ≡ n - 1 → by_twins Δ a b m ≡ OutOfFuel → conv Δ a b n ≡ OutOfFuel
conv_twins_fuel Δ a b n m e h q p = spent Δ a b n e h ∙ ap (λ o. go_on o (after_twins Δ a b)) (ap (by_twins Δ a b) (sym q) ∙ p)

pub conv_twins_yes : (Δ : Env) (a b : Term) (n m k : ℕ) → same a b ≡ false → n ≢ 0 → m ≡ n - 1 → by_twins Δ a b m ≡ Gave true k → conv Δ a b n ≡ Gave true k
conv_twins_yes Δ a b n m k e h q p = spent Δ a b n e h ∙ ap (λ o. go_on o (after_twins Δ a b)) (ap (by_twins Δ a b) (sym q) ∙ p)

pub conv_forms : (Δ : Env) (a b : Term) (n m k : ℕ) → same a b ≡ false → n ≢ 0 → m ≡ n - 1 → by_twins Δ a b m ≡ Gave false k → conv Δ a b n ≡ by_forms Δ a b k
conv_forms Δ a b n m k e h q p = spent Δ a b n e h ∙ ap (λ o. go_on o (after_twins Δ a b)) (ap (by_twins Δ a b) (sym q) ∙ p)

-- the first comparison
pub twins_not : (Δ : Env) (a b : Term) (n : ℕ) → is_defined_at_head Δ a ≡ false → by_twins Δ a b n ≡ Gave false n
twins_not Δ a b n e = ap (λ x. choose (x && alike a b) (convert_each (conv Δ) (part_pairs a b)) (pure false) n) e

pub twins_are : (Δ : Env) (a b : Term) (n : ℕ) → is_defined_at_head Δ a ≡ true → by_twins Δ a b n ≡ by_parts Δ a b n
twins_are Δ a b n e = ap (λ x. choose (x && alike a b) (convert_each (conv Δ) (part_pairs a b)) (pure false) n) e

-- the second comparison
abbrev after_first : Env → Term → Term → Run Bool
after_first Δ b a' = whnf Δ b >>= λ b'. by_parts Δ a' b'

pub forms_first : (Δ : Env) (a b : Term) (n : ℕ) → whnf Δ a n ≡ OutOfFuel → by_forms Δ a b n ≡ OutOfFuel
forms_first Δ a b n p = ap (λ o. go_on o (after_first Δ b)) p

pub forms_second : (Δ : Env) (a b a' : Term) (n k : ℕ) → whnf Δ a n ≡ Gave a' k → whnf Δ b k ≡ OutOfFuel → by_forms Δ a b n ≡ OutOfFuel
forms_second Δ a b a' n k p q = ap (λ o. go_on o (after_first Δ b)) p ∙ ap (λ o. go_on o (λ b'. by_parts Δ a' b')) q

pub forms_both : (Δ : Env) (a b a' b' : Term) (n k j : ℕ) → whnf Δ a n ≡ Gave a' k → whnf Δ b k ≡ Gave b' j → by_forms Δ a b n ≡ by_parts Δ a' b' j
forms_both Δ a b a' b' n k j p q = ap (λ o. go_on o (after_first Δ b)) p ∙ ap (λ o. go_on o (λ b'. by_parts Δ a' b')) q

-- the comparison of parts
pub parts_differ : (Δ : Env) (a b : Term) (n : ℕ) → alike a b ≡ false → by_parts Δ a b n ≡ Gave false n
parts_differ Δ a b n e = ap (λ x. choose x (convert_each (conv Δ) (part_pairs a b)) (pure false) n) e

pub parts_each : (Δ : Env) (a b : Term) (n : ℕ) (ps : List (Term × Term)) → alike a b ≡ true → ps ≡ part_pairs a b → by_parts Δ a b n ≡ convert_each (conv Δ) ps n
parts_each Δ a b n ps e p = ap (λ x. choose x (convert_each (conv Δ) (part_pairs a b)) (pure false) n) e ∙ ap (λ qs. convert_each (conv Δ) qs n) (sym p)

-- each pair in turn
pub each_first : (c : Term → Term → Run Bool) (x y : Term) (ps : List (Term × Term)) (n k : ℕ) (b : Bool) → c x y n ≡ Gave b k → convert_each c ((x, y) ∷ ps) n ≡ choose b (convert_each c ps) (pure false) k
each_first c x y ps n k b e = ap (λ o. go_on o (λ z. choose z (convert_each c ps) (pure false))) e

pub each_fuel : (c : Term → Term → Run Bool) (x y : Term) (ps : List (Term × Term)) (n : ℕ) → c x y n ≡ OutOfFuel → convert_each c ((x, y) ∷ ps) n ≡ OutOfFuel
each_fuel c x y ps n e = ap (λ o. go_on o (λ z. choose z (convert_each c ps) (pure false))) e

pub each_turn : {H : Type 0} (means : H → Term) (c : Term → Term → Run Bool) (o : Outcome Bool) (a b : H) (ps rest : List (H × H)) (n : ℕ) → o ≡ convert_each c (pairs_back means ps) n → ps ≡ rest ++ (a, b) ∷ [] →
    o ≡ convert_each c ((means a, means b) ∷ pairs_back means rest) n
each_turn means c o a b ps rest n e p = e ∙ ap (λ qs. convert_each c qs n) (ap (pairs_back means) p ∙ pairs_back_append means rest ((a, b) ∷ []))

-- ---- answers

pub answer_is : {A B : Type 0} (value : B → A) (o o' : Outcome A) (left : ℕ) (r : Result B Halt) → o ≡ o' → IsAnswer value o' left r → IsAnswer value o left r
answer_is value o o' left r e h = subst (λ x. IsAnswer value x left r) (sym e) h

-- want of a unit in a part is want of a unit in the whole
pub passed_on : {A B C D : Type 0} (v : B → A) (w : D → C) (o : Outcome A) (o' : Outcome C) (left : ℕ) (e : Halt) → (o ≡ OutOfFuel → o' ≡ OutOfFuel) → IsAnswer v o left (Err e) → IsAnswer w o' left (Err e)
passed_on v w o o' left Fuel f h = (f h.0, h.1)
passed_on v w o o' left Memory f h = tt

-- trees that are not equal are tested not to be
pub not_same : (t u : Term) → t ≢ u → same t u ≡ false
not_same t u n = by_case (same t u) refl
  where
    by_case : (b : Bool) → same t u ≡ b → same t u ≡ false
    by_case true e = absurd (n (same_is t u e))
    by_case false e = e

pub are_same : (t u : Term) → t ≡ u → same t u ≡ true
are_same t u e = ap (same t) (sym e) ∙ same_itself t

-- in a store that has grown
pub two_kept : {H : Type 0} {A : Type 0} (f : Env → Term → Term → A) (holds : H → Type 0) (means : H → Term) (holds' : H → Type 0) (means' : H → Term) (is : List (StoredItem H)) (ds : List (Decl H)) (a b : H) →
    Keeps holds means holds' means' → AreGlobalsOf holds is ds → holds a → holds b → f (env_of means' is ds) (means' a) (means' b) ≡ f (env_of means is ds) (means a) (means b)
two_kept f holds means holds' means' is ds a b k g p q =
    ap₂ (λ x y. f (env_of means' is ds) x y) (k a p).1 (k b q).1 ∙ ap (λ Δ. f Δ (means a) (means b)) (env_kept holds means holds' means' k is ds g)
