-- The steps of unification as its calls take them.
use Rattle.std.proofs.Common.{◌≡◌, ℕ, zero, suc, ◌-◌, ◌<◌, Bool, true, false, ◌&&◌, List, Option, None, Result, Ok, Err, sym, ap, ap₂, ◌∙◌, arith, subst}
use Rattle.meta_laws.proofs.Lists.{is_false}
use Rattle.std.specs.Prelude.{IsErrAnd}
use Rattle.ld_trees.specs.Term.{Term, same}
use Rattle.ld_trees.proofs.Equality.{same_decides}
use Rattle.ld_rules.specs.Environment.{Env}
use Rattle.ld_terms.specs.declared.globals.Item.{Item}
use Rattle.ld_terms.specs.declared.globals.Decl.{Decl}
use Rattle.ld_terms.specs.declared.halt.Halt.{Halt}
use Rattle.ld_terms.specs.declared.halt.Halt.TheVariants as halt
use Rattle.conversion.specs.Globals.{env_of}
use Rattle.conversion.specs.Conversion.{alike, is_defined_at_head}
use Rattle.kernel_check.specs.declared.fault.KernelFault.{KernelFault}
use Rattle.kernel_check.specs.declared.fault.KernelFault.TheVariants as kernel
use Rattle.meta_context.specs.Plain.{rules_env}
use Rattle.unification.specs.Steps.{Gave, Refused, OutOfFuel, pure, refuse, spend, ◌>>◌, choose, or_else, retry}
use Rattle.unification.specs.Refusals.{Refusal, Kernel, Mismatch, Step, Plain}
use Rattle.unification.specs.Metavariables.{reach}
use Rattle.unification.specs.Unification.{unify, unify_each, unify_parts, unify_reduced, part_pairs}
use Rattle.unification.proofs.FuelLaws.{unify_is}
use Rattle.pattern_unify.specs.declared.fault.UnifyFault.{UnifyFault}
use Rattle.pattern_unify.specs.declared.fault.UnifyFault.TheVariants as fault
use Rattle.pattern_unify.specs.Answers.{AreRead, ShowsKernel, Shows, Answers}
use Rattle.pattern_unify.specs.Faults.{halt_fault}
use Rattle.pattern_unify.proofs.Meanings.{read_reach}
use Rattle.pattern_unify.specs.Tries.{tried, IsTried, IsGivenUp}

-- whether a constant with a body stands at the head
pub defined_read : {H : Type 0} (means : H → Term) (is : List (Item H)) (ds : List (Decl H)) (Δ : List (Item Term)) (Σ : Plain) (h : H) (A : Term) (b : Bool) → AreRead means is ds Δ Σ → means h ≡ A → b ≡ is_defined_at_head (env_of means is ds) (means h)
    → is_defined_at_head (reach (rules_env Δ) Σ) A ≡ b
defined_read means is ds Δ Σ h A b r p e = ap₂ is_defined_at_head (sym (read_reach means is ds Δ Σ r)) (sym p) ∙ sym e

module _ (Δ : Env) (Σ : Plain) (d : ℕ) (A B : Term) where
  -- what is done where the terms aren't equal trees
  abbrev goes : Step Plain
  goes = spend >> tried Δ Σ d A B (unify_reduced Δ (unify Δ) Σ d A B)

  unlike : (n : ℕ) → ¬ (A ≡ B) → unify Δ Σ d A B n ≡ goes n
  unlike n e = unify_is Δ Σ d A B n ∙ ap (λ b. choose b (pure Σ) goes n) (is_false (same A B) (λ q. e ((same_decides A B).0 q)))

  pub equal_trees : (n : ℕ) → A ≡ B → unify Δ Σ d A B n ≡ Gave Σ n
  equal_trees n e = unify_is Δ Σ d A B n ∙ ap (λ b. choose b (pure Σ) goes n) ((same_decides A B).1 e)

  pub no_unit : (n : ℕ) → ¬ (A ≡ B) → n ≡ 0 → unify Δ Σ d A B n ≡ OutOfFuel
  no_unit n e z = unlike n e ∙ ap goes z

  pub spent : (n k : ℕ) → ¬ (A ≡ B) → 0 < n → k ≡ n - 1 → unify Δ Σ d A B n ≡ tried Δ Σ d A B (unify_reduced Δ (unify Δ) Σ d A B) k
  spent zero k e l q = absurd (omega arith)
  spent (suc n) k e l q = unlike (suc n) e ∙ ap (λ j. tried Δ Σ d A B (unify_reduced Δ (unify Δ) Σ d A B) j) (let r : n ≡ k = omega arith in r)

  -- equal defined constants at the heads, or not
  abbrev parts : Step Plain
  parts = unify_each (unify Δ) Σ (part_pairs d A B)

  pub not_defined : is_defined_at_head (reach Δ Σ) A ≡ false → (n : ℕ) (next : Step Plain) → tried Δ Σ d A B next n ≡ next n
  not_defined e n next = ap (λ b. choose (b && alike A B) (or_else parts (λ r. next)) next n) e

  both_are : is_defined_at_head (reach Δ Σ) A ≡ true → (n : ℕ) (next : Step Plain) → tried Δ Σ d A B next n ≡ choose (alike A B) (or_else parts (λ r. next)) next n
  both_are e n next = ap (λ b. choose (b && alike A B) (or_else parts (λ r. next)) next n) e

  pub not_alike : is_defined_at_head (reach Δ Σ) A ≡ true → alike A B ≡ false → (n : ℕ) (next : Step Plain) → tried Δ Σ d A B next n ≡ next n
  not_alike e f n next = both_are e n next ∙ ap (λ b. choose b (or_else parts (λ r. next)) next n) f

  twins : is_defined_at_head (reach Δ Σ) A ≡ true → alike A B ≡ true → (n : ℕ) (next : Step Plain) → tried Δ Σ d A B next n ≡ retry (parts n) (λ r. next)
  twins e f n next = both_are e n next ∙ ap (λ b. choose b (or_else parts (λ r. next)) next n) f

  -- a refusal is given up
  pub given_up : {M H : Type 0} (holds : H → Type 0) (means : H → Term) (value : M → Plain) (n left : ℕ) (r : Result M (UnifyFault H)) (q : Result (Option M) Halt) →
      is_defined_at_head (reach Δ Σ) A ≡ true → alike A B ≡ true → Answers holds means value (parts n) left r → IsGivenUp r q → IsTried value Δ Σ d A B n left q
  given_up {M} {H} holds means value n left r q e f = by_result r where
    another : (refusal : Refusal) → parts n ≡ Refused refusal left → q ≡ Ok None → IsTried value Δ Σ d A B n left q
    another refusal o p = subst (IsTried value Δ Σ d A B n left) (sym p) (λ next. twins e f n next ∙ ap (λ o. retry o (λ r. next)) o)

    by_kernel : (x : KernelFault H) → ShowsKernel (λ r. Kernel r) holds means (parts n) left x → q ≡ Ok None → IsTried value Δ Σ d A B n left q
    by_kernel (kernel.NotType i t) h p = another _ h.0 p
    by_kernel (kernel.NotFunction i t u) h p = another _ h.0 p
    by_kernel (kernel.Mismatch i t u) h p = another _ h.0 p
    by_kernel (kernel.ReductIllTyped i t u) h p = another _ h.0 p
    by_kernel kernel.Fuel h p = absurd h
    by_kernel kernel.Memory h p = absurd h

    by_fault : (x : UnifyFault H) → Shows holds means (parts n) left x → IsGivenUp {M = M} (Err x) q → IsTried value Δ Σ d A B n left q
    by_fault (fault.Kernel x) h p = by_kernel x h p
    by_fault (fault.Mismatch i t u) h p = another _ h.0 p
    by_fault (fault.NotPattern m) h p = another _ h p
    by_fault (fault.Scope m level) h p = another _ h p
    by_fault (fault.Cycle m) h p = another _ h p
    by_fault (fault.TooDeep m) h p = another _ h p
    by_fault fault.TooManyMetas h p = another _ h p
    by_fault fault.Fuel h p = subst (IsTried value Δ Σ d A B n left) (sym p) ((λ next. twins e f n next ∙ ap (λ o. retry o (λ r. next)) h.0), h.1)
    by_fault fault.Memory h p = subst (IsTried value Δ Σ d A B n left) (sym p) tt

    by_result : (x : Result M (UnifyFault H)) → Answers holds means value (parts n) left x → IsGivenUp x q → IsTried value Δ Σ d A B n left q
    by_result (Ok m) h p = subst (IsTried value Δ Σ d A B n left) (sym p) (λ next. twins e f n next ∙ ap (λ o. retry o (λ r. next)) h)
    by_result (Err x) h p = by_fault x h p

  -- the parts of weak head forms
  pub alike_parts : (n : ℕ) → alike A B ≡ true → unify_parts (unify Δ) Σ d A B n ≡ parts n
  alike_parts n e = ap (λ b. choose b parts (refuse (Mismatch d A B)) n) e

  pub other_heads : (n : ℕ) → alike A B ≡ false → unify_parts (unify Δ) Σ d A B n ≡ Refused (Mismatch d A B) n
  other_heads n e = ap (λ b. choose b parts (refuse (Mismatch d A B)) n) e

  -- no unit or no memory for the parts of equal defined constants
  pub tried_shows : {M H : Type 0} (holds : H → Type 0) (means : H → Term) (value : M → Plain) (n left : ℕ) (x : Halt) → IsTried value Δ Σ d A B n left (Err x) → (next : Step Plain) → Shows holds means (tried Δ Σ d A B next n) left (halt_fault x)
  tried_shows holds means value n left halt.Fuel h next = (h.0 next, h.1)
  tried_shows holds means value n left halt.Memory h next = tt

  pub tried_out : {M : Type 0} (value : M → Plain) (n left : ℕ) (q : Result (Option M) Halt) → IsErrAnd q (λ x. x ≡ halt.Memory) → IsTried value Δ Σ d A B n left q
  tried_out value n left (Ok o) h = absurd h
  tried_out value n left (Err x) h = subst (λ x. IsTried value Δ Σ d A B n left (Err x)) (sym h) tt
