-- The laws of βδ-reduction that this crate proves. Each holds for all environments, contexts and terms.
use Rattle.std.specs.Prelude.{◌≡◌, Bool, true}
use Rattle.ld_trees.specs.Term.{Head, Term, Pi}
use Rattle.ld_rules.specs.Environment.{Ctx, Env}
use Rattle.ld_rules.specs.Reduction.{Step, Equal}
use Rattle.ld_rules.specs.Derivation.{Derives}
use Rattle.ld_rules.specs.Legality.{IsLegalEnvironment}
use Rattle.ld_rules.specs.ScopedItems.{EachHead, EachHeadOfAll}
use Rattle.ld_confluence.specs.Reducts.{Reduces}
use Rattle.ld_confluence.specs.Agreement.{AgreeOn}

-- confluence: in a legal environment βδ-equal terms have a common reduct
abbrev pub Confluence : Type 0
Confluence = (Δ : Env) (a b : Term) → IsLegalEnvironment Δ → Equal Δ a b → (c : Term) × Reduces Δ a c × Reduces Δ b c

-- βδ-equal products have βδ-equal domains and codomains
abbrev pub ProductsAreInjective : Type 0
ProductsAreInjective = (Δ : Env) (A B C D : Term) → IsLegalEnvironment Δ → Equal Δ (Pi A B) (Pi C D) → Equal Δ A C × Equal Δ B D

-- subject reduction: a step keeps the type
abbrev pub SubjectReduction : Type 0
SubjectReduction = (Δ : Env) (Γ : Ctx) (M N B : Term) → Derives Δ Γ M B → Step Δ M N → Derives Δ Γ N B

-- Strengthening: what is derived or βδ-equal in a legal environment is so in each legal environment that agrees with it on the
-- constants of the judgement or of the two terms. Which constants these are is said by a test that they pass.
abbrev pub Strengthening : Type 0
Strengthening = (test : Head → Bool) (E F : Env) → let P : Head → Type 0 = λ h. test h ≡ true in AgreeOn P E F → IsLegalEnvironment E → IsLegalEnvironment F →
    ((Γ : Ctx) (M B : Term) → EachHeadOfAll P Γ → EachHead P M → EachHead P B → Derives E Γ M B → Derives F Γ M B)
    × ((a b : Term) → EachHead P a → EachHead P b → Equal E a b → Equal F a b)
