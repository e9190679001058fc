use Rattle.std.proofs.Common.{refl}
use Rattle.meta_context.specs.Plain.{rules_ctx, rules_env}
use Rattle.elaboration.specs.Elaboration.{AsType, Made, check_type}
use Rattle.elaboration.specs.Laws.{IsElaborated}
use Rattle.elaboration.proofs.Sound.{checking_types_is_sound}
use Rattle.elaborate.specs.Answers.{plain_made}
use Rattle.elaborate.proofs.Follow.{of_value}
use Rattle.elaborate.proofs.elaborating.check_type.Goals as goal

pub returns-clause-value : goal.returns-clause-value
returns-clause-value g c Δ Σ Γ r e =
    c.elaborated.ensures.value Δ Σ Γ AsType r e refl

pub returns-clause-elaborated : goal.returns-clause-elaborated
returns-clause-elaborated g c Δ Σ Γ r e ok =
    let h1 = g.T.Terms.holds c.elaborated.new.terms in
    let m1 = g.T.Terms.means c.elaborated.new.terms in
    of_value h1 m1 (plain_made m1) (λ (x : Made). IsElaborated (rules_env Δ) Σ Γ (rules_ctx Γ) x) (check_type Δ Σ Γ c.args.surface.now c.args.fuel.now) c.elaborated.new.fuel c.elaborated.result (c.elaborated.ensures.value Δ Σ Γ AsType r e refl) (λ x z. checking_types_is_sound Δ Σ Γ c.args.surface.now x c.args.fuel.now c.elaborated.new.fuel ok z)
