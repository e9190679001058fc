use Rattle.std.proofs.Common.{ap}
use Rattle.ld_trees.specs.Term.{Term, ◌▹◌}
use Rattle.meta_context.specs.Plain.{rules_ctx, rules_env}
use Rattle.elaboration.specs.Elaboration.{Of, Made, check}
use Rattle.elaboration.specs.Laws.{IsElaborated}
use Rattle.elaboration.proofs.Sound.{checking_is_sound}
use Rattle.elaborate.specs.Answers.{plain_made}
use Rattle.elaborate.proofs.Follow.{of_value}
use Rattle.elaborate.proofs.elaborating.check.Goals as goal

pub returns-clause-value : goal.returns-clause-value
returns-clause-value g c Δ Σ Γ A r e q =
    c.elaborated.ensures.value Δ Σ Γ (Of A) r e (ap (λ (t : Term). Of t) q)

pub returns-clause-elaborated : goal.returns-clause-elaborated
returns-clause-elaborated g c Δ Σ Γ A r e q ok sc =
    let h1 = g.T.Terms.holds c.elaborated.new.terms in
    let m1 = g.T.Terms.means c.elaborated.new.terms in
    of_value h1 m1 (plain_made m1) (λ (x : Made). IsElaborated (rules_env Δ) Σ Γ (rules_ctx Γ ▹ A) x) (check Δ Σ Γ c.args.surface.now A c.args.fuel.now) c.elaborated.new.fuel c.elaborated.result (c.elaborated.ensures.value Δ Σ Γ (Of A) r e (ap (λ (t : Term). Of t) q)) (λ x z. checking_is_sound Δ Σ Γ c.args.surface.now A x c.args.fuel.now c.elaborated.new.fuel ok sc z)
