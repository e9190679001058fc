use Rattle.std.proofs.Common.{refl}
use Rattle.meta_context.specs.Plain.{rules_env}
use Rattle.goal_state.specs.State.{plain_metas}
use Rattle.unification.specs.Refusals.{Plain}
use Rattle.unification.specs.Steps.{pure, renamed}
use Rattle.unification.specs.Unification.{settle}
use Rattle.pattern_unify.proofs.Follow.{after}
use Rattle.move_set.specs.Faults.{unify_fault}
use Rattle.move_set.specs.Moves.{Moved, moved_to, settled}
use Rattle.move_set.specs.Refusals.{Step, from_unification}
use Rattle.move_set.proofs.Follow.{fails, renamed_gave, unify_shows}
use Rattle.move_set.proofs.moves.settled.Goals as goal

pub returns-in_err-metas-clause-value : goal.returns-in_err-metas-clause-value
returns-in_err-metas-clause-value g c Δ S0 S d v read e =
    let h1 = g.T.Terms.holds c.settle.new.terms in
    let m1 = g.T.Terms.means c.settle.new.terms in
    let o = settle (rules_env Δ) S c.args.g v c.args.fuel.now in
    let ends : Plain → Step Moved = λ after. pure (moved_to after c.args.fresh c.args.holes) in
    fails h1 m1 _ (settled Δ S0 c.args.g d S v c.args.fresh c.args.holes c.args.fuel.now) (renamed from_unification o) ends _ c.from_residual.result (unify_fault c.in_err-metas.field-0.0) refl c.from_residual.ensures.1
    (unify_shows h1 m1 o _ c.in_err-metas.field-0.0 (c.in_err-metas.ensures.value Δ S v read e))

pub returns-clause-value : goal.returns-clause-value
returns-clause-value g c Δ S0 S d v read e =
    let m1 = g.T.Terms.means c.settle.new.terms in
    let o = settle (rules_env Δ) S c.args.g v c.args.fuel.now in
    let ends : Plain → Step Moved = λ after. pure (moved_to after c.args.fresh c.args.holes) in
    after (renamed from_unification o) (plain_metas m1 c.in_ok-metas.metas) c.settle.new.fuel ends (renamed_gave from_unification o (plain_metas m1 c.in_ok-metas.metas) c.settle.new.fuel (c.in_ok-metas.ensures.value Δ S v read e))
