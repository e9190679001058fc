use Rattle.std.proofs.Common.{◌≡◌, ◌<◌, true, length, arith, ◌∙◌, sym}
use Rattle.std.proofs.lemmas.Bool.{false≢true}
use Rattle.goal_state.specs.State.{is_open}
use Rattle.goal_state.proofs.Lists.{some_passes, below_left}
use Rattle.goal_state.proofs.goals.are_assigned.Goals as goal

pub returns-then-is_open : goal.returns-then-is_open
returns-then-is_open g c =
    let passes : is_open c.args.metas.now c.loop-m.m ≡ true = sym c.is_open.ensures ∙ c.if-is_open.true in
    (λ t. absurd (false≢true t), λ e. absurd (some_passes (is_open c.args.metas.now) (length c.args.metas.now) c.loop-m.m (omega arith) passes e))
