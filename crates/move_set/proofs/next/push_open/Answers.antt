use Rattle.std.proofs.Common.{arith}
use Rattle.goal_state.specs.State.{is_open}
use Rattle.move_set.proofs.Goals.{pushed}
use Rattle.move_set.proofs.next.push_open.Goals as goal

pub loop-number-preserved : goal.loop-number-preserved
loop-number-preserved g c =
    pushed (is_open c.args.metas.now) c.args.goals.now.items c.loop-number.goals.items c.push_if_open.new.goals.items c.args.numbers.now c.loop-number.number-index (omega arith) c.loop-number.invariant c.in_ok-push_if_open.ensures
