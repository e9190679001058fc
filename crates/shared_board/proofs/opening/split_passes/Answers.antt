use Rattle.std.proofs.Common.{◌+◌, sym, subst, rules}
use Rattle.shared_board.specs.Opening.{AreSplit}
use Rattle.shared_board.proofs.NewPasses.{next_split}
use Rattle.shared_board.proofs.opening.split_passes.Goals as goal

pub loop-number-preserved : goal.loop-number-preserved
loop-number-preserved g c =
    let lock = c.args.shared.now in
    let number = c.loop-number.number in
    let before = c.loop-number.invariant in
    let push = c.push_reserved-in-loop-number.ensures in
    record {
      split = subst (AreSplit lock (number + 1)) (sym push.items) (next_split lock number c.loop-number.all.items c.index_mut.result.now c.split.new.self c.in_ok-pass.pass before.length_is c.loop-number.auto.number c.index_mut.ensures.value c.in_ok-pass.ensures.pass c.in_ok-pass.ensures.new before.split);
      length_is = search rules;
      room = search rules;
    }
