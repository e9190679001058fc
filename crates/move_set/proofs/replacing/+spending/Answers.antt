use Rattle.std.proofs.Common.{arith}
use Rattle.move_set.proofs.UnitsSpent.{each_spent, each_short}
use Rattle.move_set.proofs.replacing.+spending.Goals as goal

pub spend_in_all-returns-then-not-spend_occurrences : goal.spend_in_all-returns-then-not-spend_occurrences
spend_in_all-returns-then-not-spend_occurrences g t c =
    let means = g.T.Terms.means c.args.terms.now in
    each_short c.args.name.now means c.args.us.now c.loop-u.u-index c.u-item.result (omega arith) c.u-item.is c.args.fuel.now c.loop-u.fuel c.spend_occurrences.new.fuel c.spend_occurrences.result c.if-not-spend_occurrences.true c.loop-u.invariant c.spend_occurrences.ensures

pub spend_in_all-loop-u-preserved : goal.spend_in_all-loop-u-preserved
spend_in_all-loop-u-preserved g t c =
    let means = g.T.Terms.means c.args.terms.now in
    each_spent c.args.name.now means c.args.us.now c.loop-u.u-index c.u-item.result (omega arith) c.u-item.is c.args.fuel.now c.loop-u.fuel c.spend_occurrences.new.fuel c.spend_occurrences.result c.if-not-spend_occurrences.false c.loop-u.invariant c.spend_occurrences.ensures
