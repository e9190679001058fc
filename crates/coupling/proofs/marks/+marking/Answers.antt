use Rattle.std.proofs.Common.{◌<◌, length, arith, rules}
use Rattle.ld_terms.proofs.Arguments.{part_less}
use Rattle.ld_terms.proofs.Comparisons.{held_at}
use Rattle.coupling.proofs.Marking.{remembered_one, next_marked}
use Rattle.coupling.proofs.marks.+marking.Goals as goal

pub mark-returns-clause-marked : goal.mark-returns-clause-marked
mark-returns-clause-marked g t c =
    remembered_one (g.T.Terms.means c.args.terms.now) c.args.h c.mark_node.new.seen c.remember.new.seen c.args.marks.now c.mark_node.new.marks c.in_ok-mark_node.ensures.marked c.in_ok-remember.ensures.only

pub mark_each-mark-requires : goal.mark_each-mark-requires
mark_each-mark-requires g t c κs within =
    let us = c.args.us.now in
    let i = c.loop-u.u-index in
    let l : i < length us = omega arith in
    let small = part_less (g.T.Terms.means c.args.terms.now) us c.u-item.result i l c.u-item.is in
    let held = held_at (g.T.Terms.holds c.args.terms.now) us i c.u-item.result c.requires.list l c.u-item.is in
    let known = c.loop-u.invariant.known in
    search rules

pub mark_each-loop-u-preserved : goal.mark_each-loop-u-preserved
mark_each-loop-u-preserved g t c = record {
  marked = next_marked (g.T.Terms.means c.args.terms.now) c.args.us.now c.loop-u.u-index c.u-item.result _ _ _ (omega arith) c.u-item.is c.loop-u.invariant.marked c.in_ok-mark.ensures.marked.marked;
  known = c.in_ok-mark.ensures.marked.known;
  free = λ f. c.in_ok-mark.ensures.free (c.loop-u.invariant.free f);
}
