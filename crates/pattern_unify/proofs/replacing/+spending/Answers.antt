use Rattle.std.proofs.Common.{ap, arith}
use Rattle.ld_trees.specs.Term.{nodes}
use Rattle.pattern_unify.proofs.UnitsSpent.{each_spent, each_short, spine_begun, spine_not_begun, spine_further, spine_short}
use Rattle.pattern_unify.proofs.replacing.+spending.Goals as goal

pub spend_in_all-returns-then-not-spend_occurrences : goal.spend_in_all-returns-then-not-spend_occurrences
spend_in_all-returns-then-not-spend_occurrences g t c =
    let means = g.T.Terms.means c.args.terms.now in
    each_short c.args.m means c.args.us.now c.loop-u.u-index c.u-item.result (omega arith) c.u-item.is c.args.fuel.now c.loop-u.fuel c.spend_occurrences.new.fuel c.spend_occurrences.result c.if-not-spend_occurrences.true c.loop-u.invariant c.spend_occurrences.ensures

pub spend_in_all-loop-u-preserved : goal.spend_in_all-loop-u-preserved
spend_in_all-loop-u-preserved g t c =
    let means = g.T.Terms.means c.args.terms.now in
    each_spent c.args.m means c.args.us.now c.loop-u.u-index c.u-item.result (omega arith) c.u-item.is c.args.fuel.now c.loop-u.fuel c.spend_occurrences.new.fuel c.spend_occurrences.result c.if-not-spend_occurrences.false c.loop-u.invariant c.spend_occurrences.ensures

pub spend_in_application-loop-g-init : goal.spend_in_application-loop-g-init
spend_in_application-loop-g-init g t c =
    let means = g.T.Terms.means c.args.terms.now in (
      c.requires.function,
      omega arith,
      spine_begun c.args.m (means c.args.f) (means c.args.a) c.args.fuel.now c.spend_occurrences.new.fuel c.spend_occurrences.result c.if-not-spend_occurrences.false c.spend_occurrences.ensures,
    )

pub spend_in_application-returns-then-not-spend_occurrences : goal.spend_in_application-returns-then-not-spend_occurrences
spend_in_application-returns-then-not-spend_occurrences g t c =
    let means = g.T.Terms.means c.args.terms.now in
    spine_not_begun c.args.m (means c.args.f) (means c.args.a) c.args.fuel.now c.spend_occurrences.new.fuel c.spend_occurrences.result c.if-not-spend_occurrences.true c.spend_occurrences.ensures

pub spend_in_application-loop-g-preserved : goal.spend_in_application-loop-g-preserved
spend_in_application-loop-g-preserved g t c =
    let means = g.T.Terms.means c.args.terms.now in
    let size = ap nodes c.in-App.ensures.tree in (
      c.in-App.ensures.held.0,
      omega (arith, size, c.loop-g.invariant.1),
      spine_further c.args.m (means c.args.f) (means c.args.a) c.args.fuel.now c.loop-g.fuel c.spend_occurrences-in-App.new.fuel c.spend_occurrences-in-App.result (means c.loop-g.head) (means c.in-App.g) (means c.in-App.b)
          c.in-App.ensures.tree c.if-not-spend_occurrences-2.false c.loop-g.invariant.2 c.spend_occurrences-in-App.ensures,
    )

pub spend_in_application-returns-then-not-spend_occurrences-2 : goal.spend_in_application-returns-then-not-spend_occurrences-2
spend_in_application-returns-then-not-spend_occurrences-2 g t c =
    let means = g.T.Terms.means c.args.terms.now in
    spine_short c.args.m (means c.args.f) (means c.args.a) c.args.fuel.now c.loop-g.fuel c.spend_occurrences-in-App.new.fuel c.spend_occurrences-in-App.result (means c.loop-g.head) (means c.in-App.g) (means c.in-App.b)
    c.in-App.ensures.tree c.if-not-spend_occurrences-2.true c.loop-g.invariant.2 c.spend_occurrences-in-App.ensures
