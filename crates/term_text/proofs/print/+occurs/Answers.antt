use Rattle.std.proofs.Common.{◌<◌, ◌≤◌, length, map, rules, ap, sym, ◌∙◌, subst}
use Rattle.ld_trees.specs.Term.{depth, depth_all}
use Rattle.ld_terms.specs.Views.{terms_of}
use Rattle.term_syntax.specs.Printing as spec
use Rattle.term_text.proofs.Arguments.{depth_of_argument, occurs_here, occurs_no_more}
use Rattle.term_text.proofs.print.+occurs.Goals as goal

pub occurs_in-occurs-requires : goal.occurs_in-occurs-requires
occurs_in-occurs-requires g t c κs within =
    let means = g.T.Terms.means c.args.terms.now in
    let lt : c.loop-u.u-index < length c.args.us.now = c.loop-u-test.true in
    let held : g.T.Terms.holds c.args.terms.now c.u-item.result = rw c.u-item.is (c.requires.held _ _ lt) in
    let small : depth (g.T.Terms.means c.args.terms.now c.u-item.result) ≤ depth_all (terms_of (map (g.T.Terms.means c.args.terms.now) c.args.us.now)) =
    subst (λ x. depth (g.T.Terms.means c.args.terms.now x) ≤ depth_all (terms_of (map (g.T.Terms.means c.args.terms.now) c.args.us.now))) (sym c.u-item.is) (depth_of_argument means c.args.us.now c.loop-u.u-index c.u-item.result lt) in
    search rules

pub occurs_in-returns-then-occurs : goal.occurs_in-returns-then-occurs
occurs_in-returns-then-occurs g t c =
    sym (occurs_here (g.T.Terms.means c.args.terms.now) c.args.i c.args.us.now c.loop-u.u-index c.u-item.result c.loop-u-test.true
    (ap (λ x. spec.occurs c.args.i (g.T.Terms.means c.args.terms.now x)) (sym c.u-item.is) ∙ sym c.occurs.ensures ∙ c.if-occurs.true))

pub occurs_in-loop-u-preserved : goal.occurs_in-loop-u-preserved
occurs_in-loop-u-preserved g t c =
    occurs_no_more (g.T.Terms.means c.args.terms.now) c.args.i c.args.us.now c.loop-u.u-index c.u-item.result c.loop-u-test.true c.loop-u.invariant
    (ap (λ x. spec.occurs c.args.i (g.T.Terms.means c.args.terms.now x)) (sym c.u-item.is) ∙ sym c.occurs.ensures ∙ c.if-occurs.false)
