use Rattle.std.proofs.Common.{◌+◌, get_or, refl, arith}
use Rattle.pattern_unify.proofs.Places.{made_more}
use Rattle.pattern_unify.proofs.entries.as_terms.Goals as goal

pub loop-i-preserved : goal.loop-i-preserved
loop-i-preserved g c =
    let holds = g.T.Terms.holds in
    let means = g.T.Terms.means in
    let old = c.args.terms.now in
    let before = c.loop-i.terms in
    let after = c.make.new.self in
    made_more (holds old) (means old) (holds before) (means before) (holds after) (means after) c.args.variables.now c.loop-i.made.items c.push.new.self.items c.loop-i.i-index (c.loop-i.i-index + 1) (get_or c.args.variables.now c.loop-i.i-index 0)
    c.in_ok-make.field-0 c.loop-i.invariant (omega arith) refl refl c.in_ok-push.ensures.items c.in_ok-make.ensures.kept c.in_ok-make.ensures.held c.in_ok-make.ensures.tree
