use Rattle.std.proofs.Common.{◌∙◌}
use Rattle.ld_terms.proofs.Turns.{keeps_all, keeps_both}
use Rattle.conversion.proofs.Spines.{go_up, all_popped}
use Rattle.conversion.proofs.steps.apply_all.Goals as goal

pub loop-arg-preserved : goal.loop-arg-preserved
loop-arg-preserved g c =
    let holds = g.T.Terms.holds in
    let means = g.T.Terms.means in
    let start = c.args.terms.now in
    let before = c.loop-arg.terms in
    let after = c.make.new.self in
    let held = all_popped (holds before) c.loop-arg.args.items c.pop.new.self.items c.in-Some.arg c.in-Some.ensures.items c.loop-arg.invariant.2 in
    let kept = c.in_ok-term.ensures.kept in (
      go_up (means before) (holds before) (holds after) (means after) c.in_ok-term.term c.loop-arg.term c.in-Some.arg c.pop.new.self.items c.loop-arg.args.items kept held.0 c.in_ok-term.ensures.tree c.in-Some.ensures.items ∙ c.loop-arg.invariant.0,
      c.in_ok-term.ensures.held,
      keeps_all (holds before) (means before) (holds after) (means after) c.pop.new.self.items kept held.0,
      keeps_both (holds start) (means start) (holds before) (means before) (holds after) (means after) c.loop-arg.invariant.3 kept,
    )
