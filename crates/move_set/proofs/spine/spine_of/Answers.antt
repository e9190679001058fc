use Rattle.std.proofs.Common.{◌∙◌}
use Rattle.ld_terms.proofs.Spines.{go_down, all_pushed}
use Rattle.move_set.proofs.spine.spine_of.Goals as goal

pub loop-f-preserved : goal.loop-f-preserved
loop-f-preserved g c =
    let holds = g.T.Terms.holds c.args.terms.now in
    let means = g.T.Terms.means c.args.terms.now in (
      go_down means c.loop-f.head c.in-App.f c.in-App.a c.loop-f.args.items c.push.new.self.items c.in-App.ensures.tree c.in_ok-push.ensures.items ∙ c.loop-f.invariant.0,
      c.in-App.ensures.held.0,
      all_pushed holds c.loop-f.args.items c.push.new.self.items c.in-App.a c.in_ok-push.ensures.items c.loop-f.invariant.2 c.in-App.ensures.held.1,
    )
