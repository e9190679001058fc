use Rattle.std.proofs.Common.{◌∙◌}
use Rattle.conversion.proofs.Spines.{all_pushed}
use Rattle.pattern_unify.specs.Pairs.{IsPairHeld}
use Rattle.pattern_unify.proofs.PartPairs.{two, applications_added}
use Rattle.pattern_unify.proofs.pairs.pairs_of.Goals as goal

pub loop-f-preserved : goal.loop-f-preserved
loop-f-preserved g c =
    let holds = g.T.Terms.holds c.args.terms.now in
    let means = g.T.Terms.means c.args.terms.now in
    let parts = applications_added c.args.depth means (means c.loop-f.x) (means c.loop-f.y) c.in-App-App.f c.in-App-App.u c.in-App-App.g c.in-App-App.v c.loop-f.pairs.items c.push.new.self.items
    c.in-App-App.ensures.tree c.in-App-App.ensures'.tree c.in_ok-push.ensures.items in (
      c.in-App-App.ensures.held.0,
      c.in-App-App.ensures'.held.0,
      all_pushed (IsPairHeld holds) c.loop-f.pairs.items c.push.new.self.items (two c.args.depth c.in-App-App.u c.in-App-App.v) c.in_ok-push.ensures.items c.loop-f.invariant.2 (c.in-App-App.ensures.held.1, c.in-App-App.ensures'.held.1),
      parts.0 ∙ c.loop-f.invariant.3,
      parts.1 ∙ c.loop-f.invariant.4,
    )
