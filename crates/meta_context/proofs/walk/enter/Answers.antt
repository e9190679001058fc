use Rattle.std.proofs.Common.{◌≡◌, rules}
use Rattle.meta_context.proofs.Entering.{entered_first, entered_again}
use Rattle.meta_context.proofs.walk.enter.Goals as goal

pub returns-then-added-clause-entered : goal.returns-then-added-clause-entered
returns-then-added-clause-entered g c =
    entered_first _ g.met.T.Terms.exact c.args.h c.args.walk.now.left.items c.args.walk.now.entered.keys c.push.new.self.items c.insert.new.self.keys c.in_ok-added.ensures.keys c.in_ok-push.ensures.items

pub returns-clause-entered : goal.returns-clause-entered
returns-clause-entered g c =
    let same : c.insert.new.self.keys ≡ c.args.walk.now.entered.keys = search rules in
    entered_again _ g.met.T.Terms.exact c.args.h c.args.walk.now.left.items c.args.walk.now.entered.keys c.insert.new.self.keys c.in_ok-added.ensures.keys same
