use Rattle.meta_context.proofs.Indexes.{item_read}
use Rattle.meta_context.proofs.env.Env.item.Goals as goal

pub returns-in-Some : goal.returns-in-Some
returns-in-Some g c =
    let read = item_read c.self.inside.places c.args.self.now c.args.place c.self.invariant.numbered c.self.view_is in
    let found = c.in-Some.ensures in
    let shown = c.get-in-Some.ensures in
    cc

pub returns-in-None : goal.returns-in-None
returns-in-None g c =
    let read = item_read c.self.inside.places c.args.self.now c.args.place c.self.invariant.numbered c.self.view_is in
    let found = c.in-None.ensures in
    cc
