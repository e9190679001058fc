use Rattle.meta_context.proofs.Indexes.{indexed_push, items_pushed}
use Rattle.meta_context.proofs.env.Env.push.Goals as goal

pub invariant_of-result : goal.invariant_of-result
invariant_of-result g c =
    indexed_push c.self.inside.places c.in_ok-with.field-0 c.self.inside.names c.in_ok-with-2.field-0 c.args.self.now c.len.result c.args.item c.in_ok-item.item c.in_ok-again.again c.in_ok-name.name
    c.self.invariant c.self.view_is c.requires c.len.ensures.counted c.in_ok-item.ensures c.in_ok-again.ensures.cases c.in_ok-name.ensures c.in_ok-with.ensures.changed c.in_ok-with-2.ensures.at_key c.in_ok-with-2.ensures.elsewhere

pub returns : goal.returns
returns g c = items_pushed c.self.inside.places c.args.self.now c.len.result c.args.item c.in_ok-item.item c.self.invariant.numbered c.self.view_is c.len.ensures.counted c.in_ok-item.ensures c.in_ok-with.field-0 c.in_ok-with.ensures.changed
