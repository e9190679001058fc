use Rattle.meta_context.proofs.Numbers.{numbered_push, rows_pushed}
use Rattle.meta_context.proofs.metas.Metas.push.Goals as goal

pub invariant_of-result : goal.invariant_of-result
invariant_of-result g c =
    numbered_push c.self.inside.decls c.args.self.now c.self.invariant c.self.view_is c.in_ok-with.field-0 c.next.result c.args.decl c.in_ok-decl.decl
    c.next.ensures.counted c.in_ok-decl.ensures c.in_ok-with.ensures.changed c.requires.room c.requires.names

pub returns : goal.returns
returns g c =
    rows_pushed c.self.inside.decls c.args.self.now c.self.invariant c.self.view_is c.in_ok-with.field-0 c.next.result c.args.decl c.in_ok-decl.decl
    c.next.ensures.counted c.in_ok-decl.ensures c.in_ok-with.ensures.changed
