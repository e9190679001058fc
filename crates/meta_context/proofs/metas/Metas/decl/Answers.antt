use Rattle.meta_context.proofs.Indexes.{decl_read}
use Rattle.meta_context.proofs.metas.Metas.decl.Goals as goal

pub returns-in-Some : goal.returns-in-Some
returns-in-Some g c =
    let read = decl_read c.self.inside.decls c.args.self.now c.args.m c.self.invariant.numbered c.self.view_is in
    let found = c.in-Some.ensures in
    let shown = c.get-in-Some.ensures in
    cc

pub returns-in-None : goal.returns-in-None
returns-in-None g c =
    let read = decl_read c.self.inside.decls c.args.self.now c.args.m c.self.invariant.numbered c.self.view_is in
    let found = c.in-None.ensures in
    cc
