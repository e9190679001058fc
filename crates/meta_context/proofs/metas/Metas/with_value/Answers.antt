use Rattle.std.proofs.Common.{sym, ◌∙◌}
use Rattle.meta_context.proofs.Numbers.{not_missing, numbered_assigned, rows_assigned}
use Rattle.meta_context.proofs.metas.Metas.with_value.Goals as goal

pub invariant_of-result : goal.invariant_of-result
invariant_of-result g c =
    numbered_assigned c.self.inside.decls c.args.self.now c.self.invariant c.self.view_is c.in_ok-with-in-Some.field-0 c.args.m c.args.value c.in_ok-ctx-in-Some.ctx c.in-Some.decl.now c.in_ok-kept-in-Some.kept
    (sym c.in-Some.ensures) (c.in_ok-ctx-in-Some.ensures ∙ c.as_slice.ensures) c.in_ok-kept-in-Some.ensures c.in_ok-with-in-Some.ensures.changed

pub unreachable-requires : goal.unreachable-requires
unreachable-requires g c = not_missing c.args.self.now c.args.m c.requires (sym c.in-None.ensures)

pub returns : goal.returns
returns g c =
    rows_assigned c.self.inside.decls c.args.self.now c.self.invariant c.self.view_is c.in_ok-with-in-Some.field-0 c.args.m c.args.value c.in_ok-ctx-in-Some.ctx c.in-Some.decl.now c.in_ok-kept-in-Some.kept
    (sym c.in-Some.ensures) (c.in_ok-ctx-in-Some.ensures ∙ c.as_slice.ensures) c.in_ok-kept-in-Some.ensures c.in_ok-with-in-Some.ensures.changed
