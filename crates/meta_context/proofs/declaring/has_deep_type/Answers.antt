use Rattle.std.proofs.Common.{◌≡◌, true, false, nat_lt, sym, ◌∙◌, arith}
use Rattle.ld_trees.specs.Term.{depth}
use Rattle.meta_context.specs.Limits.{most_depth}
use Rattle.meta_context.proofs.Depths.{deep_entry, shallow_context, shallow_more}
use Rattle.meta_context.proofs.declaring.has_deep_type.Goals as goal

pub returns-then-is_deep : goal.returns-then-is_deep
returns-then-is_deep g c =
    let means = g.T.Terms.means c.args.terms.now in
    let deep : nat_lt most_depth (depth (means c.entry-item.result.ty)) ≡ true = sym c.is_deep.ensures ∙ c.if-is_deep.true in
    sym (deep_entry means most_depth c.args.ctx.now (means c.args.ty) c.loop-entry.entry-index c.entry-item.result (omega arith) c.entry-item.is deep)

pub loop-entry-preserved : goal.loop-entry-preserved
loop-entry-preserved g c =
    let means = g.T.Terms.means c.args.terms.now in
    let shallow : nat_lt most_depth (depth (means c.entry-item.result.ty)) ≡ false = sym c.is_deep.ensures ∙ c.if-is_deep.false in
    shallow_more means most_depth c.args.ctx.now c.loop-entry.entry-index c.entry-item.result (omega arith) c.entry-item.is c.loop-entry.invariant shallow

pub returns : goal.returns
returns g c =
    let means = g.T.Terms.means c.args.terms.now in
    c.is_deep-2.ensures ∙ shallow_context means most_depth c.args.ctx.now (means c.args.ty) (λ k e l. c.loop-entry.invariant k e (omega arith))
