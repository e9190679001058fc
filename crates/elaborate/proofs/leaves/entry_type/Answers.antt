use Rattle.std.proofs.Common.{◌∙◌, ◌+◌, ◌<◌, ap, sym, refl, arith, Some}
use Rattle.ld_trees.specs.Term.{Term, count}
use Rattle.ld_trees.specs.Substitution.{shift}
use Rattle.ld_terms.specs.declared.globals.Local.{Local}
use Rattle.conversion.specs.Globals.{context_of}
use Rattle.goal_state.proofs.Means.{count_of_context}
use Rattle.kernel_check.proofs.EntryTypes.{entry_at, no_entry}
use Rattle.elaborate.proofs.leaves.entry_type.Goals as goal

pub returns-in_ok-shift-clause-value : goal.returns-in_ok-shift-clause-value
returns-in_ok-shift-clause-value g c =
    let means = g.T.Terms.means c.args.terms.now in
    let ctx = c.args.ctx.now in
    let Γ = context_of means ctx in
    let m = count_of_context means ctx in
    let l : c.args.i < count Γ = omega (arith, m, c.if-from_last-ctx.true) in
    let at = entry_at (λ l. means l.ty) ctx c.index-ctx-ctx.result Γ c.args.i _ (c.args.i + 1) refl l (let q = c.if-from_last-ctx.true in omega arith) refl c.index-ctx-ctx.is in
    ap (λ (t : Term). Some t) c.in_ok-shift.ensures.tree ∙ ap (λ (l : Local _). Some (shift 0 (c.args.i + 1) (means l.ty))) (sym c.index-ctx-ctx.is) ∙ sym at

pub returns-else-from_last-ctx-clause-value : goal.returns-else-from_last-ctx-clause-value
returns-else-from_last-ctx-clause-value g c =
    let means = g.T.Terms.means c.args.terms.now in
    let ctx = c.args.ctx.now in
    let m = count_of_context means ctx in
    sym (no_entry (context_of means ctx) c.args.i (omega (arith, m, c.if-from_last-ctx.false)))
