use Rattle.std.proofs.Common.{◌≡◌, ◌∙◌, ◌+◌, ◌<◌, ap, sym, refl, arith, Some}
use Rattle.std.proofs.lemmas.Result.{IfOk-weaker}
use Rattle.ld_trees.specs.Term.{Term, count}
use Rattle.ld_trees.specs.Substitution.{shift}
use Rattle.ld_rules.specs.Environment.{type_at}
use Rattle.ld_terms.specs.declared.globals.Local.{Local}
use Rattle.conversion.specs.Globals.{context_of}
use Rattle.goal_state.proofs.Means.{count_of_context}
use Rattle.kernel_check.proofs.EntryTypes.{entry_at}
use Rattle.move_set.proofs.assuming.entry_type.Goals as goal

pub returns-clause-value : goal.returns-clause-value
returns-clause-value g c =
    let means = g.T.Terms.means c.args.terms.now in
    let means' = g.T.Terms.means c.shift.new.terms in
    let ctx = c.args.ctx.now in
    let Γ = context_of means ctx in
    let m = count_of_context means ctx in
    let l : c.args.i < count Γ = omega (arith, m, c.requires.there) in
    let at = entry_at (λ l. means l.ty) ctx c.index-ctx-ctx.result Γ c.args.i _ (c.args.i + 1) refl l (let q = c.requires.there in omega arith) refl c.index-ctx-ctx.is in
    IfOk-weaker c.shift.result _ (λ h. type_at Γ c.args.i ≡ Some (means' h)) (λ h e. at ∙ ap (λ (l : Local _). Some (shift 0 (c.args.i + 1) (means l.ty))) c.index-ctx-ctx.is ∙ ap (λ (t : Term). Some t) (sym e)) c.shift.ensures.tree
