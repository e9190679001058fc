use Rattle.std.proofs.Common.{map, sym, ap, ◌∙◌, subst, rules}
use Rattle.std.proofs.lemmas.Result.{IfOk-weaker}
use Rattle.term_syntax.specs.ReadsBack.{IsContext}
use Rattle.meta_context.specs.Plain.{plain_locals}
use Rattle.goal_state.specs.State.{plain_metas}
use Rattle.state_print.specs.Pieces.{unfolded_entry}
use Rattle.goal_state.proofs.Means.{decls_held}
use Rattle.state_print.proofs.Turns.{entries_held, names_made, goal_made}
use Rattle.state_print.proofs.goals.goal_json.Goals as goal

pub unfold_entries-requires : goal.unfold_entries-requires
unfold_entries-requires g c =
    let holds = g.T.Terms.holds in
    let means = g.T.Terms.means in
    let old = c.args.terms.now in
    let one = c.unfold_metas.new.terms in
    let metas = decls_held (holds old) (means old) (holds one) (means one) c.in_ok-ty.ensures.kept c.args.metas.now c.requires.metas in
    let entries = entries_held (holds old) (means old) (holds one) (means one) c.in_ok-ty.ensures.kept c.args.decl.now.ctx c.requires.decl.ctx in
    search rules

pub goal_over-requires : goal.goal_over-requires
goal_over-requires g c =
    let means = g.T.Terms.means in
    let one = c.unfold_metas.new.terms in
    let two = c.unfold_entries.new.terms in
    let metas = plain_metas (means one) c.args.metas.now in
    let entries = ap (plain_locals (means two)) c.deref.ensures.value ∙ c.in_ok-entries.ensures.entries ∙ ap (λ ls. map (unfolded_entry metas) (plain_locals (means one) ls)) c.as_slice.ensures in
    let names = names_made (means two) (means one) metas c.deref.result.now c.args.decl.now.ctx entries in
    let context = subst IsContext (sym names) c.requires.context in
    let ty = (c.in_ok-entries.ensures.kept c.in_ok-ty.ty c.in_ok-ty.ensures.held).0 in
    search rules

pub returns-clause-text : goal.returns-clause-text
returns-clause-text g c =
    let holds = g.T.Terms.holds in
    let means = g.T.Terms.means in
    let old = c.args.terms.now in
    let one = c.unfold_metas.new.terms in
    let two = c.unfold_entries.new.terms in
    let metas = plain_metas (means one) c.args.metas.now in
    let entries = ap (plain_locals (means two)) c.deref.ensures.value ∙ c.in_ok-entries.ensures.entries ∙ ap (λ ls. map (unfolded_entry metas) (plain_locals (means one) ls)) c.as_slice.ensures in
    IfOk-weaker c.goal_over.result _ _
    (λ v e. goal_made (holds old) (means old) (holds one) (means one) (holds two) (means two) c.args.metas.now c.args.others.now c.args.goal c.args.decl.now c.in_ok-ty.ty c.deref.result.now v.items
    c.requires.metas c.requires.decl c.in_ok-ty.ensures.kept c.in_ok-entries.ensures.kept c.in_ok-ty.ensures.held c.in_ok-ty.ensures.tree entries e)
    c.goal_over.ensures
