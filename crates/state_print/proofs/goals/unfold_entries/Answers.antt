use Rattle.std.proofs.Common.{arith, rules}
use Rattle.goal_state.proofs.Means.{decls_held}
use Rattle.state_print.proofs.Turns.{entered, entries_held}
use Rattle.state_print.proofs.goals.unfold_entries.Goals as goal

pub unfold_metas-requires : goal.unfold_metas-requires
unfold_metas-requires g c =
    let holds = g.T.Terms.holds in
    let means = g.T.Terms.means in
    let old = c.args.terms.now in
    let before = c.loop-entry.terms in
    let metas = decls_held (holds old) (means old) (holds before) (means before) c.loop-entry.invariant.kept c.args.metas.now c.requires.metas in
    let entries = entries_held (holds old) (means old) (holds before) (means before) c.loop-entry.invariant.kept c.args.ctx.now c.requires.entries in
    search rules

pub loop-entry-preserved : goal.loop-entry-preserved
loop-entry-preserved g c =
    let holds = g.T.Terms.holds in
    let means = g.T.Terms.means in
    let old = c.args.terms.now in
    let before = c.loop-entry.terms in
    let after = c.unfold_metas.new.terms in
    rw c.in_ok-push.ensures.items
    (entered (holds old) (means old) (holds before) (means before) (holds after) (means after) c.args.metas.now c.args.ctx.now c.loop-entry.entries.items
    c.loop-entry.entry-index c.entry-item.result _ c.loop-entry.invariant c.requires.metas c.requires.entries (omega arith) c.entry-item.is
    c.in_ok-ty.ensures.kept c.in_ok-ty.ensures.held c.in_ok-name.ensures c.in_ok-ty.ensures.tree)
