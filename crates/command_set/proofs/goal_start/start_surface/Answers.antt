use Rattle.std.proofs.Common.{◌∙◌, subst, IfOk}
use Rattle.state_tree.specs.Value.{Gives}
use Rattle.command_set.specs.Goals.{Given}
use Rattle.command_set.proofs.Begun.{start_again}
use Rattle.command_set.proofs.Kept.{items_kept, stored_kept}
use Rattle.command_set.proofs.goal_start.start_surface.Goals as goal

pub start_resolved-requires : goal.start_resolved-requires
start_resolved-requires g c =
    let s = c.stored-stored.result.now.terms in
    let n = c.in_ok-terms.terms in
    record { stored = stored_kept (g.T.Terms.holds s) (g.T.Terms.means s) (g.T.Terms.holds n) (g.T.Terms.means n) c.in_ok-terms.ensures c.stored-stored.result.now.items c.stored-stored.ensures.stored }

pub returns : goal.returns
returns g c =
    let s = c.stored-stored.result.now.terms in
    let n = c.in_ok-terms.terms in
    let same = items_kept (g.T.Terms.holds s) (g.T.Terms.means s) (g.T.Terms.holds n) (g.T.Terms.means n) c.in_ok-terms.ensures c.stored-stored.result.now.items c.stored-stored.ensures.stored.held ∙ c.stored-stored.ensures.plain in
    subst (λ (v : Given). IfOk c.start_resolved.result (λ w. Gives v w)) (start_again (g.T.Terms.means n) c.stored-stored.result.now.items c.args.env.now c.args.units c.args.surface.now same) c.start_resolved.ensures
