use Rattle.std.proofs.Common.{◌≡◌, ◌∙◌, subst, IfOk}
use Rattle.command_set.proofs.Kept.{items_kept, stored_kept}
use Rattle.command_set.proofs.Echoed.{resolved_again}
use Rattle.command_set.proofs.expr_echo.surface_members.Goals as goal

pub resolved_members-requires : goal.resolved_members-requires
resolved_members-requires g c =
    let s = c.stored-stored.result.now.terms in
    let n = c.in_ok-terms.terms in
    record { stored = stored_kept (g.T.Terms.holds s) (g.T.Terms.means s) (g.T.Terms.holds n) (g.T.Terms.means n) c.in_ok-terms.ensures c.stored-stored.result.now.items c.stored-stored.ensures.stored }

pub returns : goal.returns
returns g c =
    let s = c.stored-stored.result.now.terms in
    let n = c.in_ok-terms.terms in
    let same = items_kept (g.T.Terms.holds s) (g.T.Terms.means s) (g.T.Terms.holds n) (g.T.Terms.means n) c.in_ok-terms.ensures c.stored-stored.result.now.items c.stored-stored.ensures.stored.held ∙ c.stored-stored.ensures.plain in
    subst (λ t. IfOk c.resolved_members.result (λ m. m ≡ t)) (resolved_again (g.T.Terms.means n) c.stored-stored.result.now.items c.args.env.now c.args.units c.args.surface.now same) c.resolved_members.ensures
