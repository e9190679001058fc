use Rattle.std.proofs.Common.{◌∙◌, ap, ap₂, sym, [], ◌∷◌, ◌++◌, is_none, arith}
use Rattle.pattern_unify.proofs.BadVariables.{marks_more, none_is}
use Rattle.pattern_unify.proofs.spots.marks_of.Goals as goal

pub loop-u-preserved : goal.loop-u-preserved
loop-u-preserved g c =
    let means = g.T.Terms.means c.args.terms.now in
    let good = g.A.Allows.good c.args.allowed.now in
    c.in_ok-push.ensures.items ∙ ap₂ (λ xs b. xs ++ b ∷ []) c.loop-u.invariant (none_is c.in_ok-bad_variable.field-0 c.is_none-mark.result c.is_none-mark.ensures ∙ ap is_none c.in_ok-bad_variable.ensures)
    ∙ sym (marks_more good c.args.under means c.args.us.now c.loop-u.u-index c.u-item.result (omega arith) c.u-item.is)
