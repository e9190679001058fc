use Rattle.std.proofs.Common.{◌≢◌, ◌∙◌, sym, subst as transport}
use Rattle.ld_trees.specs.Term.{Sort, Srt}
use Rattle.conversion.specs.Runs.{go_on, pure}
use Rattle.kernel_check.specs.Answers.{Answers}
use Rattle.kernel_check.proofs.Calls.{residual, shows_more, sort_in_is}
use Rattle.kernel_check.proofs.types.sort_in.Goals as goal

pub returns-in_err-form-clause-value : goal.returns-in_err-form-clause-value
returns-in_err-form-clause-value g c Δ Γ t F d n e f =
    let h = g.T.Terms.holds c.form_of.new.terms in
    let m = g.T.Terms.means c.form_of.new.terms in
    let no : (s : Sort) → g.T.Terms.means c.args.terms.now c.args.found ≢ Srt s = λ s q. let z = c.if-is_sort.ensures.1 (s, q) in cc in
    transport (λ o. Answers h m m (go_on o (λ s. pure (Srt s))) c.form_of.new.fuel c.from_residual.result) (sym (sort_in_is Δ Γ t F c.args.fuel.now (λ s q. no s (f ∙ q))))
    (residual h m m _ _ c.from_residual.result c.in_err-form.field-0.0 c.from_residual.ensures.1
    (shows_more h m _ _ _ c.in_err-form.field-0.0 (shows_more h m _ _ _ c.in_err-form.field-0.0 (c.in_err-form.ensures.value Δ F d f))))
