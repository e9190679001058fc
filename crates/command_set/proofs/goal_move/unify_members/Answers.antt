use Rattle.std.proofs.Common.{◌≡◌, subst, ◌∙◌, ap, sym, None, codes}
use Rattle.kernel_check.specs.declared.fault.KernelFault.TheVariants as kernel
use Rattle.elaboration.specs.Refusals.{Unify}
use Rattle.pattern_unify.specs.Answers.{ShowsUnify}
use Rattle.move_set.specs.Answers.{IsBeside, unify_shows_terms}
use Rattle.move_set.specs.Refusals.{Elab}
use Rattle.reply_text.specs.Refusals.{plain, of_goal, out_of_scope, out_of_fuel}
use Rattle.reply_text.specs.Showable.{fault_members}
use Rattle.command_set.specs.Goals.{made, says, move_refusal}
use Rattle.command_set.specs.Shown.{IsShownUnify}
use Rattle.command_set.proofs.Refused.{kernel_refused}
use Rattle.command_set.proofs.Results.{one_ok}
use Rattle.command_set.proofs.goal_move.unify_members.Goals as goal

pub kernel_members-requires : goal.kernel_members-requires
kernel_members-requires g c = record { shown = subst (IsShownUnify g.T.Terms.holds c.args.terms.now) c.in-Kernel.is c.requires.shown }

pub kernel_members-requires-in-Mismatch : goal.kernel_members-requires-in-Mismatch
kernel_members-requires-in-Mismatch g c = record { shown = subst (IsShownUnify g.T.Terms.holds c.args.terms.now) c.in-Mismatch.is c.requires.shown }

pub returns-in-Kernel : goal.returns-in-Kernel
returns-in-Kernel g c = λ o left t beside s.
    let shown = subst (ShowsUnify (λ r. Elab (Unify r)) (g.T.Terms.holds t) (g.T.Terms.means t) o left) c.in-Kernel.is s in
    let at = subst (λ e. IsBeside t c.args.terms.now (unify_shows_terms e)) c.in-Kernel.is beside in
    one_ok c.kernel_members.result (λ x. x ≡ fault_members (g.T.Terms.means t) None c.in-Kernel.fault) (λ x. made o ≡ says x)
    (λ x p. kernel_refused (g.T.Terms.holds t) (g.T.Terms.means t) o left c.in-Kernel.fault shown ∙ ap says (sym p))
    (c.kernel_members.ensures t at)

pub returns-in-Mismatch : goal.returns-in-Mismatch
unfolding move_refusal fault_members
returns-in-Mismatch g c = λ o left t beside s.
    let shown = subst (ShowsUnify (λ r. Elab (Unify r)) (g.T.Terms.holds t) (g.T.Terms.means t) o left) c.in-Mismatch.is s in
    let at = subst (λ e. IsBeside t c.args.terms.now (unify_shows_terms e)) c.in-Mismatch.is beside in
    one_ok c.kernel_members-in-Mismatch.result (λ x. x ≡ fault_members (g.T.Terms.means t) None (kernel.Mismatch c.in-Mismatch.depth c.in-Mismatch.found c.in-Mismatch.wanted)) (λ x. made o ≡ says x)
    (λ x p. ap made shown.0 ∙ ap says (sym p))
    (c.kernel_members-in-Mismatch.ensures t at)

pub returns-in-NotPattern : goal.returns-in-NotPattern
unfolding move_refusal
returns-in-NotPattern g c = λ o left t beside s.
    let shown = subst (ShowsUnify (λ r. Elab (Unify r)) (g.T.Terms.holds t) (g.T.Terms.means t) o left) c.in-NotPattern.is s in
    one_ok c.goal_members.result (λ x. x ≡ of_goal (codes "notPattern") c.in-NotPattern.m) (λ x. made o ≡ says x) (λ x p. ap made shown ∙ ap says (sym p)) c.goal_members.ensures

pub returns-in-Scope : goal.returns-in-Scope
unfolding move_refusal
returns-in-Scope g c = λ o left t beside s.
    let shown = subst (ShowsUnify (λ r. Elab (Unify r)) (g.T.Terms.holds t) (g.T.Terms.means t) o left) c.in-Scope.is s in
    one_ok c.out_of_scope_members.result (λ x. x ≡ out_of_scope c.in-Scope.m c.in-Scope.level) (λ x. made o ≡ says x) (λ x p. ap made shown ∙ ap says (sym p)) c.out_of_scope_members.ensures

pub returns-in-Cycle : goal.returns-in-Cycle
unfolding move_refusal
returns-in-Cycle g c = λ o left t beside s.
    let shown = subst (ShowsUnify (λ r. Elab (Unify r)) (g.T.Terms.holds t) (g.T.Terms.means t) o left) c.in-Cycle.is s in
    one_ok c.goal_members-in-Cycle.result (λ x. x ≡ of_goal (codes "cycle") c.in-Cycle.m) (λ x. made o ≡ says x) (λ x p. ap made shown ∙ ap says (sym p)) c.goal_members-in-Cycle.ensures

pub returns-in-TooDeep : goal.returns-in-TooDeep
unfolding move_refusal
returns-in-TooDeep g c = λ o left t beside s.
    let shown = subst (ShowsUnify (λ r. Elab (Unify r)) (g.T.Terms.holds t) (g.T.Terms.means t) o left) c.in-TooDeep.is s in
    one_ok c.goal_members-in-TooDeep.result (λ x. x ≡ of_goal (codes "tooDeep") c.in-TooDeep.m) (λ x. made o ≡ says x) (λ x p. ap made shown ∙ ap says (sym p)) c.goal_members-in-TooDeep.ensures

pub returns-in-TooManyMetas : goal.returns-in-TooManyMetas
unfolding move_refusal
returns-in-TooManyMetas g c = λ o left t beside s.
    let shown = subst (ShowsUnify (λ r. Elab (Unify r)) (g.T.Terms.holds t) (g.T.Terms.means t) o left) c.in-TooManyMetas.is s in
    one_ok c.plain_members.result (λ x. x ≡ plain (codes "tooManyMetas") None) (λ x. made o ≡ says x) (λ x p. ap made shown ∙ ap says (sym p)) c.plain_members.ensures

pub returns-in-Fuel : goal.returns-in-Fuel
unfolding move_refusal
returns-in-Fuel g c = λ o left t beside s.
    let shown = subst (ShowsUnify (λ r. Elab (Unify r)) (g.T.Terms.holds t) (g.T.Terms.means t) o left) c.in-Fuel.is s in
    one_ok c.fuel_members.result (λ x. x ≡ out_of_fuel None) (λ x. made o ≡ says x) (λ x p. ap made shown.0 ∙ ap says (sym p)) c.fuel_members.ensures
