use Rattle.std.proofs.Common.{◌≡◌, subst, ◌∙◌, ap, sym, None, codes}
use Rattle.kernel_check.specs.declared.fault.KernelFault.TheVariants as kernel
use Rattle.elaborate.specs.Answers.{ShowsElab}
use Rattle.move_set.specs.Answers.{IsBeside, elab_shows_terms}
use Rattle.move_set.specs.Refusals.{Elab}
use Rattle.reply_text.specs.Refusals.{plain, unknown_name, wrong_count, no_expected, out_of_fuel}
use Rattle.reply_text.specs.Showable.{fault_members}
use Rattle.command_set.specs.Goals.{made, says, move_refusal}
use Rattle.command_set.specs.Shown.{IsShownElab}
use Rattle.command_set.proofs.Results.{one_ok}
use Rattle.command_set.proofs.goal_move.elab_members.Goals as goal

pub unify_members-requires : goal.unify_members-requires
unify_members-requires g c = record { shown = subst (IsShownElab g.T.Terms.holds c.args.terms.now) c.in-Unify.is c.requires.shown }

pub kernel_members-requires : goal.kernel_members-requires
kernel_members-requires g c = record { shown = subst (IsShownElab g.T.Terms.holds c.args.terms.now) c.in-NotFunction.is c.requires.shown }

pub kernel_members-requires-in-NotType : goal.kernel_members-requires-in-NotType
kernel_members-requires-in-NotType g c = record { shown = subst (IsShownElab g.T.Terms.holds c.args.terms.now) c.in-NotType.is c.requires.shown }

pub returns-in-Unify : goal.returns-in-Unify
returns-in-Unify g c = λ o left t beside s.
    let shown = subst (ShowsElab (λ r. Elab r) (g.T.Terms.holds t) (g.T.Terms.means t) o left) c.in-Unify.is s in
    let at = subst (λ e. IsBeside t c.args.terms.now (elab_shows_terms e)) c.in-Unify.is beside in
    c.unify_members.ensures o left t at shown.1

pub returns-in-NotFunction : goal.returns-in-NotFunction
unfolding move_refusal fault_members
returns-in-NotFunction g c = λ o left t beside s.
    let shown = subst (ShowsElab (λ r. Elab r) (g.T.Terms.holds t) (g.T.Terms.means t) o left) c.in-NotFunction.is s in
    let at = subst (λ e. IsBeside t c.args.terms.now (elab_shows_terms e)) c.in-NotFunction.is beside in
    one_ok c.kernel_members.result (λ x. x ≡ fault_members (g.T.Terms.means t) None (kernel.NotFunction c.in-NotFunction.depth c.in-NotFunction.term c.in-NotFunction.found)) (λ x. made o ≡ says x)
    (λ x p. ap made shown.0 ∙ ap says (sym p))
    (c.kernel_members.ensures t at)

pub returns-in-NotType : goal.returns-in-NotType
unfolding move_refusal fault_members
returns-in-NotType g c = λ o left t beside s.
    let shown = subst (ShowsElab (λ r. Elab r) (g.T.Terms.holds t) (g.T.Terms.means t) o left) c.in-NotType.is s in
    let at = subst (λ e. IsBeside t c.args.terms.now (elab_shows_terms e)) c.in-NotType.is beside in
    one_ok c.kernel_members-in-NotType.result (λ x. x ≡ fault_members (g.T.Terms.means t) None (kernel.NotType c.in-NotType.depth c.in-NotType.term)) (λ x. made o ≡ says x)
    (λ x p. ap made shown.0 ∙ ap says (sym p))
    (c.kernel_members-in-NotType.ensures t at)

pub returns-in-UnknownName : goal.returns-in-UnknownName
unfolding move_refusal
returns-in-UnknownName g c = λ o left t beside s.
    let shown = subst (ShowsElab (λ r. Elab r) (g.T.Terms.holds t) (g.T.Terms.means t) o left) c.in-UnknownName.is s in
    one_ok c.unknown_name_members.result (λ x. x ≡ unknown_name None c.in-UnknownName.at c.in-UnknownName.name) (λ x. made o ≡ says x) (λ x p. ap made shown ∙ ap says (sym p)) c.unknown_name_members.ensures

pub returns-in-WrongCount : goal.returns-in-WrongCount
unfolding move_refusal
returns-in-WrongCount g c = λ o left t beside s.
    let shown = subst (ShowsElab (λ r. Elab r) (g.T.Terms.holds t) (g.T.Terms.means t) o left) c.in-WrongCount.is s in
    one_ok c.wrong_count_members.result (λ x. x ≡ wrong_count None c.in-WrongCount.at c.in-WrongCount.name c.in-WrongCount.given c.in-WrongCount.wanted) (λ x. made o ≡ says x) (λ x p. ap made shown ∙ ap says (sym p)) c.wrong_count_members.ensures

pub returns-in-NoExpected : goal.returns-in-NoExpected
unfolding move_refusal
returns-in-NoExpected g c = λ o left t beside s.
    let shown = subst (ShowsElab (λ r. Elab r) (g.T.Terms.holds t) (g.T.Terms.means t) o left) c.in-NoExpected.is s in
    one_ok c.no_expected_members.result (λ x. x ≡ no_expected c.in-NoExpected.at) (λ x. made o ≡ says x) (λ x p. ap made shown ∙ ap says (sym p)) c.no_expected_members.ensures

pub returns-in-TooManyMetas : goal.returns-in-TooManyMetas
unfolding move_refusal
returns-in-TooManyMetas g c = λ o left t beside s.
    let shown = subst (ShowsElab (λ r. Elab r) (g.T.Terms.holds t) (g.T.Terms.means t) o left) c.in-TooManyMetas.is s in
    one_ok c.plain_members.result (λ x. x ≡ plain (codes "tooManyMetas") None) (λ x. made o ≡ says x) (λ x p. ap made shown ∙ ap says (sym p)) c.plain_members.ensures

pub returns-in-Fuel : goal.returns-in-Fuel
unfolding move_refusal
returns-in-Fuel g c = λ o left t beside s.
    let shown = subst (ShowsElab (λ r. Elab r) (g.T.Terms.holds t) (g.T.Terms.means t) o left) c.in-Fuel.is s in
    one_ok c.fuel_members.result (λ x. x ≡ out_of_fuel None) (λ x. made o ≡ says x) (λ x p. ap made shown.0 ∙ ap says (sym p)) c.fuel_members.ensures
