use Rattle.std.proofs.Common.{◌≡◌, subst, ◌∙◌, ap, sym, None}
use Rattle.std.proofs.lemmas.Option.{same_Some}
use Rattle.reply_text.specs.Showable.{fault_members}
use Rattle.command_set.specs.Shown.{IsShownIn}
use Rattle.command_set.proofs.Results.{one_ok}
use Rattle.command_set.proofs.goal_move.kernel_members.Goals as goal

pub fault_members-requires : goal.fault_members-requires
fault_members-requires g c = record { showable = subst (λ o. IsShownIn g.T.Terms.holds o c.args.fault.now) c.in-Some.is c.requires.shown }

pub returns : goal.returns
returns g c = λ t at.
    let k = c.in-Some.terms in
    let same : t ≡ k = same_Some _ _ (sym at ∙ c.in-Some.is) in
    one_ok c.fault_members.result (λ x. x ≡ fault_members (g.T.Terms.means k) None c.args.fault.now) (λ x. x ≡ fault_members (g.T.Terms.means t) None c.args.fault.now)
    (λ x p. p ∙ ap (λ s. fault_members (g.T.Terms.means s) None c.args.fault.now) (sym same))
    c.fault_members.ensures.value
