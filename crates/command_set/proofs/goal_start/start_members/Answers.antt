use Rattle.std.proofs.Common.{◌≡◌, ◌≢◌, subst, ◌∙◌, ap, sym, None}
use Rattle.kernel_check.specs.declared.fault.KernelFault.TheVariants as fault
use Rattle.goal_state.specs.Answers.{ShowsStart}
use Rattle.reply_text.specs.Showable.{fault_members}
use Rattle.command_set.specs.Goals.{begun, says}
use Rattle.command_set.specs.Shown.{IsShownStart}
use Rattle.command_set.proofs.Begun.{start_refused}
use Rattle.command_set.proofs.Results.{both_ok}
use Rattle.command_set.proofs.goal_start.start_members.Goals as goal

pub fault_members-requires : goal.fault_members-requires
fault_members-requires g c = record { showable = subst (IsShownStart (g.T.Terms.holds c.args.terms.now)) c.in-Kernel.is c.requires.shown }

pub returns-in-Kernel : goal.returns-in-Kernel
returns-in-Kernel g c = λ o units left s.
    let h = g.T.Terms.holds c.args.terms.now in
    let m = g.T.Terms.means c.args.terms.now in
    let shown = subst (ShowsStart h m o units left) c.in-Kernel.is s in
    both_ok c.fault_members.result (λ x. x ≡ fault_members m None c.in-Kernel.fault) (λ x. c.in-Kernel.fault ≢ fault.Memory) (λ x. begun o ≡ says x)
    (λ x p q. start_refused h m o units left c.in-Kernel.fault shown ∙ ap says (sym p))
    c.fault_members.ensures.value c.fault_members.ensures.some
