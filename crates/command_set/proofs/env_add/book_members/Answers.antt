use Rattle.std.proofs.Common.{◌≡◌, subst, IfOk, List, Err}
use Rattle.ld_trees.specs.Term.{Term}
use Rattle.ld_terms.specs.declared.globals.Item.{Item}
use Rattle.book_reader.specs.Answers.{ShowsBook}
use Rattle.command_set.specs.Shown.{IsShownFault}
use Rattle.command_set.proofs.Answered.{kernel_fault_is}
use Rattle.command_set.proofs.env_add.book_members.Goals as goal

pub fault_members-requires : goal.fault_members-requires
fault_members-requires g c = record { showable = subst (IsShownFault (g.T.Terms.holds c.args.terms.now)) c.in-Kernel.is c.requires.shown }

pub returns-in-Kernel-clause-value : goal.returns-in-Kernel-clause-value
returns-in-Kernel-clause-value g c = λ r s.
    let h = g.T.Terms.holds c.args.terms.now in
    let m = g.T.Terms.means c.args.terms.now in
    let shown = subst (ShowsBook {A = List (Item Term)} h m (Err r)) c.in-Kernel.is s in
    subst (λ t. IfOk c.fault_members.result (λ m. m ≡ t)) (kernel_fault_is {A = List (Item Term)} h m c.in-Kernel.item r c.in-Kernel.fault shown) c.fault_members.ensures.value
