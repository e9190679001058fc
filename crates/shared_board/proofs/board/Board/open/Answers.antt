use Rattle.std.proofs.Common.{List, refl, sym, ap, subst}
use Rattle.state_tree.specs.declared.work.Entry.{Entry}
use Rattle.state_tree.specs.Server.{IsLegal}
use Rattle.shared_board.proofs.NewPasses.{all_new}
use Rattle.shared_board.proofs.board.Board.open.Goals as goal

pub returns-clause-passes : goal.returns-clause-passes
returns-clause-passes g c =
    let lock = c.in_ok-shared.shared in
    let opened = c.in_ok-shared.ensures in
    let over_book = subst (λ (book : g.row.W-Env.Denot). IsLegal g.W.Work.value book c.args.tree.journal) (sym (ap (λ h. h.book) opened.book)) opened.legal in
    let legal = subst (λ (journal : List Entry). IsLegal g.W.Work.value lock.the_ground.book journal) (sym opened.journal) over_book in
    all_new g.W.Work.value (record { lock = lock; passes = c.args.passes }) c.args.passes c.in_ok-all.all.items refl c.in_ok-all.ensures.count legal c.in_ok-all.ensures.split
