-- A link that was served fits the journal of the closed board.
use Rattle.std.proofs.Common.{◌≡◌, ℕ, ◌≤◌, List, [], length, Option, sym, ◌∙◌, ap, arith, subst}
use Rattle.repl_json.specs.declared.request.Ask.{Ask}
use Rattle.state_tree.specs.declared.work.Found.{Found}
use Rattle.state_tree.specs.Value.{Value}
use Rattle.state_tree.specs.declared.work.Entry.{Entry}
use Rattle.shared_board.specs.Boards.{BoardMeaning, BoardPassMeaning, IsNewPass}
use Rattle.shared_board.specs.Calls.{GoesOnFrom, tree_with}
use Rattle.session_server.specs.PassSession.{PassSession}
use Rattle.session_server.specs.Own.{own}
use Rattle.session_server.specs.Turns.{TurnsBy}
use Rattle.session_server.specs.declared.run.End.{End}
use Rattle.session_server.specs.declared.run.End.TheVariants as ending
use Rattle.link_server.specs.Doors.{HadInput}
use Rattle.link_server.specs.Links.{Telling, IsServedLink, WornBy, none_yet, served_as}
use Rattle.link_server.specs.Seats.{IsSeated, served_at}
use Rattle.link_server.specs.declared.seat.Seat.{Seat}
use Rattle.session_server.proofs.AtBoards.{none_own}
use Rattle.link_server.proofs.WholeJournal.{fits_whole}

pub worn_by : {E : Type 0} (old new : BoardPassMeaning E) (found : ℕ) (end : End) → new.found ≤ found → TurnsBy old new end → WornBy found end
worn_by old new found ending.Done most t = tt
worn_by old new found ending.ReadFault most t = tt
worn_by old new found ending.WriteFault most t = tt
worn_by old new found (ending.Full n) most t = tt
worn_by old new found (ending.Worn n) most t = (let a = t.0 in let b = t.1 in omega arith, let a = t.0 in omega arith)
worn_by old new found (ending.Long n) most t = tt
worn_by old new found ending.Memory most t = tt

module _ {E S : Type 0} (V : Ask → Found E S → Value E S) (board : BoardMeaning E) {W I O : Type 0} (tell : Telling I O) (links : Option (List (List ℕ))) (journal : List Entry) (found : ℕ) where
  pub fits_journal : (place : ℕ) (input : Option (List ℕ)) (pass : BoardPassMeaning E) (seat : Seat W I O E S)
      → board.lock.journal ≡ [] → length journal ≤ board.lock.the_ground.entries → IsNewPass V board place pass → HadInput links place input
      → IsSeated V board tell input pass seat → GoesOnFrom seat.pass journal → seat.pass.found ≤ found
      → IsServedLink V board.lock.the_ground links journal found place (served_as tell (served_at seat))
  fits_journal place input pass seat empty room new had seated goes most =
      let s = seated in
      let same : seat.pass.number ≡ pass.number = ap (λ (p : BoardPassMeaning E). p.number) s.same.same in
      let others : own pass.number goes.more ≡ [] = subst (λ (n : ℕ). own n goes.more ≡ []) same (none_own seat.pass.number seat.pass.took goes.more goes.by_others) in
      let begun : PassSession V pass.number input (tell.left seat.input) (tree_with board.lock.the_ground []) (tree_with board.lock.the_ground seat.pass.seen)
      (none_yet (tell.taken seat.output)) (tell.taken seat.output) seat.end
      = subst (λ (seen : List Entry). PassSession V pass.number input (tell.left seat.input) (tree_with board.lock.the_ground seen) (tree_with board.lock.the_ground seat.pass.seen)
      (none_yet (tell.taken seat.output)) (tell.taken seat.output) seat.end) (new.seen ∙ empty) s.session in
      record {
        link = same ∙ new.number;
        pass = same ∙ new.number;
        input = input;
        had = had;
        session = subst (λ (n : ℕ). PassSession V n input (tell.left seat.input) (tree_with board.lock.the_ground [])
            (tree_with board.lock.the_ground journal) (none_yet (tell.taken seat.output)) (tell.taken seat.output) seat.end) (sym same)
            (fits_whole V pass.number seat.pass.seen journal goes.more goes.is others board.lock.the_ground input (tell.left seat.input) (none_yet (tell.taken seat.output)) (tell.taken seat.output) seat.end room begun);
        read = s.read;
        write = s.write;
        worn = worn_by pass seat.pass found seat.end most s.turns;
      }
