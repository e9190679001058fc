-- Each entry of the closed journal was made for a link.
use Rattle.std.proofs.Common.{◌≡◌, ℕ, suc, ◌+◌, ◌<◌, ◌≤◌, ⊎_elim, List, [], ◌∷◌, ◌++◌, length, reverse, get_or, Option, sym, ap, ◌∙◌, subst, arith, All, Contains}
use Rattle.std.proofs.lemmas.Bool.{cases_eq, cases_lt}
use Rattle.std.proofs.lemmas.List.{length-reverse}
use Rattle.std.proofs.lemmas.List.Elements.{All-contains, All-head, All-tail, All-map, All-weaker, Contains-get_or}
use Rattle.turn_lock.specs.Journals.{IsByOthers}
use Rattle.turn_lock.proofs.Lists.{All-back, Contains-head}
use Rattle.repl_json.specs.declared.request.Ask.{Ask}
use Rattle.state_tree.specs.declared.work.Found.{Found}
use Rattle.state_tree.specs.declared.work.Entry.{Entry}
use Rattle.state_tree.specs.Value.{Value}
use Rattle.shared_board.specs.Boards.{BoardMeaning, BoardPassMeaning, IsNewPass, pass_of}
use Rattle.shared_board.specs.Calls.{GoesOnFrom}
use Rattle.shared_board.specs.Closing.{numbers_of, IsClosedJournal}
use Rattle.link_server.specs.Links.{Telling}
use Rattle.link_server.specs.Served.{AreNewPasses}
use Rattle.link_server.specs.declared.seat.Seat.{Seat}
use Rattle.link_server.proofs.EachFrom.{EachFrom, All-reverse}
use Rattle.link_server.proofs.Accepted.{ArePaired}
use Rattle.link_server.proofs.Back.{IsBack, seated, paired_length, all_back, counted_back, rest_new}

module _ {E S : Type 0} (V : Ask → Found E S → Value E S) (board : BoardMeaning E) (journal : List Entry) (empty : board.lock.journal ≡ []) where
  -- a pass that has seen nothing of the journal made none of its entries
  not_by : (place : ℕ) (pass : BoardPassMeaning E) → IsNewPass V board place pass → GoesOnFrom pass journal → (e : Entry) → Contains journal e → e.pass ≡ place → ⊥
  not_by place pass new goes e there is =
      let all : goes.more ≡ journal = ap (λ (seen : List Entry). seen ++ goes.more) (sym (new.seen ∙ empty)) ∙ goes.is in
      let others : All (IsByOthers pass_of (pass.number ∷ pass.took)) journal = subst (All (IsByOthers pass_of (pass.number ∷ pass.took))) all goes.by_others in
      All-contains (IsByOthers pass_of (pass.number ∷ pass.took)) journal e others there
      (subst (Contains (pass.number ∷ pass.took)) (new.number ∙ sym is) (Contains-head pass.number pass.took))

  not_by_any : (start : ℕ) (passes : List (BoardPassMeaning E)) → EachFrom (IsNewPass V board) start passes → All (λ p. GoesOnFrom p journal) passes → (e : Entry) → Contains journal e
      → start ≤ e.pass → e.pass < start + length passes → ⊥
  not_by_any start [] each goes e there from to = absurd (omega arith)
  not_by_any start (pass ∷ passes) each goes e there from to =
      ⊎_elim
      (λ (is : e.pass ≡ start). not_by start pass each.0 (All-head (λ p. GoesOnFrom p journal) pass passes goes) e there is)
      (λ (is : e.pass ≡ start → ⊥). not_by_any (suc start) passes each.1 (All-tail (λ p. GoesOnFrom p journal) pass passes goes) e there (omega arith) (omega arith))
      (cases_eq e.pass start)

  module _ {W I O : Type 0} (tell : Telling I O) (waited left passes : List (BoardPassMeaning E)) (seats : List (Seat W I O E S)) (links : Option (List (List ℕ)))
      (new : AreNewPasses V board waited) (is : reverse waited ≡ passes ++ reverse left) (paired : ArePaired V board tell links passes seats)
      (closed : IsClosedJournal board (seated V board tell seats ++ left) journal) where
    by_passes : (e : Entry) → Contains journal e → e.pass < board.passes
    by_passes e there =
        let all : closed.since ≡ journal = ap (λ (seen : List Entry). seen ++ closed.since) (sym empty) ∙ closed.grows in
        let by_them : All (λ (e : Entry). Contains (numbers_of (seated V board tell seats ++ left)) e.pass) journal
        = subst (All (λ (e : Entry). Contains (numbers_of (seated V board tell seats ++ left)) e.pass)) all closed.by_them in
        let small : All (λ (n : ℕ). n < board.passes) (numbers_of (seated V board tell seats ++ left))
        = All-map (λ (n : ℕ). n < board.passes) (λ (p : BoardPassMeaning E). p.number) (seated V board tell seats ++ left)
        (All-weaker (IsBack V board) (λ p. p.number < board.passes) (λ p b. b.number) (seated V board tell seats ++ left) (all_back V board tell waited left passes seats links new is paired)) in
        All-contains (λ (n : ℕ). n < board.passes) (numbers_of (seated V board tell seats ++ left)) e.pass small
        (All-contains (λ (e : Entry). Contains (numbers_of (seated V board tell seats ++ left)) e.pass) journal e by_them there)

    pub by_links : All (λ (e : Entry). e.pass < length seats) journal
    by_links k d lt =
        let e = get_or journal k d in
        let there : Contains journal e = Contains-get_or journal k d lt in
        let few : e.pass < board.passes = by_passes e there in
        let count = counted_back V board tell waited left passes seats links new is paired in
        let same = paired_length V board tell links passes seats paired in
        let turned = length-reverse left in
        let rest : All (λ p. GoesOnFrom p journal) (reverse left) = All-reverse (λ p. GoesOnFrom p journal) left (All-back (λ p. GoesOnFrom p journal) (seated V board tell seats) left closed.views) in
        ⊎_elim
        (λ (low : e.pass < length passes). omega arith)
        (λ (high : length passes ≤ e.pass). absurd (not_by_any (length passes) (reverse left) (rest_new V board tell waited left passes seats links new is paired) rest e there high (omega arith)))
        (cases_lt e.pass (length passes))
