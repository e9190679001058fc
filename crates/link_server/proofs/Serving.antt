-- The parts of serving, together.
use Rattle.std.proofs.Common.{◌≡◌, ℕ, ◌+◌, ◌<◌, ◌≤◌, false, List, [], ◌∷◌, ◌++◌, length, drop, map, reverse, Option, Some, None, refl, sym, ap, ◌∙◌, subst, arith, All, Contains, HoldsAt}
use Rattle.std.proofs.lemmas.List.{append-nil, length-map, length-reverse, reverse-reverse}
use Rattle.repl_json.specs.declared.request.Ask.{Ask}
use Rattle.state_tree.specs.declared.work.Found.{Found}
use Rattle.state_tree.specs.declared.work.Entry.{Entry}
use Rattle.state_tree.specs.Value.{Value}
use Rattle.state_tree.specs.Server.{IsLegal}
use Rattle.shared_board.specs.Boards.{BoardMeaning, BoardPassMeaning, IsBoardPassOf, IsNewPass}
use Rattle.shared_board.specs.Closing.{numbers_of, NotesAreLearnt, IsClosedJournal, IsLastPass}
use Rattle.link_server.specs.Links.{Telling, served_as}
use Rattle.link_server.specs.Seats.{AcceptingMeaning, AreServed, served_at}
use Rattle.link_server.specs.Served.{AreNewPasses, FitsLinks, HasServed, LeavesOthers}
use Rattle.link_server.specs.declared.seat.Seat.{Seat}
use Rattle.link_server.specs.declared.served.Served.{Served}
use Rattle.link_server.proofs.Accepted.{AreInOrder, in_order}
use Rattle.link_server.proofs.Back.{seated, own_back, numbers_back, notes_back, paired_length, counted_back}
use Rattle.link_server.proofs.ByLinks.{by_links}
use Rattle.link_server.proofs.Leaves.{fits_links, has_served}
use Rattle.link_server.proofs.Left.{left_others}

module _ {E S : Type 0} (V : Ask → Found E S → Value E S) (board : BoardMeaning E) where
  -- the passes of a new board, turned round
  pub opened_passes : (count : ℕ) (all waiting : List (BoardPassMeaning E)) → waiting ≡ reverse all → board.lock.journal ≡ [] → board.passes ≡ count → length all ≡ count → count ≤ 64
      → ((i : ℕ) → i < count → HoldsAt (IsNewPass V board i) all i) → AreNewPasses V board waiting
  opened_passes count all waiting turned empty passes long few each =
      let same : all ≡ reverse waiting = sym (ap reverse turned ∙ reverse-reverse all) in
      record {
        empty = empty;
        few = omega arith;
        count = ap length turned ∙ length-reverse all ∙ long ∙ sym passes;
        each = λ place in'. subst (λ (ps : List (BoardPassMeaning E)). HoldsAt (IsNewPass V board place) ps place) same (each place (omega arith));
      }

  -- ---- links were accepted

  module _ {I O : Type 0} (tell : Telling I O) (old new : AcceptingMeaning E) where
    -- what the passes that come back and the links are to their board
    pub record AreOver (back : List (BoardPassMeaning E)) (served : List (Served I O)) : Type 0 where
      pub own : All (IsBoardPassOf V board) back
      pub numbers : (n : ℕ) → n < board.passes → Contains (numbers_of back) n
      pub notes : NotesAreLearnt back
      pub fits : (journal : List Entry) (last : BoardPassMeaning E) → IsLegal V board.lock.the_ground.book journal → length journal ≤ board.lock.the_ground.entries
          → IsClosedJournal board back journal → IsLastPass board back journal last → FitsLinks V board.lock.the_ground old.doors.links (map (served_as tell) served) journal last
      pub counts : old.failed ≡ false → HasServed board.passes old.doors new.doors (length served) new.failed
      pub left : LeavesOthers board.passes (length served) old.doors new.doors
      pub few : length served ≤ board.passes
      pub address : new.doors.address ≡ old.doors.address
      pub later : old.doors.faults ≤ new.doors.faults

  module _ {W I O : Type 0} (tell : Telling I O) (old new : AcceptingMeaning E) where
    module _ (seats more : List (Seat W I O E S)) (unseated : seats ≡ []) (ran : AreServed V board tell old new seats more) (fresh : AreNewPasses V board old.waiting) where
      abbrev order : AreInOrder V board tell old new [] more
      order = in_order V board tell (subst (λ (none : List (Seat W I O E S)). AreServed V board tell old new none more) unseated ran)

      added_is : reverse more ≡ order.added
      added_is = order.seats_are ∙ append-nil order.added

      served_count : length order.added + length new.waiting ≡ board.passes
      served_count =
          let a = counted_back V board tell old.waiting new.waiting order.passes order.added old.doors.links fresh order.waiting order.paired in
          let b = paired_length V board tell old.doors.links order.passes order.added order.paired in
          omega arith

      -- room for the passes that come back
      pub cleared_count : (none cleared : List (BoardPassMeaning E)) → none ≡ [] → cleared ≡ none ++ map (λ (seat : Seat W I O E S). seat.pass) (reverse more)
          → length cleared + length new.waiting ≡ length old.waiting
      cleared_count none cleared empty is =
          let all = is ∙ ap (λ (ps : List (BoardPassMeaning E)). ps ++ map (λ (seat : Seat W I O E S). seat.pass) (reverse more)) empty in
          let a = ap length all ∙ length-map (reverse more) (λ (seat : Seat W I O E S). seat.pass) ∙ ap length added_is in
          let b = served_count in
          let c = fresh.count in
          omega arith

      -- the passes that come back, and the links
      module _ (none cleared back : List (BoardPassMeaning E)) (nobody served : List (Served I O)) (empty : none ≡ []) (unserved : nobody ≡ [])
          (cleared_is : cleared ≡ none ++ map (λ (seat : Seat W I O E S). seat.pass) (reverse more)) (back_is : back ≡ cleared ++ new.waiting)
          (served_is : served ≡ nobody ++ map served_at (reverse more)) where
        back_same : seated V board tell order.added ++ new.waiting ≡ back
        back_same =
            let all : cleared ≡ seated V board tell (reverse more) = cleared_is ∙ ap (λ (ps : List (BoardPassMeaning E)). ps ++ seated V board tell (reverse more)) empty in
            sym (back_is ∙ ap (λ (ps : List (BoardPassMeaning E)). ps ++ new.waiting) (all ∙ ap (seated V board tell) added_is))

        served_same : map served_at order.added ≡ served
        served_same = sym (served_is ∙ ap (λ (links : List (Served I O)). links ++ map served_at (reverse more)) unserved ∙ ap (map served_at) added_is)

        served_long : length order.added ≡ length served
        served_long = sym (length-map order.added served_at) ∙ ap length served_same

        left_served : LeavesOthers board.passes (length served) old.doors new.doors
        left_served calm inputs told =
            let ran_all = subst (λ (none : List (Seat W I O E S)). AreServed V board tell old new none more) unseated ran in
            let a = served_count in
            let b = served_long in
            let c = sym (length-reverse more) ∙ ap length added_is in
            let after = left_others V board tell ran_all (λ waits. calm (omega arith)) inputs told in
            let counted = after.1 in
            let same : after.0 ≡ length served = omega arith in
            after.2 ∙ ap (λ (n : ℕ). Some (drop n inputs)) same

        fits_served : (journal : List Entry) (last : BoardPassMeaning E) → IsLegal V board.lock.the_ground.book journal → length journal ≤ board.lock.the_ground.entries
            → IsClosedJournal board back journal → IsLastPass board back journal last → FitsLinks V board.lock.the_ground old.doors.links (map (served_as tell) served) journal last
        fits_served journal last legal room closed at_last =
            let came = sym back_same in
            subst (λ (links : List (Served I O)). FitsLinks V board.lock.the_ground old.doors.links (map (served_as tell) links) journal last) served_same
            (fits_links V board tell old.waiting new.waiting order.passes order.added old.doors.links journal last fresh order.waiting order.paired legal room
            (subst (λ (ps : List (BoardPassMeaning E)). IsClosedJournal board ps journal) came closed) (subst (λ (ps : List (BoardPassMeaning E)). IsLastPass board ps journal last) came at_last))

        pub over : AreOver tell old new back served
        over = record {
          own = subst (All (IsBoardPassOf V board)) back_same (own_back V board tell old.waiting new.waiting order.passes order.added old.doors.links fresh order.waiting order.paired);
          numbers = λ n in'. subst (λ (ps : List (BoardPassMeaning E)). Contains (numbers_of ps) n) back_same
              (numbers_back V board tell old.waiting new.waiting order.passes order.added old.doors.links fresh order.waiting order.paired n in');
          notes = subst NotesAreLearnt back_same (notes_back V board tell old.waiting new.waiting order.passes order.added old.doors.links fresh order.waiting order.paired);
          fits = fits_served;
          counts = λ unfailed. subst (λ (n : ℕ). HasServed board.passes old.doors new.doors n new.failed) served_long (has_served V board tell board.passes old new [] more order fresh.count unfailed);
          left = left_served;
          few = let a = served_count in let b = served_long in omega arith;
          address = order.address;
          later = order.later;
        }

  -- ---- no link was accepted

  module _ (waiting : List (BoardPassMeaning E)) (fresh : AreNewPasses V board waiting) where
    -- nothing tells of no link
    abbrev nothing : Telling (Unit {0}) (Unit {0})
    nothing = record { left = λ u. None; input_faults = λ u. 0; taken = λ u. None; output_faults = λ u. 0 }

    pub waiting_own : All (IsBoardPassOf V board) waiting
    waiting_own = own_back V board {W = Unit {0}} nothing waiting waiting [] [] None fresh refl tt

    pub waiting_numbers : (n : ℕ) → n < board.passes → Contains (numbers_of waiting) n
    waiting_numbers = numbers_back V board {W = Unit {0}} nothing waiting waiting [] [] None fresh refl tt

    pub waiting_notes : NotesAreLearnt waiting
    waiting_notes = notes_back V board {W = Unit {0}} nothing waiting waiting [] [] None fresh refl tt

    module _ (journal : List Entry) (closed : IsClosedJournal board waiting journal) where
      pub no_entries : journal ≡ []
      no_entries = nobody journal (by_links V board journal fresh.empty {W = Unit {0}} nothing waiting waiting [] [] None fresh refl tt closed)
        where
          nobody : (es : List Entry) → All (λ (e : Entry). e.pass < 0) es → es ≡ []
          nobody [] all = refl
          nobody (e ∷ es) all = let small : e.pass < 0 = all 0 e (omega arith) in absurd (omega arith)

      pub leaves_none : (links : Option (List (List ℕ))) (last : BoardPassMeaning E) → IsLegal V board.lock.the_ground.book journal → length journal ≤ board.lock.the_ground.entries
          → IsLastPass board waiting journal last → FitsLinks V board.lock.the_ground links [] [] last
      leaves_none links last legal room at_last =
          subst (λ (es : List Entry). FitsLinks V board.lock.the_ground links [] es last) no_entries
          (fits_links V board {W = Unit {0}} nothing waiting waiting [] [] links journal last fresh refl tt legal room closed at_last)
