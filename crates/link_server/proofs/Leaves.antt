-- What serving links leaves, from the sessions and the closing of the board.
use Rattle.std.proofs.Common.{◌≡◌, ℕ, zero, suc, ◌+◌, ◌<◌, ◌≤◌, inl, inr, ⊎_elim, true, false, List, [], ◌∷◌, ◌++◌, length, map, reverse, drop, slice_get, Option, Some, None, refl, sym, ap, ◌∙◌, subst, arith, All}
use Rattle.std.proofs.lemmas.List.{length-map, length-append, length-reverse}
use Rattle.std.proofs.lemmas.List.Elements.{All-head, All-tail}
use Rattle.turn_lock.proofs.Lists.{All-front}
use Rattle.pan_io.specs.Doors.{GivesFirst}
use Rattle.repl_json.specs.declared.request.Ask.{Ask}
use Rattle.state_tree.specs.declared.work.Found.{Found}
use Rattle.state_tree.specs.declared.work.Entry.{Entry}
use Rattle.state_tree.specs.Value.{Value}
use Rattle.state_tree.specs.Server.{IsLegal}
use Rattle.shared_board.specs.Boards.{BoardMeaning, BoardPassMeaning, IsNewPass}
use Rattle.shared_board.specs.Calls.{GoesOnFrom}
use Rattle.shared_board.specs.Closing.{IsClosedJournal, IsLastPass}
use Rattle.link_server.specs.Doors.{HadInput, RoseAtDoors}
use Rattle.link_server.specs.Links.{Telling, ServedMeaning, IsServedLink, served_as}
use Rattle.link_server.specs.Seats.{AcceptingMeaning, served_at}
use Rattle.link_server.specs.Served.{AreNewPasses, FitsLinks, HasServed}
use Rattle.link_server.specs.declared.seat.Seat.{Seat}
use Rattle.link_server.proofs.EachFrom.{EachFrom, to_first}
use Rattle.link_server.proofs.Accepted.{ArePaired, AreInOrder}
use Rattle.link_server.proofs.Back.{seated, paired_length, first_new}
use Rattle.link_server.proofs.ByLinks.{by_links}
use Rattle.link_server.proofs.Fits.{fits_journal}

-- ---- the inputs, in their order

-- what doors tell after so many links
abbrev pub AreLeft : Option (List (List ℕ)) → ℕ → Option (List (List ℕ)) → Type 0
AreLeft None count told = told ≡ None
AreLeft (Some links) count told = told ≡ Some (drop count links)

all_left : (links : Option (List (List ℕ))) → AreLeft links 0 links
all_left None = refl
all_left (Some links) = refl

next_of : (links : List (List ℕ)) (count : ℕ) (told : Option (List (List ℕ))) (input : Option (List ℕ)) (rest : Option (List (List ℕ))) → told ≡ Some (drop count links) → GivesFirst told input rest
    → (count < length links) × (input ≡ slice_get links count) × (rest ≡ Some (drop (suc count) links))
next_of [] zero told input rest is first = absurd (subst (λ (t : Option (List (List ℕ))). GivesFirst t input rest) is first)
next_of [] (suc count) told input rest is first = absurd (subst (λ (t : Option (List (List ℕ))). GivesFirst t input rest) is first)
next_of (link ∷ links) zero told input rest is first = let gave = subst (λ (t : Option (List (List ℕ))). GivesFirst t input rest) is first in (omega arith, gave.0, gave.1)
next_of (link ∷ links) (suc count) told input rest is first = let next = next_of links count told input rest is first in (omega (arith, next.0), next.1, next.2)

-- the next input is that of this place
next_left : (links : Option (List (List ℕ))) (count : ℕ) (told : Option (List (List ℕ))) (input : Option (List ℕ)) (rest : Option (List (List ℕ))) → AreLeft links count told → GivesFirst told input rest
    → HadInput links count input × AreLeft links (suc count) rest
next_left None count told input rest is first = (tt, subst (λ (t : Option (List (List ℕ))). GivesFirst t input rest) is first)
next_left (Some links) count told input rest is first = let next = next_of links count told input rest is first in ((next.0, next.1), next.2)

module _ {E S : Type 0} (V : Ask → Found E S → Value E S) (board : BoardMeaning E) {W I O : Type 0} (tell : Telling I O) where
  -- the seats, as they are given back
  abbrev pub links_of : List (Seat W I O E S) → List ServedMeaning
  links_of seats = map (served_as tell) (map served_at seats)

  links_length : (seats : List (Seat W I O E S)) → length (links_of seats) ≡ length seats
  links_length seats = length-map (map served_at seats) (served_as tell) ∙ length-map seats served_at

  module _ (links : Option (List (List ℕ))) (journal : List Entry) (found : ℕ) (empty : board.lock.journal ≡ []) (room : length journal ≤ board.lock.the_ground.entries) where
    each_link : (start : ℕ) (told : Option (List (List ℕ))) (passes : List (BoardPassMeaning E)) (seats : List (Seat W I O E S)) → AreLeft links start told
        → EachFrom (IsNewPass V board) start passes → ArePaired V board tell told passes seats → All (λ p. GoesOnFrom p journal) (seated V board tell seats)
        → All (λ p. p.found ≤ found) (seated V board tell seats) → EachFrom (IsServedLink V board.lock.the_ground links journal found) start (links_of seats)
    each_link start told [] [] left new paired goes most = tt
    each_link start told [] (seat ∷ seats) left new paired goes most = absurd paired
    each_link start told (pass ∷ passes) [] left new paired goes most = absurd paired
    each_link start told (pass ∷ passes) (seat ∷ seats) left new paired goes most =
        let next = next_left links start told paired.0 paired.1 left paired.2 in (
          fits_journal V board tell links journal found start paired.0 pass seat empty room new.0 next.0 paired.3
              (All-head (λ p. GoesOnFrom p journal) seat.pass (seated V board tell seats) goes) (All-head (λ p. p.found ≤ found) seat.pass (seated V board tell seats) most),
          each_link (suc start) paired.1 passes seats next.1 new.1 paired.4
              (All-tail (λ p. GoesOnFrom p journal) seat.pass (seated V board tell seats) goes) (All-tail (λ p. p.found ≤ found) seat.pass (seated V board tell seats) most),
        )

  -- what is left of a board that was closed with the passes that came back
  pub fits_links : (waited left passes : List (BoardPassMeaning E)) (seats : List (Seat W I O E S)) (links : Option (List (List ℕ))) (journal : List Entry) (last : BoardPassMeaning E)
      → AreNewPasses V board waited → reverse waited ≡ passes ++ reverse left → ArePaired V board tell links passes seats
      → IsLegal V board.lock.the_ground.book journal → length journal ≤ board.lock.the_ground.entries
      → IsClosedJournal board (seated V board tell seats ++ left) journal → IsLastPass board (seated V board tell seats ++ left) journal last
      → FitsLinks V board.lock.the_ground links (links_of seats) journal last
  fits_links waited left passes seats links journal last new is paired legal room closed at_last = record {
    legal = legal;
    room = room;
    each = to_first (IsServedLink V board.lock.the_ground links journal last.found) (links_of seats)
        (each_link links journal last.found new.empty room 0 links passes seats (all_left links) (first_new V board tell waited left passes seats links new is paired) paired
        (All-front (λ p. GoesOnFrom p journal) (seated V board tell seats) left closed.views) (All-front (λ p. p.found ≤ last.found) (seated V board tell seats) left at_last.found));
    by_links = subst (λ (n : ℕ). All (λ (e : Entry). e.pass < n) journal) (sym (links_length seats)) (by_links V board journal new.empty tell waited left passes seats links new is paired closed);
    seen = at_last.seen;
    number = at_last.number;
  }

  -- how many links were served
  pub has_served : (places : ℕ) (old new : AcceptingMeaning E) (seats more : List (Seat W I O E S)) (r : AreInOrder V board tell old new seats more) → length old.waiting ≡ places → old.failed ≡ false
      → HasServed places old.doors new.doors (length r.added) new.failed
  has_served places old new seats more r all unfailed =
      let counted : length r.added ≡ length r.passes = paired_length V board tell old.doors.links r.passes r.added r.paired in
      let a = length-reverse old.waiting in
      let b = ap length r.waiting ∙ length-append r.passes (reverse new.waiting) in
      let c = length-reverse new.waiting in
      let sum : length r.added + length new.waiting ≡ places = omega arith in
      ⊎_elim
      (λ (h : (new.waiting ≡ []) × (new.failed ≡ old.failed)). let none : length new.waiting ≡ 0 = ap length h.0 in inl (omega arith, h.1 ∙ unfailed))
      (λ (h : (0 < length new.waiting) × (new.failed ≡ true) × RoseAtDoors (length old.waiting) old.doors new.doors).
      let some : 0 < length new.waiting = h.0 in
      inr (omega arith, h.1, subst (λ (n : ℕ). RoseAtDoors n old.doors new.doors) all h.2))
      r.why
