-- The links that were accepted, in their order.
use Rattle.std.proofs.Common.{◌≡◌, ℕ, ◌+◌, ◌<◌, ◌≤◌, ◌⊎◌, ⊎_elim, inl, inr, true, List, [], ◌∷◌, ◌++◌, length, reverse, Option, Some, None, refl, sym, ◌∙◌, ap, arith, subst}
use Rattle.std.proofs.lemmas.List.{length-append, reverse-append}
use Rattle.pan_io.specs.Doors.{GivesFirst, HasNoLink, RoseAtAccept}
use Rattle.pan_io.specs.Faults.{Rose}
use Rattle.repl_json.specs.declared.request.Ask.{Ask}
use Rattle.state_tree.specs.declared.work.Found.{Found}
use Rattle.state_tree.specs.Value.{Value}
use Rattle.shared_board.specs.Boards.{BoardMeaning, BoardPassMeaning}
use Rattle.link_server.specs.Beside.{none, next}
use Rattle.link_server.specs.Doors.{HasFewer, RoseAtDoors}
use Rattle.link_server.specs.Links.{Telling}
use Rattle.link_server.specs.Seats.{AcceptingMeaning, GivesLink, EndsLinks, AreServed, IsSeated}
use Rattle.link_server.specs.declared.seat.Seat.{Seat}

-- a count that rose later has risen
pub risen : (first before now : ℕ) → first ≤ before → Rose before now → Rose first now
risen first before now later (inl up) = inl (omega arith)
risen first before now later (inr most) = inr most

-- no link is fewer than some
few : (links : Option (List (List ℕ))) (count : ℕ) → 0 < count → HasNoLink links → HasFewer links count
few None count some e = absurd cc
few (Some links) count some e = subst (λ (l : Option (List (List ℕ))). HasFewer l count) (sym e) some

-- one link more is told, and one pass more waited
fewer : (links rest : Option (List (List ℕ))) (input : Option (List ℕ)) (count : ℕ) → GivesFirst links input rest → HasFewer rest count → HasFewer links (count + 1)
fewer None rest input count first less = subst (λ (l : Option (List (List ℕ))). HasFewer l count) first less
fewer (Some []) rest input count first less = absurd first
fewer (Some (link ∷ others)) rest input count first less = let l = subst (λ (l : Option (List (List ℕ))). HasFewer l count) first.1 less in omega arith

module _ {E : Type 0} where
  -- why no more links were accepted
  abbrev pub Why : AcceptingMeaning E → AcceptingMeaning E → Type 0
  Why old new = ((new.waiting ≡ []) × (new.failed ≡ old.failed))
      ⊎ ((0 < length new.waiting) × (new.failed ≡ true) × RoseAtDoors (length old.waiting) old.doors new.doors)

  why_ended : (old new : AcceptingMeaning E) → EndsLinks old new → Why old new
  why_ended old new e =
      ⊎_elim (λ (h : (old.waiting ≡ []) × (new.doors ≡ old.doors) × (new.failed ≡ old.failed)). inl (e.waiting ∙ h.0, h.2))
      (λ (h : (0 < length old.waiting) × (new.failed ≡ true) × RoseAtAccept old.doors.links old.doors.faults new.doors.faults × (HasNoLink old.doors.links → HasNoLink new.doors.links)).
      inr (
        subst (λ (ps : List (BoardPassMeaning E)). 0 < length ps) (sym e.waiting) h.0,
        h.1,
        ⊎_elim (λ (up : Rose old.doors.faults new.doors.faults). inl up) (λ (no : HasNoLink old.doors.links). inr (few old.doors.links (length old.waiting) h.0 no, h.3 no)) h.2,
      ))
      e.why

  why_next : (old left new : AcceptingMeaning E) (input : Option (List ℕ)) (pass : BoardPassMeaning E) → GivesLink input pass old left → Why left new → Why old new
  why_next old left new input pass gave why =
      let count : length old.waiting ≡ length left.waiting + 1 = ap length gave.waiting ∙ length-append left.waiting (pass ∷ []) in
      ⊎_elim (λ (h : (new.waiting ≡ []) × (new.failed ≡ left.failed)). inl (h.0, h.1 ∙ gave.failed))
      (λ (h : (0 < length new.waiting) × (new.failed ≡ true) × RoseAtDoors (length left.waiting) left.doors new.doors).
      inr (
        h.0,
        h.1,
        ⊎_elim (λ (up : Rose left.doors.faults new.doors.faults). inl (risen old.doors.faults left.doors.faults new.doors.faults gave.later up))
            (λ (f : HasFewer left.doors.links (length left.waiting) × HasNoLink new.doors.links).
            inr (subst (λ (n : ℕ). HasFewer old.doors.links n) (sym count) (fewer old.doors.links left.doors.links input (length left.waiting) gave.first f.0), f.1))
            h.2,
      ))
      why

module _ {E S : Type 0} (V : Ask → Found E S → Value E S) (board : BoardMeaning E) {W I O : Type 0} (tell : Telling I O) where
  -- each pass served the next link
  abbrev pub ArePaired : Option (List (List ℕ)) → List (BoardPassMeaning E) → List (Seat W I O E S) → Type 0
  ArePaired links [] [] = Unit {0}
  ArePaired links (pass ∷ passes) (seat ∷ seats) =
      (input : Option (List ℕ)) × (rest : Option (List (List ℕ))) × GivesFirst links input rest × IsSeated V board tell input pass seat × ArePaired rest passes seats
  ArePaired links passes seats = ⊥

  pub record AreInOrder (old new : AcceptingMeaning E) (seats more : List (Seat W I O E S)) : Type 0 where
    pub passes : List (BoardPassMeaning E)
    pub added : List (Seat W I O E S)
    pub waiting : reverse old.waiting ≡ passes ++ reverse new.waiting
    pub seats_are : reverse more ≡ added ++ reverse seats
    pub paired : ArePaired old.doors.links passes added
    pub address : new.doors.address ≡ old.doors.address
    pub later : old.doors.faults ≤ new.doors.faults
    pub why : Why old new

  pub in_order : {old new : AcceptingMeaning E} {seats more : List (Seat W I O E S)} → AreServed V board tell old new seats more → AreInOrder old new seats more
  in_order {old} {new} {seats} (none e) = record {
    passes = [];
    added = [];
    waiting = ap reverse (sym e.waiting);
    seats_are = refl;
    paired = tt;
    address = e.address;
    later = e.later;
    why = why_ended old new e;
  }
  in_order {old} {new} {seats} (next {left = left} {more = more} given seat gave has rest) =
      let r = in_order rest in
      record {
        passes = given.pass ∷ r.passes;
        added = seat ∷ r.added;
        waiting = ap reverse gave.waiting ∙ reverse-append left.waiting (given.pass ∷ []) ∙ ap (λ (ps : List (BoardPassMeaning E)). given.pass ∷ ps) r.waiting;
        seats_are = reverse-append more (seat ∷ []) ∙ ap (λ (ss : List (Seat W I O E S)). seat ∷ ss) r.seats_are;
        paired = (tell.left given.input, left.doors.links, gave.first, has, r.paired);
        address = r.address ∙ gave.address;
        later = let a = gave.later in let b = r.later in omega arith;
        why = why_next old left new (tell.left given.input) given.pass gave r.why;
      }
