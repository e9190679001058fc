-- Which links are left when the others were served.
use Rattle.std.proofs.Common.{◌≡◌, ℕ, suc, ◌+◌, ◌<◌, ⊎_elim, true, List, [], ◌∷◌, length, drop, Option, Some, sym, ap, ◌∙◌, subst, arith}
use Rattle.std.proofs.lemmas.List.{length-append}
use Rattle.pan_io.specs.Doors.{GivesFirst, HasNoLink, RoseAtAccept}
use Rattle.pan_io.specs.Faults.{Rose}
use Rattle.repl_json.specs.declared.request.Ask.{Ask}
use Rattle.state_tree.specs.declared.work.Found.{Found}
use Rattle.state_tree.specs.Value.{Value}
use Rattle.shared_board.specs.Boards.{BoardMeaning, BoardPassMeaning}
use Rattle.link_server.specs.Beside.{none, next}
use Rattle.link_server.specs.Doors.{DoorsMeaning}
use Rattle.link_server.specs.Links.{Telling}
use Rattle.link_server.specs.Seats.{AcceptingMeaning, EndsLinks, AreServed}
use Rattle.link_server.specs.declared.seat.Seat.{Seat}
use Rattle.link_server.proofs.Accepted.{risen}

-- one link was given, and these are left behind it
left_behind : (inputs : List (List ℕ)) (input : Option (List ℕ)) (rest now : Option (List (List ℕ))) (start long : ℕ) → GivesFirst (Some inputs) input rest
    → ((others : List (List ℕ)) → rest ≡ Some others → (count : ℕ) × (long ≡ start + count) × (now ≡ Some (drop count others)))
    → (count : ℕ) × (long + 1 ≡ start + count) × (now ≡ Some (drop count inputs))
left_behind [] input rest now start long first others_left = absurd first
left_behind (link ∷ others) input rest now start long first others_left =
    let after = others_left others first.1 in
    let counted = after.1 in
    (suc after.0, omega arith, after.2)

module _ {E : Type 0} where
  -- no further link was given
  left_ended : (old new : AcceptingMeaning E) → EndsLinks old new → (0 < length new.waiting → ¬ Rose old.doors.faults new.doors.faults)
      → (inputs : List (List ℕ)) → old.doors.links ≡ Some inputs → new.doors.links ≡ Some inputs
  left_ended old new e calm inputs told =
      ⊎_elim (λ (h : (old.waiting ≡ []) × (new.doors ≡ old.doors) × (new.failed ≡ old.failed)). ap (λ (d : DoorsMeaning). d.links) h.1 ∙ told)
      (λ (h : (0 < length old.waiting) × (new.failed ≡ true) × RoseAtAccept old.doors.links old.doors.faults new.doors.faults × (HasNoLink old.doors.links → HasNoLink new.doors.links)).
      ⊎_elim
      (λ (up : Rose old.doors.faults new.doors.faults). absurd (calm (subst (λ (ps : List (BoardPassMeaning E)). 0 < length ps) (sym e.waiting) h.0) up))
      (λ (no : HasNoLink old.doors.links). h.3 no ∙ sym no ∙ told)
      h.2)
      e.why

module _ {E S : Type 0} (V : Ask → Found E S → Value E S) (board : BoardMeaning E) {W I O : Type 0} (tell : Telling I O) where
  -- the links that are left behind those of the seats that were added
  pub left_others : {old new : AcceptingMeaning E} {seats more : List (Seat W I O E S)} → AreServed V board tell old new seats more
      → (0 < length new.waiting → ¬ Rose old.doors.faults new.doors.faults) → (inputs : List (List ℕ)) → old.doors.links ≡ Some inputs
      → (count : ℕ) × (length more ≡ length seats + count) × (new.doors.links ≡ Some (drop count inputs))
  left_others {old} {new} {seats} (none e) calm inputs told = (0, omega arith, left_ended old new e calm inputs told)
  left_others {old} {new} {seats} (next {left = left} {more = more} given seat gave has rest) calm inputs told =
      subst (λ (n : ℕ). (count : ℕ) × (n ≡ length seats + count) × (new.doors.links ≡ Some (drop count inputs))) (sym (length-append more (seat ∷ [])))
      (left_behind inputs (tell.left given.input) left.doors.links new.doors.links (length seats) (length more)
      (subst (λ (l : Option (List (List ℕ))). GivesFirst l (tell.left given.input) left.doors.links) told gave.first)
      (left_others rest (λ waits up. calm waits (risen old.doors.faults left.doors.faults new.doors.faults gave.later up))))
