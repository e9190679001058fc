-- What serving links over the tree of a board leaves.
use Rattle.std.specs.Prelude.{◌≡◌, ◌<◌, ◌≤◌, ◌^◌, ◌⊎◌, ℕ, Bool, true, false, List, [], length, sum_by, drop, reverse, All, HoldsAt, Option, Some}
use Rattle.repl_json.specs.declared.request.Ask.{Ask}
use Rattle.pan_io.specs.Faults.{Rose}
use Rattle.state_tree.specs.declared.work.Found.{Found}
use Rattle.state_tree.specs.declared.work.Entry.{Entry}
use Rattle.state_tree.specs.Value.{Value}
use Rattle.state_tree.specs.Server.{IsLegal}
use Rattle.turn_lock.specs.Meanings.{MAX_TURNS}
use Rattle.shared_board.specs.declared.board_tree.TreeGround.{TreeGround}
use Rattle.shared_board.specs.Boards.{BoardMeaning, BoardPassMeaning, IsNewPass}
use Rattle.session_server.specs.Input.{requests_of_input}
use Rattle.session_server.specs.declared.run.End.TheVariants as ending
use Rattle.link_server.specs.Doors.{DoorsMeaning, RoseAtDoors}
use Rattle.link_server.specs.Links.{ServedMeaning, IsServedLink}

-- How many links were served: as many as there were places for, or fewer, since the doors failed, which their count shows.
abbrev pub HasServed : ℕ → DoorsMeaning → DoorsMeaning → ℕ → Bool → Type 0
HasServed places old new count failed = ((count ≡ places) × (failed ≡ false)) ⊎ ((count < places) × (failed ≡ true) × RoseAtDoors places old new)

-- Where the doors tell their links, those are left that stand behind the ones that were served: no other was taken. Where fewer were served than
-- there were places for, this is said only where the count of the doors didn't rise: behind a fault nothing is said of which links are left. An
-- accept for want of a link lets the count stay, so then all links that were told were served.
abbrev pub LeavesOthers : ℕ → ℕ → DoorsMeaning → DoorsMeaning → Type 0
LeavesOthers places count old new = (count < places → ¬ Rose old.faults new.faults) → (inputs : List (List ℕ)) → old.links ≡ Some inputs → new.links ≡ Some (drop count inputs)

module _ {E S : Type 0} (V : Ask → Found E S → Value E S) where
  -- these are the passes of a board over a tree without entries, of which pass 0 is the last
  pub record AreNewPasses (board : BoardMeaning E) (passes : List (BoardPassMeaning E)) : Type 0 where
    pub empty : board.lock.journal ≡ []
    pub few : board.passes ≤ 64
    pub count : length passes ≡ board.passes
    pub each : (place : ℕ) → place < board.passes → HoldsAt (IsNewPass V board place) (reverse passes) place

  -- The journal is a legal history over the book of this ground. Each link that was served fits it, and each entry has the pass of one. The last
  -- pass has seen all of it.
  pub record FitsLinks (the_ground : TreeGround E) (links : Option (List (List ℕ))) (served : List ServedMeaning) (journal : List Entry) (last : BoardPassMeaning E) : Type 0 where
    pub legal : IsLegal V the_ground.book journal
    pub room : length journal ≤ the_ground.entries
    pub each : (place : ℕ) → place < length served → HoldsAt (IsServedLink V the_ground links journal last.found place) served place
    pub by_links : All (λ entry. entry.pass < length served) journal
    pub seen : last.seen ≡ journal
    pub number : last.number ≡ 0

-- ---- completeness

-- no count rose at any half of a link
abbrev pub AreCalm : List ServedMeaning → Type 0
AreCalm served = All (λ s. ¬ Rose 0 s.input_faults × ¬ Rose 0 s.output_faults) served

-- Nothing but want of memory stands in the way of these sessions: no count rose, each input is within its limit, the journal has room for every
-- request, and the lock has turns for all. Then each session that had the memory read its input to its end.
abbrev pub CompletesSessions : ℕ → List (List ℕ) → List ServedMeaning → ℕ → Type 0
CompletesSessions entries inputs served found = All (λ input. length input ≤ 2 ^ 40) inputs → sum_by (λ input. length (requests_of_input input)) inputs ≤ entries
    → AreCalm served → found < MAX_TURNS → All (λ s. (s.end ≡ ending.Done) ⊎ (s.end ≡ ending.Memory)) served
