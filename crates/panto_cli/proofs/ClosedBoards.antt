-- What listening and serving leave of a board.
use Rattle.std.proofs.Common.{◌≡◌, ℕ, ◌<◌, ◌≤◌, ◌⊎◌, inl, inr, Bool, true, false, List, [], length, map, take, drop, Option, Some, Result, Ok, Err, sym, ◌∙◌, ap, subst, arith, All}
use Rattle.std.specs.Prelude.{OnOk, OnErr, is_ok, is_err}
use Rattle.std.specs.Io.KnownBytes.{Appends}
use Rattle.std.proofs.lemmas.List.Elements.{All-nil}
use Rattle.term_syntax.specs.Lex.{Text}
use Rattle.pan_io.specs.Doors.{ListensOn}
use Rattle.pan_io.specs.Faults.{Rose, HasCause}
use Rattle.pan_io.specs.Put.{AppendsPrefix}
use Rattle.goal_state.specs.State.{State}
use Rattle.command_set.specs.Values.{value}
use Rattle.state_tree.specs.declared.work.Entry.{Entry}
use Rattle.shared_board.specs.declared.board_tree.TreeGround.{TreeGround}
use Rattle.shared_board.specs.Boards.{BoardPassMeaning}
use Rattle.session_server.specs.declared.run.End.TheVariants as ending
use Rattle.link_server.specs.Doors.{DoorsMeaning, HasFewer, RoseAtDoors}
use Rattle.link_server.specs.Links.{ServedMeaning}
use Rattle.link_server.specs.Served.{HasServed, LeavesOthers, FitsLinks, CompletesSessions}
use Rattle.panto_cli.specs.Books.{Items}
use Rattle.panto_cli.specs.Serve.{listening_line}
use Rattle.panto_cli.specs.Serving.{IsClosedBoard, Hears}
use Rattle.panto_cli.proofs.Heard.{rose_later}

module _ (the_ground : TreeGround Items) (listen : Text) (sessions : ℕ) (old new : DoorsMeaning) (served : List ServedMeaning) (failed : Bool) (journal : List Entry) (last : BoardPassMeaning Items) where
  -- the doors failed at once
  closed_at_once : 0 < sessions → Rose old.faults new.faults → served ≡ [] → failed ≡ true → journal ≡ []
      → ((links : Option (List (List ℕ))) → FitsLinks {S = State} value the_ground links [] [] last)
      → IsClosedBoard the_ground listen sessions old new served failed journal last
  closed_at_once some rose none failed_so empty fits =
      let count : length served ≡ 0 = ap length none in
      record {
        fits = subst (λ (s : List ServedMeaning). FitsLinks {S = State} value the_ground old.links s journal last) (sym none)
            (subst (λ (j : List Entry). FitsLinks {S = State} value the_ground old.links [] j last) (sym empty) (fits old.links));
        count = inr (omega arith, failed_so, inl rose);
        left = λ calm inputs told. absurd (calm (omega arith) rose);
        listens = inl rose;
        complete = λ inputs known short room calm in_turns.
            subst (λ (s : List ServedMeaning). All (λ (link : ServedMeaning). (link.end ≡ ending.Done) ⊎ (link.end ≡ ending.Memory)) s) (sym none)
            (All-nil (λ (link : ServedMeaning). (link.end ≡ ending.Done) ⊎ (link.end ≡ ending.Memory)));
      }

  module _ (middle : DoorsMeaning) (links : middle.links ≡ old.links) (later : old.faults ≤ middle.faults) where
    rose_since : RoseAtDoors sessions middle new → RoseAtDoors sessions old new
    rose_since (inl rose) = inl (rose_later old.faults middle.faults new.faults later rose)
    rose_since (inr none) = inr (subst (λ (l : Option (List (List ℕ))). HasFewer l sessions) links none.0, none.1)

    served_since : (count : ℕ) → HasServed sessions middle new count failed → HasServed sessions old new count failed
    served_since count (inl all) = inl all
    served_since count (inr some) = inr (some.0, some.1, rose_since some.2)

    left_since : (count : ℕ) → length served ≡ count → LeavesOthers sessions count middle new → LeavesOthers sessions (length served) old new
    left_since count is left calm inputs told =
        left (λ fewer up. calm (omega arith) (rose_later old.faults middle.faults new.faults later up)) inputs (links ∙ told) ∙ ap (λ (n : ℕ). Some (drop n inputs)) (sym is)

    -- the doors listened, and links were accepted
    closed_after : (count : ℕ) → length served ≡ count → ListensOn middle.address listen → new.address ≡ middle.address → HasServed sessions middle new count failed → LeavesOthers sessions count middle new
        → FitsLinks {S = State} value the_ground middle.links served journal last
        → ((inputs : List (List ℕ)) → middle.links ≡ Some inputs → CompletesSessions the_ground.entries (take sessions inputs) served last.found)
        → IsClosedBoard the_ground listen sessions old new served failed journal last
    closed_after count is listens address has left fits complete = record {
      fits = subst (λ (l : Option (List (List ℕ))). FitsLinks {S = State} value the_ground l served journal last) links fits;
      count = subst (λ (n : ℕ). HasServed sessions old new n failed) (sym is) (served_since count has);
      left = left_since count is left;
      listens = inr (subst (λ (a : Option (List ℕ)). ListensOn a listen) (sym address) listens);
      complete = λ inputs known. complete inputs (links ∙ known);
    }

  -- the same, of a board with so many passes
  pub closed_links : (passes : ℕ) (middle : DoorsMeaning) (count : ℕ) → passes ≡ sessions → middle.links ≡ old.links → old.faults ≤ middle.faults → length served ≡ count
      → ListensOn middle.address listen → new.address ≡ middle.address → HasServed passes middle new count failed → LeavesOthers passes count middle new
      → FitsLinks {S = State} value the_ground middle.links served journal last
      → ((inputs : List (List ℕ)) → middle.links ≡ Some inputs → CompletesSessions the_ground.entries (take passes inputs) served last.found)
      → IsClosedBoard the_ground listen sessions old new served failed journal last
  closed_links passes middle count same links later is listens address has left fits complete =
      closed_after middle links later count is listens address (subst (λ (n : ℕ). HasServed n middle new count failed) same has)
      (subst (λ (n : ℕ). LeavesOthers n count middle new) same left) fits
      (λ inputs known. subst (λ (n : ℕ). CompletesSessions the_ground.entries (take n inputs) served last.found) same (complete inputs known))

pub closed_unserved : {A : Type 0} (as_meant : A → ServedMeaning) (links : List A) (the_ground : TreeGround Items) (listen : Text) (sessions : ℕ) (old new : DoorsMeaning) (failed : Bool)
    (journal : List Entry) (last : BoardPassMeaning Items) → 0 < sessions → Rose old.faults new.faults → links ≡ [] → failed ≡ true → journal ≡ []
    → ((told : Option (List (List ℕ))) → FitsLinks {S = State} value the_ground told [] [] last)
    → IsClosedBoard the_ground listen sessions old new (map as_meant links) failed journal last
closed_unserved {A} as_meant links the_ground listen sessions old new failed journal last some rose none failed_so empty fits =
    closed_at_once the_ground listen sessions old new (map as_meant links) failed journal last some rose (ap (λ (xs : List A). map as_meant xs) none) failed_so empty fits

-- a call that failed, and one that didn't
pub rose_at_error : {T E : Type 0} {before now : ℕ} (result : Result T E) → is_err result ≡ true → HasCause before now result → Rose before now
rose_at_error (Ok x) failed cause = absurd cc
rose_at_error (Err x) failed cause = cause.failed

pub listens_at_ok : {T E : Type 0} (result : Result T E) (address : Option (List ℕ)) (listen : Text) → is_err result ≡ false → OnOk result (ListensOn address listen) → ListensOn address listen
listens_at_ok (Ok x) address listen done listens = listens
listens_at_ok (Err x) address listen done listens = absurd cc

-- what the notes took of the line, where the doors listen
pub hears_put : {T E : Type 0} (result : Result T E) (told : Bool) (listens unserved : Type 0) (notes notes' : Option (List ℕ)) (faults faults' : ℕ) → told ≡ is_ok result → listens
    → OnOk result (Appends notes notes' listening_line) → OnErr result (AppendsPrefix notes notes' listening_line) → HasCause faults faults' result
    → Hears told listens unserved notes notes' faults faults'
hears_put (Ok x) told listens unserved notes notes' faults faults' is so took cut cause =
    subst (λ (t : Bool). Hears t listens unserved notes notes' faults faults') (sym is) (inl (took, so))
hears_put (Err x) told listens unserved notes notes' faults faults' is so took cut cause =
    subst (λ (t : Bool). Hears t listens unserved notes notes' faults faults') (sym is) (so, cause.failed, cut)
