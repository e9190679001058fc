-- What a session over a desk is to the callers of a tree, and to those of a board.
use Rattle.std.proofs.Common.{◌≡◌, ◌≤◌, ℕ, true, List, [], Option, IfSome, refl, sym, ap, subst, arith}
use Rattle.repl_json.specs.declared.request.Ask.{Ask}
use Rattle.state_tree.specs.declared.work.Found.{Found}
use Rattle.state_tree.specs.declared.work.Entry.{Entry}
use Rattle.state_tree.specs.Value.{Value}
use Rattle.state_tree.specs.TreeModel.{TreeModel}
use Rattle.state_tree.specs.Enters.{tree_of}
use Rattle.shared_board.specs.declared.board_tree.TreeGround.{TreeGround}
use Rattle.shared_board.specs.Boards.{BoardPassMeaning}
use Rattle.shared_board.specs.Calls.{OnlySeesMore, tree_with}
use Rattle.session_server.specs.Entered.{requests_in, with_entries}
use Rattle.session_server.specs.Session.{Session, EntersOf, Writes, Tells}
use Rattle.session_server.specs.PassSession.{Serves, Reaches}
use Rattle.session_server.specs.Desks.{GoesTo, tree_desk, board_desk}
use Rattle.session_server.specs.Turns.{TurnsBy}
use Rattle.session_server.specs.declared.run.End.{End}
use Rattle.session_server.specs.declared.run.End.TheVariants as ending
use Rattle.session_server.proofs.OwnLemmas.{own_all, output_all}

module _ {E : Type 0} where
  -- a tree takes no turns, so none is the last
  tells_of : (old new : TreeModel E) (end : End) → GoesTo tree_desk old new end → Reaches new end → Tells new end
  tells_of old new ending.Done goes reaches = tt
  tells_of old new ending.ReadFault goes reaches = tt
  tells_of old new ending.WriteFault goes reaches = tt
  tells_of old new (ending.Full n) goes reaches = reaches
  tells_of old new (ending.Worn n) goes reaches = let drawn = goes.all_drawn in absurd (omega arith)
  tells_of old new (ending.Long n) goes reaches = reaches
  tells_of old new ending.Memory goes reaches = tt

-- where the pass is alone, all that came is its own
pub alone_session : {E S : Type 0} (V : Ask → Found E S → Value E S) (input left out out' : Option (List ℕ)) (old new : TreeModel E) (end : End)
    → GoesTo tree_desk old new end → Serves V true 0 input left old new out out' end → Session V input left old new out out' end
alone_session V input left out out' old new end goes serves =
    let s = serves.session in
    let by_it = serves.by_it refl in
    record {
      entries = s.since;
      adds = record { grows = s.grows; pass = by_it };
      entered = subst (λ (es : List Entry). IfSome input (λ bytes. EntersOf bytes left (requests_in es) end)) (own_all 0 s.since by_it) s.entered;
      written = subst (λ (bs : List ℕ). Writes out out' bs end) (output_all V 0 (tree_of V old) s.since by_it) s.written;
      tells = tells_of old new end goes s.reaches;
    }

module _ {E : Type 0} (the_ground : TreeGround E) (number : ℕ) where
  rest_of : (old new : BoardPassMeaning E) (end : End) → GoesTo (board_desk the_ground number) old new end
      → (record new { seen = []; found = 0 } ≡ record old { seen = []; found = 0 }) × (old.found ≤ new.found)
  rest_of old new ending.Done goes = (goes.rest_is, goes.later)
  rest_of old new ending.ReadFault goes = (goes.rest_is, goes.later)
  rest_of old new ending.WriteFault goes = (goes.rest_is, goes.later)
  rest_of old new (ending.Full n) goes = (goes.rest_is, goes.later)
  rest_of old new (ending.Worn n) goes = (goes.rest_is, goes.later)
  rest_of old new (ending.Long n) goes = (goes.rest_is, goes.later)
  rest_of old new ending.Memory goes = (goes.rest_is, goes.later)

  -- only the view and the found number of the pass changed
  pub only_sees_more : (old new : BoardPassMeaning E) (end : End) (since : List Entry) → GoesTo (board_desk the_ground number) old new end
      → tree_with the_ground new.seen ≡ with_entries (tree_with the_ground old.seen) since → OnlySeesMore old new
  only_sees_more old new end since goes grows =
      let rest = rest_of old new end goes in
      record {
        same = ap (λ (p : BoardPassMeaning E). record p { seen = new.seen; found = new.found }) rest.0;
        more = since;
        view = sym (ap (λ (t : TreeModel E). t.journal) grows);
        found = rest.1;
      }

  pub turns_by : (old new : BoardPassMeaning E) (end : End) → GoesTo (board_desk the_ground number) old new end → TurnsBy old new end
  turns_by old new ending.Done goes = goes.in_time
  turns_by old new ending.ReadFault goes = goes.in_time
  turns_by old new ending.WriteFault goes = goes.in_time
  turns_by old new (ending.Full n) goes = goes.in_time
  turns_by old new (ending.Worn n) goes = (goes.turns_are, goes.all_drawn)
  turns_by old new (ending.Long n) goes = goes.in_time
  turns_by old new ending.Memory goes = goes.in_time
