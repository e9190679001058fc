-- A link that was served, and the journal that its session fits.
use Rattle.std.specs.Prelude.{◌≡◌, ◌<◌, ◌≤◌, ℕ, List, [], Option, option_map}
use Rattle.repl_json.specs.declared.request.Ask.{Ask}
use Rattle.state_tree.specs.declared.work.Found.{Found}
use Rattle.state_tree.specs.declared.work.Entry.{Entry}
use Rattle.state_tree.specs.Value.{Value}
use Rattle.turn_lock.specs.Meanings.{MAX_TURNS}
use Rattle.shared_board.specs.declared.board_tree.TreeGround.{TreeGround}
use Rattle.shared_board.specs.Calls.{tree_with}
use Rattle.session_server.specs.PassSession.{PassSession}
use Rattle.session_server.specs.declared.run.End.{End}
use Rattle.session_server.specs.declared.run.End.TheVariants as ending
use Rattle.link_server.specs.Doors.{HadInput}
use Rattle.link_server.specs.declared.served.Served.{Served}

-- what the halves of a link tell
pub record Telling (I O : Type 0) : Type 0 where
  pub left : I → Option (List ℕ)
  pub input_faults : I → ℕ
  pub taken : O → Option (List ℕ)
  pub output_faults : O → ℕ

-- a link that was served, with what its halves tell after its session
pub record ServedMeaning : Type 0 where
  pub link : ℕ
  pub pass : ℕ
  pub end : End
  pub left : Option (List ℕ)
  pub input_faults : ℕ
  pub taken : Option (List ℕ)
  pub output_faults : ℕ

abbrev pub served_as : {I O : Type 0} → Telling I O → Served I O → ServedMeaning
served_as tell s = record {
  link = s.link;
  pass = s.pass;
  end = s.end;
  left = tell.left s.input;
  input_faults = tell.input_faults s.input;
  taken = tell.taken s.output;
  output_faults = tell.output_faults s.output;
}

-- what an output tells before it takes the first byte, where it tells this later
abbrev pub none_yet : Option (List ℕ) → Option (List ℕ)
none_yet taken = option_map (λ bytes. []) taken

-- a session that was worn asked for a turn after the last, and the last pass knows of as many
abbrev pub WornBy : ℕ → End → Type 0
WornBy found (ending.Worn turns) = (MAX_TURNS ≤ turns) × (turns ≤ found)
WornBy found end = Unit {0}

-- The link at this place: its number and its pass are the place, and its session fits the journal. The counts of its halves were 0 when it
-- was accepted, so one has risen where it is above 0.
module _ {E S : Type 0} (V : Ask → Found E S → Value E S) (the_ground : TreeGround E) where
  pub record IsServedLink (links : Option (List (List ℕ))) (journal : List Entry) (found place : ℕ) (s : ServedMeaning) : Type 0 where
    pub link : s.link ≡ place
    pub pass : s.pass ≡ place
    pub input : Option (List ℕ)
    pub had : HadInput links place input
    pub session : PassSession V s.pass input s.left (tree_with the_ground []) (tree_with the_ground journal) (none_yet s.taken) s.taken s.end
    pub read : s.end ≡ ending.ReadFault → 0 < s.input_faults
    pub write : s.end ≡ ending.WriteFault → 0 < s.output_faults
    pub worn : WornBy found s.end
