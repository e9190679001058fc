-- What a generated session comes to.
use Rattle.std.specs.Prelude.{◌≡◌, ◌⊎◌, ℕ, List, [], ◌++◌, ◌*◌, max, length, map, count_by, Bool, true, false, is_some, option_and_then, codes, decimal}
use Rattle.std.specs.List.{list_all}
use Rattle.serde_json.specs.Find.{get}
use Rattle.pan_io.specs.Text.{parts}
use Rattle.repl_json.specs.Json.{data_of}
use Rattle.repl_json.specs.declared.request.Request.{Request}
use Rattle.goal_state.specs.State.{State}
use Rattle.state_tree.specs.declared.work.Entry.{Entry}
use Rattle.state_tree.specs.declared.work.Gave.{Gave}
use Rattle.state_tree.specs.declared.work.Gave.TheVariants.{Answer, Memory}
use Rattle.state_tree.specs.Server.{PlainTree, opening, replay, replies}
use Rattle.state_tree.specs.TreeModel.{TreeModel}
use Rattle.state_tree.specs.Enters.{tree_of}
use Rattle.command_set.specs.Values.{value}
use Rattle.session_maker.specs.Session.{session}
use Rattle.session_server.specs.Input.{requests_of_input}
use Rattle.session_server.specs.Entered.{output_of}
use Rattle.session_server.specs.declared.run.End.{End}
use Rattle.session_server.specs.declared.run.End.TheVariants.{Done, WriteFault}
use Rattle.session_server.specs.declared.run.End.TheVariants as ending
use Rattle.panto_cli.specs.Books.{Items}
use Rattle.panto_cli.specs.declared.counts.Counts.{Counts}

-- the line, read as JSON, is an object with the key `error`
unfoldable pub has_error : List ℕ → Bool
has_error line = is_some (option_and_then (get (codes "error")) (data_of line))

-- how many lines of an output are such. What stands behind the last line end is no JSON.
abbrev pub errors_in : List ℕ → ℕ
errors_in output = count_by has_error (parts output)

-- the tree over the empty book
abbrev pub empty_tree : PlainTree Items State
empty_tree = opening value []

-- what the one-thread server makes of entries over the empty book: how many replies, how many error lines among them, and how many
-- states there ever were
unfoldable pub counts_of : List Entry → Counts
counts_of entries = record {
  replies = length (replies value empty_tree entries);
  errors = errors_in (output_of value empty_tree entries);
  states = length (replay {S = State} value [] entries).states;
}

abbrev pub is_answer : Gave → Bool
is_answer Answer = true
is_answer Memory = false

-- the entry doesn't say that memory was wanted
abbrev pub is_answered : Entry → Bool
is_answered entry = is_answer entry.gave

-- what a session left in its tree and its output: no entry says that memory was wanted, and there were so many replies, error lines and
-- states
pub record IsCountOf (tree : TreeModel Items) (output : List ℕ) (counts : Counts) : Type 0 where
  pub answered : list_all is_answered tree.journal ≡ true
  pub replies : counts.replies ≡ length tree.journal
  pub errors : counts.errors ≡ errors_in output
  pub states : counts.states ≡ length (tree_of {S = State} value tree).states

-- a request that was answered, and not by want of memory
abbrev pub answered : Request → Entry
answered request = record { pass = 0; request = request; gave = Answer }

-- each request of an input, answered
abbrev pub all_answered : List ℕ → List Entry
all_answered input = map answered (requests_of_input input)

-- the counts of the session of a seed and so many rounds
abbrev pub summary : ℕ → ℕ → Counts
summary seed rounds = counts_of (all_answered (session seed rounds))

-- the line that shows them
abbrev pub counted_line : ℕ → ℕ → Counts → List ℕ
counted_line seed rounds counts =
    codes "demo seed=" ++ (decimal seed
    ++ (codes " rounds=" ++ (decimal rounds
    ++ (codes " replies=" ++ (decimal counts.replies
    ++ (codes " errors=" ++ (decimal counts.errors
    ++ (codes " states=" ++ (decimal counts.states
    ++ codes "\n")))))))))

-- the line that `demo` prints
abbrev pub demo_line : ℕ → ℕ → List ℕ
demo_line seed rounds = counted_line seed rounds (summary seed rounds)

-- how the session of a demo ends: its text is read to the end, or memory is wanted, by its sink too
abbrev pub IsOwnEnd : End → Type 0
IsOwnEnd end = (end ≡ Done) ⊎ (end ≡ WriteFault) ⊎ (end ≡ ending.Memory)

-- how many entries the tree of so many rounds has room for
abbrev pub room_of : ℕ → ℕ
room_of rounds = max 1 (10 * rounds)
