-- A session that is under way.
use Rattle.std.specs.Prelude.{◌≡◌, ◌<◌, ℕ, Bool, List, Option, Result, Ok, Err, ◌⊎◌}
use Rattle.pan_io.specs.History.{History}
use Rattle.pan_io.specs.Reader.{Reader}
use Rattle.pan_io.specs.declared.taken.Stop.TheVariants.{Open, Ended}
use Rattle.repl_json.specs.declared.request.Ask.{Ask}
use Rattle.state_tree.specs.declared.work.Found.{Found}
use Rattle.state_tree.specs.Value.{Value}
use Rattle.state_tree.specs.TreeModel.{TreeModel}
use Rattle.session_server.specs.Input.{requests_of_lines}
use Rattle.session_server.specs.PassSession.{Serves}
use Rattle.session_server.specs.Answers.{Answered}
use Rattle.session_server.specs.declared.answer.Halt.{Halt}
use Rattle.session_server.specs.declared.answer.Halt.TheVariants.{Write, Full, Worn, Memory}
use Rattle.session_server.specs.declared.run.End.TheVariants as ending
use Rattle.session_server.specs.declared.run.Step.{Step}
use Rattle.session_server.specs.declared.run.Step.TheVariants as stepping

abbrev pub step_of : Result (Unit {0}) Halt → Step
step_of (Ok done) = stepping.Next
step_of (Err Write) = stepping.Stop ending.WriteFault
step_of (Err (Full n)) = stepping.Stop (ending.Full n)
step_of (Err (Worn n)) = stepping.Stop (ending.Worn n)
step_of (Err Memory) = stepping.Stop ending.Memory

module _ {E S : Type 0} (V : Ask → Found E S → Value E S) (alone : Bool) (pass : ℕ) where
  -- the requests of the lines so far are answered
  pub record Along (start left : Option (List ℕ)) (old new : TreeModel E) (out out' : Option (List ℕ)) (reader : Reader) (seen : List ℕ) (lines : List (List ℕ)) : Type 0 where
    pub history : History start left reader seen lines
    pub answered : Answered V alone pass old new out out' (requests_of_lines lines)
    pub going : (reader.stop ≡ Open) ⊎ (reader.stop ≡ Ended)

  abbrev pub Runs : Option (List ℕ) → Option (List ℕ) → TreeModel E → TreeModel E → Option (List ℕ) → Option (List ℕ) → Reader → Type 0
  Runs start left old new out out' reader = (seen : List ℕ) × (lines : List (List ℕ)) × Along start left old new out out' reader seen lines

  -- after one step the session goes on, having used a byte, or it has ended
  abbrev pub Steps : Option (List ℕ) → Option (List ℕ) → TreeModel E → TreeModel E → Option (List ℕ) → Option (List ℕ) → Reader → Reader → Step → Type 0
  Steps start left old new out out' was reader stepping.Next = Runs start left old new out out' reader × (was.used < reader.used)
  Steps start left old new out out' was reader (stepping.Stop end) = Serves V alone pass start left old new out out' end
