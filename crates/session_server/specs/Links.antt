-- What the ghost members of a desk come to.
use Rattle.std.specs.Prelude.{Option}
use Rattle.repl_json.specs.declared.request.Ask.{Ask}
use Rattle.repl_json.specs.declared.request.Request.{Request}
use Rattle.state_tree.specs.declared.tree.Outcome.{Outcome}
use Rattle.state_tree.specs.declared.work.Found.{Found}
use Rattle.state_tree.specs.Value.{Value}
use Rattle.state_tree.specs.Prepared.{Prepared}
use Rattle.state_tree.specs.Enters.{tree_of}
use Rattle.session_server.specs.Answers.{IsFit}
use Rattle.session_server.specs.Made.{IsLooked}
use Rattle.session_server.specs.Sees.{EntersThere}
use Rattle.session_server.specs.Desks.{DeskMeaning}

-- a look finds what the tree of the view holds, what is fit for that tree may be entered, and entering does what the tree's own call does
pub record IsLinked {E S W P : Type 0} (V : Ask → Found E S → Value E S) (desk : DeskMeaning P E) (finds : P → Request → Option (Found E S) → Type 0) (fits : P → Prepared E S → Type 0) (enters : P → P → Prepared E S → Outcome W E S → Type 0) : Type 0 where
  pub looked : (place : P) (request : Request) (found : Option (Found E S)) → finds place request found → IsLooked (tree_of V (desk.view place)) request found
  pub fit : (place : P) (ready : Prepared E S) → IsFit (tree_of V (desk.view place)) ready → fits place ready
  pub entered : (old new : P) (ready : Prepared E S) (outcome : Outcome W E S) → enters old new ready outcome → EntersThere V desk.alone desk.pass (desk.view old) (desk.view new) ready outcome
