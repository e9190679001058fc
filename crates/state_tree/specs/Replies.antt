-- Replies as lines of an output.
use Rattle.std.specs.Prelude.{◌≡◌, ℕ, ◌↔◌, List, ◌∷◌, ◌++◌, []}
use Rattle.repl_json.specs.Reply.{text}
use Rattle.repl_json.specs.OneLine.{IsLine, IsReply, memory_line}
use Rattle.repl_json.specs.declared.request.Ask.{Ask}
use Rattle.state_tree.specs.declared.work.Found.{Found}
use Rattle.state_tree.specs.declared.work.Entry.{Entry}
use Rattle.state_tree.specs.declared.work.Gave.TheVariants.{Memory}
use Rattle.state_tree.specs.Value.{Value, Says, MakesEnv, MakesState}
use Rattle.state_tree.specs.Server.{PlainTree, seq_of, MayStand, reply}

-- whatever the numbers in it are, what the value says is one line, and no memory line
abbrev pub SaysReply : {E S : Type 0} → Value E S → Type 0
SaysReply (Says body) = IsReply body
SaysReply (MakesEnv env body) = IsReply body
SaysReply (MakesState state body) = IsReply body

module _ {E S : Type 0} (V : Ask → Found E S → Value E S) where
  -- the reply to an entry is a line, and the memory line of its number exactly where the entry says Memory
  pub record IsShown (t : PlainTree E S) (entry : Entry) (bytes : List ℕ) : Type 0 where
    pub line : IsLine (text (reply V t entry)) bytes
    pub memory : (entry.gave ≡ Memory) ↔ (bytes ≡ memory_line (seq_of t))

  -- so is the reply to each entry that may stand in a legal history
  abbrev pub RepliesAreShown : Type 0
  RepliesAreShown = (t : PlainTree E S) (entry : Entry) → MayStand t entry → (line : List ℕ) × IsShown t entry line
