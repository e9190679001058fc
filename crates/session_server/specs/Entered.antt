-- Entries that a session added to a tree, and their replies.
use Rattle.std.specs.Prelude.{◌≡◌, ℕ, List, ◌++◌, map}
use Rattle.std.specs.List.{AllByRecursion, flat_map}
use Rattle.repl_json.specs.Reply.{text}
use Rattle.repl_json.specs.declared.request.Ask.{Ask}
use Rattle.repl_json.specs.declared.request.Request.{Request}
use Rattle.state_tree.specs.declared.work.Found.{Found}
use Rattle.state_tree.specs.declared.work.Entry.{Entry}
use Rattle.state_tree.specs.Value.{Value}
use Rattle.state_tree.specs.Server.{PlainTree, replies}
use Rattle.state_tree.specs.TreeModel.{TreeModel}

abbrev pub requests_in : List Entry → List Request
requests_in entries = map (λ e. e.request) entries

module _ {E : Type 0} where
  abbrev pub with_entries : TreeModel E → List Entry → TreeModel E
  with_entries old entries = record { book = old.book; entries = old.entries; journal = old.journal ++ entries }

  -- these entries were added, by pass 0, and nothing else of the tree was changed
  pub record Adds (old new : TreeModel E) (entries : List Entry) : Type 0 where
    pub grows : new ≡ with_entries old entries
    pub pass : AllByRecursion (λ e. e.pass ≡ 0) entries

-- the lines of the replies to entries
abbrev pub output_of : {E S : Type 0} → (Ask → Found E S → Value E S) → PlainTree E S → List Entry → List ℕ
output_of V t entries = flat_map text (replies V t entries)
