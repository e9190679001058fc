-- What a session sees of the journal that it enters into.
use Rattle.std.specs.Prelude.{◌≡◌, ℕ, Bool, true, List, [], ◌∷◌}
use Rattle.std.specs.List.{AllByRecursion}
use Rattle.repl_json.specs.Reply.{text}
use Rattle.repl_json.specs.declared.reply.Line.{Line}
use Rattle.repl_json.specs.declared.request.Ask.{Ask}
use Rattle.repl_json.specs.declared.request.Request.{Request}
use Rattle.state_tree.specs.declared.tree.Outcome.{Outcome}
use Rattle.state_tree.specs.declared.work.Found.{Found}
use Rattle.state_tree.specs.declared.work.Entry.{Entry}
use Rattle.state_tree.specs.Value.{Value}
use Rattle.state_tree.specs.Prepared.{Prepared}
use Rattle.state_tree.specs.TreeModel.{TreeModel}
use Rattle.state_tree.specs.Enters.{Enters, tree_of}
use Rattle.session_server.specs.Entered.{requests_in, with_entries}
use Rattle.session_server.specs.Own.{own, own_output}

module _ {E : Type 0} (alone : Bool) (pass : ℕ) where
  -- these entries were added to what the pass had seen, and nothing else of the tree was changed; they are its own where it is alone
  pub record Sees (old new : TreeModel E) (since : List Entry) : Type 0 where
    pub grows : new ≡ with_entries old since
    pub by_it : alone ≡ true → AllByRecursion (λ e. e.pass ≡ pass) since

  -- entries of other passes came, or none; none where the pass is alone
  pub record OthersCome (old new : TreeModel E) : Type 0 where
    pub since : List Entry
    pub sees : Sees old new since
    pub others : own pass since ≡ []

module _ {E S : Type 0} (V : Ask → Found E S → Value E S) (alone : Bool) (pass : ℕ) where
  -- entering does what the tree's own call does, on a tree that goes on from what the pass had seen by entries of others
  pub record EntersThere {W : Type 0} (old new : TreeModel E) (ready : Prepared E S) (outcome : Outcome W E S) : Type 0 where
    pub tree : TreeModel E
    pub others : OthersCome alone pass old tree
    pub enters : Enters V tree new pass ready outcome

  -- of what came, just one entry is the pass's own: this request, with this reply
  pub record EntersOne (old new : TreeModel E) (request : Request) (line : Line) : Type 0 where
    pub since : List Entry
    pub sees : Sees alone pass old new since
    pub one : requests_in (own pass since) ≡ request ∷ []
    pub output : own_output V pass (tree_of V old) since ≡ text line
