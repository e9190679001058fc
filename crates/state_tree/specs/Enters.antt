-- What entering a request leaves.
use Rattle.std.specs.Prelude.{◌≡◌, ℕ, ◌<◌, [], ◌∷◌, ◌++◌, length, None, Some}
use Rattle.repl_json.specs.declared.request.Ask.{Ask}
use Rattle.repl_json.specs.declared.reply.Line.{Line}
use Rattle.state_tree.specs.declared.tree.Outcome.{Outcome}
use Rattle.state_tree.specs.declared.tree.Outcome.TheVariants.{Entered, Again, Full}
use Rattle.state_tree.specs.declared.work.Found.{Found}
use Rattle.state_tree.specs.declared.work.Entry.{Entry}
use Rattle.state_tree.specs.Value.{Value}
use Rattle.state_tree.specs.Server.{PlainTree, replay, reply}
use Rattle.state_tree.specs.Again.{again_of}
use Rattle.state_tree.specs.Prepared.{Prepared, known_by}
use Rattle.state_tree.specs.TreeModel.{TreeModel, entry_of}

module _ {E S : Type 0} (V : Ask → Found E S → Value E S) where
  -- the tree that the entries so far make
  abbrev pub tree_of : TreeModel E → PlainTree E S
  tree_of old = replay V old.book old.journal

  -- one entry more
  abbrev pub with_entry : TreeModel E → Entry → TreeModel E
  with_entry old entry = record { book = old.book; entries = old.entries; journal = old.journal ++ entry ∷ [] }

  -- the request was entered, and answered as the one-thread server answers it
  pub record EntersAs (old new : TreeModel E) (pass : ℕ) (ready : Prepared E S) (line : Line) : Type 0 where
    pub room : length old.journal < old.entries
    pub found : again_of (tree_of old) ready.request (known_by ready) ≡ None
    pub line_is : line ≡ reply V (tree_of old) (entry_of (tree_of old) pass ready)
    pub entry : new ≡ with_entry old (entry_of (tree_of old) pass ready)

  -- the look missed an id that is made now
  pub record MissedAs (old new : TreeModel E) (ready ready' : Prepared E S) (id : ℕ) : Type 0 where
    pub room : length old.journal < old.entries
    pub missed : again_of (tree_of old) ready.request (known_by ready) ≡ Some id
    pub same : ready' ≡ ready
    pub stays : new ≡ old

  abbrev pub Enters : {W : Type 0} → TreeModel E → TreeModel E → ℕ → Prepared E S → Outcome W E S → Type 0
  Enters old new pass ready (Entered line) = EntersAs old new pass ready line
  Enters old new pass ready (Again ready' id) = MissedAs old new ready ready' id
  Enters old new pass ready (Full entries) = (length old.journal ≡ old.entries) × (entries ≡ old.entries) × (new ≡ old)
