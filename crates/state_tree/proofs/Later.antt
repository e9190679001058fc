-- What a look found is held after any call of enter.
use Rattle.std.proofs.Common.{◌≡◌, ℕ, List, [], ◌∷◌, ◌++◌, ap, sym, ◌∙◌, subst, append-nil}
use Rattle.repl_json.specs.declared.request.Ask.{Ask}
use Rattle.state_tree.specs.declared.tree.Outcome.{Outcome}
use Rattle.state_tree.specs.declared.tree.Outcome.TheVariants.{Entered, Again, Full}
use Rattle.state_tree.specs.declared.work.Found.{Found}
use Rattle.state_tree.specs.declared.work.Entry.{Entry}
use Rattle.state_tree.specs.Value.{Value}
use Rattle.state_tree.specs.Prepared.{Prepared}
use Rattle.state_tree.specs.TreeModel.{TreeModel, Holds, entry_of}
use Rattle.state_tree.specs.Enters.{Enters, tree_of}
use Rattle.state_tree.proofs.Stays.{holds_beyond}

module _ {E S : Type 0} (V : Ask → Found E S → Value E S) where
  -- entries were added
  pub record Grew (old new : TreeModel E) : Type 0 where
    pub more : List Entry
    pub is : new ≡ record { book = old.book; entries = old.entries; journal = old.journal ++ more }

  grew_none : (old new : TreeModel E) → new ≡ old → Grew old new
  grew_none old new same = record { more = []; is = same ∙ ap (λ (j : List Entry). record { book = old.book; entries = old.entries; journal = j }) (sym (append-nil old.journal)) }

  pub enters_more : {W : Type 0} (old new : TreeModel E) (pass : ℕ) (ready : Prepared E S) (o : Outcome W E S) → Enters V old new pass ready o → Grew old new
  enters_more old new pass ready (Entered line) enters = record { more = entry_of (tree_of V old) pass ready ∷ []; is = enters.entry }
  enters_more old new pass ready (Again ready' id) missed = grew_none old new missed.stays
  enters_more old new pass ready (Full n) full = grew_none old new full.2

  pub holds_grown : (old new : TreeModel E) (ask : Ask) (found : Found E S) → Grew old new → Holds (tree_of V old) ask found → Holds (tree_of V new) ask found
  holds_grown old new ask found grew held = subst (λ (g : TreeModel E). Holds (tree_of V g) ask found) (sym grew.is) (holds_beyond V old.book old.journal grew.more ask found held)
