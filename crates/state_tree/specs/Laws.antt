-- The laws of the tree that the layers above use.
use Rattle.std.specs.Prelude.{◌≡◌, true, false, List, ◌++◌, None}
use Rattle.repl_json.specs.declared.request.Ask.{Ask}
use Rattle.state_tree.specs.declared.work.Found.{Found}
use Rattle.state_tree.specs.declared.work.Entry.{Entry}
use Rattle.state_tree.specs.Value.{Value}
use Rattle.state_tree.specs.Server.{PlainTree, replay, found_in}
use Rattle.state_tree.specs.Again.{again_of}
use Rattle.state_tree.specs.Prepared.{Prepared, known_by}
use Rattle.state_tree.specs.TreeModel.{Holds}

-- what a look finds is held
abbrev pub LooksHold : (E S : Type 0) → Type 0
LooksHold E S = (t : PlainTree E S) (ask : Ask) → Holds t ask (found_in t ask)

-- what was found in a tree is held in each tree whose journal goes on from there: made ids keep their values
abbrev pub FoundStays : {E S : Type 0} → (Ask → Found E S → Value E S) → Type 0
FoundStays {E} {S} V = (book : E) (seen more : List Entry) (ask : Ask) (found : Found E S)
    → Holds (replay V book seen) ask found → Holds (replay V book (seen ++ more)) ask found

-- a request that was looked up in this very tree isn't looked up again
abbrev pub LookedUpIsEntered : (E S : Type 0) → Type 0
LookedUpIsEntered E S = (t : PlainTree E S) (ready : Prepared E S) → ready.given_up ≡ false → ready.found ≡ found_in t ready.request.ask
    → again_of t ready.request (known_by ready) ≡ None

-- and one that was given up never is
abbrev pub GivenUpIsEntered : (E S : Type 0) → Type 0
GivenUpIsEntered E S = (t : PlainTree E S) (ready : Prepared E S) → ready.given_up ≡ true → again_of t ready.request (known_by ready) ≡ None
