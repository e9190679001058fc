-- The law of looking again.
use Rattle.std.specs.Prelude.{◌≡◌, ◌⊎◌, ℕ, true, is_some, List, ◌++◌, Some}
use Rattle.repl_json.specs.Names.{env_named, one_named, two_named}
use Rattle.repl_json.specs.declared.request.Ask.{Ask}
use Rattle.repl_json.specs.declared.request.Request.{Request}
use Rattle.state_tree.specs.declared.check.Known.{Known}
use Rattle.state_tree.specs.declared.work.Found.{Found}
use Rattle.state_tree.specs.declared.work.Entry.{Entry}
use Rattle.state_tree.specs.Value.{Value}
use Rattle.state_tree.specs.Server.{replay, found_in}
use Rattle.state_tree.specs.Again.{again_of}

module _ {E S : Type 0} where
  -- the request names the id, and what was found has what it names by it
  abbrev pub HasFound : Ask → Found E S → ℕ → Type 0
  HasFound ask found id =
      ((env_named ask ≡ Some id) × (is_some found.env ≡ true))
      ⊎ (((one_named ask ≡ Some id) × (is_some found.one ≡ true))
      ⊎ ((two_named ask ≡ Some id) × (is_some found.two ≡ true)))

  -- an id that is to be looked for again is found in each tree whose journal goes on from there
  abbrev pub AgainIsFound : (Ask → Found E S → Value E S) → Type 0
  AgainIsFound V = (book : E) (seen more : List Entry) (request : Request) (known : Known) (id : ℕ)
      → again_of (replay V book seen) request known ≡ Some id → HasFound request.ask (found_in (replay V book (seen ++ more)) request.ask) id
