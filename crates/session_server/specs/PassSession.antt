-- What a session of one pass leaves, by its end, where other passes may enter too.
use Rattle.std.specs.Prelude.{◌≡◌, ◌^◌, ℕ, Bool, true, List, length, Option, IfSome}
use Rattle.std.specs.List.{AllByRecursion}
use Rattle.repl_json.specs.declared.request.Ask.{Ask}
use Rattle.state_tree.specs.declared.work.Found.{Found}
use Rattle.state_tree.specs.declared.work.Entry.{Entry}
use Rattle.state_tree.specs.Value.{Value}
use Rattle.state_tree.specs.TreeModel.{TreeModel}
use Rattle.state_tree.specs.Enters.{tree_of}
use Rattle.session_server.specs.Entered.{requests_in, with_entries}
use Rattle.session_server.specs.Own.{own, own_output}
use Rattle.session_server.specs.Session.{EntersOf, Writes}
use Rattle.session_server.specs.declared.run.End.{End}
use Rattle.session_server.specs.declared.run.End.TheVariants.{Full, Long}

-- The number that the end tells. Full tells that the journal holds all its entries. The number of a worn lock is that of the pass.
abbrev pub Reaches : {E : Type 0} → TreeModel E → End → Type 0
Reaches new (Full n) = (length new.journal ≡ new.entries) × (n ≡ new.entries)
Reaches new (Long n) = n ≡ 2 ^ 40
Reaches new end = Unit {0}

-- A session of this pass over an input, which tells its bytes or doesn't. The view of the pass, as the tree that it has seen, has grown by
-- some entries; book and number of entries are as before. Those of them that carry the number of the pass are, in order and each once, the
-- requests of the input that the end says. What was written is the replies of the one-thread server to just these, each behind all entries
-- before it, so that those of other passes count too.
pub record PassSession {E S : Type 0} (V : Ask → Found E S → Value E S) (pass : ℕ) (input left : Option (List ℕ)) (old new : TreeModel E) (out out' : Option (List ℕ)) (end : End) : Type 0 where
  pub since : List Entry
  pub grows : new ≡ with_entries old since
  pub entered : IfSome input (λ bytes. EntersOf bytes left (requests_in (own pass since)) end)
  pub written : Writes out out' (own_output V pass (tree_of V old) since) end
  pub reaches : Reaches new end

-- the same, where the pass may be alone: then all entries are its own
pub record Serves {E S : Type 0} (V : Ask → Found E S → Value E S) (alone : Bool) (pass : ℕ) (input left : Option (List ℕ)) (old new : TreeModel E) (out out' : Option (List ℕ)) (end : End) : Type 0 where
  pub session : PassSession V pass input left old new out out' end
  pub by_it : alone ≡ true → AllByRecursion (λ e. e.pass ≡ pass) session.since
