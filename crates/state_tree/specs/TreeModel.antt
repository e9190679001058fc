-- A tree as its callers see it.
use Rattle.std.specs.Prelude.{◌≡◌, ℕ, List, Option, None, Some, is_some, if◌then◌else◌}
use Rattle.repl_json.specs.declared.request.Ask.{Ask}
use Rattle.state_tree.specs.declared.holdings.Holdings.{Holdings}
use Rattle.state_tree.specs.declared.work.Found.{Found}
use Rattle.state_tree.specs.declared.work.Entry.{Entry}
use Rattle.state_tree.specs.declared.work.Gave.{Gave}
use Rattle.state_tree.specs.declared.work.Gave.TheVariants.{Answer, Memory}
use Rattle.state_tree.specs.Value.{Value}
use Rattle.state_tree.specs.Server.{PlainTree, early_case, env_at, state_at, replay, IsLegal}
use Rattle.state_tree.specs.Holdings.{plain, HasRoom}
use Rattle.state_tree.specs.Prepared.{Prepared, is_refused}
use Rattle.repl_json.specs.Names.{env_named, one_named, two_named}

-- the book, how many entries there may be, and the entries
pub record TreeModel (E : Type 0) : Type 0 where
  pub book : E
  pub entries : ℕ
  pub journal : List Entry

-- what is kept is the replay of the entries over the book
pub record IsReplayed {E S : Type 0} (V : Ask → Found E S → Value E S) (book : E) (entries : ℕ) (holdings : Holdings E S) : Type 0 where
  pub is : replay V book holdings.journal.items ≡ plain holdings
  pub legal : IsLegal V book holdings.journal.items
  pub room : HasRoom holdings entries

-- where something was found, the tree holds just that
abbrev pub HeldAs : {A : Type 0} → Option A → Option A → Type 0
HeldAs kept None = Unit {0}
HeldAs kept (Some x) = kept ≡ Some x

module _ {E S : Type 0} where
  -- what was found is what the tree holds under the ids
  pub record Holds (t : PlainTree E S) (ask : Ask) (found : Found E S) : Type 0 where
    pub env : HeldAs (env_at t (env_named ask)) found.env
    pub one : HeldAs (state_at t (one_named ask)) found.one
    pub two : HeldAs (state_at t (two_named ask)) found.two

  -- an entry says Memory exactly where there was none for the work, and the work was needed
  abbrev pub gave_of : PlainTree E S → Prepared E S → Gave
  gave_of t ready = if is_refused ready then (if is_some (early_case t ready.request) then Answer else Memory) else Answer

  abbrev pub entry_of : PlainTree E S → ℕ → Prepared E S → Entry
  entry_of t pass ready = record { pass = pass; request = ready.request; gave = gave_of t ready }
