-- When a request is to be looked up again.
use Rattle.std.specs.Prelude.{ℕ, Bool, true, false, nat_lt, List, length, slice_get, Option, Some, None, if◌then◌else◌}
use Rattle.repl_json.specs.Names.{env_named, one_named, two_named}
use Rattle.repl_json.specs.declared.request.Request.{Request}
use Rattle.repl_json.specs.declared.request.Ask.{Ask}
use Rattle.repl_json.specs.declared.request.Ask.TheVariants.{Bad}
use Rattle.state_tree.specs.declared.slot.Slot.{Slot}
use Rattle.state_tree.specs.declared.check.Known.{Known}
use Rattle.state_tree.specs.declared.check.IdCheck.{IdCheck}
use Rattle.state_tree.specs.declared.check.IdCheck.TheVariants.{Usable, Gone, Missed}
use Rattle.state_tree.specs.Server.{PlainTree, seq_of}

-- its line alone decides the reply
abbrev pub is_bad : Ask → Bool
is_bad (Bad bad) = true
is_bad ask = false

-- what stands in the way at an id, among so many environments
abbrev pub env_check : ℕ → Option ℕ → Bool → IdCheck
env_check count None found = Usable
env_check count (Some id) found = if nat_lt id count then (if found then Usable else Missed id) else Gone id

module _ {S : Type 0} where
  -- and among these states; one that was found but isn't live isn't usable
  abbrev pub slot_check : ℕ → Bool → Option (Slot S) → IdCheck
  slot_check id found None = Gone id
  slot_check id found (Some slot) = if found then (if slot.live then Usable else Gone id) else Missed id

  abbrev pub state_check : List (Slot S) → Option ℕ → Bool → IdCheck
  state_check slots None found = Usable
  state_check slots (Some id) found = slot_check id found (slice_get slots id)

-- the id that was missed, if it comes before one that isn't usable
abbrev pub missed_first : IdCheck → Option ℕ → Option ℕ
missed_first Usable next = next
missed_first (Gone id) next = None
missed_first (Missed id) next = Some id

-- the id that is to be looked for again: of a request that isn't bad or ahead, the first that wasn't found or isn't usable, where it
-- was made and the look missed it
abbrev pub again_of : {E S : Type 0} → PlainTree E S → Request → Known → Option ℕ
again_of t request known =
    if is_bad request.ask then None else
    if nat_lt (seq_of t) request.after then None else
    missed_first (env_check (length t.envs) (env_named request.ask) known.env)
    (missed_first (state_check t.states (one_named request.ask) known.one)
    (missed_first (state_check t.states (two_named request.ask) known.two) None))
