-- The server of one thread.
use Rattle.std.specs.Prelude.{◌≡◌, ℕ, zero, suc, true, false, nat_lt, count_by, List, [], ◌∷◌, ◌++◌, length, map, slice_get, Option, Some, None, option_map, option_and_then, if◌then◌else◌}
use Rattle.repl_json.specs.Bad.{bad_body}
use Rattle.repl_json.specs.Names.{env_named, one_named, two_named}
use Rattle.repl_json.specs.declared.reply.Line.{Line}
use Rattle.repl_json.specs.declared.reply.Line.TheVariants as line
use Rattle.repl_json.specs.declared.request.Request.{Request}
use Rattle.repl_json.specs.declared.request.Ask.{Ask}
use Rattle.repl_json.specs.declared.request.Ask.TheVariants.{Bad, Delete, Reset, Stat}
use Rattle.state_tree.specs.declared.slot.Slot.{Slot}
use Rattle.state_tree.specs.declared.work.Found.{Found}
use Rattle.state_tree.specs.declared.work.Gave.{Gave}
use Rattle.state_tree.specs.declared.work.Gave.TheVariants.{Answer, Memory}
use Rattle.state_tree.specs.declared.work.Entry.{Entry}
use Rattle.state_tree.specs.Value.{Value, Says, MakesEnv, MakesState}

-- environments, the states ever made, and the entries
pub record PlainTree (E S : Type 0) : Type 0 where
  pub envs : List E
  pub states : List (Slot S)
  pub journal : List Entry

-- what an entry gives: its reply, and the environments and states after it
pub record Stepped (E S : Type 0) : Type 0 where
  pub line : Line
  pub envs : List E
  pub states : List (Slot S)

-- the first one, or else the other
infixr 3 ◌or◌
abbrev pub ◌or◌ : {A : Type 0} → Option A → Option A → Option A
None or y = y
(Some x) or y = Some x

abbrev pub or_else : {A : Type 0} → Option A → A → A
or_else None y = y
or_else (Some x) y = x

-- states that are not live any more
module _ {S : Type 0} where
  abbrev pub ended : Slot S → Slot S
  ended slot = record { state = slot.state; live = false }

  abbrev pub without : List (Slot S) → ℕ → List (Slot S)
  without [] id = []
  without (slot ∷ slots) zero = ended slot ∷ slots
  without (slot ∷ slots) (suc id) = slot ∷ without slots id

  abbrev pub live_count : List (Slot S) → ℕ
  live_count slots = count_by (λ slot. slot.live) slots

module _ {E S : Type 0} where
  abbrev pub seq_of : PlainTree E S → ℕ
  seq_of t = length t.journal

  -- a reply that changes nothing
  abbrev pub says : PlainTree E S → Line → Stepped E S
  says t reply = record { line = reply; envs = t.envs; states = t.states }

  -- what the tree holds under the ids that a request names, live or not
  abbrev pub env_at : PlainTree E S → Option ℕ → Option E
  env_at t named = option_and_then (slice_get t.envs) named

  abbrev pub state_at : PlainTree E S → Option ℕ → Option S
  state_at t named = option_and_then (λ id. option_map (λ slot. slot.state) (slice_get t.states id)) named

  abbrev pub found_in : PlainTree E S → Ask → Found E S
  found_in t ask = record { env = env_at t (env_named ask); one = state_at t (one_named ask); two = state_at t (two_named ask) }

  -- 1. the request is bad
  abbrev pub bad_case : PlainTree E S → Ask → Option (Stepped E S)
  bad_case t (Bad bad) = Some (says t (line.Given (bad_body bad) (seq_of t) None))
  bad_case t ask = None

  -- 2. it is ahead of the entries
  abbrev pub ahead_case : PlainTree E S → ℕ → Option (Stepped E S)
  ahead_case t after = if nat_lt (seq_of t) after then Some (says t (line.Ahead (seq_of t) (seq_of t))) else None

  -- 3. the environment was never made; or a state was never made, or isn't live
  abbrev pub unknown_env : PlainTree E S → Option ℕ → Option (Stepped E S)
  unknown_env t None = None
  unknown_env t (Some id) = if nat_lt id (length t.envs) then None else Some (says t (line.UnknownEnv id (seq_of t)))

  abbrev pub unless_live : PlainTree E S → ℕ → Option (Slot S) → Option (Stepped E S)
  unless_live t id None = Some (says t (line.UnknownState id (seq_of t)))
  unless_live t id (Some slot) = if slot.live then None else Some (says t (line.UnknownState id (seq_of t)))

  abbrev pub unknown_state : PlainTree E S → Option ℕ → Option (Stepped E S)
  unknown_state t None = None
  unknown_state t (Some id) = unless_live t id (slice_get t.states id)

  abbrev pub unknown_case : PlainTree E S → Ask → Option (Stepped E S)
  unknown_case t ask = unknown_env t (env_named ask) or (unknown_state t (one_named ask) or unknown_state t (two_named ask))

  -- 4. a state is deleted, all are, or they are counted
  abbrev pub flag_case : PlainTree E S → Ask → Option (Stepped E S)
  flag_case t (Delete id) = Some (record { line = line.Deleted id (seq_of t); envs = t.envs; states = without t.states id })
  flag_case t Reset = Some (record { line = line.Reset (live_count t.states) (seq_of t); envs = t.envs; states = map ended t.states })
  flag_case t Stat = Some (says t (line.Stat (length t.envs) (live_count t.states) (seq_of t) (length t.states)))
  flag_case t ask = None

  -- the cases that need no work
  abbrev pub early_case : PlainTree E S → Request → Option (Stepped E S)
  early_case t request = bad_case t request.ask or (ahead_case t request.after or (unknown_case t request.ask or flag_case t request.ask))

  -- 5. there was no memory for the work
  abbrev pub memory_case : PlainTree E S → Gave → Option (Stepped E S)
  memory_case t Answer = None
  memory_case t Memory = Some (says t (line.Memory (seq_of t)))

  -- 6. the value of the command
  abbrev pub value_case : PlainTree E S → Value E S → Stepped E S
  value_case t (Says body) = says t (line.Given body (seq_of t) None)
  value_case t (MakesEnv env body) = record { line = line.Given body (seq_of t) (Some (length t.envs)); envs = t.envs ++ env ∷ []; states = t.states }
  value_case t (MakesState state body) = record { line = line.Given body (seq_of t) (Some (length t.states)); envs = t.envs; states = t.states ++ record { state = state; live = true } ∷ [] }

  -- an entry that says so stands only where the work was needed
  abbrev pub MayStand : PlainTree E S → Entry → Type 0
  MayStand t entry = entry.gave ≡ Memory → early_case t entry.request ≡ None

module _ {E S : Type 0} (V : Ask → Found E S → Value E S) where
  -- the first case that applies
  unfoldable pub answer : PlainTree E S → Entry → Stepped E S
  answer t entry = or_else (early_case t entry.request or memory_case t entry.gave) (value_case t (V entry.request.ask (found_in t entry.request.ask)))

  abbrev pub reply : PlainTree E S → Entry → Line
  reply t entry = (answer t entry).line

  abbrev pub step : PlainTree E S → Entry → PlainTree E S
  step t entry = record { envs = (answer t entry).envs; states = (answer t entry).states; journal = t.journal ++ entry ∷ [] }

  -- what entries make of a tree
  abbrev pub after_all : PlainTree E S → List Entry → PlainTree E S
  after_all t [] = t
  after_all t (entry ∷ entries) = after_all (step t entry) entries

  -- their replies
  abbrev pub replies : PlainTree E S → List Entry → List Line
  replies t [] = []
  replies t (entry ∷ entries) = reply t entry ∷ replies (step t entry) entries

  abbrev pub MayAll : PlainTree E S → List Entry → Type 0
  MayAll t [] = Unit {0}
  MayAll t (entry ∷ entries) = MayStand t entry × MayAll (step t entry) entries

  -- the tree of a history over a book
  abbrev pub opening : E → PlainTree E S
  opening book = record { envs = book ∷ []; states = []; journal = [] }

  unfoldable pub replay : E → List Entry → PlainTree E S
  replay book history = after_all (opening book) history

  unfoldable pub IsLegal : E → List Entry → Type 0
  IsLegal book history = MayAll (opening book) history
