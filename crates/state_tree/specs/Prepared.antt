-- A request with its result.
use Rattle.std.specs.Prelude.{ℕ, ◌&&◌, Option, Some, ◌≡◌, Bool, true, false, None, is_some, if◌then◌else◌}
use Rattle.repl_json.specs.declared.request.Request.{Request}
use Rattle.repl_json.specs.Names.{env_named, one_named, two_named}
use Rattle.repl_json.specs.declared.request.Ask.{Ask}
use Rattle.repl_json.specs.declared.request.Ask.TheVariants.{Delete, Reset, Stat}
use Rattle.state_tree.specs.declared.work.Found.{Found}
use Rattle.state_tree.specs.declared.work.Worked.{Worked}
use Rattle.state_tree.specs.declared.work.Worked.TheVariants.{Memory}
use Rattle.state_tree.specs.declared.check.Known.{Known}
use Rattle.state_tree.specs.Value.{Value, Gives, value_at}

pub record Prepared (E S : Type 0) : Type 0 where
  pub request : Request
  pub found : Found E S
  pub given_up : Bool
  pub worked : Worked E S

module _ {E S : Type 0} where
  abbrev pub nothing : Found E S
  nothing = record { env = None; one = None; two = None }

  abbrev pub is_memory : Worked E S → Bool
  is_memory Memory = true
  is_memory worked = false

  -- the result is want of memory
  abbrev pub is_refused : Prepared E S → Bool
  is_refused ready = is_memory ready.worked

  -- which ids count as found
  abbrev pub known_by : Prepared E S → Known
  known_by ready =
      if ready.given_up
      then record { env = true; one = true; two = true }
      else record { env = is_some ready.found.env; one = is_some ready.found.one; two = is_some ready.found.two }

  -- the result is the value of the request on what was found, or want of memory
  pub record IsPrepared (V : Ask → Found E S → Value E S) (ready : Prepared E S) : Type 0 where
    pub gives : Gives (value_at V ready.request.ask ready.found) ready.worked
    pub given_up : ready.given_up ≡ true → ready.worked ≡ Memory

-- its reply needs no work
abbrev pub is_flag : Ask → Bool
is_flag (Delete id) = true
is_flag Reset = true
is_flag Stat = true
is_flag ask = false

abbrev pub has_part : {A : Type 0} → Option ℕ → Option A → Bool
has_part None found = true
has_part (Some id) found = is_some found

-- each id that is named was found
abbrev pub has_all : {E S : Type 0} → Ask → Found E S → Bool
has_all ask found = has_part (env_named ask) found.env && has_part (one_named ask) found.one && has_part (two_named ask) found.two
