-- The fields of the protocol, each with its default and its limit, where it has them.
use Rattle.std.specs.Prelude.{ℕ, List, length, nat_le, ◌&&◌, if◌then◌else◌, Bool, true, Option, Some, None, option_and_then, codes}
use Rattle.serde_json.specs.Data.{Data, null}
use Rattle.repl_json.specs.Field.{Field, text_field, number_field, flag_field, list_field, value_in, each, whole_number, greatest_number}
use Rattle.repl_json.specs.Json.{if_object}
use Rattle.repl_json.specs.declared.request.Ask.{Ask}
use Rattle.repl_json.specs.declared.request.Ask.TheVariants.{Move}

abbrev pub cmd : Field (List ℕ)
cmd = text_field (codes "cmd")

abbrev pub payload : Field Data
payload = record { name = codes "payload"; default = Some null; reads = if_object }

abbrev pub expr : Field (List ℕ)
expr = text_field (codes "expr")

abbrev pub text : Field (List ℕ)
text = text_field (codes "text")

abbrev pub name : Field (List ℕ)
name = text_field (codes "name")

abbrev pub move : Field (List ℕ)
move = text_field (codes "move")

abbrev pub env_id : Field ℕ
env_id = number_field (codes "envId") (Some 0) greatest_number

abbrev pub fuel : Field ℕ
fuel = number_field (codes "fuel") (Some 100000) 10000000

abbrev pub state_id : Field ℕ
state_id = number_field (codes "stateId") None greatest_number

abbrev pub goal_id : Field ℕ
goal_id = number_field (codes "goalId") (Some 0) greatest_number

abbrev pub auto : Field Bool
auto = flag_field (codes "auto") true

abbrev pub target : Field ℕ
target = number_field (codes "target") None greatest_number

abbrev pub branch : Field ℕ
branch = number_field (codes "branch") None greatest_number

abbrev pub goals : Field (List ℕ)
goals = list_field (codes "goals") (each (whole_number greatest_number))

abbrev pub after : Field ℕ
after = number_field (codes "after") (Some 0) greatest_number

infixl 10 ◌>>=◌
abbrev ◌>>=◌ : {A B : Type 0} → Option A → (A → Option B) → Option B
o >>= f = option_and_then f o

-- an object with the fields of a move but the state, which is given
unfoldable pub try_of : ℕ → Data → Option Ask
try_of state d = do
  whole ← if_object d
  text ← value_in move whole
  goal ← value_in goal_id whole
  fuel ← value_in fuel whole
  auto ← value_in auto whole
  Some (Move state goal text fuel auto)

-- so many tries may stand in one command
abbrev pub may_be_tried : ℕ → Bool
may_be_tried count = nat_le 1 count && nat_le count 64

abbrev pub tries_of : ℕ → List Data → Option (List Ask)
tries_of state ds = if may_be_tried (length ds) then each (try_of state) ds else None

abbrev pub tries : ℕ → Field (List Ask)
tries state = list_field (codes "tries") (tries_of state)
