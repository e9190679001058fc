-- Commands whose environments and states are numbers: a value to compute the server with.
use Rattle.std.specs.Prelude.{ℕ, ◌+◌, nat_lt, ◌&&◌, Option, Some, None, [], codes, true, false, if◌then◌else◌, unwrap_or}
use Rattle.repl_json.specs.declared.reply.Body.{Body}
use Rattle.repl_json.specs.declared.request.Request.{Request}
use Rattle.repl_json.specs.declared.request.Ask.{Ask}
use Rattle.repl_json.specs.declared.request.Ask.TheVariants.{EnvAdd, Start, Move}
use Rattle.state_tree.specs.declared.work.Found.{Found}
use Rattle.state_tree.specs.declared.work.Entry.{Entry}
use Rattle.state_tree.specs.declared.work.Gave.TheVariants as gave
use Rattle.state_tree.specs.declared.work.Worked.TheVariants as worked
use Rattle.state_tree.specs.declared.check.Known.{Known}
use Rattle.state_tree.specs.Value.{Value, Says, MakesEnv, MakesState}
use Rattle.state_tree.specs.Prepared.{Prepared}

unfoldable pub said_body : Body
said_body = record { first = codes "{\"seq\":"; second = codes "}"; third = []; id_first = false }

unfoldable pub state_body : Body
state_body = record { first = codes "{\"seq\":"; second = codes ",\"stateId\":"; third = codes "}"; id_first = false }

unfoldable pub env_body : Body
env_body = record { first = codes "{\"envId\":"; second = codes ",\"seq\":"; third = codes "}"; id_first = true }

-- a move adds to its state, up to a limit
abbrev pub moved : ℕ → Option ℕ → Value ℕ ℕ
moved by None = Says said_body
moved by (Some n) = if nat_lt n 1000000 && nat_lt by 1000000 then MakesState (n + by) state_body else Says said_body

abbrev pub toy_value : Ask → Found ℕ ℕ → Value ℕ ℕ
toy_value (Start env expr fuel) found = MakesState fuel state_body
toy_value (EnvAdd env text fuel) found = MakesEnv fuel env_body
toy_value (Move state goal text fuel auto) found = moved goal found.one
toy_value ask found = Says said_body

-- where a state comes from: the number that its `goal.start` gives
abbrev pub toy_mark : Ask → Option ℕ → ℕ
toy_mark (Start env expr fuel) named = fuel
toy_mark ask named = unwrap_or named 0

-- requests, entries and prepared requests for the rows
abbrev pub start : ℕ → Ask
start n = Start 0 [] n

abbrev pub move_by : ℕ → ℕ → Ask
move_by state n = Move state n [] 0 true

abbrev pub request : Ask → Request
request ask = record { after = 0; ask = ask }

abbrev pub entered : Ask → Entry
entered ask = record { pass = 0; request = request ask; gave = gave.Answer }

-- there was no memory for its work
abbrev pub starved : Ask → Entry
starved ask = record { pass = 0; request = request ask; gave = gave.Memory }

abbrev pub refused : Ask → Prepared ℕ ℕ
refused ask = record { request = request ask; found = record { env = None; one = None; two = None }; given_up = false; worked = worked.Memory }

-- the looks missed every id, or none
abbrev pub unseen : Known
unseen = record { env = false; one = false; two = false }

abbrev pub seen : Known
seen = record { env = true; one = true; two = true }
