-- What the commands over numbers say are replies.
use Rattle.std.proofs.Common.{ℕ, Bool, true, false, cond, nat_lt, ◌&&◌, ◌+◌, Option, None, Some, refl}
use Rattle.repl_json.specs.OneLine.{IsReply}
use Rattle.repl_json.specs.declared.request.Ask.{Ask}
use Rattle.repl_json.specs.declared.request.Ask.TheVariants.{EnvAdd, Start, Move}
use Rattle.state_tree.specs.declared.work.Found.{Found}
use Rattle.state_tree.specs.Value.{Value, Says, MakesState}
use Rattle.state_tree.specs.Replies.{SaysReply}
use Rattle.state_tree.specs.Toy.{said_body, state_body, env_body, moved, toy_value}

pub said_is_reply : IsReply said_body
unfolding said_body
said_is_reply = record { other = refl; first = refl; second = refl; third = refl }

state_is_reply : IsReply state_body
unfolding state_body
state_is_reply = record { other = refl; first = refl; second = refl; third = refl }

env_is_reply : IsReply env_body
unfolding env_body
env_is_reply = record { other = refl; first = refl; second = refl; third = refl }

within : (b : Bool) (n : ℕ) → SaysReply {E = ℕ} {S = ℕ} (cond b (MakesState n state_body) (Says said_body))
within true n = state_is_reply
within false n = said_is_reply

moved_reply : (by : ℕ) (state : Option ℕ) → SaysReply (moved by state)
moved_reply by None = said_is_reply
moved_reply by (Some n) = within (nat_lt n 1000000 && nat_lt by 1000000) (n + by)

pub toy_replies : (ask : Ask) (found : Found ℕ ℕ) → SaysReply (toy_value ask found)
toy_replies (Start env expr fuel) found = state_is_reply
toy_replies (EnvAdd env text fuel) found = env_is_reply
toy_replies (Move state goal text fuel auto) found = moved_reply goal found.one
toy_replies ask found = said_is_reply
