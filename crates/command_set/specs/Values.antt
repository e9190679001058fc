-- The value of each command on the environment and the states that it names.
use Rattle.std.specs.Prelude.{List, Option, Some, None, Result, Ok, Err}
use Rattle.repl_json.specs.Bad.{bad_body}
use Rattle.repl_json.specs.declared.request.Ask.{Ask}
use Rattle.repl_json.specs.declared.request.Ask.TheVariants.{Echo, EnvAdd, EnvInspect, EnvCatalog, Start, Move, Continue, Resume, Print}
use Rattle.repl_json.specs.declared.request.Bad.TheVariants.{Json}
use Rattle.state_tree.specs.declared.work.Found.{Found}
use Rattle.state_tree.specs.Value.{Value, Says, MakesEnv}
use Rattle.ld_trees.specs.Term.{Term}
use Rattle.ld_terms.specs.declared.globals.Item.{Item}
use Rattle.book_reader.specs.Book.{BookRefusal, book_value}
use Rattle.goal_state.specs.State.{State}
use Rattle.reply_text.specs.Members.{body_text}
use Rattle.command_set.specs.Echo.{echo}
use Rattle.command_set.specs.Books.{book_refusal, added}
use Rattle.command_set.specs.Inspect.{inspect, catalog}
use Rattle.command_set.specs.Goals.{Given, start, move_on, printed}
use Rattle.command_set.specs.Branches.{continue_with, resume_with}

-- What stands where a request has no value, since what it names wasn't found or the tree itself answers it. No entry ever reads it, so
-- any reply would do.
abbrev pub no_value : Given
no_value = Says (bad_body Json)

-- on the environment or the state that was found
abbrev pub on : {A : Type 0} → Option A → (A → Given) → Given
on None f = no_value
on (Some x) f = f x

abbrev pub added_value : {S : Type 0} → Result (List (Item Term)) BookRefusal → Value (List (Item Term)) S
added_value (Ok items) = MakesEnv items added
added_value (Err r) = Says (body_text (book_refusal r))

-- the value of each command; the tree itself answers those that delete states or count
unfoldable pub value : Ask → Found (List (Item Term)) State → Given
value (Echo env expr fuel) found = on found.env (λ items. Says (body_text (echo items expr fuel)))
value (EnvAdd env text fuel) found = on found.env (λ items. added_value (book_value items fuel text))
value (EnvInspect env name) found = on found.env (λ items. Says (body_text (inspect items name)))
value (EnvCatalog env) found = on found.env (λ items. Says (body_text (catalog items)))
value (Start env expr fuel) found = on found.env (λ items. start items expr fuel)
value (Move state goal text fuel auto) found = on found.one (λ s. move_on s goal text fuel auto)
value (Continue target branch) found = on found.one (λ s. on found.two (λ t. continue_with s t))
value (Resume state goals) found = on found.one (λ s. resume_with s goals)
value (Print state) found = on found.one (λ s. Says (printed s))
value ask found = no_value
