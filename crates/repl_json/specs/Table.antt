-- What each command asks, by its fields in order. Of several fields that are to be refused the first is named.
use Rattle.std.specs.Prelude.{ℕ, List, [], ◌∷◌, map, Option, Some, None, Result, Ok, Err}
use Rattle.serde_json.specs.Data.{Data}
use Rattle.repl_json.specs.Field.{Field, value_in}
use Rattle.repl_json.specs.Fields as field
use Rattle.repl_json.specs.declared.command.Command.{Command}
use Rattle.repl_json.specs.declared.command.Command.TheVariants as command
use Rattle.repl_json.specs.declared.request.Ask.{Ask}
use Rattle.repl_json.specs.declared.request.Ask.TheVariants as ask
use Rattle.repl_json.specs.declared.request.Ask.TheVariants.{Echo, EnvAdd, EnvInspect, EnvCatalog, Start, Move, Continue, Resume, Print, Delete, Reset, Stat}
use Rattle.repl_json.specs.declared.request.Bad.{Bad}
use Rattle.repl_json.specs.declared.request.Bad.TheVariants as bad
use Rattle.repl_json.specs.declared.request.Request.{Request}

-- a value, or the name of the field that is refused
abbrev pub Reading : Type 0 → Type 0
Reading A = Result A (List ℕ)

infixl 10 ◌>>=◌
abbrev pub ◌>>=◌ : {A B : Type 0} → Reading A → (A → Reading B) → Reading B
Ok a >>= f = f a
Err name >>= f = Err name

abbrev pub or_name : {A : Type 0} → List ℕ → Option A → Reading A
or_name name None = Err name
or_name name (Some a) = Ok a

-- a field's value
abbrev pub need : {A : Type 0} → Field A → Data → Reading A
need field whole = or_name field.name (value_in field whole)

-- a line that is refused; its `after` is 0
abbrev pub refused : Bad → Request
refused bad = record { after = 0; ask = ask.Bad bad }

-- a refused field is a request that is refused
abbrev pub or_refused : Reading Request → Request
or_refused (Ok request) = request
or_refused (Err name) = refused (bad.Field name)

abbrev pub all_or_refused : Reading (List Request) → List Request
all_or_refused (Ok requests) = requests
all_or_refused (Err name) = refused (bad.Field name) ∷ []

abbrev pub with_after : ℕ → Ask → Request
with_after after ask = record { after = after; ask = ask }

-- a request, with `after`, which is the last field of each command
abbrev pub behind : Data → Ask → Reading Request
behind payload ask = do
  after ← need field.after payload
  Ok (with_after after ask)

unfoldable pub echo : Data → Reading Request
echo payload = do
  expr ← need field.expr payload
  env ← need field.env_id payload
  fuel ← need field.fuel payload
  behind payload (Echo env expr fuel)

unfoldable pub env_add : Data → Reading Request
env_add payload = do
  text ← need field.text payload
  env ← need field.env_id payload
  fuel ← need field.fuel payload
  behind payload (EnvAdd env text fuel)

unfoldable pub env_inspect : Data → Reading Request
env_inspect payload = do
  name ← need field.name payload
  env ← need field.env_id payload
  behind payload (EnvInspect env name)

unfoldable pub env_catalog : Data → Reading Request
env_catalog payload = do
  env ← need field.env_id payload
  behind payload (EnvCatalog env)

unfoldable pub start : Data → Reading Request
start payload = do
  expr ← need field.expr payload
  env ← need field.env_id payload
  fuel ← need field.fuel payload
  behind payload (Start env expr fuel)

unfoldable pub move_on : Data → Reading Request
move_on payload = do
  state ← need field.state_id payload
  text ← need field.move payload
  goal ← need field.goal_id payload
  fuel ← need field.fuel payload
  auto ← need field.auto payload
  behind payload (Move state goal text fuel auto)

-- each try is a request of its own
unfoldable pub try_all : Data → Reading (List Request)
try_all payload = do
  state ← need field.state_id payload
  asks ← need (field.tries state) payload
  after ← need field.after payload
  Ok (map (with_after after) asks)

unfoldable pub continue_with : Data → Reading Request
continue_with payload = do
  target ← need field.target payload
  branch ← need field.branch payload
  behind payload (Continue target branch)

unfoldable pub resume : Data → Reading Request
resume payload = do
  state ← need field.state_id payload
  goals ← need field.goals payload
  behind payload (Resume state goals)

unfoldable pub print : Data → Reading Request
print payload = do
  state ← need field.state_id payload
  behind payload (Print state)

unfoldable pub delete : Data → Reading Request
delete payload = do
  state ← need field.state_id payload
  behind payload (Delete state)

unfoldable pub asked : Command → Data → List Request
asked command.Echo payload = or_refused (echo payload) ∷ []
asked command.EnvAdd payload = or_refused (env_add payload) ∷ []
asked command.EnvInspect payload = or_refused (env_inspect payload) ∷ []
asked command.EnvCatalog payload = or_refused (env_catalog payload) ∷ []
asked command.Start payload = or_refused (start payload) ∷ []
asked command.Move payload = or_refused (move_on payload) ∷ []
asked command.Tries payload = all_or_refused (try_all payload)
asked command.Continue payload = or_refused (continue_with payload) ∷ []
asked command.Resume payload = or_refused (resume payload) ∷ []
asked command.Print payload = or_refused (print payload) ∷ []
asked command.Delete payload = or_refused (delete payload) ∷ []
asked command.Reset payload = or_refused (behind payload Reset) ∷ []
asked command.Stat payload = or_refused (behind payload Stat) ∷ []
