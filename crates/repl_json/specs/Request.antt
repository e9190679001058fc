-- The requests of a line that isn't blank and isn't too long.
use Rattle.std.specs.Prelude.{ℕ, List, [], ◌∷◌, if◌then◌else◌, Option, Some, None, Ok}
use Rattle.serde_json.specs.Data.{Data, null}
use Rattle.repl_json.specs.Command.{command_named}
use Rattle.repl_json.specs.Fields as field
use Rattle.repl_json.specs.Json.{object_of}
use Rattle.repl_json.specs.Table.{Reading, ◌>>=◌, need, refused, all_or_refused, asked}
use Rattle.repl_json.specs.Words.{is_blank_line, from_word, begins_object, word_of, rest_of}
use Rattle.repl_json.specs.declared.command.Command.{Command}
use Rattle.repl_json.specs.declared.request.Bad.TheVariants as bad
use Rattle.repl_json.specs.declared.request.Request.{Request}

-- the most bytes that a line may have
abbrev pub longest_line : ℕ
longest_line = 65536

-- 4. the command is none of the protocol; 5. a field is refused
abbrev pub by_command : Data → Option Command → List Request
by_command payload None = refused bad.Command ∷ []
by_command payload (Some command) = asked command payload

unfoldable pub requests_by : List ℕ → Data → List Request
requests_by word payload = by_command payload (command_named word)

-- 2. `cmd` is missing or isn't a text; 3. `payload` isn't missing and isn't an object
abbrev pub parts_of : Data → Reading (List Request)
parts_of whole = do
  word ← need field.cmd whole
  payload ← need field.payload whole
  Ok (requests_by word payload)

-- 1. what is to be read as JSON isn't an object

abbrev pub of_object : Option Data → List Request
of_object None = refused bad.Json ∷ []
of_object (Some whole) = all_or_refused (parts_of whole)

abbrev pub of_payload : List ℕ → Option Data → List Request
of_payload word None = refused bad.Json ∷ []
of_payload word (Some payload) = requests_by word payload

-- the payload behind a command's word: a rest of blanks alone is none
abbrev pub payload_of : List ℕ → Option Data
payload_of rest = if is_blank_line rest then Some null else object_of rest

-- of a line without the blanks at its front
abbrev pub requests_from : List ℕ → List Request
requests_from front = if begins_object front then of_object (object_of front) else of_payload (word_of front) (payload_of (rest_of front))

unfoldable pub requests_of : List ℕ → List Request
requests_of line = requests_from (from_word line)
