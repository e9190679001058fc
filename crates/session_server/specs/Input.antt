-- The requests of an input.
use Rattle.std.specs.Prelude.{ℕ, nat_lt, List, [], ◌∷◌, length, if◌then◌else◌}
use Rattle.std.specs.List.{flat_map}
use Rattle.pan_io.specs.Text.{lines_of}
use Rattle.repl_json.specs.Request.{requests_of}
use Rattle.repl_json.specs.Words.{is_blank_line}
use Rattle.repl_json.specs.declared.request.Ask.TheVariants.{Bad}
use Rattle.repl_json.specs.declared.request.Bad.TheVariants.{LineTooLong}
use Rattle.repl_json.specs.declared.request.Request.{Request}

abbrev pub too_long : ℕ → Request
too_long n = record { after = 0; ask = Bad (LineTooLong n) }

-- a line of more than 65,536 bytes is a bad request, whatever it holds; of the other lines the blank ones ask for nothing
unfoldable pub requests_of_line : List ℕ → List Request
requests_of_line line =
    if nat_lt 65536 (length line) then too_long (length line) ∷ [] else
    if is_blank_line line then [] else requests_of line

abbrev pub requests_of_lines : List (List ℕ) → List Request
requests_of_lines lines = flat_map requests_of_line lines

abbrev pub requests_of_input : List ℕ → List Request
requests_of_input bytes = requests_of_lines (lines_of bytes)
