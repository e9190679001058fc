-- Worked words and their forms, computed by the definitions.
use Rattle.std.specs.Prelude.{◌≡◌, ℕ, List, [], ◌==◌, Option, Some, None, codes}
use Rattle.std.specs.List.{slice_split}
use Rattle.command_line.specs.Given.{Text}
use Rattle.command_line.specs.Form.{Command, run, serve, check, demo, form_of}

-- the words of a line, which blanks part
abbrev words_in : List ℕ → List Text
words_in line = slice_split (λ byte. byte == 32) line

abbrev Has : List ℕ → Option Command → Type 0
Has line form = form_of (words_in line) ≡ form

abbrev pub WorkedForms : Type 0
WorkedForms =
    -- each form, with its defaults
    Has (codes "run") (Some (run None 65536 1))
    × Has (codes "run --entries 3 --book a") (Some (run (Some (codes "a")) 3 1))
    × Has (codes "check a") (Some (check (codes "a")))
    × Has (codes "demo 007 01") (Some (demo 7 1))
    × Has (codes "demo 9999999999999999999 10000") (Some (demo 9999999999999999999 10000))
    × Has (codes "serve --sessions 2 --listen a:1") (Some (serve (codes "a:1") None 65536 1 2))
    × Has (codes "serve --book b --listen a:1 --workers 3 --entries 4") (Some (serve (codes "a:1") (Some (codes "b")) 4 3 1))
    -- an option with `=`, whose value may begin with `-` and hold a further `=`
    × Has (codes "run --book=a=b") (Some (run (Some (codes "a=b")) 65536 1))
    × Has (codes "run --book=-x --entries=7") (Some (run (Some (codes "-x")) 7 1))
    -- the least and the greatest number, and leading zeros
    × Has (codes "run --entries 0000003") (Some (run None 3 1))
    × Has (codes "run --entries 1048576") (Some (run None 1048576 1))
    × Has (codes "run --workers=64") (Some (run None 65536 64))
    × Has (codes "run --workers 2 --book a --entries 3") (Some (run (Some (codes "a")) 3 2))

abbrev pub WorkedRefusals : Type 0
WorkedRefusals =
    -- no word, no such subcommand, too few words and too many
    (form_of [] ≡ None)
    × Has (codes "walk") None
    × Has (codes "check") None
    × Has (codes "check a b") None
    × Has (codes "run a") None
    -- an option twice, without its value, and unknown
    × Has (codes "run --entries 3 --entries 4") None
    × Has (codes "run --book") None
    × Has (codes "run --book -x") None
    × Has (codes "run --books a") None
    × Has (codes "run -book a") None
    -- numbers out of range, of 8 digits, and with another byte
    × Has (codes "run --entries 0") None
    × Has (codes "run --entries 1048577") None
    × Has (codes "run --entries 00000003") None
    × Has (codes "run --entries +3") None
    × Has (codes "run --workers 0") None
    × Has (codes "run --workers 65") None
    -- words that are refused before anything else
    × Has (codes "check -- x") None
    × Has (codes "check -") None
    × Has (codes "run --book=") None
    × Has (codes "check a=") None
    × Has (codes "check ") None
    × Has (codes "demo 00000000000000000001 0") None
    × Has (codes "demo 7 10001") None
    × Has (codes "demo 7") None
    × Has (codes "serve --book b") None
    × Has (codes "serve --listen a:1 --sessions 65") None
