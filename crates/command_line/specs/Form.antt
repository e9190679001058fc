-- The forms of the command line.
use Rattle.std.specs.Prelude.{ℕ, List, [], ◌∷◌, Option, None, true, if◌then◌else◌, codes, option_map, option_and_then, map}
use Rattle.std.specs.Str.{bytes_eq}
use Rattle.command_line.specs.Given.{Text, Known, Given, are_words, value, options, places, number, ranged, number_or}

pub data Command : Type 0 where
  run : (book : Option Text) (entries workers : ℕ) → Command
  serve : (listen : Text) (book : Option Text) (entries workers sessions : ℕ) → Command
  check : (file : Text) → Command
  demo : (seed count : ℕ) → Command

-- numbers of options, with their defaults and the greatest that are allowed; the least is 1
abbrev pub entries_of : Given → Option ℕ
entries_of given = number_or 65536 1048576 (value (codes "entries") given)

abbrev pub workers_of : Given → Option ℕ
workers_of given = number_or 1 64 (value (codes "workers") given)

abbrev pub sessions_of : Given → Option ℕ
sessions_of given = number_or 1 64 (value (codes "sessions") given)

-- run [--book FILE] [--entries N] [--workers N]
abbrev pub run_options : Known
run_options = (codes "book", true) ∷ (codes "entries", true) ∷ (codes "workers", true) ∷ []

abbrev pub run_of : List Text → Option Command
run_of words = option_and_then (λ given. option_and_then (λ entries. option_map (λ workers. run (value (codes "book") given) entries workers)
    (workers_of given)) (entries_of given)) (options run_options [] words)

-- serve --listen ADDRESS [--book FILE] [--entries N] [--workers N] [--sessions N]
abbrev pub serve_options : Known
serve_options = (codes "listen", true) ∷ (codes "book", true) ∷ (codes "entries", true) ∷ (codes "workers", true) ∷ (codes "sessions", true) ∷ []

abbrev pub serve_of : List Text → Option Command
serve_of words = option_and_then (λ given. option_and_then (λ listen. option_and_then (λ entries. option_and_then (λ workers. option_map (λ sessions.
    serve listen (value (codes "book") given) entries workers sessions)
    (sessions_of given)) (workers_of given)) (entries_of given)) (value (codes "listen") given)) (options serve_options [] words)

-- check FILE
abbrev pub check_places : Known
check_places = (codes "file", true) ∷ []

abbrev pub check_of : List Text → Option Command
check_of words = option_and_then (λ given. option_map (λ file. check file) (value (codes "file") given)) (places (map (λ k. k.0) check_places) words)

-- demo SEED COUNT, where SEED has 1 to 19 digits and COUNT is 0 to 10,000
abbrev pub demo_places : Known
demo_places = (codes "seed", true) ∷ (codes "count", true) ∷ []

abbrev pub demo_of : List Text → Option Command
demo_of words = option_and_then (λ given. option_and_then (λ seed. option_map (λ count. demo seed count)
    (option_and_then (λ t. ranged 0 10000 (number 7 t)) (value (codes "count") given))) (option_and_then (number 19) (value (codes "seed") given)))
    (places (map (λ k. k.0) demo_places) words)

-- the words after the subcommand
abbrev pub after_subcommand : Text → List Text → Option Command
after_subcommand name words =
    if bytes_eq name (codes "run") then run_of words
    else if bytes_eq name (codes "serve") then serve_of words
    else if bytes_eq name (codes "check") then check_of words
    else if bytes_eq name (codes "demo") then demo_of words
    else None

abbrev pub command_of : List Text → Option Command
command_of [] = None
command_of (name ∷ words) = after_subcommand name words

-- the form that the words have, and None where they are refused
abbrev pub form_of : List Text → Option Command
form_of words = if are_words words then command_of words else None
