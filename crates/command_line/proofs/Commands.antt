-- The commands `run` and `serve` on any words.
use Rattle.std.proofs.Common.{◌≡◌, List, [], ◌∷◌, refl, ap, ◌∙◌, true, false, codes, Option, Some, None, fold, Result, IfOk}
use Rattle.clap.specs.Words.{App, Text, Row, Rule, built, fault_of, matches_of, is_simple, is_simple_and_free, new_app, FailsBy, HasMatchesOf}
use Rattle.clap.specs.Kinds.{or_else}
use Rattle.clap.specs.Simple.{on_top}
use Rattle.clap.specs.Faults.{defaults_fault, check_fault}
use Rattle.clap.specs.Walk.{idle, with_default}
use Rattle.clap.proofs.OnLiterals.{clap_on_literals}
use Rattle.clap.specs.declared.ArgMatches.{ArgMatches}
use Rattle.clap.specs.declared.error.Error.{Error}
use Rattle.command_line.specs.Given.{Given, options}
use Rattle.command_line.specs.Form.{run_options, serve_options}
use Rattle.command_line.specs.Parsed.{option_rule, Parses}
use Rattle.command_line.proofs.Looks.{AreWords}
use Rattle.command_line.proofs.Rows.{is_nil, at_long, at_id, no_defaults, Agree}
use Rattle.command_line.proofs.Turns.{IsLeaf, at}
use Rattle.command_line.proofs.Walks.{total, ending, laws, Fits}
use Rattle.command_line.proofs.Ends.{Comes, parses}

abbrev pub command : Text → List Rule → App
command name rules = on_top (λ s. record s { rules = rules; no_binary_name = true; disable_help_flag = true }) (new_app name)

abbrev pub run_command : App
run_command = command (codes "run") (option_rule (codes "book") ∷ option_rule (codes "entries") ∷ option_rule (codes "workers") ∷ [])

abbrev pub serve_command : App
serve_command = command (codes "serve") (option_rule (codes "listen") ∷ option_rule (codes "book") ∷ option_rule (codes "entries") ∷ option_rule (codes "workers") ∷ option_rule (codes "sessions") ∷ [])

run_agree : Agree run_options run_options
run_agree = (refl, (refl, (refl, tt)))

serve_agree : Agree serve_options serve_options
serve_agree = (refl, (refl, (refl, (refl, (refl, tt)))))

pub run_simple : is_simple_and_free run_command ≡ true
unfolding clap_on_literals
run_simple = refl

pub serve_simple : is_simple_and_free serve_command ≡ true
unfolding clap_on_literals
serve_simple = refl

run_parses : is_simple run_command ≡ true
unfolding clap_on_literals
run_parses = refl

serve_parses : is_simple serve_command ≡ true
unfolding clap_on_literals
serve_parses = refl

run_leaf : IsLeaf (built run_command)
run_leaf = record { again = refl; leaf = refl; by_short = λ c. refl; by_index = λ i. refl }

run_whole : (words : List Text) → fault_of run_command words ≡ total (built run_command) run_leaf (at [] None idle) words
unfolding total clap_on_literals
run_whole words = refl

run_same : (words : List Text) → matches_of run_command words ≡ ending (built run_command) run_leaf (at [] None idle) words
unfolding clap_on_literals
run_same words = refl

run_quiet : (rows : List Row) → or_else (defaults_fault rows (built run_command).top.rules) (check_fault (built run_command).top (fold with_default rows (built run_command).top.rules) false) ≡ []
run_quiet rows = ap (λ k. or_else k (check_fault (built run_command).top (fold with_default rows (built run_command).top.rules) false)) (no_defaults run_options rows)

run_by : (words : List Text) (o : Option Given) → Fits (built run_command) run_leaf run_options (at_long run_options) (at_id run_options) run_quiet o (at [] None idle) words
    → Comes run_options run_agree (fault_of run_command words) (matches_of run_command words) o
run_by words None fits = ap is_nil (run_whole words) ∙ fits
run_by words (Some g) fits = (ap is_nil (run_whole words) ∙ fits.0, run_same words ∙ fits.1)

-- a parse that fails by these kinds, in the words of the form
pub as_run : (r : Result ArgMatches Error) (words : List Text) → AreWords words → FailsBy (fault_of run_command words) r → IfOk r (HasMatchesOf run_command words) → Parses run_options (options run_options [] words) r
as_run r words are fails matches =
    let law = (laws (built run_command) run_leaf run_options (at_long run_options) (at_id run_options) run_quiet words are).idle_law [] in
    parses run_options run_agree r run_command words (options run_options [] words) (run_by words (options run_options [] words) law) run_parses fails matches

serve_leaf : IsLeaf (built serve_command)
serve_leaf = record { again = refl; leaf = refl; by_short = λ c. refl; by_index = λ i. refl }

serve_whole : (words : List Text) → fault_of serve_command words ≡ total (built serve_command) serve_leaf (at [] None idle) words
unfolding total clap_on_literals
serve_whole words = refl

serve_same : (words : List Text) → matches_of serve_command words ≡ ending (built serve_command) serve_leaf (at [] None idle) words
unfolding clap_on_literals
serve_same words = refl

serve_quiet : (rows : List Row) → or_else (defaults_fault rows (built serve_command).top.rules) (check_fault (built serve_command).top (fold with_default rows (built serve_command).top.rules) false) ≡ []
serve_quiet rows = ap (λ k. or_else k (check_fault (built serve_command).top (fold with_default rows (built serve_command).top.rules) false)) (no_defaults serve_options rows)

serve_by : (words : List Text) (o : Option Given) → Fits (built serve_command) serve_leaf serve_options (at_long serve_options) (at_id serve_options) serve_quiet o (at [] None idle) words
    → Comes serve_options serve_agree (fault_of serve_command words) (matches_of serve_command words) o
serve_by words None fits = ap is_nil (serve_whole words) ∙ fits
serve_by words (Some g) fits = (ap is_nil (serve_whole words) ∙ fits.0, serve_same words ∙ fits.1)

-- a parse that fails by these kinds, in the words of the form
pub as_serve : (r : Result ArgMatches Error) (words : List Text) → AreWords words → FailsBy (fault_of serve_command words) r → IfOk r (HasMatchesOf serve_command words) → Parses serve_options (options serve_options [] words) r
as_serve r words are fails matches =
    let law = (laws (built serve_command) serve_leaf serve_options (at_long serve_options) (at_id serve_options) serve_quiet words are).idle_law [] in
    parses serve_options serve_agree r serve_command words (options serve_options [] words) (serve_by words (options serve_options [] words) law) serve_parses fails matches
