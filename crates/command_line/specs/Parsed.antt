-- What a parse by `clap` comes to.
use Rattle.std.specs.Prelude.{◌≡◌, ◌⊎◌, Option, Some, None, true, false, codes, if◌then◌else◌, Result, Ok, Err}
use Rattle.clap.specs.Words.{App, new_app, Rule, kind_of, first_value, one_text, found_of, new_rule}
use Rattle.clap.specs.Simple.{on_top}
use Rattle.clap.specs.declared.ArgMatches.{ArgMatches}
use Rattle.clap.specs.declared.error.Error.{Error}
use Rattle.clap.specs.declared.error.ErrorKind.TheVariants.{OutOfMemory}
use Rattle.clap.specs.declared.builder.ArgAction.TheVariants.{Set, SetTrue}
use Rattle.command_line.specs.Given.{Text, Known, Given, has, value, kind_of_option}

abbrev pub option_rule : Text → Rule
option_rule n = record (new_rule n) { long = Some n; action = Some Set }

abbrev pub flag_rule : Text → Rule
flag_rule n = record (new_rule n) { long = Some n; action = Some SetTrue }

abbrev pub leaf_app : Text → App
leaf_app name = on_top (λ s. record s { no_binary_name = true; disable_help_flag = true }) (new_app name)

abbrev pub place_rule : Text → Rule
place_rule n = record (new_rule n) { required = true; action = Some Set }

-- the matches have the options that were given, each with its value
pub record Holds (known : Known) (m : ArgMatches) (given : Given) : Type 0 where
  pub values : (q : Text) → kind_of_option known q ≡ Some true → first_value (found_of m) q ≡ value q given
  pub flags : (q : Text) → kind_of_option known q ≡ Some false → one_text (found_of m) q ≡ Some (if has q given then codes "true" else codes "false")

abbrev pub ReadAs : Known → Option ArgMatches → Option Given → Type 0
ReadAs known None None = Unit {0}
ReadAs known (Some m) (Some given) = Holds known m given
ReadAs known _ _ = ⊥

abbrev pub Parses : Known → Option Given → Result ArgMatches Error → Type 0
Parses known given (Ok m) = ReadAs known (Some m) given
Parses known given (Err e) = (kind_of e ≡ OutOfMemory) ⊎ ReadAs known None given
