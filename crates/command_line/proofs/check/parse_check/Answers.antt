use Rattle.std.proofs.Common.{rules, ap, ap₂, codes, map, ◌≡◌, ◌∙◌, subst, IfOk, string_bytes}
use Rattle.clap.specs.Words.{App, Kinds, app_of, rule_of, with_rule, FailsBy, HasMatchesOf, is_simple_and_free, fault_of}
use Rattle.command_line.specs.Parsed.{place_rule}
use Rattle.command_line.proofs.Looks.{words_are}
use Rattle.command_line.proofs.Places.{check_command, check_simple, as_check}
use Rattle.command_line.proofs.check.parse_check.Goals as goal

pub returns : goal.returns
returns c =
    let file_is : rule_of c.place.result ≡ place_rule (codes "file") = search rules in
    let is : app_of c.in_ok-command.command ≡ check_command = c.in_ok-command.ensures.shape (search rules) ∙ ap₂ with_rule c.leaf.ensures file_is in
    let texts = map string_bytes c.args.words.now in
    let parse = c.try_get_matches_from in
    as_check parse.result texts (words_are c.args.words.now c.requires)
    (subst (λ (k : Kinds). FailsBy k parse.result) (ap (λ a. fault_of a texts) is) (parse.ensures.kinds (ap is_simple_and_free is ∙ check_simple)))
    (subst (λ (a : App). IfOk parse.result (HasMatchesOf a texts)) is parse.ensures.matches)
