use Rattle.std.proofs.Common.{rules, ap, ap₂, codes, map, ◌≡◌, ◌∙◌, subst, IfOk, string_bytes}
use Rattle.clap.specs.Words.{App, Kinds, app_of, rule_of, with_rule, FailsBy, HasMatchesOf, is_simple_and_free, fault_of}
use Rattle.command_line.specs.Parsed.{place_rule}
use Rattle.command_line.proofs.Looks.{words_are}
use Rattle.command_line.proofs.Places.{demo_command, demo_simple, as_demo}
use Rattle.command_line.proofs.demo.parse_demo.Goals as goal

pub returns : goal.returns
returns c =
    let seed_is : rule_of c.place.result ≡ place_rule (codes "seed") = search rules in
    let count_is : rule_of c.place-2.result ≡ place_rule (codes "count") = search rules in
    let is : app_of c.in_ok-command.command ≡ demo_command = c.in_ok-command.ensures.shape (search rules) ∙ ap₂ with_rule (c.in_ok-arg.ensures.shape (search rules) ∙ ap₂ with_rule c.leaf.ensures seed_is) count_is in
    let texts = map string_bytes c.args.words.now in
    let parse = c.try_get_matches_from in
    as_demo parse.result texts (words_are c.args.words.now c.requires)
    (subst (λ (k : Kinds). FailsBy k parse.result) (ap (λ a. fault_of a texts) is) (parse.ensures.kinds (ap is_simple_and_free is ∙ demo_simple)))
    (subst (λ (a : App). IfOk parse.result (HasMatchesOf a texts)) is parse.ensures.matches)
