use Rattle.std.proofs.Common.{rules, ap, ap₂, codes, map, ◌≡◌, ◌∙◌, subst, IfOk, string_bytes}
use Rattle.clap.specs.Words.{App, Kinds, app_of, rule_of, with_rule, FailsBy, HasMatchesOf, is_simple_and_free, fault_of}
use Rattle.command_line.specs.Parsed.{option_rule}
use Rattle.command_line.proofs.Looks.{words_are}
use Rattle.command_line.proofs.Commands.{serve_command, serve_simple, as_serve}
use Rattle.command_line.proofs.serve.parse_serve.Goals as goal

pub returns : goal.returns
returns c =
    let listen_is : rule_of c.text_option.result ≡ option_rule (codes "listen") = search rules in
    let book_is : rule_of c.text_option-2.result ≡ option_rule (codes "book") = search rules in
    let entries_is : rule_of c.text_option-3.result ≡ option_rule (codes "entries") = search rules in
    let workers_is : rule_of c.text_option-4.result ≡ option_rule (codes "workers") = search rules in
    let sessions_is : rule_of c.text_option-5.result ≡ option_rule (codes "sessions") = search rules in
    let is : app_of c.in_ok-command.command ≡ serve_command = c.in_ok-command.ensures.shape (search rules) ∙ ap₂ with_rule (c.in_ok-arg-4.ensures.shape (search rules) ∙ ap₂ with_rule (c.in_ok-arg-3.ensures.shape (search rules) ∙ ap₂ with_rule (c.in_ok-arg-2.ensures.shape (search rules) ∙ ap₂ with_rule (c.in_ok-arg.ensures.shape (search rules) ∙ ap₂ with_rule c.leaf.ensures listen_is) book_is) entries_is) workers_is) sessions_is in
    let texts = map string_bytes c.args.words.now in
    let parse = c.try_get_matches_from in
    as_serve parse.result texts (words_are c.args.words.now c.requires)
    (subst (λ (k : Kinds). FailsBy k parse.result) (ap (λ a. fault_of a texts) is) (parse.ensures.kinds (ap is_simple_and_free is ∙ serve_simple)))
    (subst (λ (a : App). IfOk parse.result (HasMatchesOf a texts)) is parse.ensures.matches)
