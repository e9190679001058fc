use Rattle.std.proofs.Common.{refl, rules, ◌≡◌, false, codes}
use Rattle.std.specs.Str.{bytes_eq}
use Rattle.std.proofs.lemmas.Slice.Eq.{bytes_eq-Decides}
use Rattle.command_line.proofs.words.read_form.Goals as goal

pub returns-in_default-clause-form : goal.returns-in_default-clause-form
returns-in_default-clause-form c =
    let name = c.args.name.now in
    let not_run : bytes_eq name (codes "run") ≡ false = search (rules, bytes_eq-Decides) in
    let not_serve : bytes_eq name (codes "serve") ≡ false = search (rules, bytes_eq-Decides) in
    let not_check : bytes_eq name (codes "check") ≡ false = search (rules, bytes_eq-Decides) in
    let not_demo : bytes_eq name (codes "demo") ≡ false = search (rules, bytes_eq-Decides) in
    rw (not_run, not_serve, not_check, not_demo) refl
