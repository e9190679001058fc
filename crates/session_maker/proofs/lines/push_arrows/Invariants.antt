use Rattle.std.proofs.Common.{◌≡◌, ◌++◌}
use Rattle.std.specs.Prelude.{codes}
use Rattle.session_maker.specs.Session.{repeated}
use Rattle.session_maker.proofs.lines.push_arrows.Given as goal

abbrev pub invariant-loop : goal.invariant-loop
invariant-loop l = l.text.items ≡ l.initial.text.items ++ repeated (codes " -> A") l.counter
