use Rattle.std.proofs.Common.{◌≡◌, ◌++◌}
use Rattle.session_maker.specs.Session.{intro_lines}
use Rattle.session_maker.proofs.lines.push_intros.Given as goal

abbrev pub invariant-loop-done : goal.invariant-loop-done
invariant-loop-done l = l.text.items ≡ l.initial.text.items ++ intro_lines l.start l.done
