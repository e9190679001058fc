use Rattle.std.proofs.Common.{◌≡◌, drop}
use Rattle.continue_resume.specs.Resuming.{with_listed}
use Rattle.continue_resume.proofs.resuming.with_listed.Given as goal

abbrev pub invariant-loop-m : goal.invariant-loop-m
invariant-loop-m l = with_listed l.active l.goals ≡ with_listed l.all.items (drop l.m-index l.goals)
