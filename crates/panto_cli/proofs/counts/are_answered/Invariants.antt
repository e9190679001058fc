use Rattle.std.proofs.Common.{◌≡◌, true, take}
use Rattle.std.specs.List.{list_all}
use Rattle.panto_cli.specs.Demo.{is_answered}
use Rattle.panto_cli.proofs.counts.are_answered.Given as goal

abbrev pub invariant-loop-entry : goal.invariant-loop-entry
invariant-loop-entry l = list_all is_answered (take l.entry-index l.entries) ≡ true
