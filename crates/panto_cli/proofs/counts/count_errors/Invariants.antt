use Rattle.std.proofs.Common.{◌≡◌, take}
use Rattle.std.specs.List.{count_by}
use Rattle.panto_cli.specs.Demo.{has_error}
use Rattle.panto_cli.proofs.counts.count_errors.Given as goal

abbrev pub invariant-loop-line : goal.invariant-loop-line
invariant-loop-line l = l.errors ≡ count_by (λ line. has_error line.now) (take l.line-index l.lines)
