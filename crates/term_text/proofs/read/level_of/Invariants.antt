use Rattle.std.proofs.Common.{◌≡◌, ◌+◌, ◌-◌, ◌*◌, ◌^◌, ◌<◌, take, fold}
use Rattle.term_text.proofs.read.level_of.Given as goal

abbrev pub invariant-loop-b : goal.invariant-loop-b
invariant-loop-b l = (l.n < 2 ^ 32) × (l.n ≡ fold (λ n b. 10 * n + (b - 48)) 0 (take l.b-index l.b-items))
