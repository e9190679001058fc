use Rattle.std.proofs.Common.{◌≡◌, ◌<◌, ℕ, false}
use Rattle.coupling.specs.Marks.{is_in_both}
use Rattle.coupling.proofs.goals.share_one.Given as goal

abbrev pub invariant-loop-m : goal.invariant-loop-m
invariant-loop-m g l = (k : ℕ) → k < l.m → is_in_both l.metas l.one l.other k ≡ false
