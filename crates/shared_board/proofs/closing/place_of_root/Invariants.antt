use Rattle.std.proofs.Common.{◌≡◌, ◌<◌, ◌≤◌, ◌-◌, ℕ, length, HoldsAt}
use Rattle.shared_board.proofs.closing.place_of_root.Given as goal

abbrev pub invariant-loop-place : goal.invariant-loop-place
invariant-loop-place g l = (k : ℕ) × (l.place ≤ k) × (k < length l.fn.passes) × HoldsAt (λ pass. pass.number ≡ 0) l.fn.passes k

abbrev pub decreases-loop-place : goal.decreases-loop-place
decreases-loop-place g l = length l.fn.passes - l.place
