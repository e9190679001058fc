use Rattle.std.proofs.Common.{◌≡◌, List, [], ◌++◌, All, vec_len}
use Rattle.turn_lock.specs.Meanings.{IsPassOf}
use Rattle.shared_board.specs.Closing.{TakesBack}
use Rattle.shared_board.proofs.TakingBack.{IsPlainPassOf}
use Rattle.shared_board.proofs.closing.join_all.Given as goal

abbrev pub invariant-loop-pass : goal.invariant-loop-pass
invariant-loop-pass g l = record {
  own : IsPassOf l.shared l.root;
  others : All (IsPlainPassOf l.shared) l.passes.items;
  taken : (done : List _) × (l.initial.passes.items ≡ l.passes.items ++ done) × All (λ pass. pass.took ≡ []) done × TakesBack done l.initial.root l.root;
}

abbrev pub decreases-loop-pass : goal.decreases-loop-pass
decreases-loop-pass g l = vec_len l.passes
