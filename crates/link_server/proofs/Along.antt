-- Sessions of a queue, by what the queue means.
use Rattle.std.proofs.Common.{List}
use Rattle.link_server.specs.Beside.{AreRun, none, next}

module _ {S Q P : Type 0} (means : Q → P) (gives : P → S → P → Type 0) (ran : S → S → Type 0) (ends : P → P → Type 0) where
  pub run_along : {old new : Q} {done more : List S} → AreRun (λ q session q'. gives (means q) session (means q')) ran (λ q q'. ends (means q) (means q')) old new done more
      → AreRun gives ran ends (means old) (means new) done more
  run_along (none ended) = none ended
  run_along (next given session gave has rest) = next given session gave has (run_along rest)
