-- Sessions that ran in their places.
use Rattle.std.proofs.Common.{◌≡◌, List, [], ◌∷◌, ◌++◌, Option, Some, sym, subst}
use Rattle.link_server.specs.Beside.{HasRun, AreRun, none, next}

module _ {S : Type 0} (ran : S → S → Type 0) where
  pub ran_there : (old : Option S) (session left : S) → old ≡ Some session → ran session left → HasRun ran old (Some left)
  ran_there old session left is done = subst (λ (place : Option S). HasRun ran place (Some left)) (sym is) done

-- a session that was given and ran in its place is the next of those that ran
module _ {S Q : Type 0} {gives : Q → S → Q → Type 0} {ran : S → S → Type 0} {ends : Q → Q → Type 0} where
  pub next_in_place : {old left new : Q} {done more : List S} (given session : S) (place : Option S) → gives old given left → place ≡ Some session → HasRun ran (Some given) place
      → AreRun gives ran ends left new done more → AreRun gives ran ends old new done (more ++ session ∷ [])
  next_in_place given session place gave is has rest = next given session gave (subst (λ (p : Option S). HasRun ran (Some given) p) is has) rest

-- what is said of each session's run may be weakened
module _ {S Q : Type 0} {gives : Q → S → Q → Type 0} {ran ran' : S → S → Type 0} {ends : Q → Q → Type 0} where
  pub run_each : {old new : Q} {done more : List S} → AreRun gives ran ends old new done more → ((session left : S) → ran session left → ran' session left) → AreRun gives ran' ends old new done more
  run_each (none ended) weaker = none ended
  run_each (next given session gave has rest) weaker = next given session gave (weaker given session has) (run_each rest weaker)
