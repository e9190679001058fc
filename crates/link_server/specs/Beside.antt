-- Sessions of a queue that ran beside each other.
use Rattle.std.specs.Prelude.{◌≡◌, List, [], ◌∷◌, ◌++◌, Option, Some, None}

-- where a session stood in this place, it ran, and stands there as it was left
abbrev pub HasRun : {S : Type 0} → (S → S → Type 0) → Option S → Option S → Type 0
HasRun ran None new = new ≡ None
HasRun ran (Some session) None = ⊥
HasRun ran (Some session) (Some session') = ran session session'

module _ {S Q : Type 0} (gives : Q → S → Q → Type 0) (ran : S → S → Type 0) (ends : Q → Q → Type 0) where
  -- The queue gave sessions until it ended, and each ran. They stand behind those that were done before, the one given first last.
  pub data AreRun : Q → Q → List S → List S → Type 0 where
    none : {old new : Q} {done : List S} → ends old new → AreRun old new done done
    next : {old left new : Q} {done more : List S} (given session : S) → gives old given left → ran given session → AreRun left new done more
        → AreRun old new done (more ++ session ∷ [])
