-- What the passes of a deque have put and taken, by the positions of the jobs.
use Rattle.std.specs.Prelude.{◌≡◌, ℕ, ◌+◌, List, [], ◌∷◌, ◌++◌}
use mathlib.Core.Option.{some}
use lib.ListN.{get_elem?}
use Rattle.worker_gate.specs.declared.account.Account.{Account}

abbrev pub account : ℕ → List ℕ → List ℕ → Account
account parts put taken = record { parts = parts; put = put; taken = taken }

-- the weights of the positions, added up
abbrev pub weigh : (ℕ → ℕ) → List ℕ → ℕ
weigh h [] = 0
weigh h (x ∷ xs) = h x + weigh h xs

-- f of each view, added up
abbrev pub total : (Account → ℕ) → List Account → ℕ
total f [] = 0
total f (v ∷ vs) = f v + total f vs

-- a pass with no part has put and taken nothing
abbrev pub IdleIsEmpty : List Account → Type 0
IdleIsEmpty views = (port : ℕ) (v : Account) → get_elem? views port ≡ some v → v.parts ≡ 0 → (v.put ≡ []) × (v.taken ≡ [])

-- what was put is what was taken and what the deque holds, however the positions are weighed
abbrev pub Balanced : List ℕ → List Account → Type 0
Balanced items views =
    (total (λ v. v.parts) views ≡ 1024)
    × ((h : ℕ → ℕ) → total (λ v. weigh h v.put) views ≡ total (λ v. weigh h v.taken) views + weigh h items)
    × IdleIsEmpty views

-- these positions were taken
abbrev pub Took : Account → List ℕ → Account → Type 0
Took v xs w = w ≡ account v.parts v.put (v.taken ++ xs)
