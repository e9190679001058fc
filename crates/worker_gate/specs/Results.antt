-- What the results of a batch of jobs may be.
use Rattle.std.specs.Prelude.{◌≡◌, ℕ, List, map, slice_get, Option, Some}
use Rattle.std.specs.List.{All}
use Rattle.worker_gate.specs.declared.task.Answer.{Answer}

-- d is a result that the job at this position may give, and the gate was told of the position
abbrev pub Gave : {J D : Type 0} → List J → (J → D → Type 0) → (ℕ → Type 0) → ℕ → D → Type 0
Gave {J} jobs gives told at d = (x : J) × (slice_get jobs at ≡ Some x) × gives x d × told at

-- each result is one that the job at its position may give
abbrev pub AllGave : {J D : Type 0} → List J → (J → D → Type 0) → (ℕ → Type 0) → List (Answer D) → Type 0
AllGave jobs gives told answers = All (λ a. Gave jobs gives told a.at a.done) answers

-- the positions of the results
abbrev pub places : {D : Type 0} → List (Answer D) → List ℕ
places answers = map (λ a. a.at) answers

-- each result in the table is one that the job at its position may give
abbrev pub Right : {J D : Type 0} → List J → (J → D → Type 0) → (ℕ → Type 0) → List (Option D) → Type 0
Right {D = D} jobs gives told table = (p : ℕ) (x : D) → slice_get table p ≡ Some (Some x) → Gave jobs gives told p x

-- the table has a result at this position
abbrev pub Written : {D : Type 0} → List (Option D) → ℕ → Type 0
Written {D} table p = (x : D) × (slice_get table p ≡ Some (Some x))
