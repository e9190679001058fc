-- Journals: lists of entries, each made by a pass with a number.
-- Entries are only ever added at the end, so all that a pass has seen is a beginning of the journal.
use Rattle.std.specs.Prelude.{◌≡◌, ℕ, ◌⊎◌, if◌then◌else◌, nat_lt, List, [], ◌∷◌, ◌++◌, length, All, Contains}

-- the entry carries none of these numbers
abbrev pub IsByOthers : {E : Type 0} → (E → ℕ) → List ℕ → E → Type 0
IsByOthers pass_of numbers e = ¬ Contains numbers (pass_of e)

-- the journal is what was seen, and then entries of which none carries one of these numbers
pub record ExtendsByOthers {E : Type 0} (pass_of : E → ℕ) (seen journal : List E) (numbers : List ℕ) : Type 0 where
  pub more : List E
  pub is : seen ++ more ≡ journal
  pub by_others : All (IsByOthers pass_of numbers) more

-- one of two lists goes on from the other, by entries that carry none of the numbers of the pass that had seen less
abbrev pub DifferByOthers : {E : Type 0} → (E → ℕ) → List E → List ℕ → List E → List ℕ → Type 0
DifferByOthers pass_of seen numbers seen' numbers' = ExtendsByOthers pass_of seen seen' numbers ⊎ ExtendsByOthers pass_of seen' seen numbers'

-- the longer of two lists, the first where both are as long
abbrev pub longer : {E : Type 0} → List E → List E → List E
longer xs ys = if nat_lt (length xs) (length ys) then ys else xs

-- `after` is `before` with at most one entry more, which carries this number
abbrev pub GrowsByOne : {E : Type 0} → (E → ℕ) → ℕ → List E → List E → Type 0
GrowsByOne {E} pass_of number before after = (after ≡ before) ⊎ ((e : E) × (after ≡ before ++ e ∷ []) × (pass_of e ≡ number))
