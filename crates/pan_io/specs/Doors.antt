-- What doors tell: the address that they listen on, and the links that they have left.
use Rattle.std.specs.Prelude.{◌≡◌, ℕ, ◌⊎◌, List, [], ◌∷◌, Option, None, Some}
use Rattle.pan_io.specs.Faults.{Rose}

-- where the doors tell the address that they listen on, it is this one
abbrev pub ListensOn : Option (List ℕ) → List ℕ → Type 0
ListensOn None address = Unit {0}
ListensOn (Some told) address = told ≡ address

-- the doors tell their links, and have none left
abbrev pub HasNoLink : Option (List (List ℕ)) → Type 0
HasNoLink links = links ≡ Some []

-- doors with these links gave one whose input has this left, and have those links now. Where they
-- tell their links, it was the first one, and its input tells just its bytes; the others are left.
abbrev pub GivesFirst : Option (List (List ℕ)) → Option (List ℕ) → Option (List (List ℕ)) → Type 0
GivesFirst None input now = now ≡ None
GivesFirst (Some []) input now = ⊥
GivesFirst (Some (first ∷ others)) input now = (input ≡ Some first) × (now ≡ Some others)

-- an output that tells its bytes has taken none
abbrev pub HasTakenNone : Option (List ℕ) → Type 0
HasTakenNone None = Unit {0}
HasTakenNone (Some taken) = taken ≡ []

-- the doors' count in a call of `accept`: it also counts as risen where the doors tell their links
-- and none was left at the call
abbrev pub RoseAtAccept : Option (List (List ℕ)) → ℕ → ℕ → Type 0
RoseAtAccept links before now = Rose before now ⊎ HasNoLink links
