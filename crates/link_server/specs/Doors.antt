-- Doors that a call accepts links at.
use Rattle.std.specs.Prelude.{◌≡◌, ◌<◌, ◌⊎◌, ℕ, List, Option, Some, None, length, slice_get}
use Rattle.pan_io.specs.Faults.{Rose}
use Rattle.pan_io.specs.Doors.{HasNoLink}

-- what doors tell: the links that they have left, each by the bytes of its input, the address that they listen on, and their count of faults
pub record DoorsMeaning : Type 0 where
  pub links : Option (List (List ℕ))
  pub address : Option (List ℕ)
  pub faults : ℕ

-- they tell their links, and have fewer than these
abbrev pub HasFewer : Option (List (List ℕ)) → ℕ → Type 0
HasFewer None count = ⊥
HasFewer (Some links) count = length links < count

-- The doors' count rose in a call that was to accept so many links. It also counts as risen where they tell their links, had fewer of them, and
-- the call left none.
abbrev pub RoseAtDoors : ℕ → DoorsMeaning → DoorsMeaning → Type 0
RoseAtDoors count old new = Rose old.faults new.faults ⊎ (HasFewer old.links count × HasNoLink new.links)

-- what the input of the link at this place had at the call. Doors that tell no links don't say it
abbrev pub HadInput : Option (List (List ℕ)) → ℕ → Option (List ℕ) → Type 0
HadInput None place input = Unit {0}
HadInput (Some links) place input = (place < length links) × (input ≡ slice_get links place)
