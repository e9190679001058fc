-- What takes the place of a block that got a further entry, or a new value at a key.
use Rattle.std.specs.Prelude.{◌≡◌, List, [], ◌∷◌, Bool}
use Rattle.shared_map.specs.declared.part.Grown.{Grown}
use Rattle.shared_map.specs.declared.part.Grown.TheVariants.{One, Two}
use Rattle.shared_map.specs.declared.part.Tried.{Tried}
use Rattle.shared_map.specs.declared.part.Tried.TheVariants.{Put, Full}
use Rattle.shared_map.specs.Blocks.{joined, NoneEmpty}

-- the one part or the two, in order
abbrev pub parts_of : {P : Type 0} → Grown P → List P
parts_of (One p) = p ∷ []
parts_of (Two p q) = p ∷ q ∷ []

-- what holds of an attempt to put an entry into a block: one thing where the block has it, whose key was there before or wasn't, and
-- another where the entry came back
abbrev pub MatchTried : {K X : Type 0} → Tried K X → (Bool → Type 0) → (K → X → Type 0) → Type 0
MatchTried (Put found) p f = p found
MatchTried (Full k v) p f = f k v

-- these blocks hold these entries in order, and none of the blocks is empty
pub record AreBlocks {A : Type 0} (es : List A) (bs : List (List A)) : Type 0 where
  pub whole : joined bs ≡ es
  pub full : NoneEmpty bs
