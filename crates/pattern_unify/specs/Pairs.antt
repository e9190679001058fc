-- The parts of two terms as pairs of handles, the last pair first.
use Rattle.std.specs.Prelude.{◌≡◌, ◌≢◌, ℕ, length, List, [], ◌∷◌, ◌++◌, All, Bool, true, false, Option, Some, None}
use Rattle.ld_trees.specs.Term.{Term}
use Rattle.conversion.specs.Conversion.{alike}
use Rattle.unification.specs.Unification.{Pair, pair, part_pairs}
use Rattle.pattern_unify.specs.declared.pairs.Pair.{Pair as StoredPair}

abbrev pub plain_pair : {H : Type 0} → (H → Term) → StoredPair H → Pair
plain_pair means p = pair p.depth (means p.found) (means p.wanted)

-- the pairs in their order, the last one of the list first
abbrev pub pairs_back : {H : Type 0} → (H → Term) → List (StoredPair H) → List Pair
pairs_back means [] = []
pairs_back means (p ∷ ps) = pairs_back means ps ++ plain_pair means p ∷ []

-- the pairs of two lists, the last pair first
abbrev pub back_pairs : {H : Type 0} → ℕ → List H → List H → List (StoredPair H)
back_pairs d (u ∷ us) (v ∷ vs) = back_pairs d us vs ++ record { depth = d; found = u; wanted = v } ∷ []
back_pairs d _ _ = []

-- pairs to which those of two lists were added, or not, where the lists differ in length
abbrev pub ArePaired : {H : Type 0} → ℕ → List H → List H → List (StoredPair H) → List (StoredPair H) → Bool → Type 0
ArePaired d us vs ps qs true = (length us ≡ length vs) × (qs ≡ ps ++ back_pairs d us vs)
ArePaired d us vs ps qs false = (length us ≢ length vs) × (qs ≡ ps)

-- the same where two heads are the same one, and else nothing was added
abbrev pub ArePairedIf : {H : Type 0} → Bool → ℕ → List H → List H → List (StoredPair H) → List (StoredPair H) → Bool → Type 0
ArePairedIf true d us vs ps qs r = ArePaired d us vs ps qs r
ArePairedIf false d us vs ps qs r = (r ≡ false) × (qs ≡ ps)

-- pairs to which the parts of two terms were added, where the terms are alike
abbrev pub ArePartsAdded : {H : Type 0} → (H → Term) → ℕ → Term → Term → List (StoredPair H) → List (StoredPair H) → Bool → Type 0
ArePartsAdded means d a b ps qs true = (alike a b ≡ true) × (pairs_back means qs ≡ part_pairs d a b ++ pairs_back means ps)
ArePartsAdded means d a b ps qs false = alike a b ≡ false

abbrev pub IsPairHeld : {H : Type 0} → (H → Type 0) → StoredPair H → Type 0
IsPairHeld holds p = holds p.found × holds p.wanted

abbrev pub ArePairsHeld : {H : Type 0} → (H → Type 0) → List (StoredPair H) → Type 0
ArePairsHeld holds ps = All (IsPairHeld holds) ps

-- the parts of two terms where they are alike, the last pair first
abbrev pub ArePairs : {H : Type 0} → (H → Term) → ℕ → Term → Term → Option (List (StoredPair H)) → Type 0
ArePairs means d a b None = alike a b ≡ false
ArePairs means d a b (Some ps) = (alike a b ≡ true) × (pairs_back means ps ≡ part_pairs d a b)
