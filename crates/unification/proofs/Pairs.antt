-- The parts of two terms: known where the terms are, and where they are βδ-equal the terms are.
use Rattle.std.proofs.Common.{◌≡◌, ℕ, List, [], ◌∷◌, ◌++◌, true}
use Rattle.ld_trees.specs.Term.{Term, App, Lam, Pi, Con, Terms, none, ◌▹◌}
use Rattle.ld_rules.specs.Environment.{Env}
use Rattle.ld_rules.specs.Reduction.{Equal}
use Rattle.ld_rules.specs.Scoping.{Known, AllKnown}
use Rattle.conversion.specs.Conversion.{alike}
use Rattle.conversion.specs.Conversion as conversion
use Rattle.conversion.proofs.Soundness.{AllEqual, parts_equal}
use Rattle.unification.specs.Unification.{Pair, argument_pairs, part_pairs}

unfoldable pub PairsKnown : Env → List Pair → Type 0
PairsKnown E [] = Unit {0}
PairsKnown E (p ∷ ps) = Known E p.found × Known E p.wanted × PairsKnown E ps

unfoldable pub PairsEqual : Env → List Pair → Type 0
PairsEqual E [] = Unit {0}
PairsEqual E (p ∷ ps) = Equal E p.found p.wanted × PairsEqual E ps

module _ (E : Env) where
  known_before : (ps qs : List Pair) → PairsKnown E ps → PairsKnown E qs → PairsKnown E (ps ++ qs)
  unfolding PairsKnown
  known_before [] qs h k = k
  known_before (p ∷ ps) qs h k = (h.0, h.1, known_before ps qs h.2 k)

  known_arguments : (d : ℕ) (us vs : Terms) → AllKnown E us → AllKnown E vs → PairsKnown E (argument_pairs d us vs)
  unfolding PairsKnown
  known_arguments d (us ▹ u) (vs ▹ v) h k = known_before (argument_pairs d us vs) _ (known_arguments d us vs h.0 k.0) (h.1, k.1, tt)
  known_arguments d none vs h k = tt
  known_arguments d (us ▹ u) none h k = tt

  pub known_parts : (d : ℕ) (a b : Term) → Known E a → Known E b → PairsKnown E (part_pairs d a b)
  unfolding PairsKnown
  known_parts d (App f a) (App g b) h k = known_before (part_pairs d f g) _ (known_parts d f g h.0 k.0) (h.1, k.1, tt)
  known_parts d (Lam A M) (Lam B N) h k = (h.0, k.0, (h.1, k.1, tt))
  known_parts d (Pi A M) (Pi B N) h k = (h.0, k.0, (h.1, k.1, tt))
  known_parts d (Con c us) (Con e vs) h k = known_arguments d us vs h.1 k.1
  known_parts d _ _ h k = tt

  -- without their depths
  first_equal : (ps qs : List Pair) → PairsEqual E (ps ++ qs) → PairsEqual E ps
  unfolding PairsEqual
  first_equal [] qs h = tt
  first_equal (p ∷ ps) qs h = (h.0, first_equal ps qs h.1)

  last_equal : (ps qs : List Pair) → PairsEqual E (ps ++ qs) → PairsEqual E qs
  unfolding PairsEqual
  last_equal [] qs h = h
  last_equal (p ∷ ps) qs h = last_equal ps qs h.1

  equal_before : (ps qs : List (Term × Term)) → AllEqual E ps → AllEqual E qs → AllEqual E (ps ++ qs)
  unfolding AllEqual
  equal_before [] qs h k = k
  equal_before (p ∷ ps) qs h k = (h.0, equal_before ps qs h.1 k)

  bare_arguments : (d : ℕ) (us vs : Terms) → PairsEqual E (argument_pairs d us vs) → AllEqual E (conversion.argument_pairs us vs)
  unfolding PairsEqual AllEqual
  bare_arguments d (us ▹ u) (vs ▹ v) h = equal_before (conversion.argument_pairs us vs) _ (bare_arguments d us vs (first_equal (argument_pairs d us vs) _ h)) ((last_equal (argument_pairs d us vs) _ h).0, tt)
  bare_arguments d none vs h = tt
  bare_arguments d (us ▹ u) none h = tt

  bare_parts : (d : ℕ) (a b : Term) → PairsEqual E (part_pairs d a b) → AllEqual E (conversion.part_pairs a b)
  unfolding PairsEqual AllEqual
  bare_parts d (App f a) (App g b) h = equal_before (conversion.part_pairs f g) _ (bare_parts d f g (first_equal (part_pairs d f g) _ h)) ((last_equal (part_pairs d f g) _ h).0, tt)
  bare_parts d (Lam A M) (Lam B N) h = (h.0, (h.1.0, tt))
  bare_parts d (Pi A M) (Pi B N) h = (h.0, (h.1.0, tt))
  bare_parts d (Con c us) (Con k vs) h = bare_arguments d us vs h
  bare_parts d _ _ h = tt

  pub equal_by_parts : (d : ℕ) (a b : Term) → alike a b ≡ true → PairsEqual E (part_pairs d a b) → Equal E a b
  equal_by_parts d a b e h = parts_equal E a b e (bare_parts d a b h)
