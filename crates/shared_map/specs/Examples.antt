-- Two changes at one key, to be computed: a map without entries gets the value 30 at the key 3, and then 31.
use Rattle.std.specs.Prelude.{◌≡◌, ℕ, List, [], length, None, Some}
use Rattle.std.specs.FinMap.{find, put}
use Rattle.std.specs.Ordering.{nat_cmp}

abbrev pub m0 : List (ℕ × ℕ)
m0 = []

abbrev pub m1 : List (ℕ × ℕ)
m1 = put nat_cmp 3 30 m0

abbrev pub m2 : List (ℕ × ℕ)
m2 = put nat_cmp 3 31 m1

-- what `get` reads at the key 3 of each map, and how many entries each has
pub record ExampleOfPuts : Type 0 where
  pub get0 : find nat_cmp 3 m0 ≡ None
  pub get1 : find nat_cmp 3 m1 ≡ Some 30
  pub get2 : find nat_cmp 3 m2 ≡ Some 31
  pub len0 : length m0 ≡ 0
  pub len1 : length m1 ≡ 1
  pub len2 : length m2 ≡ 1
