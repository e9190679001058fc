-- Three changes of a list of numbers, to be computed.
use Rattle.std.specs.Prelude.{◌≡◌, ℕ, List, [], ◌∷◌, ◌++◌, length, take, slice_get, None, Some}

-- `put_last` at a place
abbrev pub put_at : ℕ → ℕ → List ℕ → List ℕ
put_at at item xs = take at xs ++ item ∷ []

abbrev pub l0 : List ℕ
l0 = []

abbrev pub l1 : List ℕ
l1 = put_at 0 7 l0

abbrev pub l2 : List ℕ
l2 = put_at 1 8 l1

-- the item at the place 0 anew: what stood there and behind is given up
abbrev pub l3 : List ℕ
l3 = put_at 0 9 l2

-- what `get` reads of each list, and how many items each has
pub record ExampleOfPuts : Type 0 where
  pub get0 : slice_get l0 0 ≡ None
  pub get1 : slice_get l1 0 ≡ Some 7
  pub first2 : slice_get l2 0 ≡ Some 7
  pub last2 : slice_get l2 1 ≡ Some 8
  pub behind2 : slice_get l2 2 ≡ None
  pub first3 : slice_get l3 0 ≡ Some 9
  pub behind3 : slice_get l3 1 ≡ None
  pub len0 : length l0 ≡ 0
  pub len1 : length l1 ≡ 1
  pub len2 : length l2 ≡ 2
  pub len3 : length l3 ≡ 1
