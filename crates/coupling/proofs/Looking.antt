-- Handles in a set.
use Rattle.std.proofs.Common.{◌≡◌, List, true, refl}
use Rattle.std.specs.Prelude.{Contains}
use Rattle.std.specs.List.{list_any}
use Rattle.std.specs.BTreeMap.{is_at}
use Rattle.std.specs.Ordering.{is_eq}
use Rattle.std.specs.declared.cmp.Ordering.{Ordering}
use Rattle.std.specs.declared.cmp.Ordering.TheVariants.{Less, Equal, Greater}
use Rattle.std.proofs.lemmas.Map.Views.{Contains-from_any}

is_equal : (o : Ordering) → is_eq o ≡ true → o ≡ Equal
is_equal Less e = absurd cc
is_equal Equal e = refl
is_equal Greater e = absurd cc

-- a handle that is found is there, where handles that compare equal are equal
pub found_in : {H : Type 0} (cmp : H → H → Ordering) → ((h k : H) → cmp h k ≡ Equal → h ≡ k) → (h : H) (ks : List H) → list_any (is_at (cmp h)) ks ≡ true → Contains ks h
found_in cmp exact h ks e = Contains-from_any {eq = λ x y. is_at (cmp x) y} (λ x y t. exact x y (is_equal (cmp x y) t)) h ks e
