-- The order of places tells them apart.
use Rattle.std.proofs.Common.{ℕ, ap}
use Rattle.std.specs.FinMap.{IsAntisymmetric, nat_cmp-IsAntisymmetric}
use Rattle.std.specs.Ordering.{nat_cmp}
use Rattle.ld_terms.specs.declared.node.Place.{Place}

pub exact_places : IsAntisymmetric (λ (p q : Place). nat_cmp p.0 q.0)
exact_places a b e = ap (λ (n : ℕ). let r : Place = record { 0 = n } in r) (nat_cmp-IsAntisymmetric a.0 b.0 e)
