-- The order of nodes tells them all apart.
use Rattle.std.proofs.Common.{◌≡◌, refl, ap}
use Rattle.std.specs.FinMap.{IsAntisymmetric, nat_cmp-IsAntisymmetric, slice_cmp-IsAntisymmetric}
use Rattle.std.specs.Cmp.Lexicographic.{slice_cmp}
use Rattle.std.specs.Ordering.{nat_cmp, ordering_then}
use Rattle.std.specs.declared.cmp.Ordering.{Ordering}
use Rattle.std.specs.declared.cmp.Ordering.TheVariants.{Less, Equal, Greater}
use Rattle.ld_terms.specs.declared.node.Node.{Node}
use Rattle.ld_terms.specs.declared.node.Node.TheVariants.{Star, Square, Var, App, Lam, Pi, Const, Meta}
use Rattle.ld_terms.specs.declared.node.Place.{Place}
use Rattle.ld_terms.specs.contracts.node.NodeOrd.TheImpl.{ghosts}
use Rattle.ld_terms.specs.contracts.node.NodeOrd.TheImpl.Laws.{total-law}
use Rattle.std.specs.Cmp.{IsTotalOrder}
use Rattle.ld_terms.specs.Places.{exact_places}

abbrev place_cmp : Place → Place → Ordering
place_cmp p q = nat_cmp p.0 q.0

abbrev pub node_cmp : Node → Node → Ordering
node_cmp = ghosts.cmp

then_equal : (r s : Ordering) → ordering_then r s ≡ Equal → (r ≡ Equal) × (s ≡ Equal)
then_equal Less s e = absurd (cc)
then_equal Equal s e = (refl, e)
then_equal Greater s e = absurd (cc)

pair : (f a g b : Place) → ordering_then (place_cmp f g) (place_cmp a b) ≡ Equal → (f ≡ g) × (a ≡ b)
pair f a g b e = let h = then_equal (place_cmp f g) (place_cmp a b) e in (exact_places f g h.0, exact_places a b h.1)

pub exact_nodes : IsAntisymmetric node_cmp
exact_nodes Star Star e = refl
exact_nodes Square Square e = refl
exact_nodes (Var i) (Var j) e = ap Var (nat_cmp-IsAntisymmetric i j e)
exact_nodes (App f a) (App g b) e = let h = pair f a g b e in let p = h.0 in let q = h.1 in cc
exact_nodes (Lam f a) (Lam g b) e = let h = pair f a g b e in let p = h.0 in let q = h.1 in cc
exact_nodes (Pi f a) (Pi g b) e = let h = pair f a g b e in let p = h.0 in let q = h.1 in cc
exact_nodes (Const n us) (Const m vs) e =
    let h = then_equal (slice_cmp nat_cmp n m) (slice_cmp place_cmp us vs) e in
    let p : n ≡ m = slice_cmp-IsAntisymmetric nat_cmp-IsAntisymmetric n m h.0 in
    let q : us ≡ vs = slice_cmp-IsAntisymmetric exact_places us vs h.1 in
    cc
exact_nodes (Meta n us) (Meta m vs) e =
    let h = then_equal (nat_cmp n m) (slice_cmp place_cmp us vs) e in
    let p : n ≡ m = nat_cmp-IsAntisymmetric n m h.0 in
    let q : us ≡ vs = slice_cmp-IsAntisymmetric exact_places us vs h.1 in
    cc
exact_nodes n m e = absurd (cc)

pub nodes_total : IsTotalOrder node_cmp
nodes_total = total-law
