-- Lists of handles, the arguments that they mean, and what a growing store keeps of them.
use Rattle.std.proofs.Common.{◌≡◌, ℕ, zero, suc, ◌+◌, ◌<◌, ◌≤◌, List, [], ◌∷◌, ◌++◌, length, take, map, refl, sym, ap, ◌∙◌, arith, get_or, take-suc, ◌↔◌}
use Rattle.std.proofs.lemmas.List.{map-append, append-nil}
use Rattle.ld_trees.specs.Term.{Term, Head, Con, Terms, none, ◌▹◌, nodes, nodes_all}
use Rattle.ld_terms.specs.Views.{terms_onto, terms_of}

terms_onto_end : (us : Terms) (xs : List Term) (x : Term) → terms_onto us (xs ++ x ∷ []) ≡ terms_onto us xs ▹ x
terms_onto_end us [] x = refl
terms_onto_end us (y ∷ xs) x = terms_onto_end (us ▹ y) xs x

-- one more argument stands at the end
pub terms_of_end : {H : Type 0} (means : H → Term) (xs : List H) (x : H) → terms_of (map means (xs ++ x ∷ [])) ≡ terms_of (map means xs) ▹ means x
terms_of_end means xs x = ap terms_of (map-append means xs (x ∷ [])) ∙ terms_onto_end none (map means xs) (means x)

pub terms_of_more : {H : Type 0} (means : H → Term) (xs : List H) (i : ℕ) (d : H) → i < length xs →
    terms_of (map means (take (i + 1) xs)) ≡ terms_of (map means (take i xs)) ▹ means (get_or xs i d)
terms_of_more means xs i d l =
    let q : i + 1 ≡ suc i = omega arith in
    ap (λ n. terms_of (map means (take n xs))) q ∙ ap (λ z. terms_of (map means z)) (take-suc xs i d l) ∙ terms_of_end means (take i xs) (get_or xs i d)

nodes_onto : (us : Terms) (xs : List Term) → nodes_all (terms_onto us xs) ≡ nodes_all us + nodes_all (terms_of xs)
nodes_onto us [] = omega arith
nodes_onto us (x ∷ xs) = omega (arith, nodes_onto (us ▹ x) xs, nodes_onto (none ▹ x) xs)

nodes_cons : (x : Term) (xs : List Term) → nodes_all (terms_of (x ∷ xs)) ≡ nodes x + nodes_all (terms_of xs)
nodes_cons x xs = omega (arith, nodes_onto (none ▹ x) xs)

-- an argument at a place has no more nodes than all of them
pub part_at : {H : Type 0} (means : H → Term) (hs : List H) (d : H) (i : ℕ) → i < length hs → nodes (means (get_or hs i d)) ≤ nodes_all (terms_of (map means hs))
part_at means [] d i l = absurd (omega arith)
part_at means (h ∷ hs) d zero l = omega (arith, nodes_cons (means h) (map means hs))
part_at means (h ∷ hs) d (suc i) l = omega (arith, nodes_cons (means h) (map means hs), part_at means hs d i (omega arith))

-- the same of an element that stands there
pub part_less : {H : Type 0} (means : H → Term) (hs : List H) (h : H) (i : ℕ) → i < length hs → h ≡ get_or hs i h → nodes (means h) ≤ nodes_all (terms_of (map means hs))
part_less means hs h i l e = let q : nodes (means h) ≡ nodes (means (get_or hs i h)) = ap (λ x. nodes (means x)) e in omega (arith, part_at means hs h i l, q)

-- arguments as a list, before others
abbrev listed_onto : Terms → List Term → List Term
listed_onto none xs = xs
listed_onto (us ▹ u) xs = listed_onto us (u ∷ xs)

listed_terms_onto : (us : Terms) (xs ys : List Term) → listed_onto (terms_onto us xs) ys ≡ listed_onto us (xs ++ ys)
listed_terms_onto us [] ys = refl
listed_terms_onto us (x ∷ xs) ys = listed_terms_onto (us ▹ x) xs ys

listed_terms : (xs : List Term) → listed_onto (terms_of xs) [] ≡ xs
listed_terms xs = listed_terms_onto none xs [] ∙ append-nil xs

-- equal arguments are equal lists
pub terms_of_same : (xs ys : List Term) → terms_of xs ≡ terms_of ys → xs ≡ ys
terms_of_same xs ys e = sym (listed_terms xs) ∙ ap (λ us. listed_onto us []) e ∙ listed_terms ys

head_arguments : (h k : Head) (us vs : Terms) → Con h us ≡ Con k vs → us ≡ vs
head_arguments h k us vs e = cc

-- two trees with one head are equal where their arguments are
pub same_heads : {R : Type 0} (h k : Head) (xs ys : List Term) (t u : Term) → Con h (terms_of xs) ≡ t → Con k (terms_of ys) ≡ u → h ≡ k →
    (R ↔ (xs ≡ ys)) → (R ↔ (t ≡ u))
same_heads h k xs ys t u p q n r = (
  λ x. sym p ∙ ap (λ z. Con z (terms_of xs)) n ∙ ap (λ l. Con k (terms_of l)) (r.0 x) ∙ q,
  λ e. r.1 (terms_of_same xs ys (head_arguments h k (terms_of xs) (terms_of ys) (p ∙ e ∙ sym q))),
)
