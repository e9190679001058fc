-- Trees that are compared part by part.
use Rattle.std.proofs.Common.{◌≡◌, ℕ, zero, suc, ◌+◌, ◌<◌, ◌≤◌, List, [], ◌∷◌, length, map, All, refl, sym, ap, ap₂, ◌∙◌, arith, get_or, ◌↔◌}
use Rattle.std.proofs.lemmas.Grind.{common_steps}
use Rattle.ld_trees.specs.Term.{Term, App, nodes}

-- two applications are equal exactly where their functions are, if their arguments are
pub function_decides : (t u f g x y : Term) → App f x ≡ t → App g y ≡ u → x ≡ y → (f ≡ g) ↔ (t ≡ u)
function_decides t u f g x y p q e = (λ h. sym p ∙ ap₂ App h e ∙ q, λ h. let k : App f x ≡ App g y = p ∙ h ∙ sym q in cc)

-- the arguments of equal applications are equal
pub arguments_equal : (t u f g x y : Term) → App f x ≡ t → App g y ≡ u → t ≡ u → x ≡ y
arguments_equal t u f g x y p q h = let k : App f x ≡ App g y = p ∙ h ∙ sym q in cc

-- terms that each stand for one, so that they are equal exactly where those are, and the left one is no larger
pub record Stands {H : Type 0} (left right : H → Term) (x y l r : H) : Type 0 where
  pub equal : (left l ≡ right r) ↔ (left x ≡ right y)
  pub no_larger : nodes (left l) ≤ nodes (left x)

pub stands_down : {H : Type 0} (left right : H → Term) (x y l r f g u v : H) → Stands left right x y l r →
    App (left f) (left u) ≡ left l → App (right g) (right v) ≡ right r → left u ≡ right v → Stands left right x y f g
stands_down left right x y l r f g u v s p q e =
    let d = function_decides (left l) (right r) (left f) (right g) (left u) (right v) p q e in
    let n : nodes (App (left f) (left u)) ≡ nodes (left l) = ap nodes p in
    record {
      equal = (λ h. s.equal.0 (d.0 h), λ h. d.1 (s.equal.1 h));
      no_larger = omega (arith, s.no_larger, n);
    }

-- ---- lists

-- the first i elements mean equal trees
abbrev pub AreEqualTo : {H : Type 0} → ℕ → (H → Term) → (H → Term) → List H → List H → Type 0
AreEqualTo {H} i left right us vs = (k : ℕ) (d : H) → k < i → left (get_or us k d) ≡ right (get_or vs k d)

pub maps_equal : {H : Type 0} (left right : H → Term) (us vs : List H) → length us ≡ length vs → AreEqualTo (length us) left right us vs → map left us ≡ map right vs
maps_equal left right [] [] n e = refl
maps_equal left right [] (v ∷ vs) n e = absurd (omega arith)
maps_equal left right (u ∷ us) [] n e = absurd (omega arith)
maps_equal left right (u ∷ us) (v ∷ vs) n e = ap₂ ◌∷◌ (e 0 u (omega arith)) (maps_equal left right us vs (omega arith) (λ k d l. e (suc k) d (omega arith)))

pub equal_at : {H : Type 0} (left right : H → Term) (us vs : List H) (i : ℕ) (u v : H) → map left us ≡ map right vs → i < length us → u ≡ get_or us i u → v ≡ get_or vs i v → left u ≡ right v
equal_at left right [] vs i u v e l p q = absurd (omega arith)
equal_at left right (x ∷ us) [] i u v e l p q = absurd cc
equal_at left right (x ∷ us) (y ∷ vs) zero u v e l p q = let k : left x ≡ right y = cc in ap left p ∙ k ∙ sym (ap right q)
equal_at left right (x ∷ us) (y ∷ vs) (suc i) u v e l p q = let k : map left us ≡ map right vs = cc in equal_at left right us vs i u v k (omega arith) p q

pub equal_more : {H : Type 0} (left right : H → Term) (us vs : List H) (i : ℕ) (u v : H) → i < length us → i < length vs → AreEqualTo i left right us vs →
    u ≡ get_or us i u → v ≡ get_or vs i v → left u ≡ right v → AreEqualTo (i + 1) left right us vs
equal_more left right us vs i u v l m a p q e k d b = grind (arith, common_steps)

pub held_at : {X : Type 0} (P : X → Type 0) (xs : List X) (i : ℕ) (x : X) → All P xs → i < length xs → x ≡ get_or xs i x → P x
held_at P xs i x a l e = rw e (a i x l)
