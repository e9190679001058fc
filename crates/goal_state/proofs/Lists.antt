-- Numbers that pass a test, and elements of lists.
use Rattle.std.proofs.Common.{◌≡◌, ◌≢◌, ◌↔◌, ℕ, zero, suc, ◌+◌, ◌<◌, List, [], ◌∷◌, ◌++◌, map, All, Bool, true, false, if◌then◌else◌, nat_eq, ◌||◌, Option, Some, None, option_map, slice_get, take, length, get_or, refl, ap, ap₂, sym, ◌∙◌, arith}
use Rattle.meta_trees.specs.Dependencies.{below}
use Rattle.meta_laws.specs.Cut.{listed}

pub get_map : {A B : Type 0} (f : A → B) (xs : List A) (i : ℕ) → slice_get (map f xs) i ≡ option_map f (slice_get xs i)
get_map f [] i = refl
get_map f (x ∷ xs) zero = refl
get_map f (x ∷ xs) (suc i) = get_map f xs i

-- tests that agree pass the same numbers
pub below_same : (p q : ℕ → Bool) (n : ℕ) → ((m : ℕ) → p m ≡ q m) → below p n ≡ below q n
below_same p q zero f = refl
below_same p q (suc n) f = ap₂ (λ xs b. xs ++ (if b then n ∷ [] else [])) (below_same p q n f) (f n)

-- one number more
pub below_more : (p : ℕ → Bool) (n : ℕ) → below p (n + 1) ≡ below p n ++ (if p n then n ∷ [] else [])
below_more p n = let e : n + 1 ≡ suc n = omega arith in ap (below p) e

pub below_with : (p : ℕ → Bool) (n : ℕ) (b : Bool) → p n ≡ b → below p (n + 1) ≡ below p n ++ (if b then n ∷ [] else [])
below_with p n b e = below_more p n ∙ ap (λ b. below p n ++ (if b then n ∷ [] else [])) e

append_none : (xs : List ℕ) → xs ++ [] ≡ xs
append_none [] = refl
append_none (x ∷ xs) = ap (λ ys. x ∷ ys) (append_none xs)

-- a number that passes is kept, and another one is left out
pub below_kept : (p : ℕ → Bool) (n : ℕ) → p n ≡ true → below p (n + 1) ≡ below p n ++ n ∷ []
below_kept p n e = below_with p n true e

pub below_left : (p : ℕ → Bool) (n : ℕ) → p n ≡ false → below p (n + 1) ≡ below p n
below_left p n e = below_with p n false e ∙ append_none (below p n)

no_end : (xs : List ℕ) (x : ℕ) → xs ++ x ∷ [] ≢ []
no_end [] x e = cc
no_end (y ∷ xs) x e = cc

-- where no number passes, each fails
shorter : (p : ℕ → Bool) (n : ℕ) → p n ≡ false → below p (suc n) ≡ [] → below p n ≡ []
shorter p n q e = sym (append_none (below p n)) ∙ sym (ap (λ b. below p n ++ (if b then n ∷ [] else [])) q) ∙ e

last_fails : (p : ℕ → Bool) (n : ℕ) → below p (suc n) ≡ [] → p n ≡ false
last_fails p n e = go (p n) refl
  where
    go : (b : Bool) → p n ≡ b → p n ≡ false
    go true q = absurd (no_end (below p n) n (sym (ap (λ b. below p n ++ (if b then n ∷ [] else [])) q) ∙ e))
    go false q = q

pub none_passes : (p : ℕ → Bool) (n m : ℕ) → below p n ≡ [] → m < n → p m ≡ false
none_passes p zero m e l = absurd (omega arith)
none_passes p (suc n) m e l = go (nat_eq m n) refl (λ k. none_passes p n m (shorter p n (last_fails p n e) e) k)
  where
    go : (b : Bool) → nat_eq m n ≡ b → (m < n → p m ≡ false) → p m ≡ false
    go true r f = let k : m ≡ n = grind arith in ap p k ∙ last_fails p n e
    go false r f = f (grind arith)

pub some_passes : (p : ℕ → Bool) (n m : ℕ) → m < n → p m ≡ true → below p n ≢ []
some_passes p n m l e f = let x = none_passes p n m f l in let y : true ≡ false = sym e ∙ x in absurd cc
