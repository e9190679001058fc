-- The environment cut to the dependencies of a term: its own items, and then those of the dependencies alone.
use Rattle.std.specs.Prelude.{◌≡◌, ◌↔◌, ℕ, zero, suc, ◌<◌, ◌≤◌, List, [], ◌∷◌, Option, Some, None, Bool, true, false, ◌&&◌, ◌||◌, nat_eq, length, if◌then◌else◌}
use Rattle.ld_trees.specs.Term.{Terms}
use Rattle.ld_rules.specs.Environment.{Env}
use Rattle.meta_trees.specs.MetaContext.{Decl, Metas, decl, item}
use Rattle.meta_trees.specs.Dependencies.{parts_of, Depends, dependencies}

abbrev pub listed : ℕ → List ℕ → Bool
listed k [] = false
listed k (m ∷ L) = nat_eq m k || listed k L

abbrev pub all_listed : List ℕ → List ℕ → Bool
all_listed [] L = true
all_listed (k ∷ K) L = listed k L && all_listed K L

-- the first of some numbers whose own dependencies are all placed
abbrev pub possible : Metas → List ℕ → List ℕ → Option ℕ
possible Σ placed [] = None
possible Σ placed (k ∷ K) = if all_listed (dependencies Σ (parts_of Σ k)) placed then Some k else possible Σ placed K

abbrev pub without : ℕ → List ℕ → List ℕ
without k [] = []
without k (m ∷ L) = if nat_eq m k then L else m ∷ without k L

abbrev pub chosen : List ℕ → (ℕ → List ℕ) → Option ℕ → List ℕ
chosen placed next None = placed
chosen placed next (Some k) = next k

-- Numbers placed one after the other, the last one first: the least possible one of the rest each time, at most n of them.
abbrev pub arrange : Metas → ℕ → List ℕ → List ℕ → List ℕ
arrange Σ zero rest placed = placed
arrange Σ (suc n) rest placed = chosen placed (λ k. arrange Σ n (without k rest) (k ∷ placed)) (possible Σ placed rest)

-- the dependencies, each after its own, the least number first among those that are possible
abbrev pub order : Metas → Terms → List ℕ
order Σ X = let ds = dependencies Σ X in arrange Σ (length ds) ds []

abbrev pub with_item : Option Decl → ℕ → Env → Env
with_item None k Δ = Δ
with_item (Some d) k Δ = item k d ∷ Δ

-- an environment followed by the items of some numbers
abbrev pub items : Metas → List ℕ → Env → Env
items Σ [] Δ = Δ
items Σ (k ∷ L) Δ = with_item (decl k Σ) k (items Σ L Δ)

abbrev pub cut : Metas → Env → Terms → Env
cut Σ Δ X = items Σ (order Σ X) Δ

-- ---- what the order is, in words

-- each number stands once, is declared, and has its declared dependencies before it
abbrev pub IsOrdered : Metas → List ℕ → Type 0
IsOrdered Σ [] = Unit {0}
IsOrdered Σ (k ∷ L) = IsOrdered Σ L × (listed k L ≡ false) × (k < length Σ) × ((j : ℕ) → Depends Σ (parts_of Σ k) j → j < length Σ → listed j L ≡ true)

-- at each place stands the least of the dependencies that were possible there
abbrev pub IsLeastFirst : Metas → Terms → List ℕ → Type 0
IsLeastFirst Σ X [] = Unit {0}
IsLeastFirst Σ X (k ∷ L) = IsLeastFirst Σ X L × ((j : ℕ) → Depends Σ X j → j < length Σ → listed j L ≡ false → ((i : ℕ) → Depends Σ (parts_of Σ j) i → i < length Σ → listed i L ≡ true) → k ≤ j)

-- exactly the declared dependencies of X, each after its own, the least number first among those that are possible
pub record IsCutOrder (Σ : Metas) (X : Terms) (L : List ℕ) : Type 0 where
  pub ordered : IsOrdered Σ L
  pub least : IsLeastFirst Σ X L
  pub exact : (k : ℕ) → (listed k L ≡ true) ↔ ((k < length Σ) × Depends Σ X k)
