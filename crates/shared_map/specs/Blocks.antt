-- Lists of entries in the order of their keys, cut into blocks.
use Rattle.std.specs.Prelude.{◌≡◌, ℕ, ◌<◌, ◌≤◌, List, [], ◌∷◌, length, T}
use Rattle.std.specs.List.{flat_map}
use Rattle.std.specs.FinMap.{is_sorted}
use Rattle.std.specs.declared.cmp.Ordering.{Ordering}

-- a clone equals its source
abbrev pub IsExact : {X : Type 0} → (X → X → Type 0) → Type 0
IsExact {X} is_clone = (x y : X) → is_clone x y → y ≡ x

-- the entries of some blocks, one block after another
abbrev pub joined : {A : Type 0} → List (List A) → List A
joined bs = flat_map (λ b. b) bs

-- no block is empty
abbrev pub NoneEmpty : {A : Type 0} → List (List A) → Type 0
NoneEmpty [] = Unit {0}
NoneEmpty (b ∷ bs) = (0 < length b) × NoneEmpty bs

module _ {K X : Type 0} (R : K → K → Ordering) where
  -- a leaf holds from 1 to 64 entries in the order of their keys
  pub record IsLeaf (es : List (K × X)) : Type 0 where
    pub sorted : T (is_sorted R es)
    pub some : 0 < length es
    pub few : length es ≤ 64

  -- a node holds from 1 to 64 leaves, none of them empty, whose entries together are in the order of their keys
  pub record IsNode (leaves : List (List (K × X))) : Type 0 where
    pub sorted : T (is_sorted R (joined leaves))
    pub full : NoneEmpty leaves
    pub some : 0 < length leaves
    pub few : length leaves ≤ 64

  -- a map holds any number of nodes, none of them empty, whose entries together are in the order of their keys,
  -- and the number of these entries
  pub record IsMap (nodes : List (List (K × X))) (count : ℕ) : Type 0 where
    pub sorted : T (is_sorted R (joined nodes))
    pub full : NoneEmpty nodes
    pub counted : count ≡ length (joined nodes)
