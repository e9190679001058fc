-- Terms of λD, after the expressions of Nederpelt and Geuvers, Type Theory and Formal Proof (2014), chapters 9 and 10,
-- with de Bruijn indices in place of bound names: `Var 0` is the last entry of the context.
use Rattle.std.specs.Prelude.{ℕ, zero, suc, ◌+◌, max, List, [], ◌∷◌, Bool, true, false, ◌&&◌, nat_eq}

-- `*`, the sort of types, and `□`, the sort of kinds
pub data Sort : Type 0 where
  star square : Sort

-- What stands before a list of arguments: a constant by its name, or a metavariable by its number. Both are read as items of an environment.
pub data Head : Type 0 where
  Named : List ℕ → Head
  Numbered : ℕ → Head

mutual
  pub data Term : Type 0 where
    Srt : Sort → Term
    Var : ℕ → Term
    App Lam Pi : Term → Term → Term
    Con : Head → Terms → Term
    deriving Discrete as Term-discrete

  -- arguments of a constant, or the types of a context: the last one outermost
  pub data Terms : Type 0 where
    none : Terms
    ◌▹◌ : Terms → Term → Terms

infixl 60 ◌▹◌
pattern abbrev pub Star : Term
Star = Srt star

pattern abbrev pub Square : Term
Square = Srt square

pattern abbrev pub Const : List ℕ → Terms → Term
Const a us = Con (Named a) us

pattern abbrev pub Meta : ℕ → Terms → Term
Meta m us = Con (Numbered m) us

-- how many they are
abbrev pub count : Terms → ℕ
count none = zero
count (us ▹ u) = suc (count us)

-- ---- whether two trees are equal

abbrev pub same_sort : Sort → Sort → Bool
same_sort star star = true
same_sort square square = true
same_sort _ _ = false

abbrev pub same_name : List ℕ → List ℕ → Bool
same_name [] [] = true
same_name (x ∷ xs) (y ∷ ys) = nat_eq x y && same_name xs ys
same_name _ _ = false

abbrev pub same_head : Head → Head → Bool
same_head (Named a) (Named b) = same_name a b
same_head (Numbered m) (Numbered n) = nat_eq m n
same_head _ _ = false

abbrev mutual
  pub same : Term → Term → Bool
  same (Srt s) (Srt z) = same_sort s z
  same (Var i) (Var j) = nat_eq i j
  same (App a b) (App c d) = same a c && same b d
  same (Lam a b) (Lam c d) = same a c && same b d
  same (Pi a b) (Pi c d) = same a c && same b d
  same (Con h us) (Con k vs) = same_head h k && sames us vs
  same _ _ = false

  pub sames : Terms → Terms → Bool
  sames none none = true
  sames (us ▹ u) (vs ▹ v) = sames us vs && same u v
  sames _ _ = false

-- ---- sizes

-- the number of nodes of a tree
abbrev mutual
  pub nodes : Term → ℕ
  nodes (Srt s) = 1
  nodes (Var i) = 1
  nodes (App a b) = 1 + nodes a + nodes b
  nodes (Lam a b) = 1 + nodes a + nodes b
  nodes (Pi a b) = 1 + nodes a + nodes b
  nodes (Con h us) = 1 + nodes_all us

  pub nodes_all : Terms → ℕ
  nodes_all none = 0
  nodes_all (us ▹ u) = nodes_all us + nodes u

-- the number of nodes on the longest way from the root to a leaf
abbrev mutual
  pub depth : Term → ℕ
  depth (Srt s) = 1
  depth (Var i) = 1
  depth (App a b) = 1 + max (depth a) (depth b)
  depth (Lam a b) = 1 + max (depth a) (depth b)
  depth (Pi a b) = 1 + max (depth a) (depth b)
  depth (Con h us) = 1 + depth_all us

  pub depth_all : Terms → ℕ
  depth_all none = 0
  depth_all (us ▹ u) = max (depth_all us) (depth u)
