-- A term as a head with arguments, and the steps at its head, over the handles of a store.
use Rattle.std.specs.Prelude.{◌≡◌, ◌≢◌, length, List, [], ◌∷◌, ◌++◌, map, All, Bool, true, false, Option, Some, None}
use Rattle.ld_trees.specs.Term.{Term, App}
use Rattle.ld_trees.specs.Substitution.{subst_all}
use Rattle.ld_rules.specs.Environment.{Env}
use Rattle.ld_terms.specs.Views.{terms_of}
use Rattle.conversion.specs.Runs.{Run, pure, ◌>>=◌, choose}
use Rattle.conversion.specs.WeakHead.{head_step, whnf}
use Rattle.conversion.specs.Conversion.{alike, are_twins, part_pairs, convert_each, conv}
use Rattle.conversion.specs.declared.steps.Reduct.{Reduct}

-- a term with arguments, the last argument first in the list
abbrev pub applied : Term → List Term → Term
applied t [] = t
applied t (u ∷ us) = App (applied t us) u

abbrev pub IsNoApplication : Term → Type 0
IsNoApplication (App f a) = ⊥
IsNoApplication _ = Unit {0}

-- a body with its arguments put in at once
abbrev pub reduct_tree : {H : Type 0} → (H → Term) → Reduct H → Term
reduct_tree means r = subst_all (terms_of (map means r.args.items)) (means r.body)

pub record IsReductOf {H : Type 0} (holds : H → Type 0) (r : Reduct H) : Type 0 where
  pub body : holds r.body
  pub args : All holds r.args.items

-- what stands for a step, if there is one
abbrev pub IsReduct : {H : Type 0} → (H → Term) → Option Term → Option (Reduct H) → Type 0
IsReduct means o None = o ≡ None
IsReduct means o (Some r) = o ≡ Some (reduct_tree means r)

-- the step at the head of t with some arguments, if there is one, and the arguments that wait behind it
abbrev pub IsNextStep : {H : Type 0} → (H → Term) → Env → Term → List H → List H → Option (Reduct H) → Type 0
IsNextStep means Δ t us vs None = (head_step Δ (applied t (map means us)) ≡ None) × (vs ≡ us)
IsNextStep means Δ t us vs (Some r) = head_step Δ (applied t (map means us)) ≡ Some (applied (reduct_tree means r) (map means vs))

-- ---- conversion

-- the trees of pairs of handles, the last pair of the list first
abbrev pub pairs_back : {H : Type 0} → (H → Term) → List (H × H) → List (Term × Term)
pairs_back means [] = []
pairs_back means (p ∷ ps) = pairs_back means ps ++ (means p.0, means p.1) ∷ []

-- the pairs of two lists, the last pair first
abbrev pub back_pairs : {H : Type 0} → List H → List H → List (H × H)
back_pairs (u ∷ us) (v ∷ vs) = back_pairs us vs ++ (u, v) ∷ []
back_pairs _ _ = []

-- pairs to which those of two lists were added, or not, where the lists differ in length
abbrev pub ArePaired : {H : Type 0} → List H → List H → List (H × H) → List (H × H) → Bool → Type 0
ArePaired us vs ps qs true = (length us ≡ length vs) × (qs ≡ ps ++ back_pairs us vs)
ArePaired us vs ps qs false = (length us ≢ length vs) × (qs ≡ ps)

-- pairs to which the parts of two terms were added, where the terms are alike
abbrev pub ArePartsAdded : {H : Type 0} → (H → Term) → Term → Term → List (H × H) → List (H × H) → Bool → Type 0
ArePartsAdded means a b ps qs true = (alike a b ≡ true) × (pairs_back means qs ≡ part_pairs a b ++ pairs_back means ps)
ArePartsAdded means a b ps qs false = alike a b ≡ false

abbrev pub BothHeld : {H : Type 0} → (H → Type 0) → H × H → Type 0
BothHeld holds p = holds p.0 × holds p.1

abbrev pub AreNotBothApplied : Term → Term → Type 0
AreNotBothApplied (App f a) (App g b) = ⊥
AreNotBothApplied _ _ = Unit {0}

-- the parts of two terms where they are alike, the last pair first
abbrev pub ArePairs : {H : Type 0} → (H → Term) → Term → Term → Option (List (H × H)) → Type 0
ArePairs means a b None = alike a b ≡ false
ArePairs means a b (Some ps) = (alike a b ≡ true) × (pairs_back means ps ≡ part_pairs a b)

-- the comparison of two terms by their parts, as they stand
abbrev pub by_parts : Env → Term → Term → Run Bool
by_parts Δ a b = choose (alike a b) (convert_each (conv Δ) (part_pairs a b)) (pure false)

-- the first comparison, of equal defined constants
abbrev pub by_twins : Env → Term → Term → Run Bool
by_twins Δ a b = choose (are_twins Δ a b) (convert_each (conv Δ) (part_pairs a b)) (pure false)

-- the second comparison, of the weak head forms
abbrev pub by_forms : Env → Term → Term → Run Bool
by_forms Δ a b = do
  a' ← whnf Δ a
  b' ← whnf Δ b
  by_parts Δ a' b'
