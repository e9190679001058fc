-- How many calls unfolding makes at most: so many as a term has nodes, and at each metavariable those for its value.
use Rattle.std.proofs.Common.{◌≡◌, ℕ, zero, suc, ◌+◌, ◌<◌, ◌≤◌, List, [], ◌∷◌, map, length, get_or, Option, Some, None, refl, sym, ap, ap₂, ◌∙◌, arith}
use Rattle.ld_trees.specs.Term.{Head, Named, Numbered, Term, Srt, Var, App, Lam, Pi, Con, Terms, none, ◌▹◌}
use Rattle.ld_terms.specs.Views.{terms_onto, terms_of}
use Rattle.meta_trees.specs.MetaContext.{Decl, Metas, decl}

-- each node once, and what a constant or a metavariable costs
abbrev mutual
  pub work : (Head → ℕ) → Term → ℕ
  work W (Srt s) = 1
  work W (Var i) = 1
  work W (App f a) = 1 + work W f + work W a
  work W (Lam A M) = 1 + work W A + work W M
  work W (Pi A B) = 1 + work W A + work W B
  work W (Con h us) = 1 + W h + work_all W us

  pub work_all : (Head → ℕ) → Terms → ℕ
  work_all W none = 0
  work_all W (us ▹ u) = work_all W us + work W u

abbrev pub value_work : (Term → ℕ) → Option Term → ℕ
value_work f None = 0
value_work f (Some v) = 1 + f v

abbrev pub decl_work : (Term → ℕ) → Option Decl → ℕ
decl_work f None = 0
decl_work f (Some d) = value_work f d.value

-- what the value of a metavariable costs in so many rounds
abbrev pub head_work : Metas → ℕ → Head → ℕ
head_work Σ zero h = 0
head_work Σ (suc r) (Named a) = 0
head_work Σ (suc r) (Numbered m) = decl_work (work (λ h. head_work Σ r h)) (decl m Σ)

-- the cost of a term in so many rounds
abbrev pub rounds_work : Metas → ℕ → Term → ℕ
rounds_work Σ r t = work (λ h. head_work Σ r h) t

abbrev pub rounds_work_all : Metas → ℕ → Terms → ℕ
rounds_work_all Σ r us = work_all (λ h. head_work Σ r h) us

work_onto : (W : Head → ℕ) (us : Terms) (xs : List Term) → work_all W (terms_onto us xs) ≡ work_all W us + work_all W (terms_of xs)
work_onto W us [] = omega arith
work_onto W us (x ∷ xs) = omega (arith, work_onto W (us ▹ x) xs, work_onto W (none ▹ x) xs)

work_cons : (W : Head → ℕ) (x : Term) (xs : List Term) → work_all W (terms_of (x ∷ xs)) ≡ work W x + work_all W (terms_of xs)
work_cons W x xs = omega (arith, work_onto W (none ▹ x) xs)

-- an argument at a place costs no more than all of them
pub part_work : {H : Type 0} (W : Head → ℕ) (means : H → Term) (hs : List H) (d : H) (i : ℕ) → i < length hs → work W (means (get_or hs i d)) ≤ work_all W (terms_of (map means hs))
part_work W means [] d i l = absurd (omega arith)
part_work W means (h ∷ hs) d zero l = omega (arith, work_cons W (means h) (map means hs))
part_work W means (h ∷ hs) d (suc i) l = omega (arith, work_cons W (means h) (map means hs), part_work W means hs d i (omega arith))
