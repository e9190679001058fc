-- Unification of terms under patterns (Miller 1991), with units of fuel. A refusal gives up all assignments and declarations of the call.
use Rattle.std.specs.Prelude.{ℕ, zero, suc, List, [], ◌∷◌, ◌++◌, nat_lt}
use Rattle.ld_trees.specs.Term.{Term, App, Lam, Pi, Con, Terms, ◌▹◌, same}
use Rattle.ld_rules.specs.Environment.{Env}
use Rattle.conversion.specs.WeakHead.{whnf}
use Rattle.conversion.specs.Conversion.{alike, are_twins}
use Rattle.unification.specs.Steps.{OutOfFuel, pure, refuse, spend, ◌>>=◌, ◌>>◌, choose, or_else}
use Rattle.unification.specs.Refusals.{Mismatch, NotPattern, Step, kernel_step, Plain, Unifies}
use Rattle.unification.specs.Metavariables.{reach, settled}
use Rattle.unification.specs.Patterns.{Side, Rigid, Flexible, Pattern, side, have_same_goal}
use Rattle.unification.specs.Solving.{solve}

-- ---- the parts of two terms of one kind

-- two terms in a context of so many entries
pub record Pair : Type 0 where
  pub depth : ℕ
  pub found : Term
  pub wanted : Term

abbrev pub pair : ℕ → Term → Term → Pair
pair d a b = record { depth = d; found = a; wanted = b }

-- from left to right: those of the heads, type before body, and then the arguments
abbrev pub argument_pairs : ℕ → Terms → Terms → List Pair
argument_pairs d (us ▹ u) (vs ▹ v) = argument_pairs d us vs ++ pair d u v ∷ []
argument_pairs d _ _ = []

abbrev pub part_pairs : ℕ → Term → Term → List Pair
part_pairs d (App f a) (App g b) = part_pairs d f g ++ pair d a b ∷ []
part_pairs d (Lam A M) (Lam B N) = pair d A B ∷ pair (suc d) M N ∷ []
part_pairs d (Pi A M) (Pi B N) = pair d A B ∷ pair (suc d) M N ∷ []
part_pairs d (Con h us) (Con k vs) = argument_pairs d us vs
part_pairs d _ _ = []

-- each pair in turn, in the outcome of the earlier ones
abbrev pub unify_each : Unifies → Plain → List Pair → Step Plain
unify_each unify metas [] = pure metas
unify_each unify metas (p ∷ ps) = do
  more ← unify metas p.depth p.found p.wanted
  unify_each unify more ps

-- ---- unification of a and b in a context of d entries, in terms of the unification of others

-- heads are compared, and then the parts unified
abbrev pub unify_parts : Unifies → Plain → ℕ → Term → Term → Step Plain
unify_parts unify metas d a b = choose (alike a b) (unify_each unify metas (part_pairs d a b)) (refuse (Mismatch d a b))

-- Of two patterns the one with the greater number is solved by the other side, and else the only one. Without a pattern an unassigned
-- metavariable at a head is refused, the left one first.
abbrev pub unify_sides : Env → Unifies → Plain → ℕ → Term → Term → Side → Side → Step Plain
unify_sides Δ unify metas d a b (Pattern m us) (Pattern n vs) = choose (nat_lt m n) (solve Δ unify d n vs metas a) (solve Δ unify d m us metas b)
unify_sides Δ unify metas d a b (Pattern m us) _ = solve Δ unify d m us metas b
unify_sides Δ unify metas d a b _ (Pattern n vs) = solve Δ unify d n vs metas a
unify_sides Δ unify metas d a b (Flexible m) _ = refuse (NotPattern m)
unify_sides Δ unify metas d a b Rigid (Flexible n) = refuse (NotPattern n)
unify_sides Δ unify metas d a b Rigid Rigid = unify_parts unify metas d a b

-- weak head forms
abbrev pub unify_forms : Env → Unifies → Plain → ℕ → Term → Term → Step Plain
unify_forms Δ unify metas d a b = choose (have_same_goal (side metas a) (side metas b)) (unify_parts unify metas d a b) (unify_sides Δ unify metas d a b (side metas a) (side metas b))

abbrev pub unify_reduced : Env → Unifies → Plain → ℕ → Term → Term → Step Plain
unify_reduced Δ unify metas d a b = do
  a' ← kernel_step (whnf (reach Δ metas) a)
  b' ← kernel_step (whnf (reach Δ metas) b)
  unify_forms Δ unify metas d a' b'

-- Equal trees at no cost; else one unit, the parts of equal defined constants, and where that is refused the weak head forms.
abbrev pub unify_step : Env → Unifies → Unifies
unify_step Δ unify metas d a b = choose (same a b) (pure metas) do
  spend
  choose (are_twins (reach Δ metas) a b) (or_else (unify_each unify metas (part_pairs d a b)) (λ r. unify_reduced Δ unify metas d a b)) (unify_reduced Δ unify metas d a b)

-- Unification at most so many levels deep. Each level spends a unit, so the units at hand bound the levels.
abbrev pub unify_deep : Env → ℕ → Unifies
unify_deep Δ zero = unify_step Δ (λ metas d a b n. OutOfFuel)
unify_deep Δ (suc g) = unify_step Δ (λ metas d a b. unify_deep Δ g metas d a b)

abbrev pub unify : Env → Unifies
unify Δ metas d a b n = unify_deep Δ n metas d a b n

-- metavariable m is settled by a value
abbrev pub settle : Env → Plain → ℕ → Term → Step Plain
settle Δ metas m v = settled Δ (unify Δ) metas m v
