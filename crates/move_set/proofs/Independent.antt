-- What a goal needs, in the words of moves and in those of coupling, and that a move leaves the goals that are not coupled with its own.
use Rattle.std.proofs.Common.{◌≡◌, ◌∙◌, ◌⊎◌, inl, inr, ℕ, true, false, [], Some, refl, sym, ap, subst, nat_eq}
use Rattle.std.specs.Prelude.{slice_get}
use Rattle.std.proofs.lemmas.Bool.{eqb-true, eq-eqb}
use Rattle.std.proofs.lemmas.Option.{slice_get_within, get_or_from_slice_get}
use Rattle.ld_trees.specs.Term.{Meta, none, ◌▹◌}
use Rattle.meta_trees.specs.MetaContext.{Metas}
use Rattle.meta_trees.specs.Dependencies.{occurs_in, Depends, direct, through, parts_of}
use Rattle.meta_trees.proofs.Dependencies.{or_split, or_left, parts_are, depends_parts}
use Rattle.meta_context.specs.Declaring.{IsOpen}
use Rattle.meta_laws.specs.Cut.{listed}
use Rattle.goal_state.specs.State.{State, IsLegalState, rules_metas}
use Rattle.unification.specs.Refusals.{Plain}
use Rattle.coupling.specs.Coupling.{Needs, AreCoupled, coupled}
use Rattle.coupling.proofs.Coupling.{coupling_is_decided}
use Rattle.move_set.specs.Laws.{IsNeeded, UncoupledGoalsStay, OtherGoalsStay}
use Rattle.move_set.proofs.States.{independent_goals_stay}

-- ---- the same need

-- a metavariable stands in itself
in_itself : (g : ℕ) → occurs_in g (none ▹ Meta g none) ≡ true
in_itself g = or_left (nat_eq g g) false (eq-eqb g g refl)

-- what a goal's metavariable depends on is the goal or a dependency of its parts
goal_or_below : (Σ : Metas) (g k : ℕ) → Depends Σ (none ▹ Meta g none) k → (g ≡ k) ⊎ Depends Σ (parts_of Σ g) k
goal_or_below Σ g k (direct w) = elim (or_split (nat_eq g k) false w) [
  | inl p ↦ inl (eqb-true g k p)
  | inr p ↦ absurd cc
]
goal_or_below Σ g k (through {m = m} d E q w) = elim (goal_or_below Σ g m E) [
  | inl here ↦
      inr (direct (subst (λ X. occurs_in k X ≡ true) (sym (ap (parts_of Σ) here ∙ parts_are Σ m d q)) w))
  | inr D ↦ inr (through d D q w)
]

below_goal : (Σ : Metas) (g k : ℕ) → (g ≡ k) ⊎ Depends Σ (parts_of Σ g) k → Depends Σ (none ▹ Meta g none) k
below_goal Σ g k (inl here) = subst (λ n. Depends Σ (none ▹ Meta g none) n) here (direct (in_itself g))
below_goal Σ g k (inr D) = depends_parts g (direct (in_itself g)) D

pub needed_is_need : (metas : Plain) (g k : ℕ) → IsNeeded metas g k → Needs metas g k
needed_is_need metas g k n = record { goal = n.without_value; among = goal_or_below (rules_metas metas) g k n.dependency }

pub need_is_needed : (metas : Plain) (g k : ℕ) → Needs metas g k → IsNeeded metas g k
need_is_needed metas g k n = record { dependency = below_goal (rules_metas metas) g k n.among; without_value = n.goal }

-- ---- goals that stay

-- an active goal is open
goal_open : (s : State) (index g : ℕ) → IsLegalState s → slice_get s.goals index ≡ Some g → IsOpen s.metas g
goal_open s index g ok is = subst (IsOpen s.metas) (get_or_from_slice_get s.goals index g g is) (ok.active index g (slice_get_within s.goals index g is))

pub uncoupled_goals_stay : UncoupledGoalsStay
uncoupled_goals_stay s s' index g h d text units left auto ok is e there unset apart uncoupled =
    independent_goals_stay s s' index g h d text units left auto ok is e there
    (λ k n m. uncoupled (record {
      first = goal_open s index g ok is;
      second = (d, there, unset);
      apart = apart;
      shared = (k, needed_is_need s.metas g k n, needed_is_need s.metas h k m);
    }))

none_coupled : (metas : Plain) (g h : ℕ) → coupled metas g ≡ [] → IsOpen metas g → AreCoupled metas g h → ⊥
none_coupled metas g h alone goal c =
    let there : listed h [] ≡ true = subst (λ ns. listed h ns ≡ true) alone ((coupling_is_decided metas g h goal).1 c) in
    absurd cc

pub other_goals_stay : OtherGoalsStay
other_goals_stay s s' index g h d text units left auto ok is e alone there unset apart =
    uncoupled_goals_stay s s' index g h d text units left auto ok is e there unset apart (none_coupled s.metas g h alone (goal_open s index g ok is))
