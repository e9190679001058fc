-- What is shown of a state: each active goal, and whether it is solved.
use Rattle.std.proofs.Common.{◌≡◌, ◌↔◌, ℕ, suc, List, [], ◌∷◌, length, All, Bool, true, false, IsTrue, Option, Some, None, slice_get, refl, sym, arith}
use Rattle.std.proofs.lemmas.List.{length-append}
use Rattle.ld_trees.specs.Term.{Term}
use Rattle.ld_terms.specs.declared.globals.Decl.{Decl}
use Rattle.meta_context.specs.Declaring.{IsOpen}
use Rattle.goal_state.specs.State.{State, open_goals, IsSolved, plain_metas, HasRoot}
use Rattle.state_print.specs.Pieces.{found_goal, goal_texts, is_none_of, is_solved}
use Rattle.state_print.specs.Laws.{EachGoalIsShown, SolvedIsShown}

-- ---- each goal

one_shown : (metas : List (Decl Term)) (m : ℕ) (o : Option (Decl Term)) (d : Decl Term) → o ≡ Some d → length (found_goal metas m o) ≡ 1
one_shown metas m None d e = absurd cc
one_shown metas m (Some c) d e = refl

goals_shown : (metas : List (Decl Term)) (goals : List ℕ) → All (IsOpen metas) goals → length (goal_texts metas goals) ≡ length goals
goals_shown metas [] a = refl
goals_shown metas (m ∷ ms) a =
    let open_one = a 0 m (omega arith) in
    let one = one_shown metas m (slice_get metas m) open_one.0 open_one.1 in
    let rest = goals_shown metas ms (λ i d l. a (suc i) d (omega arith)) in
    let all = length-append (found_goal metas m (slice_get metas m)) (goal_texts metas ms) in
    omega (arith, one, rest, all)

pub each_goal_is_shown : EachGoalIsShown
each_goal_is_shown s ok = goals_shown s.metas s.goals ok.active

-- ---- solved states

none_of : (ms : List ℕ) → (is_none_of ms ≡ true) ↔ (ms ≡ [])
none_of [] = (λ e. refl, λ e. refl)
none_of (m ∷ ms) = (λ e. absurd cc, λ e. absurd cc)

pub solved_is_shown : SolvedIsShown
solved_is_shown s = none_of (open_goals s)

-- a test that agrees is the same
pub solved_as : (b : Bool) (s : State) → (IsTrue b ↔ IsSolved s) → b ≡ is_solved s
solved_as b s h = by b (is_solved s) (λ e. (solved_is_shown s).1 (h.0 e)) (λ e. h.1 ((solved_is_shown s).0 e)) where
  by : (b c : Bool) → (IsTrue b → c ≡ true) → (c ≡ true → IsTrue b) → b ≡ c
  by true c f g = sym (f refl)
  by false true f g = let e = g refl in absurd cc
  by false false f g = refl

-- ---- the theorem

-- metavariable 0 is declared
pub no_root : {H : Type 0} (means : H → Term) (ds : List (Decl H)) → HasRoot (plain_metas means ds) → slice_get ds 0 ≡ None → ⊥
no_root means [] r e = r
no_root means (d ∷ ds) r e = absurd cc
