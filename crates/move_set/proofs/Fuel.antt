-- The fuel law of moves, and applying a term in terms of itself.
use Rattle.std.proofs.Common.{◌≡◌, ℕ, zero, suc, ◌+◌, ◌<◌, ◌≤◌, Bool, true, false, not, ◌==◌, List, [], length, Option, Some, None, Ok, Err, refl, ap, ◌∙◌, subst, arith}
use Rattle.ld_trees.specs.Term.{Term, Pi, Var, same}
use Rattle.ld_trees.specs.Substitution.{weaken}
use Rattle.ld_rules.specs.Environment.{Env, type_at}
use Rattle.ld_terms.specs.declared.globals.Local.{Local}
use Rattle.ld_terms.specs.declared.globals.Item.{Item}
use Rattle.ld_terms.specs.declared.globals.Decl.{Decl}
use Rattle.term_syntax.specs.Lex.{Text}
use Rattle.term_syntax.specs.Input.{place}
use Rattle.term_syntax.specs.Reading.{Outcome as Parsed}
use Rattle.term_syntax.specs.declared.surface.Surface.{Surface}
use Rattle.move_text.specs.declared.moves.Move.{Move}
use Rattle.move_text.specs.declared.moves.Move.TheVariants as move
use Rattle.move_text.specs.Reading.{read}
use Rattle.conversion.specs.WeakHead.{whnf}
use Rattle.conversion.proofs.Heads.{lawful_whnf}
use Rattle.meta_context.specs.Plain.{rules_ctx, rules_env}
use Rattle.goal_state.specs.State.{State}
use Rattle.unification.specs.Steps.{Outcome, Gave, Refused, OutOfFuel, pure, spend, choose, go_on, ◌>>=◌, ◌>>◌, retry, renamed}
use Rattle.unification.specs.Steps as steps
use Rattle.unification.specs.Refusals as unification
use Rattle.unification.specs.Refusals.{Plain}
use Rattle.unification.specs.Metavariables.{reach}
use Rattle.unification.specs.Unification.{unify}
use Rattle.unification.proofs.Words.{Law, lawful, LawAt, law_pure, law_refuse, law_fuel, law_bind, law_then, law_demand, law_spend_each, law_called, law_or_else, Agree, agree, agreed, agree_same, agree_none, agree_bind, law_depth, fuel_law}
use Rattle.unification.proofs.FuelLaws.{law_extended, law_declared, law_unify, law_settle}
use Rattle.elaboration.specs.Elaboration.{Any, Of, AsType, started, standing, check_type}
use Rattle.elaboration.proofs.Renamed.{law_renamed}
use Rattle.elaboration.proofs.Fuel.{law_elaborate}
use Rattle.move_set.specs.Refusals.{Refusal, Step, Syntax, NoGoal, NameTaken, NoAssumption, NotDefined, NoOccurrence, Unsolved, elab_step, from_elaboration, from_unification}
use Rattle.move_set.specs.Applying.{Application, Applies, parts_or, product_of, fitted, applied, apply_step, apply_deep, apply}
use Rattle.move_set.specs.Asked.{first_asked}
use Rattle.move_set.specs.Replacing.{occurrences, replaced}
use Rattle.move_set.specs.Moves.{Moved, has_entry, body_or, opened, none_open, settled, abstracted, intro, refine, exact, apply_to, cut_over, cut, cut_by, have, fitting, first_fitting, assumption, restated, change_to, change, target, unfold_by, unfold_constant, step, first_open, goal_at, after_move, ended, at_goal, read_at_goal, moved}
use Rattle.move_set.specs.Laws.{MovesHaveFuelLaw, ApplyingUnfolds}

-- a lawful call that isn't refused without a unit has spent one where it is refused
spent_by : {R A : Type 0} (m : steps.Step R A) (n k : ℕ) (r : R) → LawAt m n (Refused r k) → ((s : R) (j : ℕ) → m 0 ≡ Refused s j → ⊥) → k < n
spent_by m n k r h none = go h.0 h.1 (h.2 0 0)
  where
    go : (c : ℕ) → n ≡ c + k → (0 ≡ c + 0 → m 0 ≡ Refused r 0) → k < n
    go zero e f = absurd (none r 0 (f refl))
    go (suc c) e f = omega (arith, e)

spent : {R A : Type 0} (m : steps.Step R A) → Law m → ((s : R) (j : ℕ) → m 0 ≡ Refused s j → ⊥) → (n k : ℕ) (r : R) → m n ≡ Refused r k → k < n
spent m l none n k r e = spent_by m n k r (subst (LawAt m n) e (lawful l n)) none

-- unification is never refused without a unit
unify_none : (Δ : Env) (metas : Plain) (d : ℕ) (a b : Term) (r : unification.Refusal) (k : ℕ) → unify Δ metas d a b 0 ≡ Refused r k → ⊥
unify_none Δ metas d a b r k = go _ (same a b)
  where
    -- one unit is spent where the trees aren't the same
    go : (next : unification.Step Plain) (c : Bool) → choose c (pure metas) (spend >> next) 0 ≡ Refused r k → ⊥
    go next true e = absurd cc
    go next false e = absurd cc

law_parts_or : (r : Refusal) (T : Term) → Law (parts_or r T)
law_parts_or r (Pi A B) = law_pure (A, B)
law_parts_or r _ = law_refuse r

law_product_of : (Δ : Env) (r : Refusal) (metas : Plain) (T : Term) → Law (product_of Δ r metas T)
law_product_of Δ r metas T = law_bind (law_called _ (whnf (reach Δ metas) T) (lawful_whnf (reach Δ metas) T)) (λ F. law_parts_or r F)

-- ---- applying a term

module _ (Δ : Env) (d : Decl Term) where
  law_fitted : (a : Application) → Law (fitted Δ d a)
  law_fitted a = law_bind (law_renamed from_unification (law_unify Δ a.metas (length d.ctx) a.ty d.ty)) (λ metas. law_pure _)

  law_applied : (r : Refusal) (a : Application) → Law (applied Δ d r a)
  law_applied r a = law_bind (law_product_of Δ r a.metas a.ty) (λ (A, B). law_bind (law_renamed from_unification (law_declared Δ a.metas d.ctx A)) (λ more. law_pure _))

  law_step : (f : Applies) → ((a : Application) → Law (f a)) → (a : Application) → Law (apply_step Δ d f a)
  law_step f lf a = law_or_else (law_fitted a) (λ r. law_bind (law_applied r a) lf)

  abbrev fits : Application → Plain → Step Application
  fits a metas = pure (record { metas = metas; args = a.args; term = a.term; ty = a.ty })

  -- a refused unification has spent a unit
  fitted_none : (a : Application) (s : Refusal) (j : ℕ) → fitted Δ d a 0 ≡ Refused s j → ⊥
  fitted_none a s j = go (unify Δ a.metas (length d.ctx) a.ty d.ty 0) (λ r k. unify_none Δ a.metas (length d.ctx) a.ty d.ty r k)
    where
      go : (o : Outcome unification.Refusal Plain) → ((r : unification.Refusal) (k : ℕ) → o ≡ Refused r k → ⊥) → go_on (renamed from_unification o) (fits a) ≡ Refused s j → ⊥
      go (Gave metas k) none e = absurd cc
      go (Refused r k) none e = none r k refl
      go OutOfFuel none e = absurd cc

  pub fitted_spends : (a : Application) (n k : ℕ) (r : Refusal) → fitted Δ d a n ≡ Refused r k → k < n
  fitted_spends a n k r e = spent (fitted Δ d a) (law_fitted a) (fitted_none a) n k r e

  agree_step : (u : ℕ) (f k : Applies) → ((a : Application) → Agree u (f a) (k a)) → (a : Application) → Agree (suc u) (apply_step Δ d f a) (apply_step Δ d k a)
  agree_step u f k h a = agree (λ n l. go n l (fitted Δ d a n) refl)
    where
      go : (n : ℕ) → n < suc u → (o : Outcome Refusal Application) → fitted Δ d a n ≡ o → retry o (λ r. applied Δ d r a >>= f) ≡ retry o (λ r. applied Δ d r a >>= k)
      go n l (Gave x j) e = refl
      go n l (Refused r j) e = let less = fitted_spends a n j r e in agreed (agree_bind (law_applied r a) agree_same h) j (omega arith)
      go n l OutOfFuel e = refl

  -- what applying at depth g goes on with
  abbrev under : ℕ → Applies
  under zero = λ a n. OutOfFuel
  under (suc g) = λ a. apply_deep Δ d g a

  deep_step : (g : ℕ) (a : Application) → apply_deep Δ d g a ≡ apply_step Δ d (under g) a
  deep_step zero a = refl
  deep_step (suc g) a = refl

  law_deep : (g : ℕ) (a : Application) → Law (apply_deep Δ d g a)
  law_deep zero = law_step (under zero) (λ a. law_fuel)
  law_deep (suc g) = law_step (under (suc g)) (law_deep g)

  -- the bound on depth makes no difference to fewer units
  levels : (u g k : ℕ) (a : Application) → u ≤ suc g → u ≤ suc k → Agree u (apply_deep Δ d g a) (apply_deep Δ d k a)
  levels zero g k a p q = agree_none
  levels (suc zero) zero zero a p q = agree_same
  levels (suc zero) zero (suc k) a p q = agree_step 0 (under zero) (under (suc k)) (λ b. agree_none) a
  levels (suc zero) (suc g) zero a p q = agree_step 0 (under (suc g)) (under zero) (λ b. agree_none) a
  levels (suc zero) (suc g) (suc k) a p q = agree_step 0 (under (suc g)) (under (suc k)) (λ b. agree_none) a
  levels (suc (suc u)) zero k a p q = absurd (omega arith)
  levels (suc (suc u)) (suc g) zero a p q = absurd (omega arith)
  levels (suc (suc u)) (suc g) (suc k) a p q = agree_step (suc u) (under (suc g)) (under (suc k)) (λ b. levels (suc u) g k b (omega arith) (omega arith)) a

  under_is : (n : ℕ) (a : Application) → Agree n (under n a) (apply Δ d a)
  under_is zero a = agree_none
  under_is (suc g) a = agree (λ v l. agreed (levels (suc v) g v a (omega arith) (omega arith)) v (omega arith))

  pub unfolds : (a : Application) (n : ℕ) → apply Δ d a n ≡ apply_step Δ d (apply Δ d) a n
  unfolds a n = ap (λ c. c n) (deep_step n a) ∙ agreed (agree_step n (under n) (apply Δ d) (under_is n) a) n (omega arith)

  law_apply : (a : Application) → Law (apply Δ d a)
  law_apply a = law_depth (λ g. apply_deep Δ d g a) (λ g. law_deep g a) (λ u g k p q. levels u g k a p q)

pub applying_unfolds : ApplyingUnfolds
applying_unfolds = unfolds

-- ---- moves

law_none_open : (o : Option ℕ) → Law (none_open o)
law_none_open None = law_pure tt
law_none_open (Some at) = law_refuse (Unsolved at)

law_body_or : (r : Refusal) (o : Option Term) → Law (body_or r o)
law_body_or r None = law_refuse r
law_body_or r (Some M) = law_pure M

law_opened : (a : Text) (M t : Term) → Law (opened a M t)
law_opened a M t = law_then (law_spend_each (occurrences a t)) (law_then (law_demand (not (occurrences a t == 0)) (NoOccurrence a)) (law_pure (replaced a M t)))

module _ (items : List (Item Term)) (metas : Plain) (g : ℕ) (d : Decl Term) where
  law_settled : (more : Plain) (v : Term) (fresh : List ℕ) (holes : List (ℕ × ℕ)) → Law (settled items metas g d more v fresh holes)
  law_settled more v fresh holes = law_bind (law_renamed from_unification (law_settle (rules_env items) more g v)) (λ after. law_pure _)

  law_abstracted : (A B : Term) (Γ : List (Local Term)) → Law (abstracted items metas g d A B Γ)
  law_abstracted A B Γ = law_bind (law_renamed from_unification (law_declared (rules_env items) metas Γ B)) (λ more. law_settled more _ _ _)

  law_intro : (x : Text) → Law (intro items metas g d x)
  law_intro x =
      law_then (law_demand (not (has_entry d.ctx x)) (NameTaken x)) (law_bind (law_product_of (rules_env items) _ metas d.ty) (λ (A, B). law_bind (law_renamed from_unification (law_extended (rules_env items) metas d.ctx x A)) (λ Γ. law_abstracted A B Γ)))

  law_refine : (t : Surface) → Law (refine items metas g d t)
  law_refine t = law_bind (law_renamed from_elaboration (law_elaborate items t (Of d.ty) (started items metas) (standing items d.ctx))) (λ m. law_settled m.work.metas m.term m.work.goals m.work.holes)

  law_exact : (t : Surface) → Law (exact items metas g d t)
  law_exact t = law_then (law_none_open (first_asked t)) (law_refine t)

  law_apply_to : (t : Surface) → Law (apply_to items metas g d t)
  law_apply_to t = law_bind (law_renamed from_elaboration (law_elaborate items t Any (started items metas) (standing items d.ctx))) (λ m. law_bind (law_apply (rules_env items) d _) (λ a. law_settled a.metas a.term _ m.work.holes))

  law_cut_over : (first more : Plain) (Γ : List (Local Term)) (A : Term) (holes : List (ℕ × ℕ)) → Law (cut_over items metas g d first more Γ A holes)
  law_cut_over first more Γ A holes = law_bind (law_renamed from_unification (law_declared (rules_env items) more Γ (weaken d.ty))) (λ second. law_settled second _ _ holes)

  law_cut : (first : Plain) (x : Text) (A : Term) (holes : List (ℕ × ℕ)) → Law (cut items metas g d first x A holes)
  law_cut first x A holes =
      law_bind (law_renamed from_unification (law_declared (rules_env items) first d.ctx A)) (λ more.
      law_bind (law_renamed from_unification (law_extended (rules_env items) more d.ctx x A)) (λ Γ. law_cut_over first more Γ A holes))

  law_check_type : (t : Surface) → Law (elab_step (check_type items metas d.ctx t))
  law_check_type t = law_renamed from_elaboration (law_elaborate items t AsType (started items metas) (standing items d.ctx))

  law_cut_by : (x : Text) (t : Surface) → Law (cut_by items metas g d x t)
  law_cut_by x t = law_bind (law_check_type t) (λ m. law_cut m.work.metas x m.term m.work.holes)

  law_have : (x : Text) (t : Surface) → Law (have items metas g d x t)
  law_have x t = law_then (law_demand (not (has_entry d.ctx x)) (NameTaken x)) (law_then (law_none_open (first_asked t)) (law_cut_by x t))

  law_fitting : (i : ℕ) (o : Option Term) → Law (fitting items metas g d i o)
  law_fitting i None = law_refuse NoAssumption
  law_fitting i (Some A) = law_bind (law_renamed from_unification (law_unify (rules_env items) metas (length d.ctx) A d.ty)) (λ more. law_pure (i, more))

  law_first_fitting : (i n : ℕ) → Law (first_fitting items metas g d i n)
  law_first_fitting i zero = law_refuse NoAssumption
  law_first_fitting i (suc n) = law_or_else (law_fitting i (type_at (rules_ctx d.ctx) i)) (λ r. law_first_fitting (suc i) n)

  law_assumption : Law (assumption items metas g d)
  law_assumption = law_bind (law_first_fitting 0 (length d.ctx)) (λ (i, more). law_settled more (Var i) [] [])

  law_restated : (first : Plain) (A : Term) (holes : List (ℕ × ℕ)) → Law (restated items metas g d first A holes)
  law_restated first A holes = law_bind (law_renamed from_unification (law_declared (rules_env items) first d.ctx A)) (λ more. law_settled more _ _ holes)

  law_change_to : (t : Surface) → Law (change_to items metas g d t)
  law_change_to t = law_bind (law_check_type t) (λ m. law_restated m.work.metas m.term m.work.holes)

  law_change : (t : Surface) → Law (change items metas g d t)
  law_change t = law_then (law_none_open (first_asked t)) (law_change_to t)

  law_unfold_by : (a : Text) (M : Term) → Law (unfold_by items metas g d a M)
  law_unfold_by a M = law_bind (law_opened a M (target items metas g d)) (λ A. law_restated metas A [])

  law_unfold : (a : Text) → Law (unfold_constant items metas g d a)
  law_unfold a = law_bind (law_body_or (NotDefined a) _) (λ M. law_unfold_by a M)

  law_of_step : (m : Move) → Law (step items metas g d m)
  law_of_step (move.Intro x) = law_intro x
  law_of_step (move.Exact t) = law_exact t
  law_of_step (move.Refine t) = law_refine t
  law_of_step (move.Apply t) = law_apply_to t
  law_of_step (move.Have x t) = law_have x t
  law_of_step move.Assumption = law_assumption
  law_of_step (move.Change t) = law_change t
  law_of_step (move.Unfold a) = law_unfold a

module _ (s : State) (index : ℕ) (auto : Bool) where
  law_ended : (r : Moved) → Law (ended s auto r)
  law_ended r = law_then (law_none_open (first_open r.metas r.holes)) (law_pure (after_move s auto r))

  law_at_goal : (m : Move) (o : Option (ℕ × Decl Term)) → Law (at_goal s index auto m o)
  law_at_goal m None = law_refuse (NoGoal index (length s.goals))
  law_at_goal m (Some p) = law_bind (law_of_step s.items s.metas p.0 p.1 m) law_ended

  law_read : (o : Parsed Move) → Law (read_at_goal s index auto o)
  law_read (Ok p) = law_at_goal p.0 (goal_at s index)
  law_read (Err i) = law_refuse (Syntax (place i))

pub moves_have_fuel_law : MovesHaveFuelLaw
unfolding moved
moves_have_fuel_law s index text auto = fuel_law (law_read s index auto (read text))
