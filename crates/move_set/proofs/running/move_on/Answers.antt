use Rattle.std.proofs.Common.{◌≡◌, ◌∙◌, ◌<◌, ◌≤◌, ℕ, length, get_or, Some, ap, sym, refl, subst, arith}
use Rattle.std.specs.Prelude.{slice_get}
use Rattle.ld_terms.specs.Views.{Keeps}
use Rattle.meta_context.specs.Declaring.{IsOpen}
use Rattle.meta_context.specs.Plain.{plain_items}
use Rattle.goal_state.specs.State.{State, IsLegalState, plain_metas}
use Rattle.goal_state.specs.StoredState.{plain_state}
use Rattle.goal_state.specs.Following.{MayFollow}
use Rattle.meta_context.specs.Plain.{rules_env}
use Rattle.meta_laws.specs.Legality.{IsLegalMetas}
use Rattle.goal_state.specs.State.{rules_metas}
use Rattle.unification.specs.Steps.{Gave, Refused}
use Rattle.pattern_unify.specs.Answers.{AreRead}
use Rattle.pattern_unify.proofs.Meanings.{read_kept, metas_length}
use Rattle.move_set.specs.Answers.{IsRefused, Shows, plain_moved}
use Rattle.move_set.specs.Moves.{step, next_goals, goal_at, ended, at_goal}
use Rattle.move_set.specs.Refusals.{Outcome, NoGoal}
use Rattle.move_set.specs.declared.fault.MoveFault.TheVariants as fault
use Rattle.move_set.proofs.Follow.{shows_more}
use Rattle.move_set.proofs.OnGoals.{bare_refused, next_again, open_stored, no_goal, on_goal, moved_on, active_open, found_at}
use Rattle.move_set.proofs.States.{step_follows}
use Rattle.move_set.proofs.running.move_on.Goals as goal

pub returns-then-goal-count : goal.returns-then-goal-count
returns-then-goal-count g c s o at e =
    let s0 : State = plain_state g.T.Terms.means c.args.state.now in
    let gs = c.goals-goals.result.now in
    let high : length gs ≤ c.args.goal = omega (arith, c.if-goal-count.true) in
    let past : length s0.goals ≤ c.args.goal = subst (λ gs. length gs ≤ c.args.goal) c.goals-goals.ensures high in
    let why = fault.NoGoal c.args.goal (length gs) in
    let refused : o ≡ Refused (NoGoal c.args.goal (length gs)) c.args.units =
    (sym e ∙ ap (λ (s : State). at_goal s c.args.goal c.args.auto c.args.step.now (goal_at s c.args.goal) c.args.units) (sym at) ∙ no_goal s0 c.args.goal c.args.auto c.args.step.now c.args.units past
    ∙ ap (λ gs. Refused (NoGoal c.args.goal (length gs)) c.args.units) (sym c.goals-goals.ensures)) in
    subst (λ why. IsRefused g.T.Terms.holds g.T.Terms.means o c.bare.result.terms why) (sym c.bare.ensures.fault)
    (bare_refused g.T.Terms.holds g.T.Terms.means c.args.state.now.terms o c.args.units why c.bare.result.terms refl c.bare.ensures.terms refused)

pub make_step-requires-clause-open : goal.make_step-requires-clause-open
make_step-requires-clause-open g c =
    let h0 = g.T.Terms.holds c.args.state.now.terms in
    let m0 = g.T.Terms.means c.args.state.now.terms in
    let s0 : State = plain_state g.T.Terms.means c.args.state.now in
    let ok : IsLegalState s0 = c.terms.ensures.legal.legal in
    let low : c.args.goal < length c.goals-goals.result.now = omega (arith, c.if-goal-count.false) in
    let n = get_or c.goals-goals.result.now c.args.goal 0 in
    let is : slice_get s0.goals c.args.goal ≡ Some n = ap (λ gs. slice_get gs c.args.goal) (sym c.goals-goals.ensures) ∙ found_at c.goals-goals.result.now c.args.goal low in
    let open_now = active_open s0 c.args.goal n ok.active is in
    subst (λ M. IsOpen M n) (sym c.metas.ensures) (open_stored m0 c.args.state.now.metas n open_now)

pub make_step-requires-clause-legal : goal.make_step-requires-clause-legal
make_step-requires-clause-legal g c =
    let h0 = g.T.Terms.holds c.args.state.now.terms in
    let m0 = g.T.Terms.means c.args.state.now.terms in
    let s0 : State = plain_state g.T.Terms.means c.args.state.now in
    let ok : IsLegalState s0 = c.terms.ensures.legal.legal in
    let h1 = g.T.Terms.holds c.in-Ok.terms in
    let m1 = g.T.Terms.means c.in-Ok.terms in
    let k1 : Keeps h0 m0 h1 m1 = subst (λ t. Keeps (g.T.Terms.holds t) (g.T.Terms.means t) h1 m1) c.terms.ensures.value c.in-Ok.ensures in
    let r1 = read_kept h0 m0 h1 m1 k1 c.args.state.now.items c.args.state.now.metas s0.items s0.metas c.terms.ensures.legal.held (record { items_are = refl; metas_are = refl }) in
    let items : plain_items m1 c.env.result.now ≡ s0.items = ap (plain_items m1) c.env.ensures ∙ r1.items_are in
    let metas : plain_metas m1 c.metas.result.now ≡ s0.metas = ap (plain_metas m1) c.metas.ensures ∙ r1.metas_are in
    subst (λ Δ. IsLegalMetas (rules_env Δ) (rules_metas (plain_metas m1 c.metas.result.now))) (sym items) (subst (λ Σ. IsLegalMetas (rules_env s0.items) (rules_metas Σ)) (sym metas) ok.legal)

pub finish-requires-clause-follows : goal.finish-requires-clause-follows
finish-requires-clause-follows g c =
    let h0 = g.T.Terms.holds c.args.state.now.terms in
    let m0 = g.T.Terms.means c.args.state.now.terms in
    let s0 : State = plain_state g.T.Terms.means c.args.state.now in
    let ok : IsLegalState s0 = c.terms.ensures.legal.legal in
    let low : c.args.goal < length c.goals-goals.result.now = omega (arith, c.if-goal-count.false) in
    let n = get_or c.goals-goals.result.now c.args.goal 0 in
    let is : slice_get s0.goals c.args.goal ≡ Some n = ap (λ gs. slice_get gs c.args.goal) (sym c.goals-goals.ensures) ∙ found_at c.goals-goals.result.now c.args.goal low in
    let open_now = active_open s0 c.args.goal n ok.active is in
    let d = open_now.0 in
    let there = open_now.1 in
    let step_now = c.args.step.now in
    let units = c.args.units in
    let h1 = g.T.Terms.holds c.in-Ok.terms in
    let m1 = g.T.Terms.means c.in-Ok.terms in
    let h2 = g.T.Terms.holds c.make_step.new.terms in
    let m2 = g.T.Terms.means c.make_step.new.terms in
    let k1 : Keeps h0 m0 h1 m1 = subst (λ t. Keeps (g.T.Terms.holds t) (g.T.Terms.means t) h1 m1) c.terms.ensures.value c.in-Ok.ensures in
    let r1 = read_kept h0 m0 h1 m1 k1 c.args.state.now.items c.args.state.now.metas s0.items s0.metas c.terms.ensures.legal.held (record { items_are = refl; metas_are = refl }) in
    let read_now : AreRead m1 c.env.result.now c.metas.result.now s0.items s0.metas = record { items_are = ap (plain_items m1) c.env.ensures ∙ r1.items_are; metas_are = ap (plain_metas m1) c.metas.ensures ∙ r1.metas_are } in
    let left = c.make_step.new.fuel in
    let made = plain_moved m2 c.in-Ok-make_step.moved in
    let gave : step s0.items s0.metas n d step_now units ≡ Gave made left = ap (step s0.items s0.metas n d step_now) (sym c.new-fuel.ensures) ∙ c.in-Ok-make_step.ensures.value s0.items s0.metas d read_now there in
    let again = next_again m2 c.in-Ok-make_step.moved.metas (length s0.metas) c.in-Ok-make_step.moved.fresh c.args.state.now.goals c.args.auto in
    let count = ap (λ (k : ℕ). next_goals c.in-Ok-make_step.moved.metas k c.in-Ok-make_step.moved.fresh c.args.state.now.goals c.args.auto) (metas_length m0 c.args.state.now.metas) in
    subst (λ gs. MayFollow s0 made.metas gs) (again ∙ count)
    (step_follows s0 c.args.goal n d step_now units left made c.args.auto ok is there gave)

pub returns-in-Ok-make_step : goal.returns-in-Ok-make_step
returns-in-Ok-make_step g c s o at e =
    let h0 = g.T.Terms.holds c.args.state.now.terms in
    let m0 = g.T.Terms.means c.args.state.now.terms in
    let s0 : State = plain_state g.T.Terms.means c.args.state.now in
    let ok : IsLegalState s0 = c.terms.ensures.legal.legal in
    let low : c.args.goal < length c.goals-goals.result.now = omega (arith, c.if-goal-count.false) in
    let n = get_or c.goals-goals.result.now c.args.goal 0 in
    let is : slice_get s0.goals c.args.goal ≡ Some n = ap (λ gs. slice_get gs c.args.goal) (sym c.goals-goals.ensures) ∙ found_at c.goals-goals.result.now c.args.goal low in
    let open_now = active_open s0 c.args.goal n ok.active is in
    let d = open_now.0 in
    let there = open_now.1 in
    let step_now = c.args.step.now in
    let units = c.args.units in
    let h1 = g.T.Terms.holds c.in-Ok.terms in
    let m1 = g.T.Terms.means c.in-Ok.terms in
    let h2 = g.T.Terms.holds c.make_step.new.terms in
    let m2 = g.T.Terms.means c.make_step.new.terms in
    let k1 : Keeps h0 m0 h1 m1 = subst (λ t. Keeps (g.T.Terms.holds t) (g.T.Terms.means t) h1 m1) c.terms.ensures.value c.in-Ok.ensures in
    let r1 = read_kept h0 m0 h1 m1 k1 c.args.state.now.items c.args.state.now.metas s0.items s0.metas c.terms.ensures.legal.held (record { items_are = refl; metas_are = refl }) in
    let read_now : AreRead m1 c.env.result.now c.metas.result.now s0.items s0.metas = record { items_are = ap (plain_items m1) c.env.ensures ∙ r1.items_are; metas_are = ap (plain_metas m1) c.metas.ensures ∙ r1.metas_are } in
    let left = c.make_step.new.fuel in
    let made = plain_moved m2 c.in-Ok-make_step.moved in
    let gave : step s0.items s0.metas n d step_now units ≡ Gave made left = ap (step s0.items s0.metas n d step_now) (sym c.new-fuel.ensures) ∙ c.in-Ok-make_step.ensures.value s0.items s0.metas d read_now there in
    let moved : at_goal s0 c.args.goal c.args.auto step_now (goal_at s0 c.args.goal) units ≡ ended s0 c.args.auto made left = moved_on s0 c.args.goal c.args.auto step_now units n d is there made left gave in
    c.finish.ensures o left (sym moved ∙ ap (λ (s : State). at_goal s c.args.goal c.args.auto step_now (goal_at s c.args.goal) units) at ∙ e)

pub returns-in-Err-make_step : goal.returns-in-Err-make_step
returns-in-Err-make_step g c s o at e =
    let h0 = g.T.Terms.holds c.args.state.now.terms in
    let m0 = g.T.Terms.means c.args.state.now.terms in
    let s0 : State = plain_state g.T.Terms.means c.args.state.now in
    let ok : IsLegalState s0 = c.terms.ensures.legal.legal in
    let low : c.args.goal < length c.goals-goals.result.now = omega (arith, c.if-goal-count.false) in
    let n = get_or c.goals-goals.result.now c.args.goal 0 in
    let is : slice_get s0.goals c.args.goal ≡ Some n = ap (λ gs. slice_get gs c.args.goal) (sym c.goals-goals.ensures) ∙ found_at c.goals-goals.result.now c.args.goal low in
    let open_now = active_open s0 c.args.goal n ok.active is in
    let d = open_now.0 in
    let there = open_now.1 in
    let step_now = c.args.step.now in
    let units = c.args.units in
    let h1 = g.T.Terms.holds c.in-Ok.terms in
    let m1 = g.T.Terms.means c.in-Ok.terms in
    let h2 = g.T.Terms.holds c.make_step.new.terms in
    let m2 = g.T.Terms.means c.make_step.new.terms in
    let k1 : Keeps h0 m0 h1 m1 = subst (λ t. Keeps (g.T.Terms.holds t) (g.T.Terms.means t) h1 m1) c.terms.ensures.value c.in-Ok.ensures in
    let r1 = read_kept h0 m0 h1 m1 k1 c.args.state.now.items c.args.state.now.metas s0.items s0.metas c.terms.ensures.legal.held (record { items_are = refl; metas_are = refl }) in
    let read_now : AreRead m1 c.env.result.now c.metas.result.now s0.items s0.metas = record { items_are = ap (plain_items m1) c.env.ensures ∙ r1.items_are; metas_are = ap (plain_metas m1) c.metas.ensures ∙ r1.metas_are } in
    let left = c.make_step.new.fuel in
    let why = c.in-Err-make_step.fault in
    let shown = c.in-Err-make_step.ensures.value s0.items s0.metas d read_now there in
    let here : Shows h2 m2 (step s0.items s0.metas n d step_now units) left why = subst (λ k. Shows h2 m2 (step s0.items s0.metas n d step_now k) left why) c.new-fuel.ensures shown in
    let more = shows_more h2 m2 (step s0.items s0.metas n d step_now units) (ended s0 c.args.auto) left why here in
    let o_is : at_goal s0 c.args.goal c.args.auto step_now (goal_at s0 c.args.goal) units ≡ o = ap (λ (s : State). at_goal s c.args.goal c.args.auto step_now (goal_at s c.args.goal) units) at ∙ e in
    c.refused.ensures o left (subst (λ (o : Outcome State). Shows h2 m2 o left why) (sym (on_goal s0 c.args.goal c.args.auto step_now units n d is there) ∙ o_is) more)
