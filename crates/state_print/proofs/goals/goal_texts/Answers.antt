use Rattle.std.proofs.Common.{◌≡◌, ◌≤◌, ◌++◌, map, length, get_or, slice_get, All, sym, ap, ◌∙◌, subst, arith, rules}
use Rattle.std.proofs.lemmas.List.{length-map}
use Rattle.conversion.specs.Globals.{IsDeclOf}
use Rattle.meta_context.specs.Entered.{AreDeclared}
use Rattle.goal_state.specs.State.{plain_metas}
use Rattle.goal_state.proofs.Means.{decls_held}
use Rattle.coupling.specs.Coupling.{coupled}
use Rattle.state_print.specs.Pieces.{found_goal}
use Rattle.state_print.specs.Needs.{all_needs}
use Rattle.state_print.proofs.Turns.{shown, open_at, coupled_kept}
use Rattle.state_print.proofs.Needs.{needs_counted, coupled_by_needs, open_within}
use Rattle.state_print.proofs.goals.goal_texts.Goals as goal

pub coupled_by-requires : goal.coupled_by-requires
coupled_by-requires g c =
    let s = c.args.state.now in
    let ds = plain_metas (g.T.Terms.means s.terms) s.metas in
    let m = get_or c.goals-goal-items.result.now c.loop-goal.goal-index 0 in
    let opened = open_at ds s.goals c.loop-goal.goal-index m c.terms-store.ensures.legal.legal.active (omega (arith, ap length c.goals-goal-items.ensures)) (ap (λ gs. get_or gs c.loop-goal.goal-index 0) c.goals-goal-items.ensures) in
    let all : c.deref.result.now ≡ all_needs ds = c.deref.ensures.value ∙ c.in_ok-needs.ensures in
    let goal = open_within ds m c.deref.result.now opened all in
    let counted = ap length all ∙ needs_counted ds (length ds) ∙ length-map s.metas _ in
    let few : length c.deref.result.now ≤ 65536 = omega (arith, counted, c.terms-store.ensures.legal.few) in
    search rules

pub push_goal-requires : goal.push_goal-requires
push_goal-requires g c =
    let holds = g.T.Terms.holds in
    let means = g.T.Terms.means in
    let s = c.args.state.now in
    let before = c.loop-goal.terms in
    let held = c.terms-store.ensures.legal.held.metas_held in
    let same = sym c.metas-metas.ensures in
    let ds = plain_metas (means s.terms) s.metas in
    let m = get_or c.goals-goal-items.result.now c.loop-goal.goal-index 0 in
    let opened = open_at ds s.goals c.loop-goal.goal-index m c.terms-store.ensures.legal.legal.active (omega (arith, ap length c.goals-goal-items.ensures)) (ap (λ gs. get_or gs c.loop-goal.goal-index 0) c.goals-goal-items.ensures) in
    let all : c.deref.result.now ≡ all_needs ds = c.deref.ensures.value ∙ c.in_ok-needs.ensures in
    let metas = subst (All (IsDeclOf (holds before))) same (decls_held (holds s.terms) (means s.terms) (holds before) (means before) c.loop-goal.invariant.kept s.metas held) in
    let declared = subst AreDeclared same c.terms-store.ensures.legal.declared in
    let others =
    coupled_kept (holds s.terms) (means s.terms) (holds before) (means before) c.loop-goal.invariant.kept s.metas held m c.deref-in-loop-goal.result.now
    (c.deref-in-loop-goal.ensures.value ∙ c.in_ok-others.ensures ∙ coupled_by_needs ds m c.deref.result.now opened all)
    ∙ ap (λ ds. coupled (plain_metas (means before) ds) m) same in
    search rules

pub loop-goal-preserved : goal.loop-goal-preserved
loop-goal-preserved g c =
    let holds = g.T.Terms.holds in
    let means = g.T.Terms.means in
    let s = c.args.state.now in
    let before = c.loop-goal.terms in
    let after = c.push_goal.new.terms in
    let m = get_or c.goals-goal-items.result.now c.loop-goal.goal-index 0 in
    shown (holds s.terms) (means s.terms) (holds before) (means before) (holds after) (means after) s.metas s.goals
    c.loop-goal.goal-index m (map (λ x. x.items) c.loop-goal.texts.items) (map (λ x. x.items) c.push_goal.new.texts.items)
    c.loop-goal.invariant c.terms-store.ensures.legal.held.metas_held (omega (arith, ap length c.goals-goal-items.ensures)) (ap (λ gs. get_or gs c.loop-goal.goal-index 0) c.goals-goal-items.ensures)
    c.in_ok-push_goal.ensures.kept
    (c.in_ok-push_goal.ensures.text
    ∙ ap (λ ds. map (λ x. x.items) c.loop-goal.texts.items ++ found_goal (plain_metas (means before) ds) m (slice_get (plain_metas (means before) ds) m)) c.metas-metas.ensures)
