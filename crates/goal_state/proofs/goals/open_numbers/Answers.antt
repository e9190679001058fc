use Rattle.std.proofs.Common.{[], ◌∷◌, ◌++◌, ap, sym, ◌∙◌}
use Rattle.goal_state.specs.State.{is_open}
use Rattle.goal_state.proofs.Lists.{below_kept, below_left}
use Rattle.goal_state.proofs.goals.open_numbers.Goals.{then-is_open+in_ok-push, else-is_open}
use Rattle.goal_state.proofs.goals.open_numbers.Goals as goal

pub loop-m-preserved : goal.loop-m-preserved
loop-m-preserved g c =
    let p = is_open c.args.metas.now in
    elim c.if-is_open.branch [
      | then-is_open+in_ok-push w ↦
          ap (λ v. v.items) w.numbers-is ∙ w.in_ok-push.ensures.items ∙ ap (λ xs. xs ++ c.loop-m.m ∷ []) c.loop-m.invariant ∙ sym (below_kept p c.loop-m.m (sym c.is_open.ensures ∙ w.if-is_open.true))
      | else-is_open w ↦ ap (λ v. v.items) w.numbers-is ∙ c.loop-m.invariant ∙ sym (below_left p c.loop-m.m (sym c.is_open.ensures ∙ w.if-is_open.false))
    ]
