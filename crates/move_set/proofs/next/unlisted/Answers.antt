use Rattle.std.proofs.Common.{ℕ, Bool, [], ◌∷◌, ◌++◌, ◌&&◌, not, nat_le, ap, sym, ◌∙◌}
use Rattle.meta_laws.specs.Cut.{listed}
use Rattle.goal_state.specs.State.{is_open}
use Rattle.goal_state.proofs.Lists.{below_kept, below_left}
use Rattle.move_set.proofs.next.unlisted.Goals.{then-is_unlisted+in_ok-push, else-is_unlisted}
use Rattle.move_set.proofs.next.unlisted.Goals as goal

pub loop-m-preserved : goal.loop-m-preserved
loop-m-preserved g c =
    let p : ℕ → Bool = λ m. nat_le c.args.first m && is_open c.args.metas.now m && not (listed m c.args.goals.now) in
    elim c.if-is_unlisted.branch [
      | then-is_unlisted+in_ok-push w ↦
          ap (λ v. v.items) w.numbers-is ∙ w.in_ok-push.ensures.items ∙ ap (λ xs. xs ++ c.loop-m.m ∷ []) c.loop-m.invariant ∙ sym (below_kept p c.loop-m.m (sym c.is_unlisted.ensures ∙ w.if-is_unlisted.true))
      | else-is_unlisted w ↦ ap (λ v. v.items) w.numbers-is ∙ c.loop-m.invariant ∙ sym (below_left p c.loop-m.m (sym c.is_unlisted.ensures ∙ w.if-is_unlisted.false))
    ]
