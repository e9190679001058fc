use Rattle.std.proofs.Common.{ℕ, Bool, [], ◌∷◌, ◌++◌, ap, sym, ◌∙◌}
use Rattle.goal_state.specs.State.{plain_metas}
use Rattle.goal_state.proofs.Lists.{below_kept, below_left}
use Rattle.coupling.specs.Coupling.{is_coupled}
use Rattle.coupling.proofs.goals.coupled_numbers.Goals.{then-branch+in_ok-push, else-branch}
use Rattle.coupling.proofs.goals.coupled_numbers.Goals as goal

pub loop-h-preserved : goal.loop-h-preserved
loop-h-preserved g c =
    let p : ℕ → Bool = is_coupled (plain_metas (g.T.Terms.means c.args.terms.now) c.args.metas.now) c.args.g in
    elim c.if-branch.branch [
      | then-branch+in_ok-push w ↦
          ap (λ v. v.items) w.numbers-is ∙ w.in_ok-push.ensures.items ∙ ap (λ xs. xs ++ c.loop-h.h ∷ []) c.loop-h.invariant ∙ sym (below_kept p c.loop-h.h (sym c.in_ok-is_coupled.ensures.value ∙ w.if-branch.true))
      | else-branch w ↦ ap (λ v. v.items) w.numbers-is ∙ c.loop-h.invariant ∙ sym (below_left p c.loop-h.h (sym c.in_ok-is_coupled.ensures.value ∙ w.if-branch.false))
    ]
