use Rattle.std.proofs.Common.{ℕ, Bool, [], ◌∷◌, ◌++◌, ap, sym, ◌∙◌}
use Rattle.goal_state.proofs.Lists.{below_kept, below_left}
use Rattle.state_print.specs.Needs.{share_need}
use Rattle.state_print.proofs.couplings.coupled_by.Goals.{then-share_need+in_ok-push, else-share_need}
use Rattle.state_print.proofs.couplings.coupled_by.Goals as goal

pub loop-h-preserved : goal.loop-h-preserved
loop-h-preserved c =
    let p : ℕ → Bool = share_need c.args.all.now c.args.g in
    elim c.if-share_need.branch [
      | then-share_need+in_ok-push w ↦
          ap (λ v. v.items) w.numbers-is ∙ w.in_ok-push.ensures.items ∙ ap (λ xs. xs ++ c.loop-h.h ∷ []) c.loop-h.invariant ∙ sym (below_kept p c.loop-h.h (sym c.share_need.ensures ∙ w.if-share_need.true))
      | else-share_need w ↦ ap (λ v. v.items) w.numbers-is ∙ c.loop-h.invariant ∙ sym (below_left p c.loop-h.h (sym c.share_need.ensures ∙ w.if-share_need.false))
    ]
