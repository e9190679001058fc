use Rattle.std.proofs.Common.{◌++◌, ◌∷◌, [], ◌∙◌, ap, arith, sym, refl}
use Rattle.state_tree.proofs.Replays.{opened}
use Rattle.state_tree.proofs.tree.Tree.open.Goals as goal

pub invariant_of-result : goal.invariant_of-result
invariant_of-result g c =
    opened g.W.Work.value c.of-kept.result.value c.args.entries _
    (c.push_reserved.ensures.items ∙ ap (λ l. l ++ c.args.book ∷ []) c.in_ok-envs.ensures.items ∙ ap (λ b. b ∷ []) (sym c.of-kept.ensures))
    c.in_ok-states.ensures.items c.in_ok-journal.ensures.items refl
    (omega (arith, c.push_reserved.ensures.capacity, c.in_ok-envs.ensures.exact))
    (omega (arith, c.in_ok-states.ensures.exact))
    (omega (arith, c.in_ok-journal.ensures.exact))
