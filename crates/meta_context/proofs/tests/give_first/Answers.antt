use Rattle.std.proofs.Common.{[], refl, sym, ap, ◌∙◌, subst}
use Rattle.meta_trees.proofs.Dependencies.{reaches_complete}
use Rattle.meta_context.specs.Declaring.{declared, IsOpen}
use Rattle.meta_context.proofs.tests.give_first.Goals as goal

pub assign-requires-clause-open : goal.assign-requires-clause-open
assign-requires-clause-open g c = subst (λ ds. IsOpen ds 0) (sym (c.in_ok-metas.ensures ∙ ap (declared [] c.args.star) c.new-none.ensures)) (_, refl, refl)

pub assign-requires-clause-acyclic : goal.assign-requires-clause-acyclic
assign-requires-clause-acyclic g c D =
    let e = reaches_complete D in
    let f = c.in_ok-depends.ensures in
    let n = c.if-branch.false in
    absurd cc
