use Rattle.std.proofs.Common.{◌≡◌, true, All, rules, subst, sym}
use Rattle.meta_trees.proofs.Dependencies.{reaches_complete}
use Rattle.conversion.specs.Globals.{IsDeclOf}
use Rattle.goal_state.specs.State.{is_open}
use Rattle.goal_state.proofs.Means.{open_is}
use Rattle.goal_state.proofs.Declared.{assigned_held}
use Rattle.goal_state.proofs.value_tests.give.Goals as goal

pub assign-requires-clause-open : goal.assign-requires-clause-open
assign-requires-clause-open g c =
    let unset : is_open c.args.metas.now c.args.m ≡ true = search rules in
    (open_is c.args.metas.now c.args.m).0 unset

pub assign-requires-clause-acyclic : goal.assign-requires-clause-acyclic
assign-requires-clause-acyclic g c D =
    let e = reaches_complete D in
    let f = c.in_ok-depends.ensures in
    let n = c.if-branch.false in
    absurd cc

pub returns : goal.returns
returns g c =
    let h = g.T.Terms.holds c.args.terms.now in
    subst (All (IsDeclOf h)) (sym c.in_ok-assign.ensures.1) (assigned_held h c.args.m c.args.value c.args.metas.now c.requires.held c.requires.value)
