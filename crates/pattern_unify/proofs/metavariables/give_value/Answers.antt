use Rattle.std.proofs.Common.{◌≡◌, rules, true, All, subst, sym}
use Rattle.ld_trees.specs.Term.{none, ◌▹◌}
use Rattle.conversion.specs.Globals.{IsDeclOf}
use Rattle.meta_context.specs.Stored.{metas_of}
use Rattle.goal_state.specs.State.{is_open}
use Rattle.goal_state.proofs.Means.{open_is}
use Rattle.pattern_unify.specs.Faults.{meta_fault}
use Rattle.pattern_unify.proofs.Follow.{residual}
use Rattle.pattern_unify.proofs.Meanings.{assigned_held}
use Rattle.pattern_unify.proofs.Declared.{in_cycle, assign_shows, assign_gives, acyclic}
use Rattle.pattern_unify.proofs.metavariables.give_value.Goals as goal

pub returns-then-branch-clause-value : goal.returns-then-branch-clause-value
returns-then-branch-clause-value g c Σ v n d e =
    let m = g.T.Terms.means c.args.terms.now in
    let unset : is_open c.args.metas.now c.args.m ≡ true = search rules in
    in_cycle m c.args.metas.now Σ c.args.m d c.args.value v n c.in_ok-depends.field-0 unset e c.in_ok-depends.ensures c.if-branch.true

pub assign-requires-clause-open : goal.assign-requires-clause-open
assign-requires-clause-open g c =
    let unset : is_open c.args.metas.now c.args.m ≡ true = search rules in
    (open_is c.args.metas.now c.args.m).0 unset

pub assign-requires-clause-acyclic : goal.assign-requires-clause-acyclic
assign-requires-clause-acyclic g c =
    let m = g.T.Terms.means c.args.terms.now in
    acyclic (metas_of m c.args.metas.now) (none ▹ m c.args.value) c.args.m c.in_ok-depends.field-0 c.in_ok-depends.ensures c.if-branch.false

pub returns-in_err-assign-clause-value : goal.returns-in_err-assign-clause-value
returns-in_err-assign-clause-value g c Σ v n d e =
    let h = g.T.Terms.holds c.args.terms.now in
    let m = g.T.Terms.means c.args.terms.now in
    let unset : is_open c.args.metas.now c.args.m ≡ true = search rules in
    residual h m _ _ _ c.from_residual-in_err-assign.result (meta_fault c.in_err-assign.field-0.0) c.from_residual-in_err-assign.ensures.1
    (assign_shows m c.args.metas.now Σ c.args.m d c.args.value v n c.in_ok-depends.field-0 unset e c.in_ok-depends.ensures h c.in_err-assign.field-0.0 c.if-branch.false c.in_err-assign.ensures)

pub returns-clause-value : goal.returns-clause-value
returns-clause-value g c Σ v n d e =
    let m = g.T.Terms.means c.args.terms.now in
    let unset : is_open c.args.metas.now c.args.m ≡ true = search rules in
    assign_gives m c.args.metas.now Σ c.args.m d c.args.value v n c.in_ok-depends.field-0 unset e c.in_ok-depends.ensures c.in_ok-assign.field-0 c.if-branch.false c.in_ok-assign.ensures

pub returns-clause-held : goal.returns-clause-held
returns-clause-held g c =
    let h = g.T.Terms.holds c.args.terms.now in
    subst (All (IsDeclOf h)) (sym c.in_ok-assign.ensures.1) (assigned_held h c.args.m c.args.value c.args.metas.now c.requires.held c.requires.value)
