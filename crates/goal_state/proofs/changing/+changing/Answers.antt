use Rattle.std.proofs.Common.{◌≡◌, ◌+◌, ◌-◌, ◌<◌, ◌≤◌, map, length, sym, ap, ◌∙◌, arith, rules}
use Rattle.std.proofs.lemmas.Result.{IfOk-weaker}
use Rattle.ld_trees.specs.Term.{Named, Numbered, Var, nodes, nodes_all}
use Rattle.ld_trees.specs.Substitution.{subst_at}
use Rattle.ld_terms.specs.Views.{terms_of}
use Rattle.ld_terms.proofs.Arguments.{part_less}
use Rattle.ld_terms.proofs.Instantiation.{lowered_variable}
use Rattle.ld_terms.proofs.Turns.{turn}
use Rattle.goal_state.specs.Changes.{changed, changed_all}
use Rattle.goal_state.specs.declared.changing.Change.TheVariants as change
use Rattle.goal_state.proofs.Changes.{weight, weight_kept, args_kept, changed_kept, changed_more, changes_kept, no_changes, entry_made, one_change_more, before, node_again, part_of, itself, at_root, on_ok}
use Rattle.goal_state.proofs.changing.+changing.Goals as goal

pub change_constant-returns-then-are_same-clause-tree : goal.change_constant-returns-then-are_same-clause-tree
change_constant-returns-then-are_same-clause-tree g t c =
    let holds = g.T.Terms.holds in
    let means = g.T.Terms.means in
    let old = c.args.terms.now in
    let mid = c.change_each.new.terms in
    node_again (holds old) (means old) (holds mid) (means mid) c.in_ok-vs.ensures.kept c.args.way c.args.under (Named c.args.name.now) c.args.us.now c.deref.result.now c.in_ok-vs.vs.items c.args.h
    c.requires.list c.requires.term (c.are_same.ensures c.if-are_same.true) c.deref.ensures.value c.in_ok-vs.ensures.trees c.requires.node

pub change_meta-returns-then-are_same-clause-tree : goal.change_meta-returns-then-are_same-clause-tree
change_meta-returns-then-are_same-clause-tree g t c =
    let holds = g.T.Terms.holds in
    let means = g.T.Terms.means in
    let old = c.args.terms.now in
    let mid = c.change_each.new.terms in
    node_again (holds old) (means old) (holds mid) (means mid) c.in_ok-vs.ensures.kept c.args.way c.args.under (Numbered c.args.m) c.args.us.now c.deref.result.now c.in_ok-vs.vs.items c.args.h
    c.requires.list c.requires.term (c.are_same.ensures c.if-are_same.true) c.deref.ensures.value c.in_ok-vs.ensures.trees c.requires.node

pub change_constant-returns-clause-known : goal.change_constant-returns-clause-known
change_constant-returns-clause-known g t c =
    let holds = g.T.Terms.holds in
    let means = g.T.Terms.means in
    let old = c.args.terms.now in
    let mid = c.change_each.new.terms in
    let new = c.make.new.self in
    let args = args_kept (holds old) (means old) (holds mid) (means mid) c.in_ok-vs.ensures.kept c.args.way c.requires.way in
    on_ok c.make.result _ (changes_kept (holds mid) (means mid) (holds new) (means new) c.make.ensures.kept c.args.way g.T.Handle.Ord.cmp c.change_each.new.known args c.in_ok-vs.ensures.known)

pub change_meta-returns-clause-known : goal.change_meta-returns-clause-known
change_meta-returns-clause-known g t c =
    let holds = g.T.Terms.holds in
    let means = g.T.Terms.means in
    let old = c.args.terms.now in
    let mid = c.change_each.new.terms in
    let new = c.make.new.self in
    let args = args_kept (holds old) (means old) (holds mid) (means mid) c.in_ok-vs.ensures.kept c.args.way c.requires.way in
    on_ok c.make.result _ (changes_kept (holds mid) (means mid) (holds new) (means new) c.make.ensures.kept c.args.way g.T.Handle.Ord.cmp c.change_each.new.known args c.in_ok-vs.ensures.known)

pub change_node-returns-else-are_both_same-clause-known : goal.change_node-returns-else-are_both_same-clause-known
change_node-returns-else-are_both_same-clause-known g t c =
    let holds = g.T.Terms.holds in
    let means = g.T.Terms.means in
    let old = c.args.terms.now in
    let mid = c.change_two.new.terms in
    let new = c.make.new.self in
    let args = args_kept (holds old) (means old) (holds mid) (means mid) c.in_ok-g-in-App.ensures.kept c.args.way c.requires.way in
    on_ok c.make.result _ (changes_kept (holds mid) (means mid) (holds new) (means new) c.make.ensures.kept c.args.way g.T.Handle.Ord.cmp c.change_two.new.known args c.in_ok-g-in-App.ensures.known)

pub change_node-returns-else-are_both_same-2-clause-known : goal.change_node-returns-else-are_both_same-2-clause-known
change_node-returns-else-are_both_same-2-clause-known g t c =
    let holds = g.T.Terms.holds in
    let means = g.T.Terms.means in
    let old = c.args.terms.now in
    let mid = c.change_two-in-Lam.new.terms in
    let new = c.make-in-Lam.new.self in
    let args = args_kept (holds old) (means old) (holds mid) (means mid) c.in_ok-b-in-Lam.ensures.kept c.args.way c.requires.way in
    on_ok c.make-in-Lam.result _ (changes_kept (holds mid) (means mid) (holds new) (means new) c.make-in-Lam.ensures.kept c.args.way g.T.Handle.Ord.cmp c.change_two-in-Lam.new.known args c.in_ok-b-in-Lam.ensures.known)

pub change_node-returns-else-are_both_same-3-clause-known : goal.change_node-returns-else-are_both_same-3-clause-known
change_node-returns-else-are_both_same-3-clause-known g t c =
    let holds = g.T.Terms.holds in
    let means = g.T.Terms.means in
    let old = c.args.terms.now in
    let mid = c.change_two-in-Pi.new.terms in
    let new = c.make-in-Pi.new.self in
    let args = args_kept (holds old) (means old) (holds mid) (means mid) c.in_ok-b-in-Pi.ensures.kept c.args.way c.requires.way in
    on_ok c.make-in-Pi.result _ (changes_kept (holds mid) (means mid) (holds new) (means new) c.make-in-Pi.ensures.kept c.args.way g.T.Handle.Ord.cmp c.change_two-in-Pi.new.known args c.in_ok-b-in-Pi.ensures.known)

pub change_node-returns-in-Var-clause-known : goal.change_node-returns-in-Var-clause-known
change_node-returns-in-Var-clause-known g t c =
    let holds = g.T.Terms.holds in
    let means = g.T.Terms.means in
    let old = c.args.terms.now in
    let new = c.change_variable.new.terms in
    on_ok c.change_variable.result _ (changes_kept (holds old) (means old) (holds new) (means new) c.change_variable.ensures.kept c.args.way g.T.Handle.Ord.cmp c.args.known.now c.requires.way c.requires.known)

pub change_each-change_term-requires : goal.change_each-change_term-requires
change_each-change_term-requires g t c κs within =
    let holds = g.T.Terms.holds in
    let means = g.T.Terms.means in
    let old = c.args.terms.now in
    let before = c.loop-u.terms in
    let kept = c.loop-u.invariant.turn.kept in
    let part = part_of (holds old) (means old) (holds before) (means before) kept c.args.us.now c.u-item.result c.loop-u.u-index c.requires.list (omega arith) c.u-item.is in
    let at = part.0 in
    let smaller = part.1 in
    let weighed = weight_kept (holds old) (means old) (holds before) (means before) kept c.args.way c.requires.way in
    let args = args_kept (holds old) (means old) (holds before) (means before) kept c.args.way c.requires.way in
    let known = c.loop-u.invariant.known in
    search rules

pub change_each-loop-u-preserved : goal.change_each-loop-u-preserved
change_each-loop-u-preserved g t c =
    let holds = g.T.Terms.holds in
    let means = g.T.Terms.means in
    let old = c.args.terms.now in
    let before = c.loop-u.terms in
    let after = c.change_term.new.terms in
    let way = c.args.way in
    let u = c.args.under in
    let kept = c.loop-u.invariant.turn.kept in
    rw c.in_ok-push.ensures.items (record {
      turn = turn (holds old) (means old) (holds before) (means before) (holds after) (means after) (changed_all (means old) way u) (changed (means old) way u) (changed_more (means old) way u)
          c.args.us.now c.loop-u.made.items c.loop-u.u-index c.u-item.result c.in_ok-changed.changed c.loop-u.invariant.turn c.requires.list (omega arith) c.u-item.is
          c.in_ok-changed.ensures.kept c.in_ok-changed.ensures.held
          (c.in_ok-changed.ensures.tree ∙ changed_kept (holds old) (means old) (holds before) (means before) kept way c.requires.way u (means before c.u-item.result));
      known = c.in_ok-changed.ensures.known;
    })

pub change_term-returns-in-Some-clause-tree : goal.change_term-returns-in-Some-clause-tree
change_term-returns-in-Some-clause-tree g t c = (c.requires.known c.args.h c.in-Some.found c.args.under c.in-Some.ensures).is

pub change_term-returns-in-Some-clause-held : goal.change_term-returns-in-Some-clause-held
change_term-returns-in-Some-clause-held g t c = (c.requires.known c.args.h c.in-Some.found c.args.under c.in-Some.ensures).held

pub change_term-returns-clause-known : goal.change_term-returns-clause-known
change_term-returns-clause-known g t c =
    let holds = g.T.Terms.holds in
    let means = g.T.Terms.means in
    let old = c.args.terms.now in
    let new = c.change_node.new.terms in
    let entry = entry_made (holds old) (means old) (holds new) (means new) c.in_ok-made.ensures.kept c.args.way c.requires.way c.args.h c.in_ok-made.made c.args.under c.requires.term c.in_ok-made.ensures.held c.in_ok-made.ensures.tree in
    one_change_more (holds new) (means new) c.args.way g.T.Handle.Ord.cmp c.change_node.new.known c.insert.new.self c.args.h c.in_ok-made.made c.args.under g.met.T.Terms.exact entry c.in_ok-insert.ensures.updates c.in_ok-made.ensures.known

pub change_two-change_term-requires-2 : goal.change_two-change_term-requires-2
change_two-change_term-requires-2 g t c κs within =
    let holds = g.T.Terms.holds in
    let means = g.T.Terms.means in
    let old = c.args.terms.now in
    let one = c.change_term.new.terms in
    let kept = c.in_ok-first.ensures.kept in
    let at = (kept c.args.b c.requires.second).0 in
    let same = ap nodes (kept c.args.b c.requires.second).1 in
    let weighed = weight_kept (holds old) (means old) (holds one) (means one) kept c.args.way c.requires.way in
    let args = args_kept (holds old) (means old) (holds one) (means one) kept c.args.way c.requires.way in
    search rules

pub change_two-returns-clause-second : goal.change_two-returns-clause-second
change_two-returns-clause-second g t c =
    let holds = g.T.Terms.holds in
    let means = g.T.Terms.means in
    let old = c.args.terms.now in
    let one = c.change_term.new.terms in
    before (holds old) (means old) (holds one) (means one) c.in_ok-first.ensures.kept c.args.way c.requires.way c.args.b c.args.below _ c.requires.second c.in_ok-second.ensures.tree

pub put_for-returns-then-from_last-args-clause-tree : goal.put_for-returns-then-from_last-args-clause-tree
put_for-returns-then-from_last-args-clause-tree g t c =
    let means = g.T.Terms.means c.args.terms.now in
    let hs = c.args.args.now in
    IfOk-weaker c.make.result _ (λ r. g.T.Terms.means c.make.new.self r ≡ subst_at c.args.under (terms_of (map means hs)) (Var c.args.i))
    (λ r e. e ∙ lowered_variable means hs c.args.under c.args.i (c.args.i - length hs) (omega arith) (omega arith)) c.make.ensures.tree

pub put_for-returns-then-is_variable-clause-tree : goal.put_for-returns-then-is_variable-clause-tree
put_for-returns-then-is_variable-clause-tree g t c =
    let means = g.T.Terms.means c.args.terms.now in
    let hs = c.args.args.now in
    let arg = c.index-args-args.result in
    let i = c.args.i in
    let d = c.args.under in
    let k = length hs - 1 - (i - d) in
    let n : i - d + k + 1 ≡ length hs = omega arith in
    c.requires.variable ∙ itself means hs arg d i k c.requires.beyond n c.index-args-args.is (c.is_variable.ensures c.if-is_variable.true)

pub put_for-returns-then-under-eq0-clause-tree : goal.put_for-returns-then-under-eq0-clause-tree
put_for-returns-then-under-eq0-clause-tree g t c =
    let means = g.T.Terms.means c.args.terms.now in
    let hs = c.args.args.now in
    let arg = c.index-args-args.result in
    let i = c.args.i in
    let d = c.args.under in
    let k = length hs - 1 - (i - d) in
    let n : i - d + k + 1 ≡ length hs = omega arith in
    at_root means hs arg d i k c.requires.beyond n c.index-args-args.is c.if-under-eq0.true

pub put_for-change_term-requires : goal.put_for-change_term-requires
put_for-change_term-requires g t c κs within =
    let holds = g.T.Terms.holds c.args.terms.now in
    let means = g.T.Terms.means c.args.terms.now in
    let hs = c.args.args.now in
    let smaller = part_less means hs c.index-args-args.result (length hs - 1 - (c.args.i - c.args.under)) (omega arith) c.index-args-args.is in
    let table = no_changes holds means (change.Shift c.args.under) g.T.Handle.Ord.cmp c.new-known.result c.new-known.ensures.empty in
    search rules
