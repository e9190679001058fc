use Rattle.std.proofs.Common.{arith, rules, refl, ap, map, ◌∙◌}
use Rattle.ld_terms.proofs.Turns.{turn}
use Rattle.ld_terms.proofs.Spines.{head_no_larger, next_argument, argument_made}
use Rattle.move_set.specs.Replacing.{replaced, replaced_in}
use Rattle.move_set.proofs.replacing.+replacing.Goals as goal

pub replace_spine-replace-requires : goal.replace_spine-replace-requires
replace_spine-replace-requires g t c κs within =
    let means = g.T.Terms.means c.args.terms.now in
    let small = head_no_larger (means c.in_ok-spine.spine.head) (means c.args.h) (map means c.in_ok-spine.spine.args.items) c.in_ok-spine.ensures.tree in
    search rules

pub replace_spine-replace-requires-in-Some : goal.replace_spine-replace-requires-in-Some
replace_spine-replace-requires-in-Some g t c κs within =
    let holds = g.T.Terms.holds in
    let means = g.T.Terms.means in
    let old = c.args.terms.now in
    let before = c.loop-u.terms in
    let next = next_argument (holds old) (means old) (holds before) (means before) (replaced c.args.name.now (means old c.args.body)) (means old c.args.h) c.loop-u.made c.loop-u.spine.args.items c.pop.new.self.items c.in-Some.u
    c.loop-u.invariant c.in-Some.ensures.items in
    let held = next.held in
    let smaller = next.smaller in
    let body = (c.loop-u.invariant.kept c.args.body c.requires.body).0 in
    search rules

pub replace_spine-loop-u-preserved : goal.replace_spine-loop-u-preserved
replace_spine-loop-u-preserved g t c =
    let holds = g.T.Terms.holds in
    let means = g.T.Terms.means in
    let old = c.args.terms.now in
    let before = c.loop-u.terms in
    let after = c.replace-in-Some.new.terms in
    let last = c.make.new.self in
    let f = replaced c.args.name.now (means old c.args.body) in
    let v = c.loop-u.invariant.kept c.args.body c.requires.body in
    let next = next_argument (holds old) (means old) (holds before) (means before) f (means old c.args.h) c.loop-u.made c.loop-u.spine.args.items c.pop.new.self.items c.in-Some.u
    c.loop-u.invariant c.in-Some.ensures.items in
    argument_made (holds old) (means old) (holds before) (means before) f (means old c.args.h) c.loop-u.made c.loop-u.spine.args.items c.pop.new.self.items c.in-Some.u
    (holds after) (means after) (holds last) (means last) c.in_ok-put.put c.in_ok-made-2.made (λ t u. refl) c.loop-u.invariant c.in-Some.ensures.items
    c.in_ok-put.ensures.kept (c.in_ok-put.ensures.tree ∙ ap (λ x. replaced c.args.name.now x (means before c.in-Some.u)) v.1 ∙ ap f next.alike) c.in_ok-made-2.ensures.kept c.in_ok-made-2.ensures.held c.in_ok-made-2.ensures.tree

pub replace_each-loop-u-preserved : goal.replace_each-loop-u-preserved
replace_each-loop-u-preserved g t c =
    let holds = g.T.Terms.holds in
    let means = g.T.Terms.means in
    let old = c.args.terms.now in
    let before = c.loop-u.terms in
    let after = c.replace.new.terms in
    let v = c.loop-u.invariant.kept c.args.body c.requires.body in
    rw c.in_ok-push.ensures.items
    (turn (holds old) (means old) (holds before) (means before) (holds after) (means after) (replaced_in c.args.name.now (means old c.args.body)) (replaced c.args.name.now (means old c.args.body)) (λ us u. refl)
    c.args.us.now c.loop-u.made.items c.loop-u.u-index c.u-item.result c.in_ok-replace.field-0 c.loop-u.invariant c.requires.list (omega arith) c.u-item.is
    c.in_ok-replace.ensures.kept c.in_ok-replace.ensures.held
    (c.in_ok-replace.ensures.tree ∙ ap (λ x. replaced c.args.name.now x (means before c.u-item.result)) v.1))
