use Rattle.std.proofs.Common.{arith, refl, rules, ap, ◌∙◌, map}
use Rattle.ld_trees.specs.Substitution.{shift, shifts}
use Rattle.ld_terms.proofs.Turns.{turn}
use Rattle.ld_terms.proofs.Spines.{head_no_larger, next_argument, argument_made}
use Rattle.ld_terms.proofs.shifting.+shifting.Goals as goal

pub shift_spine-shift_term-requires : goal.shift_spine-shift_term-requires
shift_spine-shift_term-requires g t c κs within =
    let means = g.T.Terms.means c.args.terms.now in
    let small = head_no_larger (means c.in_ok-spine.spine.head) (means c.args.h) (map means c.in_ok-spine.spine.args.items) c.in_ok-spine.ensures.tree in
    search rules

pub shift_spine-shift_term-requires-in-Some : goal.shift_spine-shift_term-requires-in-Some
shift_spine-shift_term-requires-in-Some g t c κs within =
    let holds = g.T.Terms.holds in
    let means = g.T.Terms.means in
    let old = c.args.terms.now in
    let before = c.loop-arg.terms in
    let next = next_argument (holds old) (means old) (holds before) (means before) (shift c.args.from c.args.by) (means old c.args.h) c.loop-arg.made c.loop-arg.spine.args.items c.pop.new.self.items c.in-Some.arg
    c.loop-arg.invariant c.in-Some.ensures.items in
    let held = next.held in
    let smaller = next.smaller in
    search rules

pub shift_spine-loop-arg-preserved : goal.shift_spine-loop-arg-preserved
shift_spine-loop-arg-preserved g t c =
    let holds = g.T.Terms.holds in
    let means = g.T.Terms.means in
    let old = c.args.terms.now in
    let before = c.loop-arg.terms in
    let after = c.shift_term-in-Some.new.terms in
    let last = c.make.new.self in
    let f = shift c.args.from c.args.by in
    let next = next_argument (holds old) (means old) (holds before) (means before) f (means old c.args.h) c.loop-arg.made c.loop-arg.spine.args.items c.pop.new.self.items c.in-Some.arg
    c.loop-arg.invariant c.in-Some.ensures.items in
    argument_made (holds old) (means old) (holds before) (means before) f (means old c.args.h) c.loop-arg.made c.loop-arg.spine.args.items c.pop.new.self.items c.in-Some.arg
    (holds after) (means after) (holds last) (means last) c.in_ok-shifted.shifted c.in_ok-made-2.made (λ t u. refl) c.loop-arg.invariant c.in-Some.ensures.items
    c.in_ok-shifted.ensures.kept (c.in_ok-shifted.ensures.tree ∙ ap f next.alike) c.in_ok-made-2.ensures.kept c.in_ok-made-2.ensures.held c.in_ok-made-2.ensures.tree

pub shift_each-loop-arg-preserved : goal.shift_each-loop-arg-preserved
shift_each-loop-arg-preserved g t c =
    let holds = g.T.Terms.holds in
    let means = g.T.Terms.means in
    let old = c.args.terms.now in
    let before = c.loop-arg.terms in
    let after = c.shift_term.new.terms in
    rw c.in_ok-push.ensures.items
    (turn (holds old) (means old) (holds before) (means before) (holds after) (means after) (shifts c.args.from c.args.by) (shift c.args.from c.args.by) (λ us u. refl)
    c.args.args.now c.loop-arg.made.items c.loop-arg.arg-index c.arg-item.result c.in_ok-shift_term.field-0 c.loop-arg.invariant c.requires (omega arith) c.arg-item.is
    c.in_ok-shift_term.ensures.kept c.in_ok-shift_term.ensures.held c.in_ok-shift_term.ensures.tree)
