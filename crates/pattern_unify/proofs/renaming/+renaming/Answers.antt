use Rattle.std.proofs.Common.{refl, ap, ◌∙◌, arith, rules, map}
use Rattle.ld_terms.proofs.Turns.{turn}
use Rattle.ld_terms.proofs.Spines.{head_no_larger, next_argument, argument_made}
use Rattle.pattern_unify.specs.Walks.{renamed_at, all_renamed_at}
use Rattle.pattern_unify.proofs.renaming.+renaming.Goals as goal

pub rename_spine-rename_at-requires : goal.rename_spine-rename_at-requires
rename_spine-rename_at-requires g t c κs within =
    let means = g.T.Terms.means c.args.terms.now in
    let small = head_no_larger (means c.in_ok-spine.spine.head) (means c.args.h) (map means c.in_ok-spine.spine.args.items) c.in_ok-spine.ensures.tree in
    search rules

pub rename_spine-rename_at-requires-in-Some : goal.rename_spine-rename_at-requires-in-Some
rename_spine-rename_at-requires-in-Some g t c κs within =
    let holds = g.T.Terms.holds in
    let means = g.T.Terms.means in
    let old = c.args.terms.now in
    let before = c.loop-u.terms in
    let f = renamed_at (g.N.Names.name c.args.names.now) c.args.under in
    let next = next_argument (holds old) (means old) (holds before) (means before) f (means old c.args.h) c.loop-u.made c.loop-u.spine.args.items c.pop.new.self.items c.in-Some.u
    c.loop-u.invariant c.in-Some.ensures.items in
    let held = next.held in
    let smaller = next.smaller in
    search rules

pub rename_spine-loop-u-preserved : goal.rename_spine-loop-u-preserved
rename_spine-loop-u-preserved g t c =
    let holds = g.T.Terms.holds in
    let means = g.T.Terms.means in
    let old = c.args.terms.now in
    let before = c.loop-u.terms in
    let after = c.rename_at-in-Some.new.terms in
    let last = c.make.new.self in
    let f = renamed_at (g.N.Names.name c.args.names.now) c.args.under in
    let next = next_argument (holds old) (means old) (holds before) (means before) f (means old c.args.h) c.loop-u.made c.loop-u.spine.args.items c.pop.new.self.items c.in-Some.u
    c.loop-u.invariant c.in-Some.ensures.items in
    argument_made (holds old) (means old) (holds before) (means before) f (means old c.args.h) c.loop-u.made c.loop-u.spine.args.items c.pop.new.self.items c.in-Some.u
    (holds after) (means after) (holds last) (means last) c.in_ok-renamed.renamed c.in_ok-made-2.made (λ t u. refl) c.loop-u.invariant c.in-Some.ensures.items
    c.in_ok-renamed.ensures.kept (c.in_ok-renamed.ensures.tree ∙ ap f next.alike) c.in_ok-made-2.ensures.kept c.in_ok-made-2.ensures.held c.in_ok-made-2.ensures.tree

pub rename_each-loop-u-preserved : goal.rename_each-loop-u-preserved
rename_each-loop-u-preserved g t c =
    let holds = g.T.Terms.holds in
    let means = g.T.Terms.means in
    let old = c.args.terms.now in
    let before = c.loop-u.terms in
    let after = c.rename_at.new.terms in
    let r = g.N.Names.name c.args.names.now in
    rw c.in_ok-push.ensures.items
    (turn (holds old) (means old) (holds before) (means before) (holds after) (means after) (all_renamed_at r c.args.under) (renamed_at r c.args.under) (λ us u. refl)
    c.args.us.now c.loop-u.made.items c.loop-u.u-index c.u-item.result c.in_ok-rename_at.field-0 c.loop-u.invariant c.requires (omega arith) c.u-item.is
    c.in_ok-rename_at.ensures.kept c.in_ok-rename_at.ensures.held c.in_ok-rename_at.ensures.tree)
