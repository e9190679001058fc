use Rattle.std.proofs.Common.{◌≡◌, ◌+◌, arith, rules, refl, ap, ap₂, map, ◌∙◌}
use Rattle.std.proofs.lemmas.Result.{IfOk-weaker}
use Rattle.ld_trees.specs.Term.{App}
use Rattle.ld_trees.specs.Substitution.{subst_at, substs_at}
use Rattle.ld_terms.specs.Views.{terms_of}
use Rattle.ld_terms.proofs.Turns.{turn, keeps_all, keeps_map, both_parts}
use Rattle.ld_terms.proofs.Spines.{head_no_larger, next_argument, argument_made}
use Rattle.ld_terms.proofs.substitution.+substituting.Goals as goal

pub subst_spine-subst_at-requires : goal.subst_spine-subst_at-requires
subst_spine-subst_at-requires g t c κs within =
    let means = g.T.Terms.means c.args.terms.now in
    let small = head_no_larger (means c.in_ok-spine.spine.head) (means c.args.h) (map means c.in_ok-spine.spine.args.items) c.in_ok-spine.ensures.tree in
    search rules

pub subst_spine-subst_at-requires-in-Some : goal.subst_spine-subst_at-requires-in-Some
subst_spine-subst_at-requires-in-Some g t c κs within =
    let holds = g.T.Terms.holds in
    let means = g.T.Terms.means in
    let old = c.args.terms.now in
    let before = c.loop-u.terms in
    let f = subst_at c.args.under (terms_of (map (means old) c.args.args.now)) in
    let next = next_argument (holds old) (means old) (holds before) (means before) f (means old c.args.h) c.loop-u.made c.loop-u.spine.args.items c.pop.new.self.items c.in-Some.u
    c.loop-u.invariant c.in-Some.ensures.items in
    let held = next.held in
    let smaller = next.smaller in
    let all = keeps_all (holds old) (means old) (holds before) (means before) c.args.args.now c.loop-u.invariant.kept c.requires.arguments in
    search rules

pub subst_spine-loop-u-preserved : goal.subst_spine-loop-u-preserved
subst_spine-loop-u-preserved g t c =
    let holds = g.T.Terms.holds in
    let means = g.T.Terms.means in
    let old = c.args.terms.now in
    let before = c.loop-u.terms in
    let after = c.subst_at-in-Some.new.terms in
    let last = c.make.new.self in
    let f = subst_at c.args.under (terms_of (map (means old) c.args.args.now)) in
    let same = keeps_map (holds old) (means old) (holds before) (means before) c.args.args.now c.loop-u.invariant.kept c.requires.arguments in
    let next = next_argument (holds old) (means old) (holds before) (means before) f (means old c.args.h) c.loop-u.made c.loop-u.spine.args.items c.pop.new.self.items c.in-Some.u
    c.loop-u.invariant c.in-Some.ensures.items in
    argument_made (holds old) (means old) (holds before) (means before) f (means old c.args.h) c.loop-u.made c.loop-u.spine.args.items c.pop.new.self.items c.in-Some.u
    (holds after) (means after) (holds last) (means last) c.in_ok-put.put c.in_ok-made-2.made (λ t u. refl) c.loop-u.invariant c.in-Some.ensures.items
    c.in_ok-put.ensures.kept (c.in_ok-put.ensures.tree ∙ ap₂ (λ ts t. subst_at c.args.under (terms_of ts) t) same next.alike) c.in_ok-made-2.ensures.kept c.in_ok-made-2.ensures.held c.in_ok-made-2.ensures.tree

pub subst_each-loop-u-preserved : goal.subst_each-loop-u-preserved
subst_each-loop-u-preserved g t c =
    let holds = g.T.Terms.holds in
    let means = g.T.Terms.means in
    let old = c.args.terms.now in
    let before = c.loop-u.terms in
    let after = c.subst_at.new.terms in
    let d = c.args.under in
    let vs = terms_of (map (means old) c.args.args.now) in
    let same = keeps_map (holds old) (means old) (holds before) (means before) c.args.args.now c.loop-u.invariant.kept c.requires.arguments in
    rw c.in_ok-push.ensures.items
    (turn (holds old) (means old) (holds before) (means before) (holds after) (means after) (substs_at d vs) (subst_at d vs) (λ us u. refl)
    c.args.us.now c.loop-u.made.items c.loop-u.u-index c.u-item.result c.in_ok-subst_at.field-0 c.loop-u.invariant c.requires.list (omega arith) c.u-item.is
    c.in_ok-subst_at.ensures.kept c.in_ok-subst_at.ensures.held
    (c.in_ok-subst_at.ensures.tree ∙ ap (λ ts. subst_at d (terms_of ts) (means before c.u-item.result)) same))

pub subst_application-returns-clause-tree : goal.subst_application-returns-clause-tree
subst_application-returns-clause-tree g t c =
    let holds = g.T.Terms.holds in
    let means = g.T.Terms.means in
    let old = c.args.terms.now in
    let one = c.subst_spine.new.terms in
    let two = c.subst_at.new.terms in
    let d = c.args.under in
    let n : d ≡ d = refl in
    let parts = both_parts (holds old) (means old) (holds one) (means one) (holds two) (means two) c.args.args.now c.args.f c.args.a c.in_ok-f.f c.in_ok-a.a d d d n
    c.in_ok-f.ensures.kept c.in_ok-a.ensures.kept c.requires.arguments c.requires.argument c.in_ok-f.ensures.held c.in_ok-f.ensures.tree c.in_ok-a.ensures.tree in
    IfOk-weaker c.make.result _ (λ r. means c.make.new.self r ≡ subst_at d (terms_of (map (means old) c.args.args.now)) (App (means old c.args.f) (means old c.args.a)))
    (λ r e. e ∙ ap₂ App parts.0 parts.1) c.make.ensures.tree

pub subst_bound-returns-clause-body : goal.subst_bound-returns-clause-body
subst_bound-returns-clause-body g t c =
    let holds = g.T.Terms.holds in
    let means = g.T.Terms.means in
    let old = c.args.terms.now in
    let one = c.subst_at.new.terms in
    let two = c.subst_at-2.new.terms in
    let d = c.args.under in
    let n : c.in_ok-below.below ≡ d + 1 = search rules in
    (both_parts (holds old) (means old) (holds one) (means one) (holds two) (means two) c.args.args.now c.args.a c.args.m c.in_ok-a.a c.in_ok-m.m d c.in_ok-below.below (d + 1) n
    c.in_ok-a.ensures.kept c.in_ok-m.ensures.kept c.requires.arguments c.requires.body c.in_ok-a.ensures.held c.in_ok-a.ensures.tree c.in_ok-m.ensures.tree).1
