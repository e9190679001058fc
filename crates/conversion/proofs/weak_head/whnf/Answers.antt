use Rattle.std.proofs.Common.{rules, arith, ◌≡◌, ◌≢◌, sym, ap, ◌∙◌}
use Rattle.conversion.specs.Runs.{Gave}
use Rattle.conversion.proofs.Reducing.{no_unit, no_step, stepped}
use Rattle.conversion.proofs.weak_head.whnf.Goals as goal

pub returns-then-not-spend-clause-value : goal.returns-then-not-spend-clause-value
returns-then-not-spend-clause-value g c =
    let holds = g.T.Terms.holds in
    let means = g.T.Terms.means in
    let old = c.args.terms.now in
    let now = c.loop-waiting.terms in
    let step = rw c.in-Some.is at c.in_ok-reduct.ensures.step in
    let none : c.loop-waiting.fuel ≡ 0 = search (rules, arith) in
    let rest : c.spend.new.self ≡ 0 = omega (arith, none, c.spend.ensures.rest) in
    (no_unit (holds old) (means old) (holds now) (means now) (g.G.Globals.items c.args.globals.now) (g.G.Globals.metas c.args.globals.now) c.requires.globals c.args.h c.loop-waiting.head c.loop-waiting.waiting.items c.args.fuel.now c.loop-waiting.fuel c.loop-waiting.stands c.loop-waiting.invariant _ step none, rest)

pub loop-waiting-preserved : goal.loop-waiting-preserved
loop-waiting-preserved g c =
    let holds = g.T.Terms.holds in
    let means = g.T.Terms.means in
    let old = c.args.terms.now in
    let now = c.loop-waiting.terms in
    let new = c.subst_all.new.terms in
    let step = rw c.in-Some.is at c.in_ok-reduct.ensures.step in
    let some : c.loop-waiting.fuel ≢ 0 = search (rules, arith) in
    let tree = rw c.deref.ensures.value at c.in_ok-term.ensures.tree in
    rw c.spend.ensures.rest
    (stepped (holds old) (means old) (holds now) (means now) (g.G.Globals.items c.args.globals.now) (g.G.Globals.metas c.args.globals.now) c.requires.globals c.args.h c.loop-waiting.head c.loop-waiting.waiting.items c.args.fuel.now c.loop-waiting.fuel c.loop-waiting.stands c.loop-waiting.invariant
    (holds new) (means new) c.in-Some.reduct c.next_step.new.waiting.items c.in_ok-term.term c.in_ok-head-2.head c.go_to_head-in-Some.new.waiting.items step some
    c.in_ok-term.ensures.kept c.in_ok-reduct.ensures.waiting_held tree c.in_ok-head-2.ensures.term c.in_ok-head-2.ensures.head c.in_ok-head-2.ensures.held c.in_ok-head-2.ensures.waiting_held)

pub returns-then-stands-clause-value : goal.returns-then-stands-clause-value
returns-then-stands-clause-value g c =
    let holds = g.T.Terms.holds in
    let means = g.T.Terms.means in
    let old = c.args.terms.now in
    let now = c.loop-waiting.terms in
    let step = rw c.in_default.is at c.in_ok-reduct.ensures.step in
    let done = no_step (holds old) (means old) (holds now) (means now) (g.G.Globals.items c.args.globals.now) (g.G.Globals.metas c.args.globals.now) c.requires.globals c.args.h c.loop-waiting.head c.loop-waiting.waiting.items c.args.fuel.now c.loop-waiting.fuel c.loop-waiting.stands c.loop-waiting.invariant step.0 in
    done ∙ ap (λ t. Gave t c.loop-waiting.fuel) (c.loop-waiting.invariant.stood c.if-stands.true ∙ sym (c.loop-waiting.invariant.kept c.args.h c.requires.term).1)

pub returns-clause-value : goal.returns-clause-value
returns-clause-value g c =
    let holds = g.T.Terms.holds in
    let means = g.T.Terms.means in
    let old = c.args.terms.now in
    let now = c.loop-waiting.terms in
    let step = rw c.in_default.is at c.in_ok-reduct.ensures.step in
    let done = no_step (holds old) (means old) (holds now) (means now) (g.G.Globals.items c.args.globals.now) (g.G.Globals.metas c.args.globals.now) c.requires.globals c.args.h c.loop-waiting.head c.loop-waiting.waiting.items c.args.fuel.now c.loop-waiting.fuel c.loop-waiting.stands c.loop-waiting.invariant step.0 in
    let tree = rw step.1 at c.in_ok-apply_all.ensures.tree in
    done ∙ ap (λ t. Gave t c.loop-waiting.fuel) (sym tree)
