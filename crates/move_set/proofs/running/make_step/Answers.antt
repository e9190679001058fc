use Rattle.std.proofs.Common.{sym, subst}
use Rattle.move_text.specs.declared.moves.Move.{Move}
use Rattle.move_set.specs.Answers.{Answers, plain_moved}
use Rattle.move_set.specs.Moves.{step}
use Rattle.move_set.proofs.running.make_step.Goals as goal

pub returns-in-Intro-clause-value : goal.returns-in-Intro-clause-value
returns-in-Intro-clause-value g c Δ Σ d r there =
    let h1 = g.T.Terms.holds c.intro.new.terms in
    let m1 = g.T.Terms.means c.intro.new.terms in
    subst (λ (m : Move). Answers h1 m1 (plain_moved m1) (step Δ Σ c.args.g d m c.args.fuel.now) c.intro.new.fuel c.intro.result) (sym c.in-Intro.is) (c.intro.ensures.value Δ Σ d r there)

pub returns-in-Exact-clause-value : goal.returns-in-Exact-clause-value
returns-in-Exact-clause-value g c Δ Σ d r there =
    let h1 = g.T.Terms.holds c.exact.new.terms in
    let m1 = g.T.Terms.means c.exact.new.terms in
    subst (λ (m : Move). Answers h1 m1 (plain_moved m1) (step Δ Σ c.args.g d m c.args.fuel.now) c.exact.new.fuel c.exact.result) (sym c.in-Exact.is) (c.exact.ensures.value Δ Σ d r there)

pub returns-in-Refine-clause-value : goal.returns-in-Refine-clause-value
returns-in-Refine-clause-value g c Δ Σ d r there =
    let h1 = g.T.Terms.holds c.refine.new.terms in
    let m1 = g.T.Terms.means c.refine.new.terms in
    subst (λ (m : Move). Answers h1 m1 (plain_moved m1) (step Δ Σ c.args.g d m c.args.fuel.now) c.refine.new.fuel c.refine.result) (sym c.in-Refine.is) (c.refine.ensures.value Δ Σ d r there)

pub returns-in-Apply-clause-value : goal.returns-in-Apply-clause-value
returns-in-Apply-clause-value g c Δ Σ d r there =
    let h1 = g.T.Terms.holds c.apply_to.new.terms in
    let m1 = g.T.Terms.means c.apply_to.new.terms in
    subst (λ (m : Move). Answers h1 m1 (plain_moved m1) (step Δ Σ c.args.g d m c.args.fuel.now) c.apply_to.new.fuel c.apply_to.result) (sym c.in-Apply.is) (c.apply_to.ensures.value Δ Σ d r there)

pub returns-in-Have-clause-value : goal.returns-in-Have-clause-value
returns-in-Have-clause-value g c Δ Σ d r there =
    let h1 = g.T.Terms.holds c.have.new.terms in
    let m1 = g.T.Terms.means c.have.new.terms in
    subst (λ (m : Move). Answers h1 m1 (plain_moved m1) (step Δ Σ c.args.g d m c.args.fuel.now) c.have.new.fuel c.have.result) (sym c.in-Have.is) (c.have.ensures.value Δ Σ d r there)

pub returns-in-Assumption-clause-value : goal.returns-in-Assumption-clause-value
returns-in-Assumption-clause-value g c Δ Σ d r there =
    let h1 = g.T.Terms.holds c.assumption.new.terms in
    let m1 = g.T.Terms.means c.assumption.new.terms in
    subst (λ (m : Move). Answers h1 m1 (plain_moved m1) (step Δ Σ c.args.g d m c.args.fuel.now) c.assumption.new.fuel c.assumption.result) (sym c.in-Assumption.is) (c.assumption.ensures.value Δ Σ d r there)

pub returns-in-Change-clause-value : goal.returns-in-Change-clause-value
returns-in-Change-clause-value g c Δ Σ d r there =
    let h1 = g.T.Terms.holds c.change.new.terms in
    let m1 = g.T.Terms.means c.change.new.terms in
    subst (λ (m : Move). Answers h1 m1 (plain_moved m1) (step Δ Σ c.args.g d m c.args.fuel.now) c.change.new.fuel c.change.result) (sym c.in-Change.is) (c.change.ensures.value Δ Σ d r there)

pub returns-in-Unfold-clause-value : goal.returns-in-Unfold-clause-value
returns-in-Unfold-clause-value g c Δ Σ d r there =
    let h1 = g.T.Terms.holds c.unfold.new.terms in
    let m1 = g.T.Terms.means c.unfold.new.terms in
    subst (λ (m : Move). Answers h1 m1 (plain_moved m1) (step Δ Σ c.args.g d m c.args.fuel.now) c.unfold.new.fuel c.unfold.result) (sym c.in-Unfold.is) (c.unfold.ensures.value Δ Σ d r there)
