use Rattle.std.proofs.Common.{rules, ◌≡◌, ◌∙◌, ◌<◌, arith}
use Rattle.conversion.specs.Spines.{BothHeld}
use Rattle.conversion.proofs.Spines.{all_pushed}
use Rattle.kernel_check.specs.Steps.{pair_trees}
use Rattle.kernel_check.proofs.Applications.{one_further, none_further}
use Rattle.kernel_check.proofs.spines.spine_of.Goals as goal

pub returns-then-not-spend-clause-fault : goal.returns-then-not-spend-clause-fault
returns-then-not-spend-clause-fault g c Δ Γ =
    let m = g.T.Terms.means c.args.terms.now in
    let n : c.loop-g.fuel ≡ 0 = search rules in
    let left : c.spend.new.self ≡ 0 = search rules in
    (c.loop-g.invariant.0 Δ Γ ∙ none_further Δ Γ (pair_trees m c.loop-g.waiting.items) (m c.loop-g.head) c.loop-g.fuel n, left)

pub loop-g-preserved : goal.loop-g-preserved
loop-g-preserved g c =
    let h = g.T.Terms.holds c.args.terms.now in
    let m = g.T.Terms.means c.args.terms.now in
    let n : 0 < c.loop-g.fuel = search rules in
    let e = c.in_ok-push-2.ensures.items in (
      λ Δ Γ. c.loop-g.invariant.0 Δ Γ ∙ one_further m Δ Γ c.loop-g.waiting.items c.push-in-App.new.self.items (m c.loop-g.head) c.in-App.g c.in-App.b c.loop-g.fuel c.spend.new.self n c.spend.ensures.rest c.in-App.ensures.tree e,
      c.in-App.ensures.held.0,
      all_pushed (BothHeld h) c.loop-g.waiting.items c.push-in-App.new.self.items (c.in-App.g, c.in-App.b) e c.loop-g.invariant.2 c.in-App.ensures.held,
      (let a = c.loop-g.invariant.3 in let b = c.spend.ensures.rest in omega (arith, a, b)),
    )
