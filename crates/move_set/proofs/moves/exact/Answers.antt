use Rattle.std.proofs.Common.{◌∙◌, ap, sym}
use Rattle.unification.specs.Steps.{◌>>◌}
use Rattle.move_set.specs.Moves.{none_open, refine, exact}
use Rattle.move_set.proofs.Follow.{answers}
use Rattle.move_set.proofs.moves.exact.Goals as goal

pub returns-in-Some-clause-value : goal.returns-in-Some-clause-value
returns-in-Some-clause-value g c Δ Σ d read there = ap (λ o. (none_open o >> refine Δ Σ c.args.g d c.args.text.now) c.args.fuel.now) (sym c.first_asked.ensures ∙ c.in-Some.is)

pub returns-in-None-clause-value : goal.returns-in-None-clause-value
returns-in-None-clause-value g c Δ Σ d read there =
    let n = c.args.fuel.now in
    let t = c.args.text.now in
    answers (g.T.Terms.holds c.refine.new.terms) (g.T.Terms.means c.refine.new.terms) _ (exact Δ Σ c.args.g d t n) (refine Δ Σ c.args.g d t n) _ c.refine.result
    (ap (λ o. (none_open o >> refine Δ Σ c.args.g d t) n) (sym c.first_asked.ensures ∙ c.in-None.is))
    (c.refine.ensures.value Δ Σ d read there)
