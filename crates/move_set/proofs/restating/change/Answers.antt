use Rattle.std.proofs.Common.{◌∙◌, sym}
use Rattle.move_set.specs.Moves.{change_to, change}
use Rattle.move_set.proofs.Follow.{answers}
use Rattle.move_set.proofs.TypeMoves.{change_asked, change_on}
use Rattle.move_set.proofs.restating.change.Goals as goal

pub returns-in-Some-clause-value : goal.returns-in-Some-clause-value
returns-in-Some-clause-value g c Δ Σ d read there = change_asked Δ Σ c.args.g d c.args.text.now c.args.fuel.now c.in-Some.at (sym c.first_asked.ensures ∙ c.in-Some.is)

pub returns-in-None-clause-value : goal.returns-in-None-clause-value
returns-in-None-clause-value g c Δ Σ d read there =
    let n = c.args.fuel.now in
    let t = c.args.text.now in
    answers (g.T.Terms.holds c.change_to.new.terms) (g.T.Terms.means c.change_to.new.terms) _ (change Δ Σ c.args.g d t n) (change_to Δ Σ c.args.g d t n) _ c.change_to.result
    (change_on Δ Σ c.args.g d t n (sym c.first_asked.ensures ∙ c.in-None.is)) (c.change_to.ensures.value Δ Σ d read there)
