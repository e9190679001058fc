use Rattle.std.proofs.Common.{◌∙◌, option_map, ap, sym, refl}
use Rattle.unification.specs.Steps.{Refused}
use Rattle.move_set.specs.Moves.{unfold_by, unfold_constant}
use Rattle.move_set.specs.Refusals.{NotDefined}
use Rattle.move_set.proofs.Follow.{answers}
use Rattle.move_set.proofs.TypeMoves.{body_again, body_held, not_defined, unfold_on}
use Rattle.move_set.proofs.restating.unfold.Goals as goal

pub unfold_by-requires-clause-body : goal.unfold_by-requires-clause-body
unfold_by-requires-clause-body g c =
    let h0 = g.T.Terms.holds c.args.terms.now in
    body_held (g.T.Terms.means c.args.terms.now) h0 c.args.env.now c.args.name.now c.in-Some.body c.requires.globals.items_held (sym c.body_of.ensures ∙ c.in-Some.is)

pub returns-in-Some-clause-value : goal.returns-in-Some-clause-value
returns-in-Some-clause-value g c Δ Σ d read there =
    let m0 = g.T.Terms.means c.args.terms.now in
    let n = c.args.fuel.now in
    let a = c.args.name.now in
    let M = m0 c.in-Some.body in
    let found = body_again m0 c.args.env.now Δ a read.items_are ∙ ap (option_map m0) (sym c.body_of.ensures ∙ c.in-Some.is) in
    answers (g.T.Terms.holds c.unfold_by.new.terms) (g.T.Terms.means c.unfold_by.new.terms) _ (unfold_constant Δ Σ c.args.g d a n) (unfold_by Δ Σ c.args.g d a M n) _ c.unfold_by.result (unfold_on Δ Σ c.args.g d a n M found)
    (c.unfold_by.ensures.value Δ Σ d M read there refl)

pub returns-in_ok-name-in-None-clause-value : goal.returns-in_ok-name-in-None-clause-value
returns-in_ok-name-in-None-clause-value g c Δ Σ d read there =
    let m0 = g.T.Terms.means c.args.terms.now in
    let n = c.args.fuel.now in
    let a = c.args.name.now in
    let found = body_again m0 c.args.env.now Δ a read.items_are ∙ ap (option_map m0) (sym c.body_of.ensures ∙ c.in-None.is) in
    not_defined Δ Σ c.args.g d a n found ∙ ap (λ x. Refused (NotDefined x) n) (sym c.in_ok-name-in-None.ensures)
