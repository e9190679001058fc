use Rattle.std.proofs.Common.{◌∙◌, sym, subst}
use Rattle.move_set.specs.Answers.{IsBeside}
use Rattle.move_set.proofs.running.refused.Goals.{then-shows_terms, else-shows_terms}
use Rattle.move_set.proofs.running.refused.Goals as goal

pub returns : goal.returns
returns g c o left h =
    let t = c.args.terms in
    let shown = c.if-shows_terms.terms2 in
    elim c.if-shows_terms.branch [
      | then-shows_terms w ↦ (t, subst (IsBeside t shown) (sym w.if-shows_terms.true ∙ c.shows_terms.ensures) w.terms2-is, left, h)
      | else-shows_terms w ↦ (t, subst (IsBeside t shown) (sym w.if-shows_terms.false ∙ c.shows_terms.ensures) w.terms2-is, left, h)
    ]
