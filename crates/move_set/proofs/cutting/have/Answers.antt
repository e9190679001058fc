use Rattle.std.proofs.Common.{◌≡◌, ◌∙◌, ap, sym}
use Rattle.ld_trees.specs.Term.{Term}
use Rattle.ld_terms.specs.declared.globals.Decl.{Decl}
use Rattle.goal_state.specs.State.{plain_decl}
use Rattle.unification.specs.Steps.{Refused}
use Rattle.move_set.specs.Moves.{has_entry, cut_by, have}
use Rattle.move_set.specs.Refusals.{NameTaken}
use Rattle.move_set.proofs.Follow.{answers}
use Rattle.move_set.proofs.Meanings.{decl_read, entry_again}
use Rattle.move_set.proofs.TypeMoves.{have_taken, have_asked, have_on}
use Rattle.move_set.proofs.cutting.have.Goals as goal

pub returns-then-has_entry-clause-value : goal.returns-then-has_entry-clause-value
returns-then-has_entry-clause-value g c Δ Σ d read there =
    let m0 = g.T.Terms.means c.args.terms.now in
    let x = c.in-Some.decl.now in
    let n = c.args.fuel.now in
    let name = c.args.name.now in
    let t = c.args.text.now in
    let same : plain_decl m0 x ≡ d = decl_read m0 c.args.metas.now Σ c.args.g x d read.metas_are (sym c.in-Some.ensures) there in
    let test : c.has_entry.result ≡ has_entry d.ctx name = c.has_entry.ensures ∙ ap (λ ls. has_entry ls name) c.as_slice.ensures ∙ sym (entry_again m0 x.ctx name) ∙ ap (λ (y : Decl Term). has_entry y.ctx name) same in
    have_taken Δ Σ c.args.g d name t n c.has_entry.result test c.if-has_entry.true ∙ ap (λ x. Refused (NameTaken x) n) (sym c.in_ok-name-in-Some.ensures)

pub returns-in-Some-first_asked-clause-value : goal.returns-in-Some-first_asked-clause-value
returns-in-Some-first_asked-clause-value g c Δ Σ d read there =
    let m0 = g.T.Terms.means c.args.terms.now in
    let x = c.in-Some.decl.now in
    let n = c.args.fuel.now in
    let name = c.args.name.now in
    let t = c.args.text.now in
    let same : plain_decl m0 x ≡ d = decl_read m0 c.args.metas.now Σ c.args.g x d read.metas_are (sym c.in-Some.ensures) there in
    let test : c.has_entry.result ≡ has_entry d.ctx name = c.has_entry.ensures ∙ ap (λ ls. has_entry ls name) c.as_slice.ensures ∙ sym (entry_again m0 x.ctx name) ∙ ap (λ (y : Decl Term). has_entry y.ctx name) same in
    have_asked Δ Σ c.args.g d name t n c.has_entry.result test c.if-has_entry.false c.in-Some-first_asked.at (sym c.first_asked.ensures ∙ c.in-Some-first_asked.is)

pub returns-in-None-first_asked-clause-value : goal.returns-in-None-first_asked-clause-value
returns-in-None-first_asked-clause-value g c Δ Σ d read there =
    let m0 = g.T.Terms.means c.args.terms.now in
    let x = c.in-Some.decl.now in
    let n = c.args.fuel.now in
    let name = c.args.name.now in
    let t = c.args.text.now in
    let same : plain_decl m0 x ≡ d = decl_read m0 c.args.metas.now Σ c.args.g x d read.metas_are (sym c.in-Some.ensures) there in
    let test : c.has_entry.result ≡ has_entry d.ctx name = c.has_entry.ensures ∙ ap (λ ls. has_entry ls name) c.as_slice.ensures ∙ sym (entry_again m0 x.ctx name) ∙ ap (λ (y : Decl Term). has_entry y.ctx name) same in
    answers (g.T.Terms.holds c.cut_by.new.terms) (g.T.Terms.means c.cut_by.new.terms) _ (have Δ Σ c.args.g d name t n) (cut_by Δ Σ c.args.g d name t n) _ c.cut_by.result
    (have_on Δ Σ c.args.g d name t n c.has_entry.result test c.if-has_entry.false (sym c.first_asked.ensures ∙ c.in-None-first_asked.is))
    (c.cut_by.ensures.value Δ Σ d read there)
