use Rattle.std.proofs.Common.{◌≡◌, ◌∙◌, [], All, ap, sym, refl, subst}
use Rattle.conversion.specs.Globals.{IsDeclOf}
use Rattle.term_text.specs.Scoped.{bound_of}
use Rattle.meta_context.specs.Entered.{names_of}
use Rattle.meta_context.specs.Plain.{plain_locals}
use Rattle.goal_state.specs.State.{plain_metas}
use Rattle.unification.specs.Steps.{Gave}
use Rattle.elaboration.specs.Elaboration.{Made, standing, started, elaborate}
use Rattle.elaborate.specs.Standing.{plain_work}
use Rattle.elaborate.proofs.Follow.{fails_last}
use Rattle.elaborate.proofs.Meanings.{names_again, same_here, same_made, same_work}
use Rattle.elaborate.proofs.elaborating.elaborated.Goals as goal

pub elaborate-requires-clause-held : goal.elaborate-requires-clause-held
elaborate-requires-clause-held g c =
    record {
      globals = record { items_held = c.requires.globals.items_held; metas_held = subst (All (IsDeclOf (g.T.Terms.holds c.args.terms.now))) (sym c.in_ok-work.ensures.metas) c.requires.globals.metas_held };
      entries = c.requires.context;
      names = c.requires.names;
    }

pub returns-in_err-typed-clause-value : goal.returns-in_err-typed-clause-value
returns-in_err-typed-clause-value g c Δ Σ Γ W r e o =
    let h0 = g.T.Terms.holds c.args.terms.now in
    let m0 = g.T.Terms.means c.args.terms.now in
    let h1 = g.T.Terms.holds c.elaborate.new.terms in
    let m1 = g.T.Terms.means c.elaborate.new.terms in
    let work : plain_work m0 c.in_ok-work.work ≡ started Δ Σ = same_work (plain_metas m0 c.in_ok-work.work.metas) Σ c.in_ok-work.work.goals [] c.in_ok-work.work.holes [] (ap (plain_metas m0) c.in_ok-work.ensures.metas ∙ r.metas_are) c.in_ok-work.ensures.goals c.in_ok-work.ensures.holes in
    let here = same_here c.deref.result.now (names_of Γ) (bound_of c.deref-2.result.now) [] (plain_locals m0 c.args.ctx.now) Γ
    (c.deref.ensures.value ∙ c.in_ok-names.ensures ∙ names_again m0 c.args.ctx.now ∙ ap (λ ls. names_of ls) e)
    (ap bound_of (c.deref-2.ensures.value ∙ c.new-bound.ensures.items)) e in
    fails_last h1 m1 _ _ (elaborate Δ c.args.surface.now W (started Δ Σ) (standing Δ Γ) c.args.fuel.now) c.elaborate.new.fuel c.from_residual-in_err-typed.result c.in_err-typed.field-0.0 refl c.from_residual-in_err-typed.ensures.1
    (c.in_err-typed.ensures.value Δ W (started Δ Σ) (standing Δ Γ) (record { items_are = r.items_are; work_is = work; here_is = here }) o)

pub returns-clause-value : goal.returns-clause-value
returns-clause-value g c Δ Σ Γ W r e o =
    let h0 = g.T.Terms.holds c.args.terms.now in
    let m0 = g.T.Terms.means c.args.terms.now in
    let h1 = g.T.Terms.holds c.elaborate.new.terms in
    let m1 = g.T.Terms.means c.elaborate.new.terms in
    let work : plain_work m0 c.in_ok-work.work ≡ started Δ Σ = same_work (plain_metas m0 c.in_ok-work.work.metas) Σ c.in_ok-work.work.goals [] c.in_ok-work.work.holes [] (ap (plain_metas m0) c.in_ok-work.ensures.metas ∙ r.metas_are) c.in_ok-work.ensures.goals c.in_ok-work.ensures.holes in
    let here = same_here c.deref.result.now (names_of Γ) (bound_of c.deref-2.result.now) [] (plain_locals m0 c.args.ctx.now) Γ
    (c.deref.ensures.value ∙ c.in_ok-names.ensures ∙ names_again m0 c.args.ctx.now ∙ ap (λ ls. names_of ls) e)
    (ap bound_of (c.deref-2.ensures.value ∙ c.new-bound.ensures.items)) e in
    c.in_ok-typed.ensures.value Δ W (started Δ Σ) (standing Δ Γ) (record { items_are = r.items_are; work_is = work; here_is = here }) o ∙ ap (λ (x : Made). Gave x c.elaborate.new.fuel) (same_made m1 c.in_ok-typed.typed c.made.result c.made.ensures.metas c.made.ensures.goals c.made.ensures.holes c.made.ensures.term c.made.ensures.ty)
