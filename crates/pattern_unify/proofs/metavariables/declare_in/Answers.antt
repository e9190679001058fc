use Rattle.std.proofs.Common.{◌≡◌, All, List, ◌∙◌, ap, ap₂, sym, subst}
use Rattle.ld_trees.specs.Term.{Term}
use Rattle.ld_terms.specs.declared.globals.Decl.{Decl}
use Rattle.conversion.specs.Globals.{IsDeclOf}
use Rattle.conversion.proofs.Lookups.{globals_kept}
use Rattle.meta_context.specs.Declaring as plain
use Rattle.meta_context.specs.Plain.{plain_locals, rules_env}
use Rattle.goal_state.specs.State.{plain_metas}
use Rattle.goal_state.proofs.Means.{plain_metas_kept}
use Rattle.unification.specs.Steps.{Gave}
use Rattle.unification.specs.Metavariables.{sorted}
use Rattle.pattern_unify.specs.Answers.{Shows}
use Rattle.pattern_unify.specs.Faults.{meta_fault}
use Rattle.pattern_unify.proofs.Follow.{residual, shows_more, after}
use Rattle.pattern_unify.proofs.Meanings.{metas_more, locals_kept, locals_held, all_push}
use Rattle.pattern_unify.proofs.Declared.{declare_shows, goes_on, full_again, deep_again}
use Rattle.pattern_unify.proofs.metavariables.declare_in.Goals as goal

pub returns-in_err-more-clause-value : goal.returns-in_err-more-clause-value
returns-in_err-more-clause-value g c Δ Σ Γ A r e f =
    let h = g.T.Terms.holds c.args.terms.now in
    let m = g.T.Terms.means c.args.terms.now in
    residual h m _ _ _ c.from_residual.result (meta_fault c.in_err-more.field-0.0) c.from_residual.ensures.1
    (declare_shows m c.args.metas.now c.args.ctx.now c.args.ty Σ Γ A r.metas_are e f h m (rules_env Δ) c.args.fuel.now c.in_err-more.field-0.0 c.in_err-more.ensures)

pub returns-in_err-find_sort-clause-value : goal.returns-in_err-find_sort-clause-value
returns-in_err-find_sort-clause-value g c Δ Σ Γ A r e f =
    let m0 = g.T.Terms.means c.args.terms.now in
    let h = g.T.Terms.holds c.find_sort.new.terms in
    let m = g.T.Terms.means c.find_sort.new.terms in
    let full = full_again m0 c.args.metas.now c.args.ctx.now c.args.ty Σ Γ A r.metas_are e f ∙ c.in_ok-more.ensures.0 in
    let deep = deep_again m0 c.args.metas.now c.args.ctx.now c.args.ty Σ Γ A r.metas_are e f ∙ c.in_ok-more.ensures.1 in
    residual h m _ _ _ c.from_residual-in_err-find_sort.result c.in_err-find_sort.field-0.0 c.from_residual-in_err-find_sort.ensures.1
    (subst (λ o. Shows h m o c.find_sort.new.fuel c.in_err-find_sort.field-0.0) (sym (goes_on (rules_env Δ) Σ Γ A c.args.fuel.now full deep))
    (shows_more h m (sorted (rules_env Δ) Σ Γ A c.args.fuel.now) _ _ c.in_err-find_sort.field-0.0 (c.in_err-find_sort.ensures.value Δ Σ Γ A r e f)))

pub returns-clause-value : goal.returns-clause-value
returns-clause-value g c Δ Σ Γ A r e f =
    let h0 = g.T.Terms.holds c.args.terms.now in
    let m0 = g.T.Terms.means c.args.terms.now in
    let h = g.T.Terms.holds c.find_sort.new.terms in
    let m = g.T.Terms.means c.find_sort.new.terms in
    let kept = c.find_sort.ensures.kept in
    let full = full_again m0 c.args.metas.now c.args.ctx.now c.args.ty Σ Γ A r.metas_are e f ∙ c.in_ok-more.ensures.0 in
    let deep = deep_again m0 c.args.metas.now c.args.ctx.now c.args.ty Σ Γ A r.metas_are e f ∙ c.in_ok-more.ensures.1 in
    let ctx : plain_locals m c.args.ctx.now ≡ Γ = locals_kept h0 m0 h m kept c.args.ctx.now c.requires.context ∙ e in
    let metas : plain_metas m c.args.metas.now ≡ Σ = plain_metas_kept h0 m0 h m kept c.args.metas.now c.requires.globals.metas_held ∙ r.metas_are in
    let ty : m c.args.ty ≡ A = (kept c.args.ty c.requires.ty).1 ∙ f in
    let made = ap (plain_metas m) c.in_ok-more.ensures.2 ∙ metas_more m c.args.ctx.now c.args.ty c.args.metas.now
    ∙ ap (λ G. plain.declared G (m c.args.ty) (plain_metas m c.args.metas.now)) ctx ∙ ap₂ (λ (t : Term) (S : List (Decl Term)). plain.declared Γ t S) ty metas in
    goes_on (rules_env Δ) Σ Γ A c.args.fuel.now full deep
    ∙ after (sorted (rules_env Δ) Σ Γ A c.args.fuel.now) tt c.find_sort.new.fuel _ (c.in_ok-find_sort.ensures.value Δ Σ Γ A r e f)
    ∙ ap (λ (S : List (Decl Term)). Gave S c.find_sort.new.fuel) (sym made)

pub returns-clause-held : goal.returns-clause-held
returns-clause-held g c =
    let h0 = g.T.Terms.holds c.args.terms.now in
    let m0 = g.T.Terms.means c.args.terms.now in
    let h = g.T.Terms.holds c.find_sort.new.terms in
    let m = g.T.Terms.means c.find_sort.new.terms in
    let kept = c.find_sort.ensures.kept in
    let old = globals_kept h0 m0 h m kept c.args.env.now c.args.metas.now c.requires.globals in
    subst (All (IsDeclOf h)) (sym c.in_ok-more.ensures.2)
    (all_push (IsDeclOf h) c.args.metas.now (plain.unassigned c.args.ctx.now c.args.ty) old.metas_held (record { ctx = locals_held h0 m0 h m kept c.args.ctx.now c.requires.context; ty = (kept c.args.ty c.requires.ty).0; value = tt }))
