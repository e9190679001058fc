use Rattle.std.proofs.Common.{◌≡◌, List, [], ◌∷◌, ◌++◌, ◌∙◌, ap, sym, subst}
use Rattle.ld_trees.specs.Term.{Term}
use Rattle.ld_terms.specs.declared.globals.Local.{Local}
use Rattle.conversion.specs.Globals.{AreLocals}
use Rattle.meta_context.specs.Plain.{plain_locals, rules_env}
use Rattle.unification.specs.Steps.{Gave}
use Rattle.unification.specs.Metavariables.{sorted}
use Rattle.pattern_unify.proofs.Follow.{residual, shows_more, after}
use Rattle.pattern_unify.proofs.Meanings.{locals_more, locals_kept, locals_held, all_push}
use Rattle.pattern_unify.proofs.metavariables.extend.Goals as goal

pub returns-in_err-find_sort-clause-value : goal.returns-in_err-find_sort-clause-value
returns-in_err-find_sort-clause-value g c Δ Σ Γ A r e f =
    let h = g.T.Terms.holds c.find_sort.new.terms in
    let m = g.T.Terms.means c.find_sort.new.terms in
    residual h m _ _ _ c.from_residual.result c.in_err-find_sort.field-0.0 c.from_residual.ensures.1
    (shows_more h m (sorted (rules_env Δ) Σ Γ A c.args.fuel.now) _ _ c.in_err-find_sort.field-0.0 (c.in_err-find_sort.ensures.value Δ Σ Γ A r e f))

pub returns-clause-value : goal.returns-clause-value
returns-clause-value g c Δ Σ Γ A r e f =
    let h0 = g.T.Terms.holds c.args.terms.now in
    let m0 = g.T.Terms.means c.args.terms.now in
    let h = g.T.Terms.holds c.find_sort.new.terms in
    let m = g.T.Terms.means c.find_sort.new.terms in
    let x = c.args.name.now in
    let entry : Term → Local Term = λ t. record { name = x; ty = t } in
    let entries = c.in_ok-with_entry.field-0 in
    let made : plain_locals m entries ≡ plain_locals m c.args.ctx.now ++ entry (m c.args.ty) ∷ [] = locals_more m c.args.ctx.now entries x c.args.ty c.in_ok-with_entry.ensures.entries in
    let same : plain_locals m c.args.ctx.now ≡ Γ = locals_kept h0 m0 h m c.find_sort.ensures.kept c.args.ctx.now c.requires.context ∙ e in
    let ty : m c.args.ty ≡ A = (c.find_sort.ensures.kept c.args.ty c.requires.ty).1 ∙ f in
    after (sorted (rules_env Δ) Σ Γ A c.args.fuel.now) tt c.find_sort.new.fuel _ (c.in_ok-find_sort.ensures.value Δ Σ Γ A r e f)
    ∙ ap (λ (ls : List (Local Term)). Gave ls c.find_sort.new.fuel) (sym (made ∙ ap (λ ls. ls ++ entry (m c.args.ty) ∷ []) same ∙ ap (λ t. Γ ++ entry t ∷ []) ty))

pub returns-clause-held : goal.returns-clause-held
returns-clause-held g c =
    let h0 = g.T.Terms.holds c.args.terms.now in
    let m0 = g.T.Terms.means c.args.terms.now in
    let h = g.T.Terms.holds c.find_sort.new.terms in
    let m = g.T.Terms.means c.find_sort.new.terms in
    subst (AreLocals h) (sym c.in_ok-with_entry.ensures.entries)
    (all_push (λ (l : Local _). h l.ty) c.args.ctx.now _ (locals_held h0 m0 h m c.find_sort.ensures.kept c.args.ctx.now c.requires.context) (c.find_sort.ensures.kept c.args.ty c.requires.ty).0)
