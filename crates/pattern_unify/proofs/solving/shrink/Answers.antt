use Rattle.std.proofs.Common.{◌≡◌, ℕ, [], reverse, length, ap, ap₂, ◌∙◌, sym, refl, subst}
use Rattle.ld_trees.specs.Term.{Term, Meta}
use Rattle.ld_trees.specs.Substitution.{rename}
use Rattle.ld_terms.proofs.Turns.{keeps_both}
use Rattle.conversion.specs.Globals.{AreLocals}
use Rattle.meta_context.specs.Plain.{plain_locals, rules_env}
use Rattle.goal_state.specs.State.{plain_metas}
use Rattle.goal_state.proofs.Means.{plain_metas_kept, decls_held}
use Rattle.unification.specs.Steps.{Gave, pure}
use Rattle.unification.specs.Refusals.{Plain}
use Rattle.unification.specs.Metavariables.{declared}
use Rattle.unification.specs.Pruning.{kept_context, kept_variables, thin}
use Rattle.pattern_unify.specs.Tries.{with_term, shrunk}
use Rattle.pattern_unify.proofs.Follow.{after, fails}
use Rattle.pattern_unify.proofs.Meanings.{read_kept, read_count, locals_kept, locals_held}
use Rattle.pattern_unify.proofs.solving.shrink.Goals as goal

pub returns-in_err-kept-clause-value : goal.returns-in_err-kept-clause-value
returns-in_err-kept-clause-value g c Δ Σ Γ A r e f =
    let h = g.T.Terms.holds c.kept_context.new.terms in
    let m = g.T.Terms.means c.kept_context.new.terms in
    let flags = c.args.flags.now in
    let n = c.args.fuel.now in
    fails h m (with_term m) (shrunk (rules_env Δ) Σ flags Γ A n) (kept_context (rules_env Δ) Σ flags Γ [] [] n) _ c.kept_context.new.fuel c.from_residual.result c.in_err-kept.field-0.0
    refl c.from_residual.ensures.1 (c.in_err-kept.ensures.value Δ Σ Γ r e)

pub declare_in-requires-clause-context : goal.declare_in-requires-clause-context
declare_in-requires-clause-context g c =
    let h1 = g.T.Terms.holds c.kept_context.new.terms in
    let m1 = g.T.Terms.means c.kept_context.new.terms in
    let h2 = g.T.Terms.holds c.rename.new.terms in
    let m2 = g.T.Terms.means c.rename.new.terms in
    subst (AreLocals h2) (sym c.as_slice.ensures) (locals_held h1 m1 h2 m2 c.in_ok-ty.ensures.kept c.in_ok-kept.kept c.in_ok-kept.ensures.held)

pub returns-in_err-more-clause-value : goal.returns-in_err-more-clause-value
returns-in_err-more-clause-value g c Δ Σ Γ A r e f =
    let h0 = g.T.Terms.holds c.args.terms.now in
    let m0 = g.T.Terms.means c.args.terms.now in
    let h1 = g.T.Terms.holds c.kept_context.new.terms in
    let m1 = g.T.Terms.means c.kept_context.new.terms in
    let h2 = g.T.Terms.holds c.rename.new.terms in
    let m2 = g.T.Terms.means c.rename.new.terms in
    let h = g.T.Terms.holds c.declare_in.new.terms in
    let m = g.T.Terms.means c.declare_in.new.terms in
    let flags = c.args.flags.now in
    let n = c.args.fuel.now in
    let k = c.kept_context.new.fuel in
    let k1 = c.in_ok-kept.ensures.kept in
    let k2 = keeps_both h0 m0 h1 m1 h2 m2 k1 c.in_ok-ty.ensures.kept in
    let r2 = read_kept h0 m0 h2 m2 k2 c.args.env.now c.args.metas.now Δ Σ c.requires.globals r in
    let G = plain_locals m1 c.in_ok-kept.kept in
    let ctx : plain_locals m2 c.as_slice.result.now ≡ G = ap (plain_locals m2) c.as_slice.ensures ∙ locals_kept h1 m1 h2 m2 c.in_ok-ty.ensures.kept c.in_ok-kept.kept c.in_ok-kept.ensures.held in
    let B = rename (thin (reverse flags)) A in
    let ty : m2 c.in_ok-ty.ty ≡ B = c.in_ok-ty.ensures.tree ∙ ap (rename (thin (reverse flags))) ((k1 c.args.ty c.requires.ty).1 ∙ f) in
    let V = Meta (length Σ) (kept_variables (reverse flags) 0) in
    fails h m (with_term m) (shrunk (rules_env Δ) Σ flags Γ A n) (declared (rules_env Δ) Σ G B k) (λ more. pure (more, V)) c.declare_in.new.fuel c.from_residual-in_err-more.result c.in_err-more.field-0.0
    (after (kept_context (rules_env Δ) Σ flags Γ [] [] n) G k _ (c.in_ok-kept.ensures.value Δ Σ Γ r e)) c.from_residual-in_err-more.ensures.1
    (c.in_err-more.ensures.value Δ Σ G B r2 ctx ty)

pub returns-clause-value : goal.returns-clause-value
returns-clause-value g c Δ Σ Γ A r e f =
    let h0 = g.T.Terms.holds c.args.terms.now in
    let m0 = g.T.Terms.means c.args.terms.now in
    let h1 = g.T.Terms.holds c.kept_context.new.terms in
    let m1 = g.T.Terms.means c.kept_context.new.terms in
    let h2 = g.T.Terms.holds c.rename.new.terms in
    let m2 = g.T.Terms.means c.rename.new.terms in
    let h3 = g.T.Terms.holds c.declare_in.new.terms in
    let m3 = g.T.Terms.means c.declare_in.new.terms in
    let h = g.T.Terms.holds c.over_kept.new.terms in
    let m = g.T.Terms.means c.over_kept.new.terms in
    let flags = c.args.flags.now in
    let n = c.args.fuel.now in
    let k = c.kept_context.new.fuel in
    let j = c.declare_in.new.fuel in
    let k1 = c.in_ok-kept.ensures.kept in
    let k2 = keeps_both h0 m0 h1 m1 h2 m2 k1 c.in_ok-ty.ensures.kept in
    let r2 = read_kept h0 m0 h2 m2 k2 c.args.env.now c.args.metas.now Δ Σ c.requires.globals r in
    let G = plain_locals m1 c.in_ok-kept.kept in
    let ctx : plain_locals m2 c.as_slice.result.now ≡ G = ap (plain_locals m2) c.as_slice.ensures ∙ locals_kept h1 m1 h2 m2 c.in_ok-ty.ensures.kept c.in_ok-kept.kept c.in_ok-kept.ensures.held in
    let B = rename (thin (reverse flags)) A in
    let ty : m2 c.in_ok-ty.ty ≡ B = c.in_ok-ty.ensures.tree ∙ ap (rename (thin (reverse flags))) ((k1 c.args.ty c.requires.ty).1 ∙ f) in
    let V = Meta (length Σ) (kept_variables (reverse flags) 0) in
    let more = c.in_ok-more.more in
    let number : c.in_ok-more.number ≡ length Σ = c.in_ok-more.ensures.number ∙ read_count m0 c.args.metas.now Σ r.metas_are in
    let metas : plain_metas m more ≡ plain_metas m3 more = plain_metas_kept h3 m3 h m c.in_ok-value.ensures.kept more c.in_ok-more.ensures.held in
    let value : m c.in_ok-value.value ≡ V = c.in_ok-value.ensures.tree ∙ ap (λ (i : ℕ). Meta i (kept_variables (reverse flags) 0)) number in
    after (kept_context (rules_env Δ) Σ flags Γ [] [] n) G k _ (c.in_ok-kept.ensures.value Δ Σ Γ r e)
    ∙ after (declared (rules_env Δ) Σ G B k) (plain_metas m3 more) j (λ more. pure (more, V)) (c.in_ok-more.ensures.value Δ Σ G B r2 ctx ty)
    ∙ ap₂ (λ (S : Plain) (v : Term). Gave (S, v) j) (sym metas) (sym value)

pub returns-clause-held : goal.returns-clause-held
returns-clause-held g c =
    let h3 = g.T.Terms.holds c.declare_in.new.terms in
    let m3 = g.T.Terms.means c.declare_in.new.terms in
    let h = g.T.Terms.holds c.over_kept.new.terms in
    let m = g.T.Terms.means c.over_kept.new.terms in
    decls_held h3 m3 h m c.in_ok-value.ensures.kept c.in_ok-more.more c.in_ok-more.ensures.held

pub returns-clause-kept : goal.returns-clause-kept
returns-clause-kept g c =
    let h0 = g.T.Terms.holds c.args.terms.now in
    let m0 = g.T.Terms.means c.args.terms.now in
    let h1 = g.T.Terms.holds c.kept_context.new.terms in
    let m1 = g.T.Terms.means c.kept_context.new.terms in
    let h2 = g.T.Terms.holds c.rename.new.terms in
    let m2 = g.T.Terms.means c.rename.new.terms in
    let h3 = g.T.Terms.holds c.declare_in.new.terms in
    let m3 = g.T.Terms.means c.declare_in.new.terms in
    let h = g.T.Terms.holds c.over_kept.new.terms in
    let m = g.T.Terms.means c.over_kept.new.terms in
    let k2 = keeps_both h0 m0 h1 m1 h2 m2 c.in_ok-kept.ensures.kept c.in_ok-ty.ensures.kept in
    keeps_both h0 m0 h3 m3 h m (keeps_both h0 m0 h2 m2 h3 m3 k2 c.in_ok-more.ensures.kept) c.in_ok-value.ensures.kept
