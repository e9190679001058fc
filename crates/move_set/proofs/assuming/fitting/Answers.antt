use Rattle.std.proofs.Common.{◌≡◌, ◌∙◌, length, Some, ap, sym, refl, subst}
use Rattle.ld_trees.specs.Term.{Term}
use Rattle.ld_rules.specs.Environment.{type_at}
use Rattle.ld_terms.specs.declared.globals.Decl.{Decl}
use Rattle.conversion.specs.Globals.{AreLocals, context_of}
use Rattle.conversion.proofs.Lookups.{globals_kept}
use Rattle.meta_context.specs.Plain.{rules_ctx, rules_env}
use Rattle.goal_state.specs.State.{plain_metas}
use Rattle.unification.specs.Steps.{Gave, renamed}
use Rattle.unification.specs.Unification.{unify}
use Rattle.pattern_unify.specs.Answers.{ShowsUnify}
use Rattle.move_set.specs.Answers.{Shows}
use Rattle.move_set.specs.Faults.{unify_fault}
use Rattle.move_set.specs.Refusals.{from_unification}
use Rattle.move_set.proofs.Follow.{renamed_gave, unify_shows, IsNoHalt}
use Rattle.pattern_unify.proofs.Meanings.{read_ctx, read_kept, read_length}
use Rattle.move_set.proofs.Tries.{try_fits, try_refused, try_short, real_fault}
use Rattle.move_set.proofs.Turning.{refused_turn}
use Rattle.move_set.proofs.assuming.fitting.Goals as goal

pub entry_type-requires-clause-entries : goal.entry_type-requires-clause-entries
entry_type-requires-clause-entries g c = subst (AreLocals (g.T.Terms.holds c.args.terms.now)) (sym c.as_slice-ctx.ensures) c.requires.goal.ctx

pub unify-requires-clause-globals : goal.unify-requires-clause-globals
unify-requires-clause-globals g c = globals_kept _ _ _ (g.T.Terms.means c.entry_type.new.terms) c.entry_type.ensures.kept c.args.env.now c.args.metas.now c.requires.globals

pub unify-requires-clause-b : goal.unify-requires-clause-b
unify-requires-clause-b g c = (c.entry_type.ensures.kept c.args.decl.now.ty c.requires.goal.ty).0

pub returns-in-Ok-clause-value : goal.returns-in-Ok-clause-value
returns-in-Ok-clause-value g c Δ Σ d root k read same =
    let h0 = g.T.Terms.holds c.args.terms.now in
    let m0 = g.T.Terms.means c.args.terms.now in
    let h1 = g.T.Terms.holds c.entry_type.new.terms in
    let m1 = g.T.Terms.means c.entry_type.new.terms in
    let k1 = c.entry_type.ensures.kept in
    let m2 = g.T.Terms.means c.unify.new.terms in
    let n = c.args.fuel.now in
    let left = c.unify.new.fuel in
    let A = m1 c.in_ok-ty.ty in
    let ctx = ap (λ (y : Decl Term). y.ctx) same in
    let there : type_at (rules_ctx d.ctx) c.args.i ≡ Some A = ap (λ Γ. type_at Γ c.args.i) (sym (read_ctx m0 c.args.decl.now.ctx d.ctx ctx)) ∙ ap (λ ls. type_at (context_of m0 ls) c.args.i) (sym c.as_slice-ctx.ensures) ∙ c.in_ok-ty.ensures.value in
    let depth : c.count_of-depth.result ≡ length d.ctx = c.count_of-depth.ensures ∙ ap (λ ls. length ls) c.as_slice-ctx.ensures ∙ read_length m0 c.args.decl.now.ctx d.ctx ctx in
    let r1 = read_kept h0 m0 h1 m1 k1 c.args.env.now c.args.metas.now Δ Σ c.requires.globals read in
    let ty = (k1 c.args.decl.now.ty c.requires.goal.ty).1 ∙ ap (λ (y : Decl Term). y.ty) same in
    let o = unify (rules_env Δ) Σ (length d.ctx) A d.ty n in
    let S = plain_metas m2 c.in-Ok.more in
    let gave : o ≡ Gave S left = subst (λ i. unify (rules_env Δ) Σ i A d.ty n ≡ Gave S left) depth (c.in-Ok.ensures.value Δ Σ A d.ty r1 refl ty) in
    try_fits Δ Σ root d c.args.i k n A there S left (renamed_gave from_unification o S left gave)

pub returns-in-Fuel-clause-value : goal.returns-in-Fuel-clause-value
returns-in-Fuel-clause-value g c Δ Σ d root k read same =
    let h0 = g.T.Terms.holds c.args.terms.now in
    let m0 = g.T.Terms.means c.args.terms.now in
    let h1 = g.T.Terms.holds c.entry_type.new.terms in
    let m1 = g.T.Terms.means c.entry_type.new.terms in
    let k1 = c.entry_type.ensures.kept in
    let h2 = g.T.Terms.holds c.unify.new.terms in
    let m2 = g.T.Terms.means c.unify.new.terms in
    let n = c.args.fuel.now in
    let left = c.unify.new.fuel in
    let A = m1 c.in_ok-ty.ty in
    let ctx = ap (λ (y : Decl Term). y.ctx) same in
    let there : type_at (rules_ctx d.ctx) c.args.i ≡ Some A = ap (λ Γ. type_at Γ c.args.i) (sym (read_ctx m0 c.args.decl.now.ctx d.ctx ctx)) ∙ ap (λ ls. type_at (context_of m0 ls) c.args.i) (sym c.as_slice-ctx.ensures) ∙ c.in_ok-ty.ensures.value in
    let depth : c.count_of-depth.result ≡ length d.ctx = c.count_of-depth.ensures ∙ ap (λ ls. length ls) c.as_slice-ctx.ensures ∙ read_length m0 c.args.decl.now.ctx d.ctx ctx in
    let r1 = read_kept h0 m0 h1 m1 k1 c.args.env.now c.args.metas.now Δ Σ c.requires.globals read in
    let ty = (k1 c.args.decl.now.ty c.requires.goal.ty).1 ∙ ap (λ (y : Decl Term). y.ty) same in
    let o = unify (rules_env Δ) Σ (length d.ctx) A d.ty n in
    let refused : ShowsUnify (λ r. r) h2 m2 o left c.in-Err.fault = subst (λ i. ShowsUnify (λ r. r) h2 m2 (unify (rules_env Δ) Σ i A d.ty n) left c.in-Err.fault) depth (c.in-Err.ensures.value Δ Σ A d.ty r1 refl ty) in
    let shown = subst (λ f. Shows h2 m2 (renamed from_unification o) left (unify_fault f)) c.in-Fuel.is (unify_shows h2 m2 o left c.in-Err.fault refused) in
    (try_short Δ Σ root d c.args.i k n A there shown.0, shown.1)

pub returns-in_default-clause-value : goal.returns-in_default-clause-value
returns-in_default-clause-value g c Δ Σ d root k read same =
    let h0 = g.T.Terms.holds c.args.terms.now in
    let m0 = g.T.Terms.means c.args.terms.now in
    let h1 = g.T.Terms.holds c.entry_type.new.terms in
    let m1 = g.T.Terms.means c.entry_type.new.terms in
    let k1 = c.entry_type.ensures.kept in
    let h2 = g.T.Terms.holds c.unify.new.terms in
    let m2 = g.T.Terms.means c.unify.new.terms in
    let n = c.args.fuel.now in
    let left = c.unify.new.fuel in
    let A = m1 c.in_ok-ty.ty in
    let ctx = ap (λ (y : Decl Term). y.ctx) same in
    let there : type_at (rules_ctx d.ctx) c.args.i ≡ Some A = ap (λ Γ. type_at Γ c.args.i) (sym (read_ctx m0 c.args.decl.now.ctx d.ctx ctx)) ∙ ap (λ ls. type_at (context_of m0 ls) c.args.i) (sym c.as_slice-ctx.ensures) ∙ c.in_ok-ty.ensures.value in
    let depth : c.count_of-depth.result ≡ length d.ctx = c.count_of-depth.ensures ∙ ap (λ ls. length ls) c.as_slice-ctx.ensures ∙ read_length m0 c.args.decl.now.ctx d.ctx ctx in
    let r1 = read_kept h0 m0 h1 m1 k1 c.args.env.now c.args.metas.now Δ Σ c.requires.globals read in
    let ty = (k1 c.args.decl.now.ty c.requires.goal.ty).1 ∙ ap (λ (y : Decl Term). y.ty) same in
    let o = unify (rules_env Δ) Σ (length d.ctx) A d.ty n in
    let refused : ShowsUnify (λ r. r) h2 m2 o left c.in-Err.fault = subst (λ i. ShowsUnify (λ r. r) h2 m2 (unify (rules_env Δ) Σ i A d.ty n) left c.in-Err.fault) depth (c.in-Err.ensures.value Δ Σ A d.ty r1 refl ty) in
    let real : IsNoHalt (unify_fault c.in-Err.fault) = real_fault c.in-Err.fault c.in_default.not-Fuel c.in_default.not-Memory in
    let x = refused_turn h2 m2 o left c.in-Err.fault real refused in
    try_refused Δ Σ root d c.args.i k n A there x.0 left x.1
