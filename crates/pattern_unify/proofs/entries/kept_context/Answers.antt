use Rattle.std.proofs.Common.{◌<◌, ◌+◌, [], length, get_or, false, refl, sym, ap, ◌∙◌, subst, arith}
use Rattle.ld_terms.specs.declared.globals.Local.{Local}
use Rattle.conversion.proofs.Lookups.{globals_kept}
use Rattle.meta_context.specs.Plain.{plain_locals, rules_env}
use Rattle.unification.specs.Pruning.{kept_context}
use Rattle.pattern_unify.specs.Answers.{Shows}
use Rattle.pattern_unify.proofs.Follow.{residual}
use Rattle.pattern_unify.proofs.Meanings.{read_kept}
use Rattle.pattern_unify.proofs.KeptContexts.{kept_all, kept_short, kept_more, kept_refused}
use Rattle.pattern_unify.proofs.entries.kept_context.Goals as goal

pub returns-then-k-ctx-clause-value : goal.returns-then-k-ctx-clause-value
returns-then-k-ctx-clause-value g c Δ Σ Γ r e =
    let h0 = g.T.Terms.holds c.args.terms.now in
    let m0 = g.T.Terms.means c.args.terms.now in
    let h = g.T.Terms.holds c.loop-k.terms in
    let m = g.T.Terms.means c.loop-k.terms in
    ap (λ G. kept_context (rules_env Δ) Σ c.args.flags.now G [] [] c.args.fuel.now) (sym e)
    ∙ kept_short h0 m0 c.args.env.now c.args.metas.now c.args.flags.now c.args.ctx.now c.args.fuel.now h m c.loop-k.kept c.loop-k.k c.loop-k.fuel c.loop-k.invariant (omega (arith, c.if-k-ctx.true)) Δ Σ r

pub keep_entry-requires-clause-globals : goal.keep_entry-requires-clause-globals
keep_entry-requires-clause-globals g c =
    let h0 = g.T.Terms.holds c.args.terms.now in
    let m0 = g.T.Terms.means c.args.terms.now in
    let h = g.T.Terms.holds c.loop-k.terms in
    let m = g.T.Terms.means c.loop-k.terms in
    globals_kept h0 m0 h m c.loop-k.invariant.kept c.args.env.now c.args.metas.now c.requires.globals

pub returns-in_err-kept-clause-value : goal.returns-in_err-kept-clause-value
returns-in_err-kept-clause-value g c Δ Σ Γ r e =
    let h0 = g.T.Terms.holds c.args.terms.now in
    let m0 = g.T.Terms.means c.args.terms.now in
    let h1 = g.T.Terms.holds c.loop-k.terms in
    let m1 = g.T.Terms.means c.loop-k.terms in
    let h = g.T.Terms.holds c.keep_entry.new.terms in
    let m = g.T.Terms.means c.keep_entry.new.terms in
    let l = c.index-ctx-k.result in
    let inside : c.loop-k.k < length c.args.ctx.now = omega (arith, c.if-k-ctx.false) in
    let ty = subst (λ (x : Local _). h0 x.ty) (sym c.index-ctx-k.is) (c.requires.context c.loop-k.k l inside) in
    let r1 = read_kept h0 m0 h1 m1 c.loop-k.invariant.kept c.args.env.now c.args.metas.now Δ Σ c.requires.globals r in
    residual h m _ _ _ c.from_residual.result c.in_err-kept.field-0.0 c.from_residual.ensures.1
    (subst (λ G. Shows h m (kept_context (rules_env Δ) Σ c.args.flags.now G [] [] c.args.fuel.now) c.keep_entry.new.fuel c.in_err-kept.field-0.0) e
    (kept_refused h0 m0 c.args.env.now c.args.metas.now c.args.flags.now c.args.ctx.now c.args.fuel.now h1 m1 c.loop-k.kept c.loop-k.k c.loop-k.fuel c.loop-k.invariant
    (get_or c.args.flags.now c.loop-k.k false) l (omega (arith, c.loop-k-test.true)) inside refl c.index-ctx-k.is ty h m c.keep_entry.new.fuel c.in_err-kept.ensures.kept c.in_err-kept.ensures.less
    Δ Σ r c.in_err-kept.field-0.0 (c.in_err-kept.ensures.value Δ Σ (plain_locals m1 c.loop-k.kept) (m1 l.ty) r1 refl refl)))

pub loop-k-preserved : goal.loop-k-preserved
loop-k-preserved g c =
    let h0 = g.T.Terms.holds c.args.terms.now in
    let m0 = g.T.Terms.means c.args.terms.now in
    let h1 = g.T.Terms.holds c.loop-k.terms in
    let m1 = g.T.Terms.means c.loop-k.terms in
    let h = g.T.Terms.holds c.keep_entry.new.terms in
    let m = g.T.Terms.means c.keep_entry.new.terms in
    let l = c.index-ctx-k.result in
    let inside : c.loop-k.k < length c.args.ctx.now = omega (arith, c.if-k-ctx.false) in
    let ty = subst (λ (x : Local _). h0 x.ty) (sym c.index-ctx-k.is) (c.requires.context c.loop-k.k l inside) in
    kept_more h0 m0 c.args.env.now c.args.metas.now c.args.flags.now c.args.ctx.now c.args.fuel.now h1 m1 c.loop-k.kept c.loop-k.k c.loop-k.fuel c.loop-k.invariant
    (get_or c.args.flags.now c.loop-k.k false) l (omega (arith, c.loop-k-test.true)) inside refl c.index-ctx-k.is ty h m c.keep_entry.new.fuel c.in_ok-kept.ensures.kept c.in_ok-kept.ensures.less
    (c.loop-k.k + 1) c.in_ok-kept.kept refl c.in_ok-kept.ensures.held c.in_ok-kept.ensures.names
    (λ Δ Σ r. c.in_ok-kept.ensures.value Δ Σ (plain_locals m1 c.loop-k.kept) (m1 l.ty) (read_kept h0 m0 h1 m1 c.loop-k.invariant.kept c.args.env.now c.args.metas.now Δ Σ c.requires.globals r) refl refl)

pub returns-clause-value : goal.returns-clause-value
returns-clause-value g c Δ Σ Γ r e =
    let h0 = g.T.Terms.holds c.args.terms.now in
    let m0 = g.T.Terms.means c.args.terms.now in
    let h = g.T.Terms.holds c.loop-k.terms in
    let m = g.T.Terms.means c.loop-k.terms in
    ap (λ G. kept_context (rules_env Δ) Σ c.args.flags.now G [] [] c.args.fuel.now) (sym e)
    ∙ kept_all h0 m0 c.args.env.now c.args.metas.now c.args.flags.now c.args.ctx.now c.args.fuel.now h m c.loop-k.kept c.loop-k.k c.loop-k.fuel c.loop-k.invariant (omega (arith, c.loop-k-test.false)) Δ Σ r
