use Rattle.std.proofs.Common.{◌∙◌, map, refl, ap}
use Rattle.ld_terms.specs.Views.{terms_of}
use Rattle.kernel_check.proofs.Calls.{type_derives, types_held, types_of_context}
use Rattle.kernel_check.proofs.ScopedCalls.{derived_scoped, type_shown}
use Rattle.kernel_check.proofs.kernel.infer.Goals as goal

pub returns-clause-value : goal.returns-clause-value
returns-clause-value g c =
    let m = g.T.Terms.means c.args.terms.now in
    let r = ap (λ l. terms_of (map m l)) c.in_ok-types.ensures ∙ types_of_context m c.args.ctx.now in
    c.infer_in.ensures.value _ _ _ (record { env = refl; context = r }) refl

pub returns-clause-derived : goal.returns-clause-derived
returns-clause-derived g c =
    let m = g.T.Terms.means c.args.terms.now in
    let r = ap (λ l. terms_of (map m l)) c.in_ok-types.ensures ∙ types_of_context m c.args.ctx.now in
    type_derives (g.T.Terms.holds c.infer_in.new.terms) (g.T.Terms.means c.infer_in.new.terms) _ _ _ _ _ _ (c.infer_in.ensures.value _ _ _ (record { env = refl; context = r }) refl)

pub infer_in-requires-clause-types : goal.infer_in-requires-clause-types
infer_in-requires-clause-types g c = types_held (g.T.Terms.holds c.args.terms.now) c.args.ctx.now c.in_ok-types.types.items c.in_ok-types.ensures c.requires.context

pub returns-clause-scoped : goal.returns-clause-scoped
returns-clause-scoped g c ok = derived_scoped (g.T.Terms.holds c.infer_in.new.terms) (g.T.Terms.means c.infer_in.new.terms) _ _ _ _ (returns-clause-derived g c ok)

pub returns-clause-shown : goal.returns-clause-shown
returns-clause-shown g c = type_shown (g.T.Terms.holds c.infer_in.new.terms) (g.T.Terms.means c.infer_in.new.terms) _ _ _ _ _ _ (returns-clause-value g c)
