use Rattle.std.proofs.Common.{◌∙◌, ap, sym, refl, subst, option_map}
use Rattle.unification.specs.Steps.{Gave, pure}
use Rattle.elaboration.specs.Elaboration.{Any, Of, unified}
use Rattle.elaborate.specs.Standing.{MayBeProductIn, plain_product, plain_work}
use Rattle.elaborate.specs.Steps.{met_domain}
use Rattle.pattern_unify.proofs.Follow.{next}
use Rattle.elaborate.proofs.Follow.{fails}
use Rattle.elaborate.proofs.nodes.met_domain.Goals as goal

pub returns-in-None-clause-value : goal.returns-in-None-clause-value
returns-in-None-clause-value g c Δ P a s r o p =
    let h0 = g.T.Terms.holds c.args.terms.now in
    let m0 = g.T.Terms.means c.args.terms.now in
    let n = c.args.fuel.now in
    (ap (λ P. met_domain Δ P a s n) (sym (ap (option_map (plain_product m0)) (sym c.in-None.is) ∙ o))) ∙ ap (λ v. Gave (v, Any) n) (sym r.work_is)

pub unified-requires-clause-wanted : goal.unified-requires-clause-wanted
unified-requires-clause-wanted g c =
    let h0 = g.T.Terms.holds c.args.terms.now in
    let m0 = g.T.Terms.means c.args.terms.now in
    (subst (MayBeProductIn h0) c.in-Some.is c.requires.product).domain

pub returns-in_ok-work-in-Some-clause-held : goal.returns-in_ok-work-in-Some-clause-held
returns-in_ok-work-in-Some-clause-held g c =
    let h0 = g.T.Terms.holds c.args.terms.now in
    let m0 = g.T.Terms.means c.args.terms.now in
    (c.in_ok-work-in-Some.ensures.held, (c.in_ok-work-in-Some.ensures.kept c.in-Some.product.codomain (subst (MayBeProductIn h0) c.in-Some.is c.requires.product).codomain).0)

pub returns-in_err-work-in-Some-clause-value : goal.returns-in_err-work-in-Some-clause-value
returns-in_err-work-in-Some-clause-value g c Δ P a s r o p =
    let h0 = g.T.Terms.holds c.args.terms.now in
    let m0 = g.T.Terms.means c.args.terms.now in
    let h1 = g.T.Terms.holds c.unified.new.terms in
    let m1 = g.T.Terms.means c.unified.new.terms in
    let n = c.args.fuel.now in
    let x = c.in-Some.product in
    fails h1 m1 _ _ (unified Δ a.work s a.term (m0 x.domain) n) (λ v. pure (v, Of (m0 x.codomain))) c.unified.new.fuel c.from_residual.result c.in_err-work-in-Some.field-0.0 (ap (λ P. met_domain Δ P a s n) (sym (ap (option_map (plain_product m0)) (sym c.in-Some.is) ∙ o))) c.from_residual.ensures.1
    (c.in_err-work-in-Some.ensures.value Δ a.work s a.term (m0 x.domain) r p refl)

pub returns-in_ok-work-in-Some-clause-value : goal.returns-in_ok-work-in-Some-clause-value
returns-in_ok-work-in-Some-clause-value g c Δ P a s r o p =
    let h0 = g.T.Terms.holds c.args.terms.now in
    let m0 = g.T.Terms.means c.args.terms.now in
    let h1 = g.T.Terms.holds c.unified.new.terms in
    let m1 = g.T.Terms.means c.unified.new.terms in
    let n = c.args.fuel.now in
    let x = c.in-Some.product in
    let v = plain_work m1 c.in_ok-work-in-Some.work in
    next _ (unified Δ a.work s a.term (m0 x.domain) n) v c.unified.new.fuel (λ v. pure (v, Of (m0 x.codomain))) (ap (λ P. met_domain Δ P a s n) (sym (ap (option_map (plain_product m0)) (sym c.in-Some.is) ∙ o))) (c.in_ok-work-in-Some.ensures.value Δ a.work s a.term (m0 x.domain) r p refl)
    ∙ ap (λ T. Gave (v, Of T) c.unified.new.fuel) (sym (c.in_ok-work-in-Some.ensures.kept x.codomain (subst (MayBeProductIn h0) c.in-Some.is c.requires.product).codomain).1)
