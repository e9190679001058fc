use Rattle.std.proofs.Common.{◌∙◌, ap, sym, refl, subst, Option, Some}
use Rattle.ld_trees.specs.Term.{Term}
use Rattle.unification.specs.Steps.{Gave, pure}
use Rattle.elaboration.specs.Elaboration.{reduced}
use Rattle.elaborate.specs.Standing.{IsWantIn, plain_want}
use Rattle.elaborate.specs.Steps.{Product, product_of, wanted_product}
use Rattle.pattern_unify.proofs.Follow.{next}
use Rattle.elaborate.proofs.Follow.{fails}
use Rattle.elaborate.proofs.Forms.{no_product}
use Rattle.elaborate.proofs.Meanings.{globals_read}
use Rattle.elaborate.proofs.nodes.wanted_product.Goals as goal

pub reduced-requires-clause-globals : goal.reduced-requires-clause-globals
reduced-requires-clause-globals g c =
    c.requires.held.globals

pub reduced-requires-clause-term : goal.reduced-requires-clause-term
reduced-requires-clause-term g c =
    let h0 = g.T.Terms.holds c.args.terms.now in
    let m0 = g.T.Terms.means c.args.terms.now in
    subst (IsWantIn h0) c.in-Of.is c.requires.want

pub returns-in_err-form-in-Of-clause-value : goal.returns-in_err-form-in-Of-clause-value
returns-in_err-form-in-Of-clause-value g c Δ W w s r e =
    let h0 = g.T.Terms.holds c.args.terms.now in
    let m0 = g.T.Terms.means c.args.terms.now in
    let h1 = g.T.Terms.holds c.reduced.new.terms in
    let m1 = g.T.Terms.means c.reduced.new.terms in
    let n = c.args.fuel.now in
    fails h1 m1 _ _ (reduced Δ w (m0 c.in-Of.whole) n) (λ T. pure (product_of (m0 c.in-Of.whole) T)) c.reduced.new.fuel c.from_residual.result c.in_err-form-in-Of.field-0.0 (ap (λ W. wanted_product Δ W w n) (sym (ap (plain_want m0) (sym c.in-Of.is) ∙ e))) c.from_residual.ensures.1 (c.in_err-form-in-Of.ensures.value Δ w (m0 c.in-Of.whole) (globals_read m0 r) refl)

pub returns-in-Some-clause-value : goal.returns-in-Some-clause-value
returns-in-Some-clause-value g c Δ W w s r e =
    let h0 = g.T.Terms.holds c.args.terms.now in
    let m0 = g.T.Terms.means c.args.terms.now in
    let h1 = g.T.Terms.holds c.reduced.new.terms in
    let m1 = g.T.Terms.means c.reduced.new.terms in
    let n = c.args.fuel.now in
    let some : Term → Option Product = λ T. Some (record { whole = T; domain = m1 c.in-Some.domain-1-given.0.0.0; codomain = m1 c.in-Some.domain-1-given.0.0.1 }) in
    next _ (reduced Δ w (m0 c.in-Of.whole) n) (m1 c.in_ok-form-in-Of.form) c.reduced.new.fuel (λ T. pure (product_of (m0 c.in-Of.whole) T)) (ap (λ W. wanted_product Δ W w n) (sym (ap (plain_want m0) (sym c.in-Of.is) ∙ e))) (c.in_ok-form-in-Of.ensures.value Δ w (m0 c.in-Of.whole) (globals_read m0 r) refl)
    ∙ ap (λ T. Gave (product_of (m0 c.in-Of.whole) T) c.reduced.new.fuel) c.in-Some.ensures.parts
    ∙ ap (λ T. Gave (some T) c.reduced.new.fuel) (sym (c.in_ok-form-in-Of.ensures.kept c.in-Of.whole (subst (IsWantIn h0) c.in-Of.is c.requires.want)).1)

pub returns-in-None-clause-value : goal.returns-in-None-clause-value
returns-in-None-clause-value g c Δ W w s r e =
    let h0 = g.T.Terms.holds c.args.terms.now in
    let m0 = g.T.Terms.means c.args.terms.now in
    let h1 = g.T.Terms.holds c.reduced.new.terms in
    let m1 = g.T.Terms.means c.reduced.new.terms in
    let n = c.args.fuel.now in
    next _ (reduced Δ w (m0 c.in-Of.whole) n) (m1 c.in_ok-form-in-Of.form) c.reduced.new.fuel (λ T. pure (product_of (m0 c.in-Of.whole) T)) (ap (λ W. wanted_product Δ W w n) (sym (ap (plain_want m0) (sym c.in-Of.is) ∙ e))) (c.in_ok-form-in-Of.ensures.value Δ w (m0 c.in-Of.whole) (globals_read m0 r) refl) ∙ ap (λ p. Gave p c.reduced.new.fuel) (no_product (m0 c.in-Of.whole) (m1 c.in_ok-form-in-Of.form) c.in-None.ensures.parts)

pub returns-in-Any-clause-value : goal.returns-in-Any-clause-value
returns-in-Any-clause-value g c Δ W w s r e =
    let h0 = g.T.Terms.holds c.args.terms.now in
    let m0 = g.T.Terms.means c.args.terms.now in
    ap (λ W. wanted_product Δ W w c.args.fuel.now) (sym (ap (plain_want m0) (sym c.in-Any.is) ∙ e))

pub returns-in-AsType-clause-value : goal.returns-in-AsType-clause-value
returns-in-AsType-clause-value g c Δ W w s r e =
    let h0 = g.T.Terms.holds c.args.terms.now in
    let m0 = g.T.Terms.means c.args.terms.now in
    ap (λ W. wanted_product Δ W w c.args.fuel.now) (sym (ap (plain_want m0) (sym c.in-AsType.is) ∙ e))
