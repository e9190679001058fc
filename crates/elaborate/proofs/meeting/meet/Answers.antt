use Rattle.std.proofs.Common.{◌∙◌, ap, ap₂, sym, refl, subst}
use Rattle.ld_trees.specs.Term.{Term}
use Rattle.unification.specs.Steps.{Gave, pure}
use Rattle.goal_state.proofs.Means.{decls_held}
use Rattle.elaboration.specs.Elaboration.{made, meet, unified, sort_of}
use Rattle.elaborate.specs.Standing.{IsWantIn, plain_want, plain_work}
use Rattle.pattern_unify.proofs.Follow.{next}
use Rattle.elaborate.proofs.Follow.{fails}
use Rattle.elaborate.proofs.Meanings.{work_kept}
use Rattle.elaborate.proofs.meeting.meet.Goals as goal

pub returns-in-Any-clause-value : goal.returns-in-Any-clause-value
returns-in-Any-clause-value g c Δ W w s t F r e p q =
    let h0 = g.T.Terms.holds c.args.terms.now in
    let m0 = g.T.Terms.means c.args.terms.now in
    let n = c.args.fuel.now in
    let v = plain_work m0 c.args.typed.work in
    ap (λ W. meet Δ W w s t F n) (sym (ap (plain_want m0) (sym c.in-Any.is) ∙ e)) ∙ ap (λ v. Gave (made v t F) n) (sym r.work_is) ∙ ap₂ (λ (t F : Term). Gave (made v t F) n) (sym p) (sym q)

pub returns-in_err-work-in-Of-clause-value : goal.returns-in_err-work-in-Of-clause-value
returns-in_err-work-in-Of-clause-value g c Δ W w s t F r e p q =
    let h0 = g.T.Terms.holds c.args.terms.now in
    let m0 = g.T.Terms.means c.args.terms.now in
    let h1 = g.T.Terms.holds c.unified.new.terms in
    let m1 = g.T.Terms.means c.unified.new.terms in
    let n = c.args.fuel.now in
    let wanted = m0 c.in-Of.wanted in
    fails h1 m1 _ _ (unified Δ w s F wanted n) (λ v. pure (made v t wanted)) c.unified.new.fuel c.from_residual.result c.in_err-work-in-Of.field-0.0 (ap (λ W. meet Δ W w s t F n) (sym (ap (plain_want m0) (sym c.in-Of.is) ∙ e))) c.from_residual.ensures.1
    (c.in_err-work-in-Of.ensures.value Δ w s F wanted r q refl)

pub returns-in_ok-work-in-Of-clause-value : goal.returns-in_ok-work-in-Of-clause-value
returns-in_ok-work-in-Of-clause-value g c Δ W w s t F r e p q =
    let h0 = g.T.Terms.holds c.args.terms.now in
    let m0 = g.T.Terms.means c.args.terms.now in
    let h1 = g.T.Terms.holds c.unified.new.terms in
    let m1 = g.T.Terms.means c.unified.new.terms in
    let n = c.args.fuel.now in
    let wanted = m0 c.in-Of.wanted in
    let v = plain_work m1 c.in_ok-work-in-Of.work in
    next _ (unified Δ w s F wanted n) v c.unified.new.fuel (λ v. pure (made v t wanted)) (ap (λ W. meet Δ W w s t F n) (sym (ap (plain_want m0) (sym c.in-Of.is) ∙ e))) (c.in_ok-work-in-Of.ensures.value Δ w s F wanted r q refl)
    ∙ ap₂ (λ (t T : Term). Gave (made v t T) c.unified.new.fuel) (sym ((c.in_ok-work-in-Of.ensures.kept c.args.typed.term c.requires.term).1 ∙ p)) (sym (c.in_ok-work-in-Of.ensures.kept c.in-Of.wanted (subst (IsWantIn h0) c.in-Of.is c.requires.want)).1)

pub returns-in_err-ty-in-AsType-clause-value : goal.returns-in_err-ty-in-AsType-clause-value
returns-in_err-ty-in-AsType-clause-value g c Δ W w s t F r e p q =
    let h0 = g.T.Terms.holds c.args.terms.now in
    let m0 = g.T.Terms.means c.args.terms.now in
    let h1 = g.T.Terms.holds c.sort_of.new.terms in
    let m1 = g.T.Terms.means c.sort_of.new.terms in
    let n = c.args.fuel.now in
    fails h1 m1 _ _ (sort_of Δ w s t F n) (λ x. pure (made w t x)) c.sort_of.new.fuel c.from_residual-in_err-ty-in-AsType.result c.in_err-ty-in-AsType.field-0.0 (ap (λ W. meet Δ W w s t F n) (sym (ap (plain_want m0) (sym c.in-AsType.is) ∙ e))) c.from_residual-in_err-ty-in-AsType.ensures.1
    (c.in_err-ty-in-AsType.ensures.value Δ w s t F r p q)

pub returns-in_ok-ty-in-AsType-clause-value : goal.returns-in_ok-ty-in-AsType-clause-value
returns-in_ok-ty-in-AsType-clause-value g c Δ W w s t F r e p q =
    let h0 = g.T.Terms.holds c.args.terms.now in
    let m0 = g.T.Terms.means c.args.terms.now in
    let h1 = g.T.Terms.holds c.sort_of.new.terms in
    let m1 = g.T.Terms.means c.sort_of.new.terms in
    let n = c.args.fuel.now in
    let k = c.in_ok-ty-in-AsType.ensures.kept in
    let x = m1 c.in_ok-ty-in-AsType.ty in
    next _ (sort_of Δ w s t F n) x c.sort_of.new.fuel (λ x. pure (made w t x)) (ap (λ W. meet Δ W w s t F n) (sym (ap (plain_want m0) (sym c.in-AsType.is) ∙ e))) (c.in_ok-ty-in-AsType.ensures.value Δ w s t F r p q)
    ∙ ap (λ v. Gave (made v t x) c.sort_of.new.fuel) (sym (work_kept h0 m0 h1 m1 k c.args.typed.work c.requires.held.globals.metas_held ∙ r.work_is))
    ∙ ap (λ t. Gave (made (plain_work m1 c.args.typed.work) t x) c.sort_of.new.fuel) (sym ((k c.args.typed.term c.requires.term).1 ∙ p))

pub unified-requires-clause-wanted : goal.unified-requires-clause-wanted
unified-requires-clause-wanted g c =
    let h0 = g.T.Terms.holds c.args.terms.now in
    let m0 = g.T.Terms.means c.args.terms.now in
    subst (IsWantIn h0) c.in-Of.is c.requires.want

pub returns-in-Any-clause-held : goal.returns-in-Any-clause-held
returns-in-Any-clause-held g c =
    record { metas = c.requires.held.globals.metas_held; term = c.requires.term; ty = c.requires.ty }

pub returns-in_ok-work-in-Of-clause-held : goal.returns-in_ok-work-in-Of-clause-held
returns-in_ok-work-in-Of-clause-held g c =
    let h0 = g.T.Terms.holds c.args.terms.now in
    let m0 = g.T.Terms.means c.args.terms.now in
    let k = c.in_ok-work-in-Of.ensures.kept in
    record { metas = c.in_ok-work-in-Of.ensures.held; term = (k c.args.typed.term c.requires.term).0; ty = (k c.in-Of.wanted (subst (IsWantIn h0) c.in-Of.is c.requires.want)).0 }

pub returns-in_ok-ty-in-AsType-clause-held : goal.returns-in_ok-ty-in-AsType-clause-held
returns-in_ok-ty-in-AsType-clause-held g c =
    let h0 = g.T.Terms.holds c.args.terms.now in
    let m0 = g.T.Terms.means c.args.terms.now in
    let h1 = g.T.Terms.holds c.sort_of.new.terms in
    let m1 = g.T.Terms.means c.sort_of.new.terms in
    let k = c.in_ok-ty-in-AsType.ensures.kept in
    record { metas = decls_held h0 m0 h1 m1 k c.args.typed.work.metas c.requires.held.globals.metas_held; term = (k c.args.typed.term c.requires.term).0; ty = c.in_ok-ty-in-AsType.ensures.held }
