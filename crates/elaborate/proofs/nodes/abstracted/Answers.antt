use Rattle.std.proofs.Common.{◌≡◌, ◌∙◌, ◌+◌, ◌<◌, suc, ap, ap₂, sym, refl, subst, arith, length, None, option_map}
use Rattle.ld_trees.specs.Term.{Lam, Square, Term}
use Rattle.ld_terms.proofs.Turns.{keeps_both}
use Rattle.unification.specs.Steps.{Gave}
use Rattle.elaboration.specs.Refusals.{NotType}
use Rattle.elaboration.specs.Elaboration.{made, product_or}
use Rattle.elaborate.specs.Standing.{MayBeProductIn, plain_product, plain_work}
use Rattle.elaborate.specs.Steps.{abstracted}
use Rattle.elaborate.proofs.AroundParts.{by_itself_is}
use Rattle.elaborate.proofs.Follow.{Shows, answers, fails_last, shows_more}
use Rattle.elaborate.proofs.Meanings.{depth_read, held_kept, read_kept, room, want_held, want_kept, work_kept}
use Rattle.elaborate.proofs.nodes.abstracted.Goals as goal

pub returns-in-Some-clause-value : goal.returns-in-Some-clause-value
returns-in-Some-clause-value g c Δ W P A m s r e o p q x =
    let h0 = g.T.Terms.holds c.args.terms.now in
    let m0 = g.T.Terms.means c.args.terms.now in
    let h1 = g.T.Terms.holds c.make.new.self in
    let m1 = g.T.Terms.means c.make.new.self in
    let k = c.in_ok-term.ensures.kept in
    let n = c.args.fuel.now in
    let whole = c.in-Some.product in
    ap (λ P. abstracted Δ W P A m s n) (sym (ap (option_map (plain_product m0)) (sym c.in-Some.is) ∙ o))
    ∙ ap (λ v. Gave (made v (Lam A m.term) (m0 whole.whole)) n) (sym (work_kept h0 m0 h1 m1 k c.args.body.work c.requires.held.globals.metas_held ∙ r.work_is))
    ∙ ap₂ (λ (t T : Term). Gave (made (plain_work m1 c.args.body.work) t T) n) (sym (c.in_ok-term.ensures.tree ∙ ap₂ (λ (A M : Term). Lam A M) p q)) (sym (k whole.whole (subst (MayBeProductIn h0) c.in-Some.is c.requires.product).whole).1)

pub depth_of-requires : goal.depth_of-requires
depth_of-requires g c =
    room c.requires.held

pub function_type-requires-clause-room : goal.function_type-requires-clause-room
function_type-requires-clause-room g c =
    subst (λ d. d < 999999000) (sym c.depth_of.ensures) (room c.requires.held)

pub function_type-requires-clause-domain : goal.function_type-requires-clause-domain
function_type-requires-clause-domain g c =
    (c.in_ok-term.ensures.kept c.args.domain c.requires.domain).0

pub function_type-requires-clause-ty : goal.function_type-requires-clause-ty
function_type-requires-clause-ty g c =
    (c.in_ok-term.ensures.kept c.args.body.ty c.requires.ty).0

pub returns-in_err-ty-in-None-clause-value : goal.returns-in_err-ty-in-None-clause-value
returns-in_err-ty-in-None-clause-value g c Δ W P A m s r e o p q x =
    let h0 = g.T.Terms.holds c.args.terms.now in
    let m0 = g.T.Terms.means c.args.terms.now in
    let h1 = g.T.Terms.holds c.make.new.self in
    let m1 = g.T.Terms.means c.make.new.self in
    let h2 = g.T.Terms.holds c.function_type.new.terms in
    let m2 = g.T.Terms.means c.function_type.new.terms in
    let n = c.args.fuel.now in
    let k1 = c.in_ok-term.ensures.kept in
    let d : c.depth_of.result + 1 ≡ suc (length s.entries) = omega (arith, c.depth_of.ensures, depth_read m0 r) in
    let a : m1 c.args.domain ≡ A = (k1 c.args.domain c.requires.domain).1 ∙ p in
    let t : m1 c.args.body.ty ≡ m.ty = (k1 c.args.body.ty c.requires.ty).1 ∙ x in
    let shown = c.in_err-ty-in-None.ensures.value n in
    fails_last h2 m2 _ _ (abstracted Δ W None A m s n) n c.from_residual-in_err-ty-in-None.result c.in_err-ty-in-None.field-0.0 (ap (λ P. abstracted Δ W P A m s n) (sym (ap (option_map (plain_product m0)) (sym c.in-None.is) ∙ o))) c.from_residual-in_err-ty-in-None.ensures.1
    (shows_more h2 m2 (product_or (NotType (suc (length s.entries)) Square) A m.ty n) _ n c.in_err-ty-in-None.field-0.0
    (subst (λ z. Shows h2 m2 z n c.in_err-ty-in-None.field-0.0) (ap (λ d. product_or (NotType d Square) (m1 c.args.domain) (m1 c.args.body.ty) n) d ∙ ap₂ (λ (A T : Term). product_or (NotType (suc (length s.entries)) Square) A T n) a t) shown))

pub meet-requires-clause-held : goal.meet-requires-clause-held
meet-requires-clause-held g c =
    let h0 = g.T.Terms.holds c.args.terms.now in
    let m0 = g.T.Terms.means c.args.terms.now in
    let h1 = g.T.Terms.holds c.make.new.self in
    let m1 = g.T.Terms.means c.make.new.self in
    let h2 = g.T.Terms.holds c.function_type.new.terms in
    let m2 = g.T.Terms.means c.function_type.new.terms in
    let k = keeps_both h0 m0 h1 m1 h2 m2 c.in_ok-term.ensures.kept c.in_ok-ty-in-None.ensures.kept in
    held_kept h0 m0 h2 m2 k c.requires.held

pub meet-requires-clause-want : goal.meet-requires-clause-want
meet-requires-clause-want g c =
    let h0 = g.T.Terms.holds c.args.terms.now in
    let m0 = g.T.Terms.means c.args.terms.now in
    let h1 = g.T.Terms.holds c.make.new.self in
    let m1 = g.T.Terms.means c.make.new.self in
    let h2 = g.T.Terms.holds c.function_type.new.terms in
    let m2 = g.T.Terms.means c.function_type.new.terms in
    let k = keeps_both h0 m0 h1 m1 h2 m2 c.in_ok-term.ensures.kept c.in_ok-ty-in-None.ensures.kept in
    want_held h0 m0 h2 m2 k c.args.want c.requires.want

pub meet-requires-clause-term : goal.meet-requires-clause-term
meet-requires-clause-term g c =
    (c.in_ok-ty-in-None.ensures.kept c.in_ok-term.term c.in_ok-term.ensures.held).0

pub returns-in_ok-ty-in-None-clause-value : goal.returns-in_ok-ty-in-None-clause-value
returns-in_ok-ty-in-None-clause-value g c Δ W P A m s r e o p q x =
    let h0 = g.T.Terms.holds c.args.terms.now in
    let m0 = g.T.Terms.means c.args.terms.now in
    let h1 = g.T.Terms.holds c.make.new.self in
    let m1 = g.T.Terms.means c.make.new.self in
    let h2 = g.T.Terms.holds c.function_type.new.terms in
    let m2 = g.T.Terms.means c.function_type.new.terms in
    let k = keeps_both h0 m0 h1 m1 h2 m2 c.in_ok-term.ensures.kept c.in_ok-ty-in-None.ensures.kept in
    let n = c.args.fuel.now in
    let k1 = c.in_ok-term.ensures.kept in
    let d : c.depth_of.result + 1 ≡ suc (length s.entries) = omega (arith, c.depth_of.ensures, depth_read m0 r) in
    let a : m1 c.args.domain ≡ A = (k1 c.args.domain c.requires.domain).1 ∙ p in
    let t : m1 c.args.body.ty ≡ m.ty = (k1 c.args.body.ty c.requires.ty).1 ∙ x in
    let T = m2 c.in_ok-ty-in-None.ty in
    let gave : product_or (NotType (suc (length s.entries)) Square) A m.ty n ≡ Gave T n =
    sym (ap (λ d. product_or (NotType d Square) (m1 c.args.domain) (m1 c.args.body.ty) n) d ∙ ap₂ (λ (A T : Term). product_or (NotType (suc (length s.entries)) Square) A T n) a t) ∙ c.in_ok-ty-in-None.ensures.value n in
    let h3 = g.T.Terms.holds c.meet.new.terms in
    let m3 = g.T.Terms.means c.meet.new.terms in
    answers h3 m3 _ _ _ c.meet.new.fuel c.meet.result (ap (λ P. abstracted Δ W P A m s n) (sym (ap (option_map (plain_product m0)) (sym c.in-None.is) ∙ o)) ∙ by_itself_is Δ W A m s n T n gave)
    (c.meet.ensures.value Δ W m.work s (Lam A m.term) T (read_kept h0 m0 h2 m2 k c.requires.held r) (want_kept h0 m0 h2 m2 k c.args.want c.requires.want ∙ e)
    ((c.in_ok-ty-in-None.ensures.kept c.in_ok-term.term c.in_ok-term.ensures.held).1 ∙ c.in_ok-term.ensures.tree ∙ ap₂ (λ (A M : Term). Lam A M) p q) refl)
