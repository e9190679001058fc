use Rattle.std.proofs.Common.{◌≡◌, ◌∙◌, length, ap, refl, sym}
use Rattle.ld_terms.specs.Views.{Keeps}
use Rattle.conversion.proofs.Lookups.{globals_kept}
use Rattle.meta_context.specs.Plain.{plain_locals, rules_env}
use Rattle.goal_state.specs.State.{plain_metas}
use Rattle.unification.specs.Metavariables.{declared}
use Rattle.unification.specs.Steps.{Gave, renamed}
use Rattle.pattern_unify.specs.Answers.{AreRead}
use Rattle.ld_terms.proofs.Turns.{keeps_both}
use Rattle.pattern_unify.proofs.Meanings.{read_kept, locals_kept, read_length, metas_length}
use Rattle.move_set.specs.Applying.{Application, product_of, applied}
use Rattle.move_set.specs.Faults.{unify_fault}
use Rattle.move_set.specs.Refusals.{from_unification}
use Rattle.move_set.proofs.Follow.{fails, unify_shows}
use Rattle.move_set.proofs.Turning.{after_parts, made, declaring, longer_made, same_longer}
use Rattle.move_set.proofs.applying.longer.Goals as goal

pub returns-in_err-domain-clause-value : goal.returns-in_err-domain-clause-value
returns-in_err-domain-clause-value g c Δ a d r e is ctx shown =
    let m0 = g.T.Terms.means c.args.terms.now in
    let h1 = g.T.Terms.holds c.product_of.new.terms in
    let m1 = g.T.Terms.means c.product_of.new.terms in
    let read : AreRead m0 c.args.env.now c.args.here.metas Δ a.metas = record { items_are = e; metas_are = ap (λ (a : Application). a.metas) is } in
    let n = c.args.fuel.now in
    fails h1 m1 _ (applied (rules_env Δ) d r a n) (product_of (rules_env Δ) r a.metas a.ty n) (after_parts (rules_env Δ) d a) _ c.from_residual.result c.in_err-domain.field-0.0 refl c.from_residual.ensures.1
    (c.in_err-domain.ensures.value Δ a.metas a.ty r read (ap (λ (a : Application). a.ty) is) shown)

pub declare_in-requires-clause-globals : goal.declare_in-requires-clause-globals
declare_in-requires-clause-globals g c = globals_kept _ _ _ (g.T.Terms.means c.product_of.new.terms) c.product_of.ensures.kept c.args.env.now c.args.here.metas c.requires.globals

pub returns-in_err-more-clause-value : goal.returns-in_err-more-clause-value
returns-in_err-more-clause-value g c Δ a d r e is ctx shown =
    let h0 = g.T.Terms.holds c.args.terms.now in
    let m0 = g.T.Terms.means c.args.terms.now in
    let h1 = g.T.Terms.holds c.product_of.new.terms in
    let m1 = g.T.Terms.means c.product_of.new.terms in
    let k1 = c.product_of.ensures.kept in
    let h2 = g.T.Terms.holds c.declare_in.new.terms in
    let m2 = g.T.Terms.means c.declare_in.new.terms in
    let read : AreRead m0 c.args.env.now c.args.here.metas Δ a.metas = record { items_are = e; metas_are = ap (λ (a : Application). a.metas) is } in
    let n = c.args.fuel.now in
    let u1 = c.product_of.new.fuel in
    let A = m1 c.in_ok-domain.domain in
    let B = m1 c.in_ok-domain.codomain in
    let gave = c.in_ok-domain.ensures.value Δ a.metas a.ty r read (ap (λ (a : Application). a.ty) is) shown in
    let r1 = read_kept h0 m0 h1 m1 k1 c.args.env.now c.args.here.metas Δ a.metas c.requires.globals read in
    let ctx1 : plain_locals m1 c.args.ctx.now ≡ d.ctx = locals_kept h0 m0 h1 m1 k1 c.args.ctx.now c.requires.context ∙ ctx in
    let o = declared (rules_env Δ) a.metas d.ctx A u1 in
    fails h2 m2 _ (applied (rules_env Δ) d r a n) (renamed from_unification o) (made (rules_env Δ) d a (A, B)) _ c.from_residual-in_err-more.result (unify_fault c.in_err-more.field-0.0) (declaring (rules_env Δ) d a r n u1 A B gave) c.from_residual-in_err-more.ensures.1
    (unify_shows h2 m2 o _ c.in_err-more.field-0.0 (c.in_err-more.ensures.value Δ a.metas d.ctx A r1 ctx1 refl))

pub returns-clause-value : goal.returns-clause-value
returns-clause-value g c Δ a d r e is ctx shown =
    let h0 = g.T.Terms.holds c.args.terms.now in
    let m0 = g.T.Terms.means c.args.terms.now in
    let h1 = g.T.Terms.holds c.product_of.new.terms in
    let m1 = g.T.Terms.means c.product_of.new.terms in
    let k1 = c.product_of.ensures.kept in
    let h2 = g.T.Terms.holds c.declare_in.new.terms in
    let m2 = g.T.Terms.means c.declare_in.new.terms in
    let k2 = c.declare_in.ensures.kept in
    let k02 : Keeps h0 m0 h2 m2 = keeps_both h0 m0 h1 m1 h2 m2 k1 k2 in
    let read : AreRead m0 c.args.env.now c.args.here.metas Δ a.metas = record { items_are = e; metas_are = ap (λ (a : Application). a.metas) is } in
    let n = c.args.fuel.now in
    let u1 = c.product_of.new.fuel in
    let u2 = c.declare_in.new.fuel in
    let A = m1 c.in_ok-domain.domain in
    let B = m1 c.in_ok-domain.codomain in
    let gave = c.in_ok-domain.ensures.value Δ a.metas a.ty r read (ap (λ (a : Application). a.ty) is) shown in
    let r1 = read_kept h0 m0 h1 m1 k1 c.args.env.now c.args.here.metas Δ a.metas c.requires.globals read in
    let ctx1 : plain_locals m1 c.args.ctx.now ≡ d.ctx = locals_kept h0 m0 h1 m1 k1 c.args.ctx.now c.requires.context ∙ ctx in
    let S = plain_metas m2 c.in_ok-more.more in
    let more : declared (rules_env Δ) a.metas d.ctx A u1 ≡ Gave S u2 = c.in_ok-more.ensures.value Δ a.metas d.ctx A r1 ctx1 refl in
    let whole = longer_made (rules_env Δ) d a r n u1 u2 A B S gave more in
    let number : c.in_ok-more.m ≡ length a.metas = c.in_ok-more.ensures.number ∙ sym (metas_length m0 c.args.here.metas) ∙ ap (λ ds. length ds) read.metas_are in
    let count : c.count_of-count.result ≡ length d.ctx = c.count_of-count.ensures ∙ read_length m0 c.args.ctx.now d.ctx ctx in
    let made = c.in_ok-one_more.ensures.value
    ∙ same_longer S c.args.here.args a.args _ a.term _ B c.in_ok-more.m (length a.metas) c.count_of-count.result (length d.ctx) (ap (λ (a : Application). a.args) is)
    ((k02 c.args.here.term c.requires.term).1 ∙ ap (λ (a : Application). a.term) is) (k2 c.in_ok-domain.codomain c.in_ok-domain.ensures.held.1).1 number count in
    whole ∙ ap (λ (x : Application). Gave x u2) (sym made)

pub returns-clause-kept : goal.returns-clause-kept
returns-clause-kept g c =
    keeps_both _ _ _ (g.T.Terms.means c.declare_in.new.terms) _ _ (keeps_both _ _ _ (g.T.Terms.means c.product_of.new.terms) _ _ c.product_of.ensures.kept c.declare_in.ensures.kept) c.one_more.ensures.kept
