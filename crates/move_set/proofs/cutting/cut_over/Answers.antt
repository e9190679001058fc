use Rattle.std.proofs.Common.{◌≡◌, ◌∙◌, ℕ, [], ◌∷◌, length, ap, ap₂, sym, refl}
use Rattle.std.specs.Prelude.{slice_get}
use Rattle.std.proofs.lemmas.Option.{slice_get_within}
use Rattle.ld_trees.specs.Term.{Term, App, Lam}
use Rattle.ld_trees.specs.Substitution.{weaken}
use Rattle.ld_terms.specs.declared.globals.Decl.{Decl}
use Rattle.conversion.specs.Globals.{AreGlobalsOf}
use Rattle.conversion.proofs.Lookups.{globals_kept}
use Rattle.meta_context.specs.Plain.{plain_locals, rules_env}
use Rattle.goal_state.specs.State.{plain_metas}
use Rattle.unification.specs.Metavariables.{declared}
use Rattle.unification.specs.Patterns.{over_all}
use Rattle.unification.specs.Refusals.{Plain}
use Rattle.unification.specs.Steps.{Gave, renamed}
use Rattle.pattern_unify.specs.Answers.{AreRead}
use Rattle.move_set.specs.Faults.{unify_fault}
use Rattle.move_set.specs.Moves.{Moved, settled, cut_over}
use Rattle.move_set.specs.Refusals.{Step, from_unification}
use Rattle.pattern_unify.proofs.Follow.{after}
use Rattle.move_set.proofs.Follow.{answers, fails, renamed_gave, unify_shows}
use Rattle.ld_terms.proofs.Turns.{keeps_both}
use Rattle.pattern_unify.proofs.Meanings.{locals_held, locals_kept, read_kept, read_length, metas_length}
use Rattle.move_set.proofs.Meanings.{declared_before}
use Rattle.move_set.proofs.Weakened.{weakened}
use Rattle.move_set.proofs.cutting.cut_over.Goals as goal

pub declare_in-requires-clause-globals : goal.declare_in-requires-clause-globals
declare_in-requires-clause-globals g c = globals_kept _ _ _ (g.T.Terms.means c.shift.new.terms) c.shift.ensures.kept c.args.env.now c.args.metas.now c.requires.globals

pub declare_in-requires-clause-context : goal.declare_in-requires-clause-context
declare_in-requires-clause-context g c =
    locals_held (g.T.Terms.holds c.args.terms.now) (g.T.Terms.means c.args.terms.now) (g.T.Terms.holds c.shift.new.terms) (g.T.Terms.means c.shift.new.terms) c.shift.ensures.kept c.args.ctx.now c.requires.context

pub applied_to-requires : goal.applied_to-requires
applied_to-requires g c = (c.declare_in.ensures.kept c.args.domain (c.shift.ensures.kept c.args.domain c.requires.domain).0).0

pub settled-requires-clause-globals : goal.settled-requires-clause-globals
settled-requires-clause-globals g c =
    let m1 = g.T.Terms.means c.shift.new.terms in
    let h2 = g.T.Terms.holds c.declare_in.new.terms in
    let m2 = g.T.Terms.means c.declare_in.new.terms in
    let here = globals_kept _ _ _ m2 c.declare_in.ensures.kept c.args.env.now c.args.metas.now (globals_kept _ _ _ m1 c.shift.ensures.kept c.args.env.now c.args.metas.now c.requires.globals) in
    let held : AreGlobalsOf h2 c.args.env.now c.in_ok-more.more = record { items_held = here.items_held; metas_held = c.in_ok-more.ensures.held } in
    globals_kept _ _ _ (g.T.Terms.means c.applied_to.new.terms) c.applied_to.ensures.kept c.args.env.now c.in_ok-more.more held

pub settled-requires-clause-open : goal.settled-requires-clause-open
settled-requires-clause-open g c =
    let open_now = c.requires.open in (
      open_now.0,
      ap (λ M. slice_get M c.args.g) c.in_ok-more.ensures.more ∙ declared_before c.args.metas.now c.args.ctx.now c.in_ok-goal.goal c.args.g (slice_get_within c.args.metas.now c.args.g open_now.0 open_now.1) ∙ open_now.1,
      open_now.2,
    )

pub returns-in_err-more-clause-value : goal.returns-in_err-more-clause-value
returns-in_err-more-clause-value g c Δ Σ0 Σ1 Σ d Γ A read same first ctx ea =
    let h0 = g.T.Terms.holds c.args.terms.now in
    let m0 = g.T.Terms.means c.args.terms.now in
    let h1 = g.T.Terms.holds c.shift.new.terms in
    let m1 = g.T.Terms.means c.shift.new.terms in
    let k1 = c.shift.ensures.kept in
    let h2 = g.T.Terms.holds c.declare_in.new.terms in
    let m2 = g.T.Terms.means c.declare_in.new.terms in
    let n = c.args.fuel.now in
    let r1 = read_kept h0 m0 h1 m1 k1 c.args.env.now c.args.metas.now Δ Σ c.requires.globals read in
    let ctx1 : plain_locals m1 c.args.ctx.now ≡ Γ = locals_kept h0 m0 h1 m1 k1 c.args.ctx.now c.requires.context ∙ ctx in
    let type : m1 c.in_ok-goal.goal ≡ weaken d.ty = c.in_ok-goal.ensures.tree ∙ weakened (m0 c.args.decl.now.ty) ∙ ap (λ (y : Decl Term). weaken y.ty) same in
    let o = declared (rules_env Δ) Σ Γ (weaken d.ty) n in
    let settling : Plain → Step Moved = λ second. settled Δ Σ0 c.args.g d second (App (Lam A (over_all (length Σ) (length Γ))) (over_all (length Σ1) (length d.ctx))) (length Σ1 ∷ length Σ ∷ []) c.args.holes in
    fails h2 m2 _ (cut_over Δ Σ0 c.args.g d Σ1 Σ Γ A c.args.holes n) (renamed from_unification o) settling _ c.from_residual-in_err-more.result (unify_fault c.in_err-more.field-0.0) refl c.from_residual-in_err-more.ensures.1
    (unify_shows h2 m2 o _ c.in_err-more.field-0.0 (c.in_err-more.ensures.value Δ Σ Γ (weaken d.ty) r1 ctx1 type))

pub returns-clause-value : goal.returns-clause-value
returns-clause-value g c Δ Σ0 Σ1 Σ d Γ A read same first ctx ea =
    let h0 = g.T.Terms.holds c.args.terms.now in
    let m0 = g.T.Terms.means c.args.terms.now in
    let h1 = g.T.Terms.holds c.shift.new.terms in
    let m1 = g.T.Terms.means c.shift.new.terms in
    let k1 = c.shift.ensures.kept in
    let h2 = g.T.Terms.holds c.declare_in.new.terms in
    let m2 = g.T.Terms.means c.declare_in.new.terms in
    let k2 = c.declare_in.ensures.kept in
    let h3 = g.T.Terms.holds c.applied_to.new.terms in
    let m3 = g.T.Terms.means c.applied_to.new.terms in
    let k3 = c.applied_to.ensures.kept in
    let h4 = g.T.Terms.holds c.settled.new.terms in
    let m4 = g.T.Terms.means c.settled.new.terms in
    let n = c.args.fuel.now in
    let u = c.declare_in.new.fuel in
    let r1 = read_kept h0 m0 h1 m1 k1 c.args.env.now c.args.metas.now Δ Σ c.requires.globals read in
    let ctx1 : plain_locals m1 c.args.ctx.now ≡ Γ = locals_kept h0 m0 h1 m1 k1 c.args.ctx.now c.requires.context ∙ ctx in
    let type : m1 c.in_ok-goal.goal ≡ weaken d.ty = c.in_ok-goal.ensures.tree ∙ weakened (m0 c.args.decl.now.ty) ∙ ap (λ (y : Decl Term). weaken y.ty) same in
    let o = declared (rules_env Δ) Σ Γ (weaken d.ty) n in
    let S = plain_metas m2 c.in_ok-more.more in
    let gave : o ≡ Gave S u = c.in_ok-more.ensures.value Δ Σ Γ (weaken d.ty) r1 ctx1 type in
    let v = App (Lam A (over_all (length Σ) (length Γ))) (over_all (length Σ1) (length d.ctx)) in
    let settling : Plain → Step Moved = λ second. settled Δ Σ0 c.args.g d second v (length Σ1 ∷ length Σ ∷ []) c.args.holes in
    let g1 = globals_kept h0 m0 h1 m1 k1 c.args.env.now c.args.metas.now c.requires.globals in
    let g2 = globals_kept h1 m1 h2 m2 k2 c.args.env.now c.args.metas.now g1 in
    let r2 = read_kept h1 m1 h2 m2 k2 c.args.env.now c.args.metas.now Δ Σ g1 r1 in
    let held : AreGlobalsOf h2 c.args.env.now c.in_ok-more.more = record { items_held = g2.items_held; metas_held = c.in_ok-more.ensures.held } in
    let more_read : AreRead m2 c.args.env.now c.in_ok-more.more Δ S = record { items_are = r2.items_are; metas_are = refl } in
    let r3 = read_kept h2 m2 h3 m3 k3 c.args.env.now c.in_ok-more.more Δ S held more_read in
    let number : c.in_ok-more.k ≡ length Σ = c.in_ok-more.ensures.number ∙ sym (metas_length m0 c.args.metas.now) ∙ ap (λ ds. length ds) read.metas_are in
    let longer : c.count_of-longer.result ≡ length Γ = c.count_of-longer.ensures ∙ read_length m0 c.args.ctx.now Γ ctx in
    let count : c.count_of-count.result ≡ length d.ctx = c.count_of-count.ensures ∙ ap (λ ls. length ls) c.as_slice.ensures ∙ read_length m0 c.args.decl.now.ctx d.ctx (ap (λ (y : Decl Term). y.ctx) same) in
    let domain : m2 c.args.domain ≡ A = (keeps_both h0 m0 h1 m1 h2 m2 k1 k2 c.args.domain c.requires.domain).1 ∙ ea in
    let value : m3 c.in_ok-value.value ≡ v = c.in_ok-value.ensures.value ∙ ap₂ App (ap₂ Lam domain (ap₂ over_all number longer)) (ap₂ over_all first count) in
    let fresh : c.in_ok-fresh.fresh ≡ length Σ1 ∷ length Σ ∷ [] = c.in_ok-fresh.ensures ∙ ap₂ (λ (i k : ℕ). i ∷ k ∷ []) first number in
    answers h4 m4 _ (cut_over Δ Σ0 c.args.g d Σ1 Σ Γ A c.args.holes n) (settled Δ Σ0 c.args.g d S v c.in_ok-fresh.fresh c.args.holes u) _ c.settled.result
    (after (renamed from_unification o) S u settling (renamed_gave from_unification o S u gave) ∙ ap (λ fs. settled Δ Σ0 c.args.g d S v fs c.args.holes u) (sym fresh))
    (c.settled.ensures.value Δ Σ0 S d v r3 value)
