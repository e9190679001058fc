use Rattle.std.proofs.Common.{◌≡◌, ◌∙◌, List, length, inl, ap, sym, refl, subst}
use Rattle.std.specs.Prelude.{slice_get}
use Rattle.std.proofs.lemmas.Option.{slice_get_within}
use Rattle.ld_trees.specs.Term.{Term}
use Rattle.ld_terms.specs.Views.{Keeps}
use Rattle.ld_terms.specs.declared.globals.Decl.{Decl}
use Rattle.ld_terms.specs.declared.globals.Local.{Local}
use Rattle.term_syntax.specs.ReadsBack.{IsContext}
use Rattle.conversion.specs.Globals.{AreGlobalsOf, AreLocals}
use Rattle.conversion.proofs.Lookups.{globals_kept}
use Rattle.meta_context.specs.Entered.{names_of}
use Rattle.meta_context.specs.Plain.{plain_locals, rules_env}
use Rattle.goal_state.specs.State.{plain_decl, plain_metas}
use Rattle.unification.specs.Metavariables.{extended, declared}
use Rattle.unification.specs.Refusals.{Plain}
use Rattle.unification.specs.Steps.{Gave, ◌>>=◌, renamed}
use Rattle.pattern_unify.specs.Answers.{AreRead}
use Rattle.move_set.specs.Faults.{unify_fault}
use Rattle.move_set.specs.Moves.{Moved, cut_over, cut}
use Rattle.move_set.specs.Refusals.{Step, from_unification, unify_step}
use Rattle.pattern_unify.proofs.Follow.{after}
use Rattle.move_set.proofs.Follow.{answers, fails, renamed_gave, unify_shows}
use Rattle.ld_terms.proofs.Turns.{keeps_both}
use Rattle.pattern_unify.proofs.Meanings.{locals_held, locals_kept, read_kept, metas_length}
use Rattle.move_set.proofs.Meanings.{declared_before, decl_kept, decl_held}
use Rattle.move_set.proofs.cutting.cut.Goals as goal

pub declare_in-requires-clause-context : goal.declare_in-requires-clause-context
declare_in-requires-clause-context g c = subst (AreLocals (g.T.Terms.holds c.args.terms.now)) (sym c.as_slice-ctx.ensures) c.requires.goal.ctx

pub declare_in-requires-clause-names : goal.declare_in-requires-clause-names
declare_in-requires-clause-names g c = subst (λ ls. IsContext (names_of ls)) (sym c.as_slice-ctx.ensures) c.requires.names

pub extend-requires-clause-globals : goal.extend-requires-clause-globals
extend-requires-clause-globals g c =
    let here = globals_kept _ _ _ (g.T.Terms.means c.declare_in.new.terms) c.declare_in.ensures.kept c.args.env.now c.args.metas.now c.requires.globals in
    record { items_held = here.items_held; metas_held = c.in_ok-more.ensures.held }

pub extend-requires-clause-context : goal.extend-requires-clause-context
extend-requires-clause-context g c =
    let h1 = g.T.Terms.holds c.declare_in.new.terms in
    let m1 = g.T.Terms.means c.declare_in.new.terms in
    subst (AreLocals h1) (sym c.as_slice-ctx.ensures) (locals_held (g.T.Terms.holds c.args.terms.now) (g.T.Terms.means c.args.terms.now) h1 m1 c.declare_in.ensures.kept c.args.decl.now.ctx c.requires.goal.ctx)

pub extend-requires-clause-names : goal.extend-requires-clause-names
extend-requires-clause-names g c = subst (λ ls. IsContext (names_of ls)) (sym c.as_slice-ctx.ensures) c.requires.names

pub extend-requires-clause-named : goal.extend-requires-clause-named
extend-requires-clause-named g c = inl c.requires.named

pub extend-requires-clause-ty : goal.extend-requires-clause-ty
extend-requires-clause-ty g c = (c.declare_in.ensures.kept c.args.domain c.requires.domain).0

pub cut_over-requires-clause-globals : goal.cut_over-requires-clause-globals
cut_over-requires-clause-globals g c =
    let h1 = g.T.Terms.holds c.declare_in.new.terms in
    let m1 = g.T.Terms.means c.declare_in.new.terms in
    let here = globals_kept _ _ _ m1 c.declare_in.ensures.kept c.args.env.now c.args.metas.now c.requires.globals in
    let held : AreGlobalsOf h1 c.args.env.now c.in_ok-more.more = record { items_held = here.items_held; metas_held = c.in_ok-more.ensures.held } in
    globals_kept _ _ _ (g.T.Terms.means c.extend.new.terms) c.extend.ensures.kept c.args.env.now c.in_ok-more.more held

pub cut_over-requires-clause-open : goal.cut_over-requires-clause-open
cut_over-requires-clause-open g c =
    let open_now = c.requires.open in (
      open_now.0,
      ap (λ M. slice_get M c.args.g) c.in_ok-more.ensures.more ∙ declared_before c.args.metas.now c.as_slice-ctx.result.now c.args.domain c.args.g (slice_get_within c.args.metas.now c.args.g open_now.0 open_now.1) ∙ open_now.1,
      open_now.2,
    )

pub cut_over-requires-clause-goal : goal.cut_over-requires-clause-goal
cut_over-requires-clause-goal g c =
    let h0 = g.T.Terms.holds c.args.terms.now in
    let m0 = g.T.Terms.means c.args.terms.now in
    let h1 = g.T.Terms.holds c.declare_in.new.terms in
    let m1 = g.T.Terms.means c.declare_in.new.terms in
    let h2 = g.T.Terms.holds c.extend.new.terms in
    let m2 = g.T.Terms.means c.extend.new.terms in
    decl_held h0 m0 h2 m2 (keeps_both h0 m0 h1 m1 h2 m2 c.declare_in.ensures.kept c.extend.ensures.kept) c.args.decl.now c.requires.goal

pub cut_over-requires-clause-context : goal.cut_over-requires-clause-context
cut_over-requires-clause-context g c = subst (AreLocals (g.T.Terms.holds c.extend.new.terms)) (sym c.as_slice-ctx-2.ensures) c.in_ok-entries.ensures.held

pub cut_over-requires-clause-names : goal.cut_over-requires-clause-names
cut_over-requires-clause-names g c = subst (λ ls. IsContext (names_of ls)) (sym c.as_slice-ctx-2.ensures) c.in_ok-entries.ensures.names

pub cut_over-requires-clause-domain : goal.cut_over-requires-clause-domain
cut_over-requires-clause-domain g c = (c.extend.ensures.kept c.args.domain (c.declare_in.ensures.kept c.args.domain c.requires.domain).0).0

pub returns-in_err-more-clause-value : goal.returns-in_err-more-clause-value
returns-in_err-more-clause-value g c Δ Σ0 Σ d A read same ea =
    let m0 = g.T.Terms.means c.args.terms.now in
    let h1 = g.T.Terms.holds c.declare_in.new.terms in
    let m1 = g.T.Terms.means c.declare_in.new.terms in
    let n = c.args.fuel.now in
    let name = c.args.name.now in
    let ctx : plain_locals m0 c.as_slice-ctx.result.now ≡ d.ctx = ap (plain_locals m0) c.as_slice-ctx.ensures ∙ ap (λ (y : Decl Term). y.ctx) same in
    let o = declared (rules_env Δ) Σ d.ctx A n in
    let over : Plain → List (Local Term) → Step Moved = λ more Γ. cut_over Δ Σ0 c.args.g d Σ more Γ A c.args.holes in
    let extends : Plain → Step Moved = λ more. unify_step (extended (rules_env Δ) more d.ctx name A) >>= over more in
    fails h1 m1 _ (cut Δ Σ0 c.args.g d Σ name A c.args.holes n) (renamed from_unification o) extends _ c.from_residual.result (unify_fault c.in_err-more.field-0.0) refl c.from_residual.ensures.1
    (unify_shows h1 m1 o _ c.in_err-more.field-0.0 (c.in_err-more.ensures.value Δ Σ d.ctx A read ctx ea))

pub returns-in_err-entries-clause-value : goal.returns-in_err-entries-clause-value
returns-in_err-entries-clause-value g c Δ Σ0 Σ d A read same ea =
    let h0 = g.T.Terms.holds c.args.terms.now in
    let m0 = g.T.Terms.means c.args.terms.now in
    let h1 = g.T.Terms.holds c.declare_in.new.terms in
    let m1 = g.T.Terms.means c.declare_in.new.terms in
    let k1 = c.declare_in.ensures.kept in
    let h2 = g.T.Terms.holds c.extend.new.terms in
    let m2 = g.T.Terms.means c.extend.new.terms in
    let n = c.args.fuel.now in
    let name = c.args.name.now in
    let u1 = c.declare_in.new.fuel in
    let ctx : plain_locals m0 c.as_slice-ctx.result.now ≡ d.ctx = ap (plain_locals m0) c.as_slice-ctx.ensures ∙ ap (λ (y : Decl Term). y.ctx) same in
    let o = declared (rules_env Δ) Σ d.ctx A n in
    let S = plain_metas m1 c.in_ok-more.more in
    let gave : o ≡ Gave S u1 = c.in_ok-more.ensures.value Δ Σ d.ctx A read ctx ea in
    let over : Plain → List (Local Term) → Step Moved = λ more Γ. cut_over Δ Σ0 c.args.g d Σ more Γ A c.args.holes in
    let extends : Plain → Step Moved = λ more. unify_step (extended (rules_env Δ) more d.ctx name A) >>= over more in
    let r1 = read_kept h0 m0 h1 m1 k1 c.args.env.now c.args.metas.now Δ Σ c.requires.globals read in
    let more_read : AreRead m1 c.args.env.now c.in_ok-more.more Δ S = record { items_are = r1.items_are; metas_are = refl } in
    let ctx1 : plain_locals m1 c.as_slice-ctx.result.now ≡ d.ctx = ap (plain_locals m1) c.as_slice-ctx.ensures ∙ locals_kept h0 m0 h1 m1 k1 c.args.decl.now.ctx c.requires.goal.ctx ∙ ap (λ (y : Decl Term). y.ctx) same in
    let ea1 : m1 c.args.domain ≡ A = (k1 c.args.domain c.requires.domain).1 ∙ ea in
    let e = extended (rules_env Δ) S d.ctx name A u1 in
    fails h2 m2 _ (cut Δ Σ0 c.args.g d Σ name A c.args.holes n) (renamed from_unification e) (over S) _ c.from_residual-in_err-entries.result (unify_fault c.in_err-entries.field-0.0)
    (after (renamed from_unification o) S u1 extends (renamed_gave from_unification o S u1 gave)) c.from_residual-in_err-entries.ensures.1
    (unify_shows h2 m2 e _ c.in_err-entries.field-0.0 (c.in_err-entries.ensures.value Δ S d.ctx A more_read ctx1 ea1))

pub returns-clause-value : goal.returns-clause-value
returns-clause-value g c Δ Σ0 Σ d A read same ea =
    let h0 = g.T.Terms.holds c.args.terms.now in
    let m0 = g.T.Terms.means c.args.terms.now in
    let h1 = g.T.Terms.holds c.declare_in.new.terms in
    let m1 = g.T.Terms.means c.declare_in.new.terms in
    let k1 = c.declare_in.ensures.kept in
    let h2 = g.T.Terms.holds c.extend.new.terms in
    let m2 = g.T.Terms.means c.extend.new.terms in
    let k2 = c.extend.ensures.kept in
    let k02 : Keeps h0 m0 h2 m2 = keeps_both h0 m0 h1 m1 h2 m2 k1 k2 in
    let h3 = g.T.Terms.holds c.cut_over.new.terms in
    let m3 = g.T.Terms.means c.cut_over.new.terms in
    let n = c.args.fuel.now in
    let name = c.args.name.now in
    let u1 = c.declare_in.new.fuel in
    let u2 = c.extend.new.fuel in
    let ctx : plain_locals m0 c.as_slice-ctx.result.now ≡ d.ctx = ap (plain_locals m0) c.as_slice-ctx.ensures ∙ ap (λ (y : Decl Term). y.ctx) same in
    let o = declared (rules_env Δ) Σ d.ctx A n in
    let S = plain_metas m1 c.in_ok-more.more in
    let gave : o ≡ Gave S u1 = c.in_ok-more.ensures.value Δ Σ d.ctx A read ctx ea in
    let over : Plain → List (Local Term) → Step Moved = λ more Γ. cut_over Δ Σ0 c.args.g d Σ more Γ A c.args.holes in
    let extends : Plain → Step Moved = λ more. unify_step (extended (rules_env Δ) more d.ctx name A) >>= over more in
    let r1 = read_kept h0 m0 h1 m1 k1 c.args.env.now c.args.metas.now Δ Σ c.requires.globals read in
    let here = globals_kept h0 m0 h1 m1 k1 c.args.env.now c.args.metas.now c.requires.globals in
    let held : AreGlobalsOf h1 c.args.env.now c.in_ok-more.more = record { items_held = here.items_held; metas_held = c.in_ok-more.ensures.held } in
    let more_read : AreRead m1 c.args.env.now c.in_ok-more.more Δ S = record { items_are = r1.items_are; metas_are = refl } in
    let ctx1 : plain_locals m1 c.as_slice-ctx.result.now ≡ d.ctx = ap (plain_locals m1) c.as_slice-ctx.ensures ∙ locals_kept h0 m0 h1 m1 k1 c.args.decl.now.ctx c.requires.goal.ctx ∙ ap (λ (y : Decl Term). y.ctx) same in
    let ea1 : m1 c.args.domain ≡ A = (k1 c.args.domain c.requires.domain).1 ∙ ea in
    let e = extended (rules_env Δ) S d.ctx name A u1 in
    let Γ = plain_locals m2 c.in_ok-entries.entries in
    let entered : e ≡ Gave Γ u2 = c.in_ok-entries.ensures.value Δ S d.ctx A more_read ctx1 ea1 in
    let r2 = read_kept h1 m1 h2 m2 k2 c.args.env.now c.in_ok-more.more Δ S held more_read in
    let same2 : plain_decl m2 c.args.decl.now ≡ d = decl_kept h0 m0 h2 m2 k02 c.args.decl.now c.requires.goal ∙ same in
    let number : c.in_ok-more.m ≡ length Σ = c.in_ok-more.ensures.number ∙ sym (metas_length m0 c.args.metas.now) ∙ ap (λ ds. length ds) read.metas_are in
    let ea2 : m2 c.args.domain ≡ A = (k02 c.args.domain c.requires.domain).1 ∙ ea in
    answers h3 m3 _ (cut Δ Σ0 c.args.g d Σ name A c.args.holes n) (cut_over Δ Σ0 c.args.g d Σ S Γ A c.args.holes u2) _ c.cut_over.result
    (after (renamed from_unification o) S u1 extends (renamed_gave from_unification o S u1 gave) ∙ after (renamed from_unification e) Γ u2 (over S) (renamed_gave from_unification e Γ u2 entered))
    (c.cut_over.ensures.value Δ Σ0 Σ S d Γ A r2 same2 number (ap (plain_locals m2) c.as_slice-ctx-2.ensures) ea2)
