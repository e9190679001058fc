use Rattle.std.proofs.Common.{◌≡◌, ◌∙◌, [], ◌∷◌, length, ap, ap₂, sym, refl}
use Rattle.std.specs.Prelude.{slice_get}
use Rattle.std.proofs.lemmas.Option.{slice_get_within}
use Rattle.conversion.specs.Globals.{AreGlobalsOf}
use Rattle.conversion.proofs.Lookups.{globals_kept}
use Rattle.meta_context.specs.Plain.{rules_env}
use Rattle.goal_state.specs.State.{plain_metas}
use Rattle.unification.specs.Metavariables.{declared}
use Rattle.unification.specs.Patterns.{over_all}
use Rattle.unification.specs.Refusals.{Plain}
use Rattle.unification.specs.Steps.{Gave, renamed}
use Rattle.pattern_unify.specs.Answers.{AreRead}
use Rattle.move_set.specs.Faults.{unify_fault}
use Rattle.move_set.specs.Moves.{Moved, settled, restated}
use Rattle.move_set.specs.Refusals.{Step, from_unification}
use Rattle.pattern_unify.proofs.Follow.{after}
use Rattle.move_set.proofs.Follow.{answers, fails, renamed_gave, unify_shows}
use Rattle.pattern_unify.proofs.Meanings.{read_kept, read_length, metas_length}
use Rattle.move_set.proofs.Meanings.{declared_before}
use Rattle.move_set.proofs.restating.restated.Goals as goal

pub returns-in_err-more-clause-value : goal.returns-in_err-more-clause-value
returns-in_err-more-clause-value g c Δ Σ0 Σ d A read ctx ea =
    let h1 = g.T.Terms.holds c.declare_in.new.terms in
    let m1 = g.T.Terms.means c.declare_in.new.terms in
    let o = declared (rules_env Δ) Σ d.ctx A c.args.fuel.now in
    let settling : Plain → Step Moved = λ more. settled Δ Σ0 c.args.g d more (over_all (length Σ) (length d.ctx)) (length Σ ∷ []) c.args.holes in
    fails h1 m1 _ (restated Δ Σ0 c.args.g d Σ A c.args.holes c.args.fuel.now) (renamed from_unification o) settling _ c.from_residual.result (unify_fault c.in_err-more.field-0.0) refl c.from_residual.ensures.1
    (unify_shows h1 m1 o _ c.in_err-more.field-0.0 (c.in_err-more.ensures.value Δ Σ d.ctx A read ctx ea))

pub settled-requires-clause-globals : goal.settled-requires-clause-globals
settled-requires-clause-globals g c =
    let h1 = g.T.Terms.holds c.declare_in.new.terms in
    let m1 = g.T.Terms.means c.declare_in.new.terms in
    let here = globals_kept _ _ _ m1 c.declare_in.ensures.kept c.args.env.now c.args.metas.now c.requires.globals in
    let held : AreGlobalsOf h1 c.args.env.now c.in_ok-more.more = record { items_held = here.items_held; metas_held = c.in_ok-more.ensures.held } in
    globals_kept _ _ _ (g.T.Terms.means c.over_all.new.terms) c.over_all.ensures.kept c.args.env.now c.in_ok-more.more held

pub settled-requires-clause-open : goal.settled-requires-clause-open
settled-requires-clause-open g c =
    let open_now = c.requires.open in (
      open_now.0,
      ap (λ M. slice_get M c.args.g) c.in_ok-more.ensures.more ∙ declared_before c.args.metas.now c.args.ctx.now c.args.ty c.args.g (slice_get_within c.args.metas.now c.args.g open_now.0 open_now.1) ∙ open_now.1,
      open_now.2,
    )

pub returns-clause-value : goal.returns-clause-value
returns-clause-value g c Δ Σ0 Σ d A read ctx ea =
    let h0 = g.T.Terms.holds c.args.terms.now in
    let m0 = g.T.Terms.means c.args.terms.now in
    let h1 = g.T.Terms.holds c.declare_in.new.terms in
    let m1 = g.T.Terms.means c.declare_in.new.terms in
    let k1 = c.declare_in.ensures.kept in
    let h2 = g.T.Terms.holds c.over_all.new.terms in
    let m2 = g.T.Terms.means c.over_all.new.terms in
    let k2 = c.over_all.ensures.kept in
    let h3 = g.T.Terms.holds c.settled.new.terms in
    let m3 = g.T.Terms.means c.settled.new.terms in
    let n = c.args.fuel.now in
    let u1 = c.declare_in.new.fuel in
    let o = declared (rules_env Δ) Σ d.ctx A n in
    let S = plain_metas m1 c.in_ok-more.more in
    let gave : o ≡ Gave S u1 = c.in_ok-more.ensures.value Δ Σ d.ctx A read ctx ea in
    let v = over_all (length Σ) (length d.ctx) in
    let settling : Plain → Step Moved = λ more. settled Δ Σ0 c.args.g d more v (length Σ ∷ []) c.args.holes in
    let r1 = read_kept h0 m0 h1 m1 k1 c.args.env.now c.args.metas.now Δ Σ c.requires.globals read in
    let here = globals_kept h0 m0 h1 m1 k1 c.args.env.now c.args.metas.now c.requires.globals in
    let held : AreGlobalsOf h1 c.args.env.now c.in_ok-more.more = record { items_held = here.items_held; metas_held = c.in_ok-more.ensures.held } in
    let more_read : AreRead m1 c.args.env.now c.in_ok-more.more Δ S = record { items_are = r1.items_are; metas_are = refl } in
    let r2 = read_kept h1 m1 h2 m2 k2 c.args.env.now c.in_ok-more.more Δ S held more_read in
    let number : c.in_ok-more.m ≡ length Σ = c.in_ok-more.ensures.number ∙ sym (metas_length m0 c.args.metas.now) ∙ ap (λ ds. length ds) read.metas_are in
    let count : c.count_of.result ≡ length d.ctx = c.count_of.ensures ∙ read_length m0 c.args.ctx.now d.ctx ctx in
    let value : m2 c.in_ok-value.value ≡ v = c.in_ok-value.ensures.value ∙ ap₂ over_all number count in
    let fresh : c.in_ok-fresh.fresh ≡ length Σ ∷ [] = c.in_ok-fresh.ensures ∙ ap (λ k. k ∷ []) number in
    answers h3 m3 _ (restated Δ Σ0 c.args.g d Σ A c.args.holes n) (settled Δ Σ0 c.args.g d S v c.in_ok-fresh.fresh c.args.holes u1) _ c.settled.result
    (after (renamed from_unification o) S u1 settling (renamed_gave from_unification o S u1 gave) ∙ ap (λ fs. settled Δ Σ0 c.args.g d S v fs c.args.holes u1) (sym fresh))
    (c.settled.ensures.value Δ Σ0 S d v r2 value)
