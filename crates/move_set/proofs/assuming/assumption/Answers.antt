use Rattle.std.proofs.Common.{◌≡◌, ◌∙◌, ℕ, [], length, Some, option_map, ap, ap₂, sym, refl}
use Rattle.std.specs.Prelude.{slice_get}
use Rattle.std.proofs.lemmas.Option.{same_Some, slice_get-map}
use Rattle.ld_trees.specs.Term.{Var}
use Rattle.ld_terms.specs.declared.globals.Decl.{Decl}
use Rattle.conversion.specs.Globals.{AreGlobalsOf}
use Rattle.conversion.proofs.Lookups.{globals_kept, decl_found_held}
use Rattle.meta_context.specs.Plain.{plain_items}
use Rattle.meta_context.proofs.Numbers.{declared_at}
use Rattle.goal_state.specs.State.{plain_decl, plain_metas}
use Rattle.unification.specs.Refusals.{Plain}
use Rattle.unification.specs.Steps.{Gave}
use Rattle.pattern_unify.specs.Answers.{AreRead}
use Rattle.move_set.specs.Moves.{Moved, settled, first_fitting, assumption}
use Rattle.move_set.specs.Refusals.{Step}
use Rattle.move_set.proofs.AdvancingFurther.{open_when_fitted}
use Rattle.pattern_unify.proofs.Follow.{after}
use Rattle.move_set.proofs.Follow.{answers, fails}
use Rattle.pattern_unify.proofs.Meanings.{read_kept}
use Rattle.move_set.proofs.Meanings.{decl_read}
use Rattle.move_set.proofs.OnGoals.{open_stored}
use Rattle.move_set.proofs.assuming.assumption.Goals as goal

pub first_fitting-requires-clause-goal : goal.first_fitting-requires-clause-goal
first_fitting-requires-clause-goal g c = decl_found_held (g.T.Terms.holds c.args.terms.now) c.args.metas.now c.args.g c.in-Some.decl.now c.requires.globals.metas_held (sym c.in-Some.ensures)

pub first_fitting-requires-clause-names : goal.first_fitting-requires-clause-names
first_fitting-requires-clause-names g c = declared_at c.args.metas.now c.args.g c.in-Some.decl.now c.next-count.ensures.facts (sym c.in-Some.ensures)

pub settled-requires-clause-globals : goal.settled-requires-clause-globals
settled-requires-clause-globals g c =
    let h1 = g.T.Terms.holds c.first_fitting.new.terms in
    let here = globals_kept _ _ _ (g.T.Terms.means c.first_fitting.new.terms) c.first_fitting.ensures.kept c.args.env.now c.args.metas.now c.requires.globals in
    let held : AreGlobalsOf h1 c.args.env.now c.in_ok-i-in-Some.more = record { items_held = here.items_held; metas_held = c.in_ok-i-in-Some.ensures.held } in
    globals_kept _ _ _ (g.T.Terms.means c.make.new.self) c.make.ensures.kept c.args.env.now c.in_ok-i-in-Some.more held

pub settled-requires-clause-open : goal.settled-requires-clause-open
settled-requires-clause-open g c =
    let m0 = g.T.Terms.means c.args.terms.now in
    let m1 = g.T.Terms.means c.first_fitting.new.terms in
    let x = c.in-Some.decl.now in
    let items = plain_items m0 c.args.env.now in
    let base = plain_metas m0 c.args.metas.now in
    let d = plain_decl m0 x in
    let there : slice_get base c.args.g ≡ Some d = slice_get-map (plain_decl m0) c.args.metas.now c.args.g ∙ ap (option_map (plain_decl m0)) (sym c.in-Some.ensures) in
    let open_now = c.requires.open in
    let same : open_now.0 ≡ x = same_Some open_now.0 x (sym open_now.1 ∙ sym c.in-Some.ensures) in
    let unset = ap (option_map m0) (ap (λ (y : Decl _). y.value) (sym same) ∙ open_now.2) in
    let more = c.in_ok-i-in-Some.more in
    let gave = c.in_ok-i-in-Some.ensures.value items base d c.args.g (record { items_are = refl; metas_are = refl }) refl in
    open_stored m1 more c.args.g (open_when_fitted items base c.args.g d there unset c.requires.legal 0 (length d.ctx) c.args.fuel.now c.first_fitting.new.fuel (c.in_ok-i-in-Some.i, plain_metas m1 more) gave)

pub returns-in_err-i-in-Some-clause-value : goal.returns-in_err-i-in-Some-clause-value
returns-in_err-i-in-Some-clause-value g c Δ Σ d read there =
    let m0 = g.T.Terms.means c.args.terms.now in
    let h1 = g.T.Terms.holds c.first_fitting.new.terms in
    let m1 = g.T.Terms.means c.first_fitting.new.terms in
    let n = c.args.fuel.now in
    let same : plain_decl m0 c.in-Some.decl.now ≡ d = decl_read m0 c.args.metas.now Σ c.args.g c.in-Some.decl.now d read.metas_are (sym c.in-Some.ensures) there in
    let settling : ℕ × Plain → Step Moved = λ p. settled Δ Σ c.args.g d p.1 (Var p.0) [] [] in
    fails h1 m1 _ (assumption Δ Σ c.args.g d n) (first_fitting Δ Σ c.args.g d 0 (length d.ctx) n) settling _ c.from_residual.result c.in_err-i-in-Some.field-0.0 refl c.from_residual.ensures.1 (c.in_err-i-in-Some.ensures.value Δ Σ d c.args.g read same)

pub returns-clause-value : goal.returns-clause-value
returns-clause-value g c Δ Σ d read there =
    let h0 = g.T.Terms.holds c.args.terms.now in
    let m0 = g.T.Terms.means c.args.terms.now in
    let h1 = g.T.Terms.holds c.first_fitting.new.terms in
    let m1 = g.T.Terms.means c.first_fitting.new.terms in
    let k1 = c.first_fitting.ensures.kept in
    let h2 = g.T.Terms.holds c.make.new.self in
    let m2 = g.T.Terms.means c.make.new.self in
    let k2 = c.make.ensures.kept in
    let h3 = g.T.Terms.holds c.settled.new.terms in
    let m3 = g.T.Terms.means c.settled.new.terms in
    let n = c.args.fuel.now in
    let u1 = c.first_fitting.new.fuel in
    let same : plain_decl m0 c.in-Some.decl.now ≡ d = decl_read m0 c.args.metas.now Σ c.args.g c.in-Some.decl.now d read.metas_are (sym c.in-Some.ensures) there in
    let i = c.in_ok-i-in-Some.i in
    let more = c.in_ok-i-in-Some.more in
    let S = plain_metas m1 more in
    let o = first_fitting Δ Σ c.args.g d 0 (length d.ctx) n in
    let gave : o ≡ Gave (i, S) u1 = c.in_ok-i-in-Some.ensures.value Δ Σ d c.args.g read same in
    let settling : ℕ × Plain → Step Moved = λ p. settled Δ Σ c.args.g d p.1 (Var p.0) [] [] in
    let here = globals_kept h0 m0 h1 m1 k1 c.args.env.now c.args.metas.now c.requires.globals in
    let held : AreGlobalsOf h1 c.args.env.now more = record { items_held = here.items_held; metas_held = c.in_ok-i-in-Some.ensures.held } in
    let r1 = read_kept h0 m0 h1 m1 k1 c.args.env.now c.args.metas.now Δ Σ c.requires.globals read in
    let more_read : AreRead m1 c.args.env.now more Δ S = record { items_are = r1.items_are; metas_are = refl } in
    let r2 = read_kept h1 m1 h2 m2 k2 c.args.env.now more Δ S held more_read in
    let fresh : c.of-fresh.result ≡ [] = c.of-fresh.ensures ∙ c.new.ensures.items in
    let holes : c.of-holes.result ≡ [] = c.of-holes.ensures ∙ c.new-in-Some.ensures.items in
    answers h3 m3 _ (assumption Δ Σ c.args.g d n) (settled Δ Σ c.args.g d S (Var i) c.of-fresh.result c.of-holes.result u1) _ c.settled.result
    (after o (i, S) u1 settling gave ∙ ap₂ (λ fs hs. settled Δ Σ c.args.g d S (Var i) fs hs u1) (sym fresh) (sym holes))
    (c.settled.ensures.value Δ Σ S d (Var i) r2 c.in_ok-value-in-Some.ensures.tree)
