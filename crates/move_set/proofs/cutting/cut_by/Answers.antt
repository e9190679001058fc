use Rattle.std.proofs.Common.{◌≡◌, ◌∙◌, Some, option_map, ap, sym, refl, subst}
use Rattle.std.specs.Prelude.{slice_get}
use Rattle.std.proofs.lemmas.Option.{same_Some, slice_get-map}
use Rattle.ld_trees.specs.Term.{Term}
use Rattle.ld_terms.specs.declared.globals.Decl.{Decl}
use Rattle.term_syntax.specs.ReadsBack.{IsContext}
use Rattle.conversion.specs.Globals.{AreLocals}
use Rattle.conversion.proofs.Lookups.{globals_kept, decl_found_held}
use Rattle.meta_context.specs.Entered.{names_of}
use Rattle.meta_context.specs.Plain.{plain_items, plain_locals}
use Rattle.meta_context.proofs.Numbers.{declared_at}
use Rattle.goal_state.specs.State.{plain_decl, plain_metas}
use Rattle.unification.specs.Steps.{Gave, renamed}
use Rattle.pattern_unify.specs.Answers.{AreRead}
use Rattle.elaboration.specs.Elaboration.{check_type}
use Rattle.elaborate.specs.Answers.{plain_made}
use Rattle.move_set.specs.Faults.{elab_fault}
use Rattle.move_set.specs.Moves.{cut, cut_by}
use Rattle.move_set.specs.Refusals.{from_elaboration}
use Rattle.move_set.proofs.AdvancingFurther.{open_when_typed}
use Rattle.pattern_unify.proofs.Follow.{after}
use Rattle.move_set.proofs.Follow.{answers, fails, renamed_gave, elab_shows}
use Rattle.pattern_unify.proofs.Meanings.{read_kept}
use Rattle.move_set.proofs.Meanings.{decl_read, decl_kept, decl_held}
use Rattle.move_set.proofs.OnGoals.{open_stored}
use Rattle.move_set.proofs.TypeMoves.{cuts}
use Rattle.move_set.proofs.cutting.cut_by.Goals as goal

pub check_type-requires-clause-context : goal.check_type-requires-clause-context
check_type-requires-clause-context g c =
    let h0 = g.T.Terms.holds c.args.terms.now in
    let x = c.in-Some.decl.now in
    let held = decl_found_held h0 c.args.metas.now c.args.g x c.requires.globals.metas_held (sym c.in-Some.ensures) in
    subst (AreLocals h0) (sym c.as_slice-ctx.ensures) held.ctx

pub check_type-requires-clause-names : goal.check_type-requires-clause-names
check_type-requires-clause-names g c = subst (λ ls. IsContext (names_of ls)) (sym c.as_slice-ctx.ensures) (declared_at c.args.metas.now c.args.g c.in-Some.decl.now c.next-count.ensures.facts (sym c.in-Some.ensures))

pub cut-requires-clause-globals : goal.cut-requires-clause-globals
cut-requires-clause-globals g c =
    let here = globals_kept _ _ _ (g.T.Terms.means c.check_type.new.terms) c.check_type.ensures.kept c.args.env.now c.args.metas.now c.requires.globals in
    record { items_held = here.items_held; metas_held = c.in_ok-made-in-Some.ensures.held.0 }

pub cut-requires-clause-open : goal.cut-requires-clause-open
cut-requires-clause-open g c =
    let m0 = g.T.Terms.means c.args.terms.now in
    let m1 = g.T.Terms.means c.check_type.new.terms in
    let x = c.in-Some.decl.now in
    let items = plain_items m0 c.args.env.now in
    let base = plain_metas m0 c.args.metas.now in
    let there : slice_get base c.args.g ≡ Some (plain_decl m0 x) = slice_get-map (plain_decl m0) c.args.metas.now c.args.g ∙ ap (option_map (plain_decl m0)) (sym c.in-Some.ensures) in
    let open_now = c.requires.open in
    let same : open_now.0 ≡ x = same_Some open_now.0 x (sym open_now.1 ∙ sym c.in-Some.ensures) in
    let unset = ap (option_map m0) (ap (λ (y : Decl _). y.value) (sym same) ∙ open_now.2) in
    let made = c.in_ok-made-in-Some.made in
    let gave = c.in_ok-made-in-Some.ensures.value items base (plain_locals m0 x.ctx) (record { items_are = refl; metas_are = refl }) (ap (plain_locals m0) c.as_slice-ctx.ensures) in
    open_stored m1 made.metas c.args.g (open_when_typed items base c.args.g (plain_decl m0 x) there unset c.requires.legal c.args.text.now (plain_made m1 made) c.args.fuel.now c.check_type.new.fuel gave)

pub cut-requires-clause-goal : goal.cut-requires-clause-goal
cut-requires-clause-goal g c =
    let h0 = g.T.Terms.holds c.args.terms.now in
    let m0 = g.T.Terms.means c.args.terms.now in
    let x = c.in-Some.decl.now in
    let held = decl_found_held h0 c.args.metas.now c.args.g x c.requires.globals.metas_held (sym c.in-Some.ensures) in
    decl_held h0 m0 (g.T.Terms.holds c.check_type.new.terms) (g.T.Terms.means c.check_type.new.terms) c.check_type.ensures.kept x held

pub cut-requires-clause-names : goal.cut-requires-clause-names
cut-requires-clause-names g c = (declared_at c.args.metas.now c.args.g c.in-Some.decl.now c.next-count.ensures.facts (sym c.in-Some.ensures))

pub returns-in_err-made-in-Some-clause-value : goal.returns-in_err-made-in-Some-clause-value
returns-in_err-made-in-Some-clause-value g c Δ Σ d read there =
    let m0 = g.T.Terms.means c.args.terms.now in
    let h1 = g.T.Terms.holds c.check_type.new.terms in
    let m1 = g.T.Terms.means c.check_type.new.terms in
    let x = c.in-Some.decl.now in
    let n = c.args.fuel.now in
    let t = c.args.text.now in
    let same : plain_decl m0 x ≡ d = decl_read m0 c.args.metas.now Σ c.args.g x d read.metas_are (sym c.in-Some.ensures) there in
    let ctx : plain_locals m0 c.as_slice-ctx.result.now ≡ d.ctx = ap (plain_locals m0) c.as_slice-ctx.ensures ∙ ap (λ (y : Decl Term). y.ctx) same in
    let o = check_type Δ Σ d.ctx t n in
    fails h1 m1 _ (cut_by Δ Σ c.args.g d c.args.name.now t n) (renamed from_elaboration o) (cuts Δ Σ c.args.g d c.args.name.now t n) _ c.from_residual.result (elab_fault c.in_err-made-in-Some.field-0.0) refl c.from_residual.ensures.1
    (elab_shows h1 m1 o _ c.in_err-made-in-Some.field-0.0 (c.in_err-made-in-Some.ensures.value Δ Σ d.ctx read ctx))

pub returns-clause-value : goal.returns-clause-value
returns-clause-value g c Δ Σ d read there =
    let h0 = g.T.Terms.holds c.args.terms.now in
    let m0 = g.T.Terms.means c.args.terms.now in
    let h1 = g.T.Terms.holds c.check_type.new.terms in
    let m1 = g.T.Terms.means c.check_type.new.terms in
    let k1 = c.check_type.ensures.kept in
    let h2 = g.T.Terms.holds c.cut.new.terms in
    let m2 = g.T.Terms.means c.cut.new.terms in
    let x = c.in-Some.decl.now in
    let held = decl_found_held h0 c.args.metas.now c.args.g x c.requires.globals.metas_held (sym c.in-Some.ensures) in
    let n = c.args.fuel.now in
    let t = c.args.text.now in
    let made = c.in_ok-made-in-Some.made in
    let same : plain_decl m0 x ≡ d = decl_read m0 c.args.metas.now Σ c.args.g x d read.metas_are (sym c.in-Some.ensures) there in
    let ctx : plain_locals m0 c.as_slice-ctx.result.now ≡ d.ctx = ap (plain_locals m0) c.as_slice-ctx.ensures ∙ ap (λ (y : Decl Term). y.ctx) same in
    let o = check_type Δ Σ d.ctx t n in
    let u1 = c.check_type.new.fuel in
    let gave : o ≡ Gave (plain_made m1 made) u1 = c.in_ok-made-in-Some.ensures.value Δ Σ d.ctx read ctx in
    let r1 = read_kept h0 m0 h1 m1 k1 c.args.env.now c.args.metas.now Δ Σ c.requires.globals read in
    let more_read : AreRead m1 c.args.env.now made.metas Δ (plain_metas m1 made.metas) = record { items_are = r1.items_are; metas_are = refl } in
    let same1 : plain_decl m1 x ≡ d = decl_kept h0 m0 h1 m1 k1 x held ∙ same in
    answers h2 m2 _ (cut_by Δ Σ c.args.g d c.args.name.now t n) (cut Δ Σ c.args.g d (plain_metas m1 made.metas) c.args.name.now (m1 made.term) made.holes u1) _ c.cut.result
    (after (renamed from_elaboration o) (plain_made m1 made) u1 (cuts Δ Σ c.args.g d c.args.name.now t n) (renamed_gave from_elaboration o (plain_made m1 made) u1 gave))
    (c.cut.ensures.value Δ Σ (plain_metas m1 made.metas) d (m1 made.term) more_read same1 refl)
