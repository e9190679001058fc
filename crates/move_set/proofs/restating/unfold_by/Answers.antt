use Rattle.std.proofs.Common.{◌≡◌, ◌∙◌, [], ap, ap₂, sym, refl, subst}
use Rattle.ld_trees.specs.Term.{Term}
use Rattle.ld_terms.specs.Views.{Keeps}
use Rattle.ld_terms.specs.declared.globals.Decl.{Decl}
use Rattle.term_syntax.specs.ReadsBack.{IsContext}
use Rattle.conversion.specs.Globals.{AreLocals}
use Rattle.conversion.proofs.Lookups.{globals_kept, decl_found_held}
use Rattle.meta_context.specs.Entered.{names_of}
use Rattle.meta_context.specs.Plain.{plain_locals}
use Rattle.meta_context.proofs.Numbers.{declared_at}
use Rattle.meta_trees.specs.MetaContext.{Metas}
use Rattle.meta_laws.specs.Unfolding.{unfold_metas}
use Rattle.goal_state.specs.State.{plain_decl, rules_metas}
use Rattle.goal_state.proofs.Means.{metas_again}
use Rattle.unification.specs.Steps.{Gave}
use Rattle.move_set.specs.Moves.{opened, restated, target, unfold_by}
use Rattle.pattern_unify.proofs.Follow.{after}
use Rattle.move_set.proofs.Follow.{answers, fails}
use Rattle.ld_terms.proofs.Turns.{keeps_both}
use Rattle.pattern_unify.proofs.Meanings.{locals_held, locals_kept, read_kept}
use Rattle.move_set.proofs.Meanings.{decl_read}
use Rattle.move_set.proofs.TypeMoves.{restates_target}
use Rattle.move_set.proofs.restating.unfold_by.Goals as goal

pub unfold_metas-requires-clause-term : goal.unfold_metas-requires-clause-term
unfold_metas-requires-clause-term g c =
    let held = decl_found_held (g.T.Terms.holds c.args.terms.now) c.args.metas.now c.args.g c.in-Some.decl.now c.requires.globals.metas_held (sym c.in-Some.ensures) in
    held.ty

pub restated-requires-clause-globals : goal.restated-requires-clause-globals
restated-requires-clause-globals g c =
    globals_kept _ _ _ (g.T.Terms.means c.open.new.terms) c.open.ensures.kept c.args.env.now c.args.metas.now
    (globals_kept _ _ _ (g.T.Terms.means c.unfold_metas.new.terms) c.unfold_metas.ensures.kept c.args.env.now c.args.metas.now c.requires.globals)

pub restated-requires-clause-context : goal.restated-requires-clause-context
restated-requires-clause-context g c =
    let h0 = g.T.Terms.holds c.args.terms.now in
    let m0 = g.T.Terms.means c.args.terms.now in
    let h1 = g.T.Terms.holds c.unfold_metas.new.terms in
    let m1 = g.T.Terms.means c.unfold_metas.new.terms in
    let h2 = g.T.Terms.holds c.open.new.terms in
    let m2 = g.T.Terms.means c.open.new.terms in
    let k02 : Keeps h0 m0 h2 m2 = keeps_both h0 m0 h1 m1 h2 m2 c.unfold_metas.ensures.kept c.open.ensures.kept in
    let x = c.in-Some.decl.now in
    let held = decl_found_held h0 c.args.metas.now c.args.g x c.requires.globals.metas_held (sym c.in-Some.ensures) in
    subst (AreLocals h2) (sym c.as_slice-ctx.ensures) (locals_held h0 m0 h2 m2 k02 x.ctx held.ctx)

pub restated-requires-clause-names : goal.restated-requires-clause-names
restated-requires-clause-names g c = subst (λ ls. IsContext (names_of ls)) (sym c.as_slice-ctx.ensures) (declared_at c.args.metas.now c.args.g c.in-Some.decl.now c.next-count.ensures.facts (sym c.in-Some.ensures))

pub returns-in_err-ty-in-Some-clause-value : goal.returns-in_err-ty-in-Some-clause-value
returns-in_err-ty-in-Some-clause-value g c Δ Σ d M read there em =
    let m0 = g.T.Terms.means c.args.terms.now in
    let k1 = c.unfold_metas.ensures.kept in
    let h2 = g.T.Terms.holds c.open.new.terms in
    let m2 = g.T.Terms.means c.open.new.terms in
    let x = c.in-Some.decl.now in
    let n = c.args.fuel.now in
    let a = c.args.name.now in
    let same : plain_decl m0 x ≡ d = decl_read m0 c.args.metas.now Σ c.args.g x d read.metas_are (sym c.in-Some.ensures) there in
    let values : Metas = rules_metas Σ in
    let tree = c.in_ok-target-in-Some.ensures.tree ∙ ap₂ unfold_metas (sym (metas_again m0 c.args.metas.now) ∙ ap rules_metas read.metas_are) (ap (λ (y : Decl Term). y.ty) same) in
    let body = (k1 c.args.body c.requires.body).1 ∙ em in
    fails h2 m2 _ (unfold_by Δ Σ c.args.g d a M n) (opened a M (target Δ Σ c.args.g d) n) (restates_target Δ Σ c.args.g d a n) _ c.from_residual-in_err-ty-in-Some.result c.in_err-ty-in-Some.field-0.0 refl c.from_residual-in_err-ty-in-Some.ensures.1
    (c.in_err-ty-in-Some.ensures.value M (target Δ Σ c.args.g d) body tree)

pub returns-clause-value : goal.returns-clause-value
returns-clause-value g c Δ Σ d M read there em =
    let h0 = g.T.Terms.holds c.args.terms.now in
    let m0 = g.T.Terms.means c.args.terms.now in
    let h1 = g.T.Terms.holds c.unfold_metas.new.terms in
    let m1 = g.T.Terms.means c.unfold_metas.new.terms in
    let k1 = c.unfold_metas.ensures.kept in
    let h2 = g.T.Terms.holds c.open.new.terms in
    let m2 = g.T.Terms.means c.open.new.terms in
    let k02 : Keeps h0 m0 h2 m2 = keeps_both h0 m0 h1 m1 h2 m2 k1 c.open.ensures.kept in
    let h3 = g.T.Terms.holds c.restated.new.terms in
    let m3 = g.T.Terms.means c.restated.new.terms in
    let x = c.in-Some.decl.now in
    let held = decl_found_held h0 c.args.metas.now c.args.g x c.requires.globals.metas_held (sym c.in-Some.ensures) in
    let n = c.args.fuel.now in
    let u1 = c.open.new.fuel in
    let a = c.args.name.now in
    let same : plain_decl m0 x ≡ d = decl_read m0 c.args.metas.now Σ c.args.g x d read.metas_are (sym c.in-Some.ensures) there in
    let tree = c.in_ok-target-in-Some.ensures.tree ∙ ap₂ unfold_metas (sym (metas_again m0 c.args.metas.now) ∙ ap rules_metas read.metas_are) (ap (λ (y : Decl Term). y.ty) same) in
    let body = (k1 c.args.body c.requires.body).1 ∙ em in
    let A = m2 c.in_ok-ty-in-Some.ty in
    let gave : opened a M (target Δ Σ c.args.g d) n ≡ Gave A u1 = c.in_ok-ty-in-Some.ensures.value M (target Δ Σ c.args.g d) body tree in
    let r2 = read_kept h0 m0 h2 m2 k02 c.args.env.now c.args.metas.now Δ Σ c.requires.globals read in
    let ctx2 : plain_locals m2 c.as_slice-ctx.result.now ≡ d.ctx = ap (plain_locals m2) c.as_slice-ctx.ensures ∙ locals_kept h0 m0 h2 m2 k02 x.ctx held.ctx ∙ ap (λ (y : Decl Term). y.ctx) same in
    let holes : c.of-holes.result ≡ [] = c.of-holes.ensures ∙ c.new.ensures.items in
    answers h3 m3 _ (unfold_by Δ Σ c.args.g d a M n) (restated Δ Σ c.args.g d Σ A c.of-holes.result u1) _ c.restated.result
    (after (opened a M (target Δ Σ c.args.g d) n) A u1 (restates_target Δ Σ c.args.g d a n) gave ∙ ap (λ hs. restated Δ Σ c.args.g d Σ A hs u1) (sym holes))
    (c.restated.ensures.value Δ Σ Σ d A r2 ctx2 refl)
