use Rattle.std.proofs.Common.{◌≡◌, ◌∙◌, ap, ap₂, sym, refl, length}
use Rattle.ld_trees.specs.Term.{Term}
use Rattle.unification.specs.Steps.{Refused}
use Rattle.elaboration.specs.Refusals.{NotFunction}
use Rattle.elaboration.specs.Elaboration.{parts_or, reduced}
use Rattle.pattern_unify.proofs.Follow.{next}
use Rattle.elaborate.proofs.Follow.{fails}
use Rattle.elaborate.proofs.Forms.{no_parts}
use Rattle.elaborate.proofs.Meanings.{room, globals_read, depth_read}
use Rattle.elaborate.proofs.nodes.function_parts.Goals as goal

pub reduced-requires-clause-globals : goal.reduced-requires-clause-globals
reduced-requires-clause-globals g c =
    c.requires.held.globals

pub returns-in_err-form-clause-value : goal.returns-in_err-form-clause-value
returns-in_err-form-clause-value g c Δ f s r p q =
    let h0 = g.T.Terms.holds c.args.terms.now in
    let m0 = g.T.Terms.means c.args.terms.now in
    let h1 = g.T.Terms.holds c.reduced.new.terms in
    let m1 = g.T.Terms.means c.reduced.new.terms in
    fails h1 m1 _ _ (reduced Δ f.work f.ty c.args.fuel.now) (parts_or (NotFunction (length s.entries) f.term f.ty)) c.reduced.new.fuel c.from_residual.result c.in_err-form.field-0.0 refl c.from_residual.ensures.1 (c.in_err-form.ensures.value Δ f.work f.ty (globals_read m0 r) q)

pub returns-in-Some-clause-value : goal.returns-in-Some-clause-value
returns-in-Some-clause-value g c Δ f s r p q =
    let h0 = g.T.Terms.holds c.args.terms.now in
    let m0 = g.T.Terms.means c.args.terms.now in
    let h1 = g.T.Terms.holds c.reduced.new.terms in
    let m1 = g.T.Terms.means c.reduced.new.terms in
    next _ (reduced Δ f.work f.ty c.args.fuel.now) (m1 c.in_ok-form.form) c.reduced.new.fuel (parts_or (NotFunction (length s.entries) f.term f.ty)) refl (c.in_ok-form.ensures.value Δ f.work f.ty (globals_read m0 r) q) ∙ ap (λ T. parts_or (NotFunction (length s.entries) f.term f.ty) T c.reduced.new.fuel) c.in-Some.ensures.parts

pub depth_of-requires : goal.depth_of-requires
depth_of-requires g c =
    room c.requires.held

pub returns-in-None-clause-value : goal.returns-in-None-clause-value
returns-in-None-clause-value g c Δ f s r p q =
    let h0 = g.T.Terms.holds c.args.terms.now in
    let m0 = g.T.Terms.means c.args.terms.now in
    let h1 = g.T.Terms.holds c.reduced.new.terms in
    let m1 = g.T.Terms.means c.reduced.new.terms in
    let d : c.depth_of.result ≡ length s.entries = c.depth_of.ensures ∙ depth_read m0 r in
    let kt = c.in_ok-form.ensures.kept c.args.function.now.term c.requires.term in
    let ky = c.in_ok-form.ensures.kept c.args.function.now.ty c.requires.ty in (
      next _ (reduced Δ f.work f.ty c.args.fuel.now) (m1 c.in_ok-form.form) c.reduced.new.fuel (parts_or (NotFunction (length s.entries) f.term f.ty)) refl (c.in_ok-form.ensures.value Δ f.work f.ty (globals_read m0 r) q)
          ∙ no_parts (NotFunction (length s.entries) f.term f.ty) (m1 c.in_ok-form.form) c.reduced.new.fuel c.in-None.ensures.parts
          ∙ ap (λ d. Refused (NotFunction d f.term f.ty) c.reduced.new.fuel) (sym d)
          ∙ ap₂ (λ (t T : Term). Refused (NotFunction c.depth_of.result t T) c.reduced.new.fuel) (sym (kt.1 ∙ p)) (sym (ky.1 ∙ q)),
      kt.0,
      ky.0,
    )
