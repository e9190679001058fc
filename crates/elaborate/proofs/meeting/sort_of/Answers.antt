use Rattle.std.proofs.Common.{◌≡◌, ◌≢◌, ◌∙◌, ap, sym, refl, length}
use Rattle.ld_trees.specs.Term.{Sort, Srt}
use Rattle.unification.specs.Steps.{Gave, Refused}
use Rattle.elaboration.specs.Refusals.{NotType}
use Rattle.elaboration.specs.Elaboration.{sort_or, reduced}
use Rattle.pattern_unify.proofs.Follow.{next}
use Rattle.elaborate.proofs.Follow.{fails}
use Rattle.elaborate.proofs.Meanings.{room, globals_read, depth_read}
use Rattle.elaborate.proofs.Forms.{sort_is, sort_other, form_is_sort, form_is_none}
use Rattle.elaborate.proofs.meeting.sort_of.Goals as goal

pub returns-then-is_sort-clause-value : goal.returns-then-is_sort-clause-value
returns-then-is_sort-clause-value g c Δ w s t F r p q =
    let x = c.if-is_sort.ensures.0 refl in
    sort_is Δ w s t F c.args.fuel.now x.0 (sym q ∙ x.1) ∙ ap (λ T. Gave T c.args.fuel.now) (sym q)

pub reduced-requires-clause-globals : goal.reduced-requires-clause-globals
reduced-requires-clause-globals g c = c.requires.held.globals

pub returns-in_err-form-clause-value : goal.returns-in_err-form-clause-value
returns-in_err-form-clause-value g c Δ w s t F r p q =
    let h = g.T.Terms.holds c.reduced.new.terms in
    let m = g.T.Terms.means c.reduced.new.terms in
    let no : (x : Sort) → F ≢ Srt x = λ x e. let z = c.if-is_sort.ensures.1 (x, q ∙ e) in cc in
    fails h m _ _ _ _ _ c.from_residual.result c.in_err-form.field-0.0 (sort_other Δ w s t F c.args.fuel.now no) c.from_residual.ensures.1
    (c.in_err-form.ensures.value Δ w F (globals_read (g.T.Terms.means c.args.terms.now) r) q)

pub returns-then-is_sort-2-clause-value : goal.returns-then-is_sort-2-clause-value
returns-then-is_sort-2-clause-value g c Δ w s t F r p q =
    let m = g.T.Terms.means c.reduced.new.terms in
    let no : (x : Sort) → F ≢ Srt x = λ x e. let z = c.if-is_sort.ensures.1 (x, q ∙ e) in cc in
    let x = c.if-is_sort-2.ensures.0 refl in
    next _ (reduced Δ w F c.args.fuel.now) (m c.in_ok-form.form) c.reduced.new.fuel (sort_or (NotType (length s.entries) t)) (sort_other Δ w s t F c.args.fuel.now no) (c.in_ok-form.ensures.value Δ w F (globals_read (g.T.Terms.means c.args.terms.now) r) q)
    ∙ form_is_sort (NotType (length s.entries) t) (m c.in_ok-form.form) c.reduced.new.fuel x.0 x.1

pub depth_of-requires : goal.depth_of-requires
depth_of-requires g c = room c.requires.held

pub returns-clause-value : goal.returns-clause-value
returns-clause-value g c Δ w s t F r p q =
    let m0 = g.T.Terms.means c.args.terms.now in
    let m = g.T.Terms.means c.reduced.new.terms in
    let no : (x : Sort) → F ≢ Srt x = λ x e. let z = c.if-is_sort.ensures.1 (x, q ∙ e) in cc in
    let none : (x : Sort) → m c.in_ok-form.form ≢ Srt x = λ x e. let z = c.if-is_sort-2.ensures.1 (x, e) in cc in
    let d : c.depth_of.result ≡ length s.entries = c.depth_of.ensures ∙ depth_read m0 r in
    let k = c.in_ok-form.ensures.kept c.args.term c.requires.term in (
      next _ (reduced Δ w F c.args.fuel.now) (m c.in_ok-form.form) c.reduced.new.fuel (sort_or (NotType (length s.entries) t)) (sort_other Δ w s t F c.args.fuel.now no) (c.in_ok-form.ensures.value Δ w F (globals_read m0 r) q)
          ∙ form_is_none (NotType (length s.entries) t) (m c.in_ok-form.form) c.reduced.new.fuel none
          ∙ ap (λ d. Refused (NotType d t) c.reduced.new.fuel) (sym d)
          ∙ ap (λ x. Refused (NotType c.depth_of.result x) c.reduced.new.fuel) (sym (k.1 ∙ p)),
      k.0,
    )
