use Rattle.std.proofs.Common.{◌≡◌, ◌≢◌, ◌∙◌, ◌+◌, ◌<◌, suc, [], ◌∷◌, ◌++◌, map, length, refl, sym, ap, ap₂, arith, rules, take, get_or, Some, None, subst as transport}
use Rattle.ld_trees.specs.Term.{Term, Named, Numbered, Square, Var, App, Lam, Pi, Con, none, ◌▹◌, count}
use Rattle.ld_trees.specs.Substitution.{subst_all}
use Rattle.ld_terms.specs.Views.{terms_of}
use Rattle.std.proofs.lemmas.List.{take_all}
use Rattle.std.proofs.lemmas.List.Elements.{All-take}
use Rattle.ld_terms.proofs.Arguments.{terms_of_more}
use Rattle.ld_terms.proofs.Turns.{keeps_both, keeps_map}
use Rattle.conversion.specs.Globals.{context_of}
use Rattle.conversion.specs.Runs.{Gave, Refused, NotType, NotFunction, ReductIllTyped, pure, go_on, other_refusal}
use Rattle.conversion.proofs.Lookups.{globals_kept}
use Rattle.kernel_check.specs.Inference.{infer, infer_case, infer_sort, infer_all, lam_type}
use Rattle.kernel_check.specs.Answers.{Shows, Answers, refused_as}
use Rattle.kernel_check.specs.declared.fault.KernelFault.TheVariants as fault
use Rattle.kernel_check.specs.Steps.{reduct_checked}
use Rattle.conversion.specs.Spines.{BothHeld}
use Rattle.conversion.proofs.Spines.{all_popped}
use Rattle.kernel_check.specs.Steps.{along, applied_type, pair_trees}
use Rattle.kernel_check.proofs.Applications.{along_last, along_shows, trees_kept, pairs_held}
use Rattle.kernel_check.proofs.Signatures.{item_instance, item_missing, signature_read}
use Rattle.kernel_check.proofs.Calls.{all_shows, residual, shows_more, shows_after, answers_after, answers_after_two, sort_shows, sort_gave, refused_shows, after, entered, lam_is, no_product, checked_is, unchecked, checked, instance_is, instance_refused, read_kept, read_more, read_count, count_of}
use Rattle.kernel_check.proofs.+inferring.Goals as goal

pub inference::sort_of-returns-in_err-found-clause-value : goal.inference::sort_of-returns-in_err-found-clause-value
inference::sort_of-returns-in_err-found-clause-value g t c Δ Γ x r e =
    let h = g.T.Terms.holds in
    let m = g.T.Terms.means in
    let s0 = c.args.terms.now in
    let s1 = c.infer_in.new.terms in
    residual (h s1) (m s1) _ _ _ c.from_residual.result c.in_err-found.field-0.0 c.from_residual.ensures.1
    (shows_more (h s1) (m s1) _ _ _ _ (shows_more (h s1) (m s1) _ _ _ _ (c.in_err-found.ensures.value Δ Γ x r e)))

pub inference::sort_of-returns-clause-value : goal.inference::sort_of-returns-clause-value
inference::sort_of-returns-clause-value g t c Δ Γ x r e =
    let h = g.T.Terms.holds in
    let m = g.T.Terms.means in
    let s0 = c.args.terms.now in
    let s1 = c.infer_in.new.terms in
    let s2 = c.sort_in.new.terms in
    let k1 = c.in_ok-found.ensures.kept in
    let r1 = read_kept (h s0) (m s0) (h s1) (m s1) c.args.types.now.items c.infer_in.new.types.items k1 c.requires.globals c.requires.types c.in_ok-found.ensures.same r in
    let d1 : count Γ ≡ c.len.result = omega (arith, read_count (m s1) c.infer_in.new.types.items r1, c.len.ensures) in
    answers_after_two (h s2) (m s2) (m s2) _ _ _ _ _ _ _ (c.in_ok-found.ensures.value Δ Γ x r e)
    (c.sort_in.ensures.value Δ Γ x (m s1 c.in_ok-found.found) r1.env d1 ((k1 c.args.h c.requires.term).1 ∙ e) refl)

pub inference::infer_under-returns-in_err-found-clause-value : goal.inference::infer_under-returns-in_err-found-clause-value
inference::infer_under-returns-in_err-found-clause-value g t c Δ Γ A M r p b =
    let h = g.T.Terms.holds in
    let m = g.T.Terms.means in
    let s0 = c.args.terms.now in
    let s1 = c.infer_in.new.terms in
    let q = read_more (m s0) c.args.types.now.items c.push.new.self.items c.args.domain A c.in_ok-push.ensures.items p r in
    residual (h s1) (m s1) _ _ _ c.from_residual-in_err-found.result c.in_err-found.field-0.0 c.from_residual-in_err-found.ensures.1
    (c.in_err-found.ensures.value Δ (Γ ▹ A) M q b)

pub inference::infer_under-returns-clause-value : goal.inference::infer_under-returns-clause-value
inference::infer_under-returns-clause-value g t c Δ Γ A M r p b =
    let h = g.T.Terms.holds in
    let m = g.T.Terms.means in
    let s0 = c.args.terms.now in
    let q = read_more (m s0) c.args.types.now.items c.push.new.self.items c.args.domain A c.in_ok-push.ensures.items p r in
    c.in_ok-found.ensures.value Δ (Γ ▹ A) M q b

pub inference::infer_abstraction-returns-in_err-sort_of-clause-value : goal.inference::infer_abstraction-returns-in_err-sort_of-clause-value
inference::infer_abstraction-returns-in_err-sort_of-clause-value g t c Δ Γ A M r p b =
    let h = g.T.Terms.holds in
    let m = g.T.Terms.means in
    let s0 = c.args.terms.now in
    let s1 = c.sort_of.new.terms in
    residual (h s1) (m s1) _ _ _ c.from_residual.result c.in_err-sort_of.field-0.0 c.from_residual.ensures.1
    (shows_more (h s1) (m s1) (infer_sort Δ Γ A c.args.fuel.now) _ _ _ (sort_shows (h s1) (m s1) _ _ _ (c.in_err-sort_of.ensures.value Δ Γ A r p)))

pub inference::infer_abstraction-returns-in_err-found-clause-value : goal.inference::infer_abstraction-returns-in_err-found-clause-value
inference::infer_abstraction-returns-in_err-found-clause-value g t c Δ Γ A M r p b =
    let h = g.T.Terms.holds in
    let m = g.T.Terms.means in
    let s0 = c.args.terms.now in
    let s1 = c.sort_of.new.terms in
    let w = sort_gave (infer_sort Δ Γ A c.args.fuel.now) _ _ (c.in_ok-sort_of.ensures.value Δ Γ A r p) in
    let k1 = c.in_ok-sort_of.ensures.kept in
    let r1 = read_kept (h s0) (m s0) (h s1) (m s1) c.args.types.now.items c.sort_of.new.types.items k1 c.requires.globals c.requires.types c.in_ok-sort_of.ensures.same r in
    let p1 = (k1 c.args.domain c.requires.domain).1 ∙ p in
    let b1 = (k1 c.args.body c.requires.body).1 ∙ b in
    let s2 = c.infer_under.new.terms in
    residual (h s2) (m s2) _ _ _ c.from_residual-in_err-found.result c.in_err-found.field-0.0 c.from_residual-in_err-found.ensures.1
    (shows_after (h s2) (m s2) _ _ _ _ _ _ w.1 (shows_more (h s2) (m s2) _ _ _ _ (c.in_err-found.ensures.value Δ Γ A M r1 p1 b1)))

pub inference::infer_abstraction-returns-then-is_square-clause-value : goal.inference::infer_abstraction-returns-then-is_square-clause-value
inference::infer_abstraction-returns-then-is_square-clause-value g t c Δ Γ A M r p b =
    let h = g.T.Terms.holds in
    let m = g.T.Terms.means in
    let s0 = c.args.terms.now in
    let s1 = c.sort_of.new.terms in
    let w = sort_gave (infer_sort Δ Γ A c.args.fuel.now) _ _ (c.in_ok-sort_of.ensures.value Δ Γ A r p) in
    let k1 = c.in_ok-sort_of.ensures.kept in
    let r1 = read_kept (h s0) (m s0) (h s1) (m s1) c.args.types.now.items c.sort_of.new.types.items k1 c.requires.globals c.requires.types c.in_ok-sort_of.ensures.same r in
    let p1 = (k1 c.args.domain c.requires.domain).1 ∙ p in
    let b1 = (k1 c.args.body c.requires.body).1 ∙ b in
    let s2 = c.infer_under.new.terms in
    let v = c.in_ok-found.ensures.value Δ Γ A M r1 p1 b1 in
    let k2 = keeps_both (h s0) (m s0) (h s1) (m s1) (h s2) (m s2) k1 c.in_ok-found.ensures.kept in
    let r2 = read_kept (h s0) (m s0) (h s2) (m s2) c.args.types.now.items c.infer_under.new.types.items k2 c.requires.globals c.requires.types (c.in_ok-found.ensures.same ∙ c.in_ok-sort_of.ensures.same) r in
    let z = c.if-is_square.ensures.0 refl in
    let n = c.infer_under.new.fuel in
    let d : suc (count Γ) ≡ c.len.result + 1 = omega (arith, read_count (m s2) c.infer_under.new.types.items r2, c.len.ensures) in
    (after (infer_sort Δ Γ A c.args.fuel.now) _ _ _ w.1 ∙ after _ _ _ _ v ∙ ap (λ T. lam_type Γ A T n) z ∙ ap₂ (λ k T. Refused (NotType k T) n) d (sym z), c.in_ok-found.ensures.held)

pub inference::infer_abstraction-returns-clause-value : goal.inference::infer_abstraction-returns-clause-value
inference::infer_abstraction-returns-clause-value g t c Δ Γ A M r p b =
    let h = g.T.Terms.holds in
    let m = g.T.Terms.means in
    let s0 = c.args.terms.now in
    let s1 = c.sort_of.new.terms in
    let w = sort_gave (infer_sort Δ Γ A c.args.fuel.now) _ _ (c.in_ok-sort_of.ensures.value Δ Γ A r p) in
    let k1 = c.in_ok-sort_of.ensures.kept in
    let r1 = read_kept (h s0) (m s0) (h s1) (m s1) c.args.types.now.items c.sort_of.new.types.items k1 c.requires.globals c.requires.types c.in_ok-sort_of.ensures.same r in
    let p1 = (k1 c.args.domain c.requires.domain).1 ∙ p in
    let b1 = (k1 c.args.body c.requires.body).1 ∙ b in
    let s2 = c.infer_under.new.terms in
    let v = c.in_ok-found.ensures.value Δ Γ A M r1 p1 b1 in
    let k2 = keeps_both (h s0) (m s0) (h s1) (m s1) (h s2) (m s2) k1 c.in_ok-found.ensures.kept in
    let r2 = read_kept (h s0) (m s0) (h s2) (m s2) c.args.types.now.items c.infer_under.new.types.items k2 c.requires.globals c.requires.types (c.in_ok-found.ensures.same ∙ c.in_ok-sort_of.ensures.same) r in
    let n = c.infer_under.new.fuel in
    let no : m s2 c.in_ok-found.found ≢ Square = λ q. let z = c.if-is_square.ensures.1 q in cc in
    after (infer_sort Δ Γ A c.args.fuel.now) _ _ _ w.1 ∙ after _ _ _ _ v ∙ lam_is Γ A (m s2 c.in_ok-found.found) n no
    ∙ ap (λ D. Gave (Pi D (m s2 c.in_ok-found.found)) n) (sym ((k2 c.args.domain c.requires.domain).1 ∙ p)) ∙ ap (λ T. Gave T n) (sym c.in_ok-make.ensures.tree)

pub inference::infer_product-returns-in_err-sort_of-clause-value : goal.inference::infer_product-returns-in_err-sort_of-clause-value
inference::infer_product-returns-in_err-sort_of-clause-value g t c Δ Γ A M r p b =
    let h = g.T.Terms.holds in
    let m = g.T.Terms.means in
    let s0 = c.args.terms.now in
    let s1 = c.sort_of.new.terms in
    residual (h s1) (m s1) _ _ _ c.from_residual.result c.in_err-sort_of.field-0.0 c.from_residual.ensures.1
    (shows_more (h s1) (m s1) (infer_sort Δ Γ A c.args.fuel.now) _ _ _ (sort_shows (h s1) (m s1) _ _ _ (c.in_err-sort_of.ensures.value Δ Γ A r p)))

pub inference::infer_product-returns-in_err-found-clause-value : goal.inference::infer_product-returns-in_err-found-clause-value
inference::infer_product-returns-in_err-found-clause-value g t c Δ Γ A M r p b =
    let h = g.T.Terms.holds in
    let m = g.T.Terms.means in
    let s0 = c.args.terms.now in
    let s1 = c.sort_of.new.terms in
    let w = sort_gave (infer_sort Δ Γ A c.args.fuel.now) _ _ (c.in_ok-sort_of.ensures.value Δ Γ A r p) in
    let k1 = c.in_ok-sort_of.ensures.kept in
    let r1 = read_kept (h s0) (m s0) (h s1) (m s1) c.args.types.now.items c.sort_of.new.types.items k1 c.requires.globals c.requires.types c.in_ok-sort_of.ensures.same r in
    let p1 = (k1 c.args.domain c.requires.domain).1 ∙ p in
    let b1 = (k1 c.args.codomain c.requires.codomain).1 ∙ b in
    let s2 = c.infer_under.new.terms in
    residual (h s2) (m s2) _ _ _ c.from_residual-in_err-found.result c.in_err-found.field-0.0 c.from_residual-in_err-found.ensures.1
    (shows_after (h s2) (m s2) _ _ _ _ _ _ w.1 (shows_more (h s2) (m s2) _ _ _ _ (shows_more (h s2) (m s2) _ _ _ _ (c.in_err-found.ensures.value Δ Γ A M r1 p1 b1))))

pub inference::infer_product-returns-clause-value : goal.inference::infer_product-returns-clause-value
inference::infer_product-returns-clause-value g t c Δ Γ A M r p b =
    let h = g.T.Terms.holds in
    let m = g.T.Terms.means in
    let s0 = c.args.terms.now in
    let s1 = c.sort_of.new.terms in
    let w = sort_gave (infer_sort Δ Γ A c.args.fuel.now) _ _ (c.in_ok-sort_of.ensures.value Δ Γ A r p) in
    let k1 = c.in_ok-sort_of.ensures.kept in
    let r1 = read_kept (h s0) (m s0) (h s1) (m s1) c.args.types.now.items c.sort_of.new.types.items k1 c.requires.globals c.requires.types c.in_ok-sort_of.ensures.same r in
    let p1 = (k1 c.args.domain c.requires.domain).1 ∙ p in
    let b1 = (k1 c.args.codomain c.requires.codomain).1 ∙ b in
    let s2 = c.infer_under.new.terms in
    let v = c.in_ok-found.ensures.value Δ Γ A M r1 p1 b1 in
    let k2 = keeps_both (h s0) (m s0) (h s1) (m s1) (h s2) (m s2) k1 c.in_ok-found.ensures.kept in
    let r2 = read_kept (h s0) (m s0) (h s2) (m s2) c.args.types.now.items c.infer_under.new.types.items k2 c.requires.globals c.requires.types (c.in_ok-found.ensures.same ∙ c.in_ok-sort_of.ensures.same) r in
    let s3 = c.sort_in.new.terms in
    let d : count (Γ ▹ A) ≡ c.len.result + 1 = omega (arith, read_count (m s2) c.infer_under.new.types.items r2, c.len.ensures) in
    answers_after (h s3) (m s3) (m s3) (infer_sort Δ Γ A c.args.fuel.now) _ _ _ _ _ w.1
    (answers_after_two (h s3) (m s3) (m s3) _ _ _ _ _ _ _ v (c.sort_in.ensures.value Δ (Γ ▹ A) M (m s2 c.in_ok-found.found) r2.env d ((k2 c.args.codomain c.requires.codomain).1 ∙ b) refl))

pub inference::product_form-returns-in_err-form-clause-value : goal.inference::product_form-returns-in_err-form-clause-value
inference::product_form-returns-in_err-form-clause-value g t c Δ Γ F A r p a =
    let h = g.T.Terms.holds in
    let m = g.T.Terms.means in
    let s0 = c.args.terms.now in
    let s1 = c.form_of.new.terms in
    residual (h s1) (m s1) _ _ _ c.from_residual.result c.in_err-form.field-0.0 c.from_residual.ensures.1
    (shows_more (h s1) (m s1) _ _ _ _ (c.in_err-form.ensures.value Δ A r.env a))

pub inference::product_form-returns-in_err-check_reduct-in-Some-clause-value : goal.inference::product_form-returns-in_err-check_reduct-in-Some-clause-value
inference::product_form-returns-in_err-check_reduct-in-Some-clause-value g t c Δ Γ F A r p a =
    let h = g.T.Terms.holds in
    let m = g.T.Terms.means in
    let s0 = c.args.terms.now in
    let s1 = c.form_of.new.terms in
    let e1 = c.in_ok-form.ensures.value Δ A r.env a in
    let k1 = c.in_ok-form.ensures.kept in
    let r1 = read_kept (h s0) (m s0) (h s1) (m s1) c.args.types.now.items c.args.types.now.items k1 c.requires.globals c.requires.types refl r in
    let form = c.in-Some.ensures.parts in
    let D = m s1 c.in-Some.parts.0 in
    let C = m s1 c.in-Some.parts.1 in
    let e = e1 ∙ ap (λ P. Gave P c.form_of.new.fuel) form in
    let a1 = (k1 c.args.found c.requires.found).1 ∙ a in
    let s2 = c.check_reduct.new.terms in
    residual (h s2) (m s2) _ _ _ c.from_residual-in_err-check_reduct-in-Some.result c.in_err-check_reduct-in-Some.field-0.0 c.from_residual-in_err-check_reduct-in-Some.ensures.1
    (shows_after (h s2) (m s2) _ _ _ _ _ _ e (transport (λ o. Shows (h s2) (m s2) o c.check_reduct.new.fuel c.in_err-check_reduct-in-Some.field-0.0) (checked_is Δ Γ F A D C c.form_of.new.fuel) (shows_more (h s2) (m s2) _ _ _ _ (c.in_err-check_reduct-in-Some.ensures.value Δ Γ A (Pi D C) r1 a1 form))))

pub inference::product_form-returns-in_ok-check_reduct-in-Some-clause-value : goal.inference::product_form-returns-in_ok-check_reduct-in-Some-clause-value
inference::product_form-returns-in_ok-check_reduct-in-Some-clause-value g t c Δ Γ F A r p a =
    let h = g.T.Terms.holds in
    let m = g.T.Terms.means in
    let s0 = c.args.terms.now in
    let s1 = c.form_of.new.terms in
    let e1 = c.in_ok-form.ensures.value Δ A r.env a in
    let k1 = c.in_ok-form.ensures.kept in
    let r1 = read_kept (h s0) (m s0) (h s1) (m s1) c.args.types.now.items c.args.types.now.items k1 c.requires.globals c.requires.types refl r in
    let form = c.in-Some.ensures.parts in
    let D = m s1 c.in-Some.parts.0 in
    let C = m s1 c.in-Some.parts.1 in
    let e = e1 ∙ ap (λ P. Gave P c.form_of.new.fuel) form in
    let a1 = (k1 c.args.found c.requires.found).1 ∙ a in
    let s2 = c.check_reduct.new.terms in
    let n = c.check_reduct.new.fuel in
    let kd = (c.in_ok-check_reduct-in-Some.ensures.kept c.in-Some.parts.0 c.in-Some.ensures.held.0).1 in
    let kc = (c.in_ok-check_reduct-in-Some.ensures.kept c.in-Some.parts.1 c.in-Some.ensures.held.1).1 in
    after _ _ _ _ e ∙ sym (checked_is Δ Γ F A D C c.form_of.new.fuel) ∙ after _ _ _ _ (c.in_ok-check_reduct-in-Some.ensures.value Δ Γ A (Pi D C) r1 a1 form)
    ∙ ap₂ (λ x y. let q : Term × Term = (x, y) in Gave q n) (sym kd) (sym kc)

pub inference::product_form-returns-in-None-clause-value : goal.inference::product_form-returns-in-None-clause-value
inference::product_form-returns-in-None-clause-value g t c Δ Γ F A r p a =
    let h = g.T.Terms.holds in
    let m = g.T.Terms.means in
    let s0 = c.args.terms.now in
    let s1 = c.form_of.new.terms in
    let e1 = c.in_ok-form.ensures.value Δ A r.env a in
    let k1 = c.in_ok-form.ensures.kept in
    let r1 = read_kept (h s0) (m s0) (h s1) (m s1) c.args.types.now.items c.args.types.now.items k1 c.requires.globals c.requires.types refl r in
    let n = c.form_of.new.fuel in
    let d : count Γ ≡ c.len.result = omega (arith, read_count (m s1) c.args.types.now.items r1, c.len.ensures) in
    let kf = k1 c.args.f c.requires.term in
    let ka = k1 c.args.found c.requires.found in
    (after _ _ _ _ e1 ∙ no_product Δ Γ F A (m s1 c.in_ok-form.form) n c.in-None.ensures.parts ∙ ap (λ k. Refused (NotFunction k F A) n) d ∙ ap₂ (λ x y. Refused (NotFunction c.len.result x y) n) (sym (kf.1 ∙ p)) (sym (ka.1 ∙ a)), kf.0, ka.0)

pub inference::check_reduct-returns-then-same-clause-value : goal.inference::check_reduct-returns-then-same-clause-value
inference::check_reduct-returns-then-same-clause-value g t c Δ Γ F P r p a =
    let h = g.T.Terms.holds in
    let m = g.T.Terms.means in
    let s0 = c.args.terms.now in
    unchecked Δ Γ F P c.args.fuel.now (sym p ∙ c.if-same.ensures.0 refl ∙ a)

pub inference::check_reduct-returns-in-Ok-clause-value : goal.inference::check_reduct-returns-in-Ok-clause-value
inference::check_reduct-returns-in-Ok-clause-value g t c Δ Γ F P r p a =
    let h = g.T.Terms.holds in
    let m = g.T.Terms.means in
    let s0 = c.args.terms.now in
    let s1 = c.sort_of.new.terms in
    let no : F ≢ P = λ q. let z = c.if-same.ensures.1 (p ∙ q ∙ sym a) in cc in
    let w = sort_gave (infer_sort Δ Γ P c.args.fuel.now) _ _ (c.in-Ok.ensures.value Δ Γ P r a) in
    checked Δ Γ F P c.args.fuel.now no ∙ ap (λ o. go_on (other_refusal (ReductIllTyped (count Γ) F P) o) (λ _. pure (tt {0}))) w.1

pub inference::check_reduct-returns-in-Err-clause-value : goal.inference::check_reduct-returns-in-Err-clause-value
inference::check_reduct-returns-in-Err-clause-value g t c Δ Γ F P r p a =
    let h = g.T.Terms.holds in
    let m = g.T.Terms.means in
    let s0 = c.args.terms.now in
    let s1 = c.sort_of.new.terms in
    let no : F ≢ P = λ q. let z = c.if-same.ensures.1 (p ∙ q ∙ sym a) in cc in
    let kf = c.in-Err.ensures.kept c.args.found c.requires.found in
    let kp = c.in-Err.ensures.kept c.args.form c.requires.reduct in
    let d : count Γ ≡ c.len.result = omega (arith, read_count (m s0) c.args.types.now.items r, c.len.ensures) in
    let o = infer_sort Δ Γ P c.args.fuel.now in
    let n = c.sort_of.new.fuel in
    let e = c.in-Err.fault in
    let eq = checked Δ Γ F P c.args.fuel.now no ∙ ap (λ k. go_on (other_refusal (ReductIllTyped k F P) o) (λ _. pure (tt {0}))) d ∙ ap₂ (λ x y. go_on (other_refusal (ReductIllTyped c.len.result x y) o) (λ _. pure (tt {0}))) (sym (kf.1 ∙ p)) (sym (kp.1 ∙ a)) in
    transport (Shows (h s1) (m s1) (reduct_checked Δ Γ F P c.args.fuel.now) n) (sym c.or_refuse.ensures)
    (transport (λ x. Shows (h s1) (m s1) x n (refused_as (fault.ReductIllTyped c.len.result c.args.found c.args.form) e)) (sym eq)
    (shows_more (h s1) (m s1) _ _ n _ (refused_shows (h s1) (m s1) o n e c.len.result c.args.found c.args.form kf.0 kp.0 (sort_shows (h s1) (m s1) o n e (c.in-Err.ensures.value Δ Γ P r a)))))

pub inference::infer_in-returns-in-Square-clause-value : goal.inference::infer_in-returns-in-Square-clause-value
inference::infer_in-returns-in-Square-clause-value g t c Δ Γ x r e =
    let h = g.T.Terms.holds in
    let m = g.T.Terms.means in
    let s0 = c.args.terms.now in
    let pos : 0 < c.args.fuel.now = search rules in
    let one = c.if-not-spend.ensures.rest in
    let n = c.spend.new.self in
    let tr = c.in-Square.ensures.tree in
    let d : count Γ ≡ c.len.result = omega (arith, read_count (m s0) c.args.types.now.items r, c.len.ensures) in
    (entered Δ Γ x Square c.args.fuel.now n pos one (tr ∙ e) ∙ ap (λ k. Refused (NotType k Square) n) d ∙ ap (λ y. Refused (NotType c.len.result y) n) tr, c.requires.term)

pub inference::infer_in-returns-in-Var-clause-value : goal.inference::infer_in-returns-in-Var-clause-value
inference::infer_in-returns-in-Var-clause-value g t c Δ Γ x r e =
    let h = g.T.Terms.holds in
    let m = g.T.Terms.means in
    let s0 = c.args.terms.now in
    let pos : 0 < c.args.fuel.now = search rules in
    let one = c.if-not-spend.ensures.rest in
    let n = c.spend.new.self in
    let tr = c.in-Var.ensures.tree in
    let s1 = c.entry_type.new.terms in
    transport (λ o. Answers (h s1) (m s1) (m s1) o n c.entry_type.result) (sym (entered Δ Γ x (Var c.in-Var.i) c.args.fuel.now n pos one (tr ∙ e))) (c.entry_type.ensures.value Γ n (let dq : c.deref.result.now ≡ c.args.types.now.items = search rules in ap (λ l. terms_of (map (m s0) l)) dq ∙ r.context) (sym tr))

pub inference::infer_in-returns-in-App-clause-value : goal.inference::infer_in-returns-in-App-clause-value
inference::infer_in-returns-in-App-clause-value g t c Δ Γ x r e =
    let h = g.T.Terms.holds in
    let m = g.T.Terms.means in
    let s0 = c.args.terms.now in
    let pos : 0 < c.args.fuel.now = search rules in
    let one = c.if-not-spend.ensures.rest in
    let n = c.spend.new.self in
    let tr = c.in-App.ensures.tree in
    let s1 = c.infer_application.new.terms in
    transport (λ o. Answers (h s1) (m s1) (m s1) o c.infer_application.new.fuel c.infer_application.result) (sym (entered Δ Γ x (App (m s0 c.in-App.f) (m s0 c.in-App.a)) c.args.fuel.now n pos one (tr ∙ e))) (c.infer_application.ensures.value Δ Γ (m s0 c.in-App.f) (m s0 c.in-App.a) r refl refl)

pub inference::infer_in-returns-in-Lam-clause-value : goal.inference::infer_in-returns-in-Lam-clause-value
inference::infer_in-returns-in-Lam-clause-value g t c Δ Γ x r e =
    let h = g.T.Terms.holds in
    let m = g.T.Terms.means in
    let s0 = c.args.terms.now in
    let pos : 0 < c.args.fuel.now = search rules in
    let one = c.if-not-spend.ensures.rest in
    let n = c.spend.new.self in
    let tr = c.in-Lam.ensures.tree in
    let s1 = c.infer_abstraction.new.terms in
    transport (λ o. Answers (h s1) (m s1) (m s1) o c.infer_abstraction.new.fuel c.infer_abstraction.result) (sym (entered Δ Γ x (Lam (m s0 c.in-Lam.a) (m s0 c.in-Lam.m)) c.args.fuel.now n pos one (tr ∙ e))) (c.infer_abstraction.ensures.value Δ Γ (m s0 c.in-Lam.a) (m s0 c.in-Lam.m) r refl refl)

pub inference::infer_in-returns-in-Pi-clause-value : goal.inference::infer_in-returns-in-Pi-clause-value
inference::infer_in-returns-in-Pi-clause-value g t c Δ Γ x r e =
    let h = g.T.Terms.holds in
    let m = g.T.Terms.means in
    let s0 = c.args.terms.now in
    let pos : 0 < c.args.fuel.now = search rules in
    let one = c.if-not-spend.ensures.rest in
    let n = c.spend.new.self in
    let tr = c.in-Pi.ensures.tree in
    let s1 = c.infer_product.new.terms in
    transport (λ o. Answers (h s1) (m s1) (m s1) o c.infer_product.new.fuel c.infer_product.result) (sym (entered Δ Γ x (Pi (m s0 c.in-Pi.a) (m s0 c.in-Pi.b)) c.args.fuel.now n pos one (tr ∙ e))) (c.infer_product.ensures.value Δ Γ (m s0 c.in-Pi.a) (m s0 c.in-Pi.b) r refl refl)

pub instances::infer_instance-returns-then-args-params-clause-value : goal.instances::infer_instance-returns-then-args-params-clause-value
instances::infer_instance-returns-then-args-params-clause-value g t c Δ Γ k us ps S r p q u v =
    let h = g.T.Terms.holds in
    let m = g.T.Terms.means in
    let s0 = c.args.terms.now in
    let cu = ap count (sym q) ∙ count_of (m s0) c.args.args.now in
    let cp = ap count (sym u) ∙ count_of (λ l. m s0 l.ty) c.args.params.now in
    let d : count Γ ≡ c.len.result = omega (arith, read_count (m s0) c.args.types.now.items r, c.len.ensures) in
    let no : count us ≢ count ps = λ e. c.if-args-params.true (sym cu ∙ e ∙ cp) in
    let n = c.args.fuel.now in
    (instance_refused Δ Γ k us ps S n no ∙ ap (λ j. Refused (NotType j (Con k us)) n) d ∙ ap (λ y. Refused (NotType c.len.result y) n) (sym p), c.requires.term)

pub instances::infer_instance-returns-in_err-infer_arguments-clause-value : goal.instances::infer_instance-returns-in_err-infer_arguments-clause-value
instances::infer_instance-returns-in_err-infer_arguments-clause-value g t c Δ Γ k us ps S r p q u v =
    let h = g.T.Terms.holds in
    let m = g.T.Terms.means in
    let s0 = c.args.terms.now in
    let cu = ap count (sym q) ∙ count_of (m s0) c.args.args.now in
    let cp = ap count (sym u) ∙ count_of (λ l. m s0 l.ty) c.args.params.now in
    let eq = cu ∙ c.if-args-params.false ∙ sym cp in
    let s1 = c.infer_arguments.new.terms in
    let n = c.infer_arguments.new.fuel in
    residual (h s1) (m s1) _ _ _ c.from_residual.result c.in_err-infer_arguments.field-0.0 c.from_residual.ensures.1
    (transport (λ o. Shows (h s1) (m s1) o n c.in_err-infer_arguments.field-0.0) (sym (instance_is Δ Γ k us ps S c.args.fuel.now eq)) (shows_more (h s1) (m s1) _ _ _ _ (c.in_err-infer_arguments.ensures.value Δ Γ us ps r q u)))

pub instances::infer_instance-returns-clause-value : goal.instances::infer_instance-returns-clause-value
instances::infer_instance-returns-clause-value g t c Δ Γ k us ps S r p q u v =
    let h = g.T.Terms.holds in
    let m = g.T.Terms.means in
    let s0 = c.args.terms.now in
    let cu = ap count (sym q) ∙ count_of (m s0) c.args.args.now in
    let cp = ap count (sym u) ∙ count_of (λ l. m s0 l.ty) c.args.params.now in
    let eq = cu ∙ c.if-args-params.false ∙ sym cp in
    let s1 = c.infer_arguments.new.terms in
    let n = c.infer_arguments.new.fuel in
    let k1 = c.in_ok-infer_arguments.ensures.kept in
    let ma = ap terms_of (keeps_map (h s0) (m s0) (h s1) (m s1) c.args.args.now k1 c.requires.args) ∙ q in
    let ms = (k1 c.args.ty c.requires.ty).1 ∙ v in
    instance_is Δ Γ k us ps S c.args.fuel.now eq ∙ after _ _ _ _ (c.in_ok-infer_arguments.ensures.value Δ Γ us ps r q u) ∙ ap (λ T. Gave T n) (sym (c.in_ok-subst_all.ensures.tree ∙ ap₂ subst_all ma ms))

pub instances::infer_arguments-returns-in_err-found-clause-value : goal.instances::infer_arguments-returns-in_err-found-clause-value
instances::infer_arguments-returns-in_err-found-clause-value g t c Δ Γ us ps r q v =
    let h = g.T.Terms.holds in
    let m = g.T.Terms.means in
    let s0 = c.args.terms.now in
    let sl = c.loop-k.terms in
    let inv = c.loop-k.invariant in
    let k = c.loop-k.k in
    let xs = c.args.args.now in
    let ys = c.args.params.now in
    let u = c.index-args-k.result in
    let lt : k < length xs = c.loop-k-test.true in
    let hu = transport (h s0) (sym c.index-args-k.is) (c.requires.args k u lt) in
    let rl = read_kept (h s0) (m s0) (h sl) (m sl) c.args.types.now.items c.loop-k.types.items inv.kept c.requires.globals c.requires.types inv.same r in
    let U = m s0 (get_or xs k u) in
    let au = (inv.kept u hu).1 ∙ ap (m s0) c.index-args-k.is in
    let s1 = c.infer_in.new.terms in
    let n = c.infer_in.new.fuel in
    let e = c.in_err-found.field-0.0 in
    residual (h s1) (m s1) _ _ _ c.from_residual.result c.in_err-found.field-0.0 c.from_residual.ensures.1
    (transport (λ z. Shows (h s1) (m s1) z n e) (ap₂ (λ x y. infer_all Δ (infer Δ) Γ x y c.args.fuel.now) q v)
    (all_shows Δ (infer Δ) Γ (h s1) (m s1) (m s0) (λ l. m s0 l.ty) c.args.fuel.now n e xs ys k u c.requires.count lt (λ P f. shows_after (h s1) (m s1) _ _ _ _ n e (inv.value Δ Γ r) (shows_more (h s1) (m s1) _ _ n e (c.in_err-found.ensures.value Δ Γ U rl au)))))

pub instances::infer_arguments-fit-requires-clause-globals : goal.instances::infer_arguments-fit-requires-clause-globals
instances::infer_arguments-fit-requires-clause-globals g t c =
    let h = g.T.Terms.holds in
    let m = g.T.Terms.means in
    let s0 = c.args.terms.now in
    let sl = c.loop-k.terms in
    let inv = c.loop-k.invariant in
    let k = c.loop-k.k in
    let xs = c.args.args.now in
    let ys = c.args.params.now in
    let u = c.index-args-k.result in
    let lt : k < length xs = c.loop-k-test.true in
    let hu = transport (h s0) (sym c.index-args-k.is) (c.requires.args k u lt) in
    let s1 = c.infer_in.new.terms in
    let s2 = c.subst_all.new.terms in
    let k1 = keeps_both (h s0) (m s0) (h sl) (m sl) (h s1) (m s1) inv.kept c.in_ok-found.ensures.kept in
    let k2 = keeps_both (h s0) (m s0) (h s1) (m s1) (h s2) (m s2) k1 c.in_ok-wanted.ensures.kept in
    globals_kept (h s0) (m s0) (h s2) (m s2) k2 (g.G.Globals.items c.args.globals.now) (g.G.Globals.metas c.args.globals.now) c.requires.globals

pub instances::infer_arguments-returns-in_err-fit-clause-value : goal.instances::infer_arguments-returns-in_err-fit-clause-value
instances::infer_arguments-returns-in_err-fit-clause-value g t c Δ Γ us ps r q v =
    let h = g.T.Terms.holds in
    let m = g.T.Terms.means in
    let s0 = c.args.terms.now in
    let sl = c.loop-k.terms in
    let inv = c.loop-k.invariant in
    let k = c.loop-k.k in
    let xs = c.args.args.now in
    let ys = c.args.params.now in
    let u = c.index-args-k.result in
    let lt : k < length xs = c.loop-k-test.true in
    let hu = transport (h s0) (sym c.index-args-k.is) (c.requires.args k u lt) in
    let s1 = c.infer_in.new.terms in
    let s2 = c.subst_all.new.terms in
    let k1 = keeps_both (h s0) (m s0) (h sl) (m sl) (h s1) (m s1) inv.kept c.in_ok-found.ensures.kept in
    let k2 = keeps_both (h s0) (m s0) (h s1) (m s1) (h s2) (m s2) k1 c.in_ok-wanted.ensures.kept in
    let same = c.in_ok-found.ensures.same ∙ inv.same in
    let pr = c.index-params-k.result in
    let hp = c.requires.params k pr (omega (arith, lt, c.requires.count)) in
    let rl = read_kept (h s0) (m s0) (h sl) (m sl) c.args.types.now.items c.loop-k.types.items inv.kept c.requires.globals c.requires.types inv.same r in
    let U = m s0 (get_or xs k u) in
    let au = (inv.kept u hu).1 ∙ ap (m s0) c.index-args-k.is in
    let r2 = read_kept (h s0) (m s0) (h s2) (m s2) c.args.types.now.items c.infer_in.new.types.items k2 c.requires.globals c.requires.types same r in
    let d : count Γ ≡ c.len.result = omega (arith, read_count (m s2) c.infer_in.new.types.items r2, c.len.ensures) in
    let e2 = c.in_ok-found.ensures.value Δ Γ U rl au in
    let F = m s1 c.in_ok-found.found in
    let usk = terms_of (map (m s0) (take k xs)) in
    let eqf = (c.in_ok-wanted.ensures.kept c.in_ok-found.found c.in_ok-found.ensures.held).1 in
    let W = m s0 (get_or ys k pr).ty in
    let eqw = c.in_ok-wanted.ensures.tree ∙ ap₂ subst_all (ap terms_of (keeps_map (h s0) (m s0) (h s1) (m s1) (take k xs) k1 (All-take (h s0) k xs c.requires.args))) (k1 (get_or ys k pr).ty hp).1 in
    let s3 = c.fit.new.terms in
    let n = c.fit.new.fuel in
    let e = c.in_err-fit.field-0.0 in
    residual (h s3) (m s3) _ _ _ c.from_residual-in_err-fit.result c.in_err-fit.field-0.0 c.from_residual-in_err-fit.ensures.1
    (transport (λ z. Shows (h s3) (m s3) z n e) (ap₂ (λ x y. infer_all Δ (infer Δ) Γ x y c.args.fuel.now) q v)
    (all_shows Δ (infer Δ) Γ (h s3) (m s3) (m s0) (λ l. m s0 l.ty) c.args.fuel.now n e xs ys k u c.requires.count lt (λ P f. shows_after (h s3) (m s3) _ _ _ _ n e (inv.value Δ Γ r) (shows_after (h s3) (m s3) _ _ _ _ n e e2 (c.in_err-fit.ensures.value Δ Γ F (subst_all usk P) r2.env d eqf (eqw ∙ ap (subst_all usk) (sym (f pr))))))))

pub instances::infer_arguments-loop-k-preserved : goal.instances::infer_arguments-loop-k-preserved
instances::infer_arguments-loop-k-preserved g t c =
    let h = g.T.Terms.holds in
    let m = g.T.Terms.means in
    let s0 = c.args.terms.now in
    let sl = c.loop-k.terms in
    let inv = c.loop-k.invariant in
    let k = c.loop-k.k in
    let xs = c.args.args.now in
    let ys = c.args.params.now in
    let u = c.index-args-k.result in
    let lt : k < length xs = c.loop-k-test.true in
    let hu = transport (h s0) (sym c.index-args-k.is) (c.requires.args k u lt) in
    let s1 = c.infer_in.new.terms in
    let s2 = c.subst_all.new.terms in
    let k1 = keeps_both (h s0) (m s0) (h sl) (m sl) (h s1) (m s1) inv.kept c.in_ok-found.ensures.kept in
    let k2 = keeps_both (h s0) (m s0) (h s1) (m s1) (h s2) (m s2) k1 c.in_ok-wanted.ensures.kept in
    let same = c.in_ok-found.ensures.same ∙ inv.same in
    let pr = c.index-params-k.result in
    let hp = c.requires.params k pr (omega (arith, lt, c.requires.count)) in
    let s3 = c.fit.new.terms in
    record {
      kept = keeps_both (h s0) (m s0) (h s2) (m s2) (h s3) (m s3) k2 c.in_ok-fit.ensures.kept;
      less = omega (arith, inv.less, c.in_ok-found.ensures.less, c.in_ok-fit.ensures.less);
      same = same;
      value = λ Δ Γ r.
          let rl = read_kept (h s0) (m s0) (h sl) (m sl) c.args.types.now.items c.loop-k.types.items inv.kept c.requires.globals c.requires.types inv.same r in
          let U = m s0 (get_or xs k u) in
          let au = (inv.kept u hu).1 ∙ ap (m s0) c.index-args-k.is in
          let r2 = read_kept (h s0) (m s0) (h s2) (m s2) c.args.types.now.items c.infer_in.new.types.items k2 c.requires.globals c.requires.types same r in
          let d : count Γ ≡ c.len.result = omega (arith, read_count (m s2) c.infer_in.new.types.items r2, c.len.ensures) in
          let e2 = c.in_ok-found.ensures.value Δ Γ U rl au in
          let F = m s1 c.in_ok-found.found in
          let usk = terms_of (map (m s0) (take k xs)) in
          let eqf = (c.in_ok-wanted.ensures.kept c.in_ok-found.found c.in_ok-found.ensures.held).1 in
          let W = m s0 (get_or ys k pr).ty in
          let eqw = c.in_ok-wanted.ensures.tree ∙ ap₂ subst_all (ap terms_of (keeps_map (h s0) (m s0) (h s1) (m s1) (take k xs) k1 (All-take (h s0) k xs c.requires.args))) (k1 (get_or ys k pr).ty hp).1 in
          ap₂ (λ x y. infer_all Δ (infer Δ) Γ x y c.args.fuel.now) (terms_of_more (m s0) xs k u lt) (terms_of_more (λ l. m s0 l.ty) ys k pr (omega (arith, lt, c.requires.count))) ∙ after _ _ _ _ (inv.value Δ Γ r) ∙ after _ _ _ _ e2 ∙ c.in_ok-fit.ensures.value Δ Γ F (subst_all usk W) r2.env d eqf eqw;
    }

pub instances::infer_arguments-returns-clause-value : goal.instances::infer_arguments-returns-clause-value
instances::infer_arguments-returns-clause-value g t c Δ Γ us ps r q v =
    let h = g.T.Terms.holds in
    let m = g.T.Terms.means in
    let s0 = c.args.terms.now in
    let inv = c.loop-k.invariant in
    let xs = c.args.args.now in
    let ys = c.args.params.now in
    let ex = take_all c.loop-k.k xs c.loop-k-test.false in
    let ey = take_all c.loop-k.k ys (omega (arith, c.loop-k-test.false, c.requires.count)) in
    ap₂ (λ x y. infer_all Δ (infer Δ) Γ x y c.args.fuel.now) (sym q ∙ sym (ap (λ l. terms_of (map (m s0) l)) ex)) (sym v ∙ sym (ap (context_of (m s0)) ey)) ∙ inv.value Δ Γ r

pub inference::infer_application-returns-in_err-spine-clause-value : goal.inference::infer_application-returns-in_err-spine-clause-value
inference::infer_application-returns-in_err-spine-clause-value g t c Δ Γ F A r p a =
    let h = g.T.Terms.holds c.args.terms.now in
    let m = g.T.Terms.means c.args.terms.now in
    let e = c.in_err-spine.field-0.0 in
    residual h m m _ _ c.from_residual.result e c.from_residual.ensures.1
    (transport (λ x. Shows h m (infer_case Δ (infer Δ) Γ x c.args.fuel.now) c.spine_of.new.fuel e) (ap₂ App p a) (c.in_err-spine.ensures.fault Δ Γ))

pub inference::infer_application-returns-in_err-found-clause-value : goal.inference::infer_application-returns-in_err-found-clause-value
inference::infer_application-returns-in_err-found-clause-value g t c Δ Γ F A r p a =
    let h = g.T.Terms.holds in
    let m = g.T.Terms.means in
    let s0 = c.args.terms.now in
    let s1 = c.infer_in.new.terms in
    let n = c.infer_in.new.fuel in
    let e = c.in_err-found.field-0.0 in
    let w = c.in_ok-spine.spine.waiting.items in
    let head = m s0 c.in_ok-spine.spine.head in
    residual (h s1) (m s1) _ _ _ c.from_residual-in_err-found.result e c.from_residual-in_err-found.ensures.1
    (transport (λ o. Shows (h s1) (m s1) o n e) (sym (ap (λ x. infer_case Δ (infer Δ) Γ x c.args.fuel.now) (sym (ap₂ App p a)) ∙ c.in_ok-spine.ensures.spine Δ Γ))
    (along_shows (h s1) (m s1) Δ Γ (pair_trees (m s0) w) (infer Δ Γ head c.spine_of.new.fuel) n e (c.in_err-found.ensures.value Δ Γ head r refl)))

pub inference::infer_application-infer_along-requires : goal.inference::infer_application-infer_along-requires
inference::infer_application-infer_along-requires g t c κs within =
    let h = g.T.Terms.holds in
    let m = g.T.Terms.means in
    let waiting = pairs_held (h c.args.terms.now) (m c.args.terms.now) (h c.infer_in.new.terms) (m c.infer_in.new.terms) c.in_ok-found.ensures.kept c.in_ok-spine.spine.waiting.items c.in_ok-spine.ensures.waiting in
    (search rules, (within.0, (within.1.0, (within.1.1, (c.in_ok-found.ensures.held, (waiting, (search rules, (search rules, search rules))))))))

pub inference::infer_along-returns-in_err-found-clause-value : goal.inference::infer_along-returns-in_err-found-clause-value
inference::infer_along-returns-in_err-found-clause-value g t c Δ Γ F r q =
    let h = g.T.Terms.holds in
    let m = g.T.Terms.means in
    let s0 = c.args.terms.now in
    let sl = c.loop-pair.terms in
    let s1 = c.infer_applied.new.terms in
    let inv = c.loop-pair.invariant in
    let f = c.in-Some.pair.0 in
    let a = c.in-Some.pair.1 in
    let rest = c.pop.new.self.items in
    let items : c.loop-pair.waiting.items ≡ rest ++ (f, a) ∷ [] = c.in-Some.ensures.items in
    let held = all_popped (BothHeld (h s0)) c.loop-pair.waiting.items rest (f, a) items inv.waiting_held in
    let rl = read_kept (h s0) (m s0) (h sl) (m sl) c.args.types.now.items c.loop-pair.types.items inv.kept c.requires.globals c.requires.types inv.same r in
    let T = m sl c.loop-pair.found in
    let n = c.infer_applied.new.fuel in
    let e = c.in_err-found.field-0.0 in
    let turn = ap (λ x. along Δ Γ (pair_trees (m s0) c.args.waiting.items) (Gave x c.args.fuel.now)) (sym q) ∙ inv.value Δ Γ r ∙ along_last (m s0) Δ Γ rest c.loop-pair.waiting.items f a (Gave T c.loop-pair.fuel) items in
    let shows = c.in_err-found.ensures.value Δ Γ T (m s0 f) (m s0 a) rl refl (inv.kept f held.1.0).1 (inv.kept a held.1.1).1 in
    residual (h s1) (m s1) _ _ _ c.from_residual.result e c.from_residual.ensures.1
    (transport (λ o. Shows (h s1) (m s1) o n e) (sym turn) (along_shows (h s1) (m s1) Δ Γ (pair_trees (m s0) rest) (applied_type Δ Γ (m s0 f) (m s0 a) T c.loop-pair.fuel) n e shows))

pub inference::infer_along-loop-pair-preserved : goal.inference::infer_along-loop-pair-preserved
inference::infer_along-loop-pair-preserved g t c =
    let h = g.T.Terms.holds in
    let m = g.T.Terms.means in
    let s0 = c.args.terms.now in
    let sl = c.loop-pair.terms in
    let s1 = c.infer_applied.new.terms in
    let inv = c.loop-pair.invariant in
    let f = c.in-Some.pair.0 in
    let a = c.in-Some.pair.1 in
    let rest = c.pop.new.self.items in
    let items : c.loop-pair.waiting.items ≡ rest ++ (f, a) ∷ [] = c.in-Some.ensures.items in
    let held = all_popped (BothHeld (h s0)) c.loop-pair.waiting.items rest (f, a) items inv.waiting_held in
    record {
      kept = keeps_both (h s0) (m s0) (h sl) (m sl) (h s1) (m s1) inv.kept c.in_ok-found.ensures.kept;
      less = omega (arith, inv.less, c.in_ok-found.ensures.less);
      same = c.in_ok-found.ensures.same ∙ inv.same;
      found_held = c.in_ok-found.ensures.held;
      waiting_held = held.0;
      value = λ Δ Γ r.
          let rl = read_kept (h s0) (m s0) (h sl) (m sl) c.args.types.now.items c.loop-pair.types.items inv.kept c.requires.globals c.requires.types inv.same r in
          let T = m sl c.loop-pair.found in
          inv.value Δ Γ r ∙ along_last (m s0) Δ Γ rest c.loop-pair.waiting.items f a (Gave T c.loop-pair.fuel) items
          ∙ ap (along Δ Γ (pair_trees (m s0) rest)) (c.in_ok-found.ensures.value Δ Γ T (m s0 f) (m s0 a) rl refl (inv.kept f held.1.0).1 (inv.kept a held.1.1).1);
    }

pub inference::infer_in-returns-in-Const-clause-value : goal.inference::infer_in-returns-in-Const-clause-value
inference::infer_in-returns-in-Const-clause-value g t c Δ Γ x r e =
    let h = g.T.Terms.holds in
    let m = g.T.Terms.means in
    let pos : 0 < c.args.fuel.now = search rules in
    let n = c.spend.new.self in
    let tr = c.in-Const.ensures.tree in
    let name = Named c.in-Const.field-0.now in
    let us = terms_of (map (m c.args.terms.now) c.in-Const.field-1.now) in
    let s1 = c.infer_item.new.terms in
    transport (λ o. Answers (h s1) (m s1) (m s1) o c.infer_item.new.fuel c.infer_item.result) (sym (entered Δ Γ x (Con name us) c.args.fuel.now n pos c.if-not-spend.ensures.rest (tr ∙ e)))
    (c.infer_item.ensures.value Δ Γ name us r (sym tr))

pub inference::infer_in-returns-in-Meta-clause-value : goal.inference::infer_in-returns-in-Meta-clause-value
inference::infer_in-returns-in-Meta-clause-value g t c Δ Γ x r e =
    let h = g.T.Terms.holds in
    let m = g.T.Terms.means in
    let pos : 0 < c.args.fuel.now = search rules in
    let n = c.spend.new.self in
    let tr = c.in-Meta.ensures.tree in
    let name = Numbered c.in-Meta.field-0 in
    let us = terms_of (map (m c.args.terms.now) c.in-Meta.field-1.now) in
    let s1 = c.infer_item-in-Meta.new.terms in
    transport (λ o. Answers (h s1) (m s1) (m s1) o c.infer_item-in-Meta.new.fuel c.infer_item-in-Meta.result) (sym (entered Δ Γ x (Con name us) c.args.fuel.now n pos c.if-not-spend.ensures.rest (tr ∙ e)))
    (c.infer_item-in-Meta.ensures.value Δ Γ name us r (sym tr))

pub inference::infer_application-returns-clause-value : goal.inference::infer_application-returns-clause-value
inference::infer_application-returns-clause-value g t c Δ Γ F A r p a =
    let h = g.T.Terms.holds in
    let m = g.T.Terms.means in
    let s0 = c.args.terms.now in
    let s1 = c.infer_in.new.terms in
    let s2 = c.infer_along.new.terms in
    let w = c.in_ok-spine.spine.waiting.items in
    let head = m s0 c.in_ok-spine.spine.head in
    let T = m s1 c.in_ok-found.found in
    let k1 = c.in_ok-found.ensures.kept in
    let r1 = read_kept (h s0) (m s0) (h s1) (m s1) c.args.types.now.items c.infer_in.new.types.items k1 c.requires.globals c.requires.types c.in_ok-found.ensures.same r in
    let same = ap (λ x. infer_case Δ (infer Δ) Γ x c.args.fuel.now) (sym (ap₂ App p a)) ∙ c.in_ok-spine.ensures.spine Δ Γ
    ∙ ap (along Δ Γ (pair_trees (m s0) w)) (c.in_ok-found.ensures.value Δ Γ head r refl)
    ∙ ap (λ ps. along Δ Γ ps (Gave T c.infer_in.new.fuel)) (sym (trees_kept (h s0) (m s0) (h s1) (m s1) k1 w c.in_ok-spine.ensures.waiting)) in
    transport (λ o. Answers (h s2) (m s2) (m s2) o c.infer_along.new.fuel c.infer_along.result) (sym same) (c.infer_along.ensures.value Δ Γ T r1 refl)

pub inference::infer_applied-returns-in_err-domain-clause-value : goal.inference::infer_applied-returns-in_err-domain-clause-value
inference::infer_applied-returns-in_err-domain-clause-value g t c Δ Γ S F A r w p a =
    let h = g.T.Terms.holds in
    let m = g.T.Terms.means in
    let s1 = c.product_form.new.terms in
    residual (h s1) (m s1) _ _ _ c.from_residual.result c.in_err-domain.field-0.0 c.from_residual.ensures.1
    (shows_more (h s1) (m s1) _ _ _ _ (c.in_err-domain.ensures.value Δ Γ F S r p w))

pub inference::infer_applied-returns-in_err-found-clause-value : goal.inference::infer_applied-returns-in_err-found-clause-value
inference::infer_applied-returns-in_err-found-clause-value g t c Δ Γ S F A r w p a =
    let h = g.T.Terms.holds in
    let m = g.T.Terms.means in
    let s0 = c.args.terms.now in
    let s1 = c.product_form.new.terms in
    let e1 = c.in_ok-domain.ensures.value Δ Γ F S r p w in
    let k1 = c.in_ok-domain.ensures.kept in
    let r1 = read_kept (h s0) (m s0) (h s1) (m s1) c.args.types.now.items c.product_form.new.types.items k1 c.requires.globals c.requires.types c.in_ok-domain.ensures.same r in
    let a1 = (k1 c.args.a c.requires.argument).1 ∙ a in
    let s2 = c.infer_in.new.terms in
    residual (h s2) (m s2) _ _ _ c.from_residual-in_err-found.result c.in_err-found.field-0.0 c.from_residual-in_err-found.ensures.1
    (shows_after (h s2) (m s2) _ _ _ _ _ _ e1 (shows_more (h s2) (m s2) _ _ _ _ (c.in_err-found.ensures.value Δ Γ A r1 a1)))

pub inference::infer_applied-returns-in_err-fit-clause-value : goal.inference::infer_applied-returns-in_err-fit-clause-value
inference::infer_applied-returns-in_err-fit-clause-value g t c Δ Γ S F A r w p a =
    let h = g.T.Terms.holds in
    let m = g.T.Terms.means in
    let s0 = c.args.terms.now in
    let s1 = c.product_form.new.terms in
    let e1 = c.in_ok-domain.ensures.value Δ Γ F S r p w in
    let k1 = c.in_ok-domain.ensures.kept in
    let r1 = read_kept (h s0) (m s0) (h s1) (m s1) c.args.types.now.items c.product_form.new.types.items k1 c.requires.globals c.requires.types c.in_ok-domain.ensures.same r in
    let a1 = (k1 c.args.a c.requires.argument).1 ∙ a in
    let s2 = c.infer_in.new.terms in
    let e2 = c.in_ok-found.ensures.value Δ Γ A r1 a1 in
    let k2 = keeps_both (h s0) (m s0) (h s1) (m s1) (h s2) (m s2) k1 c.in_ok-found.ensures.kept in
    let r2 = read_kept (h s0) (m s0) (h s2) (m s2) c.args.types.now.items c.infer_in.new.types.items k2 c.requires.globals c.requires.types (c.in_ok-found.ensures.same ∙ c.in_ok-domain.ensures.same) r in
    let d2 : count Γ ≡ c.len.result = omega (arith, read_count (m s2) c.infer_in.new.types.items r2, c.len.ensures) in
    let kd = (c.in_ok-found.ensures.kept c.in_ok-domain.domain c.in_ok-domain.ensures.held.0).1 in
    let s3 = c.fit.new.terms in
    residual (h s3) (m s3) _ _ _ c.from_residual-in_err-fit.result c.in_err-fit.field-0.0 c.from_residual-in_err-fit.ensures.1
    (shows_after (h s3) (m s3) _ _ _ _ _ _ e1 (shows_after (h s3) (m s3) _ _ _ _ _ _ e2 (shows_more (h s3) (m s3) _ _ _ _ (c.in_err-fit.ensures.value Δ Γ _ _ r2.env d2 refl kd))))

pub inference::infer_applied-returns-clause-value : goal.inference::infer_applied-returns-clause-value
inference::infer_applied-returns-clause-value g t c Δ Γ S F A r w p a =
    let h = g.T.Terms.holds in
    let m = g.T.Terms.means in
    let s0 = c.args.terms.now in
    let s1 = c.product_form.new.terms in
    let e1 = c.in_ok-domain.ensures.value Δ Γ F S r p w in
    let k1 = c.in_ok-domain.ensures.kept in
    let r1 = read_kept (h s0) (m s0) (h s1) (m s1) c.args.types.now.items c.product_form.new.types.items k1 c.requires.globals c.requires.types c.in_ok-domain.ensures.same r in
    let a1 = (k1 c.args.a c.requires.argument).1 ∙ a in
    let s2 = c.infer_in.new.terms in
    let e2 = c.in_ok-found.ensures.value Δ Γ A r1 a1 in
    let k2 = keeps_both (h s0) (m s0) (h s1) (m s1) (h s2) (m s2) k1 c.in_ok-found.ensures.kept in
    let r2 = read_kept (h s0) (m s0) (h s2) (m s2) c.args.types.now.items c.infer_in.new.types.items k2 c.requires.globals c.requires.types (c.in_ok-found.ensures.same ∙ c.in_ok-domain.ensures.same) r in
    let d2 : count Γ ≡ c.len.result = omega (arith, read_count (m s2) c.infer_in.new.types.items r2, c.len.ensures) in
    let kd = (c.in_ok-found.ensures.kept c.in_ok-domain.domain c.in_ok-domain.ensures.held.0).1 in
    let kc = c.in_ok-found.ensures.kept c.in_ok-domain.codomain c.in_ok-domain.ensures.held.1 in
    let s3 = c.fit.new.terms in
    let e3 = c.in_ok-fit.ensures.value Δ Γ _ _ r2.env d2 refl kd in
    let k3 = keeps_both (h s0) (m s0) (h s2) (m s2) (h s3) (m s3) k2 c.in_ok-fit.ensures.kept in
    let s4 = c.put_in.new.terms in
    let n = c.fit.new.fuel in
    let b3 = (c.in_ok-fit.ensures.kept c.in_ok-domain.codomain kc.0).1 ∙ kc.1 in
    let a3 = (k3 c.args.a c.requires.argument).1 ∙ a in
    answers_after (h s4) (m s4) (m s4) _ _ _ _ _ _ e1 (answers_after (h s4) (m s4) (m s4) _ _ _ _ _ _ e2 (answers_after (h s4) (m s4) (m s4) _ _ _ _ _ _ e3
    (transport (λ T. Answers (h s4) (m s4) (m s4) (Gave T n) n c.put_in.result) (ap₂ (λ x B. subst_all (none ▹ x) B) a3 b3) (c.put_in.ensures.value n))))

pub instances::infer_item-returns-in-Some-clause-value : goal.instances::infer_item-returns-in-Some-clause-value
instances::infer_item-returns-in-Some-clause-value g t c Δ Γ k us r e =
    let h = g.T.Terms.holds in
    let m = g.T.Terms.means in
    let s0 = c.args.terms.now in
    let s1 = c.infer_instance.new.terms in
    let n = c.args.fuel.now in
    let ps = context_of (m s0) c.in-Some.signature.0.now in
    let T = m s0 c.in-Some.signature.1 in
    let q = signature_read (m s0) c.args.h Δ _ k us (Some (ps, T)) c.in-Some.ensures.signature r.env e in
    let qa : c.deref.result.now ≡ c.in_ok-args.args.items = search rules in
    let args = ap (λ l. terms_of (map (m s0) l)) qa ∙ c.in_ok-args.ensures.arguments k us e in
    transport (λ o. Answers (h s1) (m s1) (m s1) o c.infer_instance.new.fuel c.infer_instance.result) (sym (item_instance Δ Γ k us n (ps, T) q))
    (c.infer_instance.ensures.value Δ Γ k us ps T r e args refl refl)

pub instances::infer_item-returns-clause-value : goal.instances::infer_item-returns-clause-value
instances::infer_item-returns-clause-value g t c Δ Γ k us r e =
    let m = g.T.Terms.means c.args.terms.now in
    let n = c.args.fuel.now in
    let q = signature_read m c.args.h Δ _ k us None c.in-None.ensures.signature r.env e in
    let d : count Γ ≡ c.len.result = omega (arith, read_count m c.args.types.now.items r, c.len.ensures) in
    (item_missing Δ Γ k us n q ∙ ap (λ i. Refused (NotType i (Con k us)) n) d ∙ ap (λ y. Refused (NotType c.len.result y) n) (sym e), c.requires.term)
