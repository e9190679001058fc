use Rattle.std.proofs.Common.{◌≡◌, ◌∙◌, ◌+◌, ◌<◌, length, map, get_or, All, [], ◌∷◌, ◌++◌, Some, option_map, refl, sym, ap, ap₂, arith, rules, subst, true, false}
use Rattle.std.specs.Option.{option_copied}
use Rattle.ld_trees.specs.Term.{Term, App, none, ◌▹◌}
use Rattle.ld_trees.specs.Substitution.{subst_all}
use Rattle.ld_terms.specs.Views.{terms_of}
use Rattle.ld_terms.specs.Items.{item_named}
use Rattle.term_text.specs.Scoped.{bound_of}
use Rattle.term_text.proofs.ScopeLaws.{pushed}
use Rattle.goal_state.proofs.Means.{decls_held}
use Rattle.ld_terms.proofs.Turns.{keeps_both}
use Rattle.conversion.specs.Globals.{AreLocals}
use Rattle.conversion.proofs.Lookups.{item_found_held}
use Rattle.meta_context.specs.Plain.{plain_item, plain_locals}
use Rattle.unification.specs.Steps.{Gave, go_on, pure}
use Rattle.elaboration.specs.Elaboration.{Any, AsType, Of, made, Surroundings, entered, arguments, applied, behind, elaborate}
use Rattle.elaborate.specs.Standing.{plain_work, plain_typed, plain_want, plain_product}
use Rattle.elaborate.specs.Steps.{known, wanted_product, met_domain, under, applied_to, function_parts}
use Rattle.pattern_unify.proofs.Follow.{next}
use Rattle.elaborate.proofs.Follow.{answers, fails, shows_more}
use Rattle.elaborate.proofs.Meanings.{same_here, work_kept, held_kept, held_next, read_kept, read_next, want_kept, want_held, product_kept, product_held}
use Rattle.elaborate.proofs.Parts.{applied_to_is, argument_rest, body_rest, constant_rest, domain_rest, function_is, function_rest, inside_rest, product_end, product_is, product_rest}
use Rattle.elaborate.proofs.Arms.{star_is, wild_is, asked_is, named_is, const_is, constant_of, app_is, application_rest, lam_is, met, pi_is}
use Rattle.elaborate.proofs.Turns.{arguments_begin, arguments_next, arguments_turn, arguments_done, applied_begin, applied_next, applied_turn, applied_done}
use Rattle.elaborate.proofs.Depths.{app_falls, argument_falls, const_falls, lam_falls, pi_falls}
use Rattle.elaborate.proofs.walk.+walk.Goals as goal

pub elaborate-returns-then-not-pay-clause-value : goal.elaborate-returns-then-not-pay-clause-value
elaborate-returns-then-not-pay-clause-value g t c Δ W w s r e =
    let no : c.pay.result ≡ false = search rules in
    let short = c.pay.ensures.short no in
    (short.0 Δ W w s, short.1)

pub elaborate-returns-in-Star-clause-value : goal.elaborate-returns-in-Star-clause-value
elaborate-returns-in-Star-clause-value g t c Δ W w s r e =
    let n = c.args.fuel.now in
    let u = c.args.t.now in
    let k = c.pay.new.fuel in
    let yes : c.pay.result ≡ true = search rules in
    let had = c.pay.ensures.had yes in
    let h = g.T.Terms.holds c.star.new.terms in
    let m = g.T.Terms.means c.star.new.terms in
    answers h m _ _ _ c.star.new.fuel c.star.result (star_is Δ u W w s n k had c.in-Star.is) (c.star.ensures.value Δ W w s r e)

pub elaborate-returns-in-Wild-clause-value : goal.elaborate-returns-in-Wild-clause-value
elaborate-returns-in-Wild-clause-value g t c Δ W w s r e =
    let n = c.args.fuel.now in
    let u = c.args.t.now in
    let k = c.pay.new.fuel in
    let yes : c.pay.result ≡ true = search rules in
    let had = c.pay.ensures.had yes in
    let h = g.T.Terms.holds c.hole.new.terms in
    let m = g.T.Terms.means c.hole.new.terms in
    answers h m _ _ _ c.hole.new.fuel c.hole.result (wild_is Δ u W w s n k had c.in-Wild.is) (c.hole.ensures.value Δ W w s r e)

pub elaborate-returns-in-Asked-clause-value : goal.elaborate-returns-in-Asked-clause-value
elaborate-returns-in-Asked-clause-value g t c Δ W w s r e =
    let n = c.args.fuel.now in
    let u = c.args.t.now in
    let k = c.pay.new.fuel in
    let yes : c.pay.result ≡ true = search rules in
    let had = c.pay.ensures.had yes in
    let h = g.T.Terms.holds c.hole-in-Asked.new.terms in
    let m = g.T.Terms.means c.hole-in-Asked.new.terms in
    answers h m _ _ _ c.hole-in-Asked.new.fuel c.hole-in-Asked.result (asked_is Δ u W w s n k had c.in-Asked.is) (c.hole-in-Asked.ensures.value Δ W w s r e)

pub elaborate-returns-in-Named-clause-value : goal.elaborate-returns-in-Named-clause-value
elaborate-returns-in-Named-clause-value g t c Δ W w s r e =
    let n = c.args.fuel.now in
    let u = c.args.t.now in
    let k = c.pay.new.fuel in
    let yes : c.pay.result ≡ true = search rules in
    let had = c.pay.ensures.had yes in
    let h = g.T.Terms.holds c.variable.new.terms in
    let m = g.T.Terms.means c.variable.new.terms in
    answers h m _ _ _ c.variable.new.fuel c.variable.result (named_is Δ u W w s n k had c.in-Named.x c.in-Named.is) (c.variable.ensures.value Δ W w s r e)

pub elaborate-returns-in-Const-clause-value : goal.elaborate-returns-in-Const-clause-value
elaborate-returns-in-Const-clause-value g t c Δ W w s r e =
    let n = c.args.fuel.now in
    let u = c.args.t.now in
    let k = c.pay.new.fuel in
    let yes : c.pay.result ≡ true = search rules in
    let had = c.pay.ensures.had yes in
    let h = g.T.Terms.holds c.constant.new.terms in
    let m = g.T.Terms.means c.constant.new.terms in
    answers h m _ _ _ c.constant.new.fuel c.constant.result (const_is Δ u W w s n k had c.in-Const.a c.in-Const.us c.as_slice-us.result.now c.in-Const.is c.as_slice-us.ensures) (c.constant.ensures.value Δ W w s r e)

pub elaborate-returns-in-Lam-clause-value : goal.elaborate-returns-in-Lam-clause-value
elaborate-returns-in-Lam-clause-value g t c Δ W w s r e =
    let n = c.args.fuel.now in
    let u = c.args.t.now in
    let k = c.pay.new.fuel in
    let yes : c.pay.result ≡ true = search rules in
    let had = c.pay.ensures.had yes in
    let h = g.T.Terms.holds c.abstraction.new.terms in
    let m = g.T.Terms.means c.abstraction.new.terms in
    answers h m _ _ _ c.abstraction.new.fuel c.abstraction.result (lam_is Δ u W w s n k had c.in-Lam.x c.in-Lam.a c.get-a.result.now c.in-Lam.m c.get-m.result.now c.in-Lam.is c.get-a.ensures c.get-m.ensures) (c.abstraction.ensures.value Δ W w s r e)

pub elaborate-returns-in-Pi-clause-value : goal.elaborate-returns-in-Pi-clause-value
elaborate-returns-in-Pi-clause-value g t c Δ W w s r e =
    let n = c.args.fuel.now in
    let u = c.args.t.now in
    let k = c.pay.new.fuel in
    let yes : c.pay.result ≡ true = search rules in
    let had = c.pay.ensures.had yes in
    let h = g.T.Terms.holds c.dependent_product.new.terms in
    let m = g.T.Terms.means c.dependent_product.new.terms in
    answers h m _ _ _ c.dependent_product.new.fuel c.dependent_product.result (pi_is Δ u W w s n k had c.in-Pi.x (option_copied c.as_ref-x.result) c.in-Pi.a c.get-a-in-Pi.result.now c.in-Pi.b c.get-b.result.now c.in-Pi.is c.as_ref-x.ensures.value c.get-a-in-Pi.ensures c.get-b.ensures) (c.dependent_product.ensures.value Δ W w s r e)

pub elaborate-returns-in_err-f-in-App-clause-value : goal.elaborate-returns-in_err-f-in-App-clause-value
elaborate-returns-in_err-f-in-App-clause-value g t c Δ W w s r e =
    let n = c.args.fuel.now in
    let u = c.args.t.now in
    let k = c.pay.new.fuel in
    let yes : c.pay.result ≡ true = search rules in
    let had = c.pay.ensures.had yes in
    let h0 = g.T.Terms.holds c.args.terms.now in
    let m0 = g.T.Terms.means c.args.terms.now in
    let f' = c.get.result.now in
    let e0 = app_is Δ u W w s n k had c.in-App.f f' c.in-App.us c.in-App.us c.in-App.is c.get.ensures refl in
    let h1 = g.T.Terms.holds c.elaborate.new.terms in
    let m1 = g.T.Terms.means c.elaborate.new.terms in
    fails h1 m1 _ _ (elaborate Δ f' Any w s k) _ c.elaborate.new.fuel c.from_residual.result c.in_err-f-in-App.field-0.0 e0 c.from_residual.ensures.1
    (c.in_err-f-in-App.ensures.value Δ Any w s r refl)

pub elaborate-returns-in_err-typed-in-App-clause-value : goal.elaborate-returns-in_err-typed-in-App-clause-value
elaborate-returns-in_err-typed-in-App-clause-value g t c Δ W w s r e =
    let n = c.args.fuel.now in
    let u = c.args.t.now in
    let k = c.pay.new.fuel in
    let yes : c.pay.result ≡ true = search rules in
    let had = c.pay.ensures.had yes in
    let h0 = g.T.Terms.holds c.args.terms.now in
    let m0 = g.T.Terms.means c.args.terms.now in
    let f' = c.get.result.now in
    let us = c.as_slice.result.now in
    let e0 = app_is Δ u W w s n k had c.in-App.f f' c.in-App.us us c.in-App.is c.get.ensures c.as_slice.ensures in
    let h1 = g.T.Terms.holds c.elaborate.new.terms in
    let m1 = g.T.Terms.means c.elaborate.new.terms in
    let h2 = g.T.Terms.holds c.applied.new.terms in
    let m2 = g.T.Terms.means c.applied.new.terms in
    let mf = plain_typed m1 c.in_ok-f-in-App.f in
    let e1 = next _ (elaborate Δ f' Any w s k) mf c.elaborate.new.fuel (application_rest Δ u W w s n k had us) e0 (c.in_ok-f-in-App.ensures.value Δ Any w s r refl) in
    let r1 = read_next h0 m0 h1 m1 c.in_ok-f-in-App.ensures.kept c.requires.held c.in_ok-f-in-App.f.work mf.work refl r in
    fails h2 m2 _ _ (applied Δ (map (elaborate Δ) us) mf.work s mf.term mf.ty c.elaborate.new.fuel) _ c.applied.new.fuel c.from_residual-in_err-typed-in-App.result c.in_err-typed-in-App.field-0.0 e1 c.from_residual-in_err-typed-in-App.ensures.1
    (c.in_err-typed-in-App.ensures.value Δ mf s r1 refl refl)

pub elaborate-returns-in_ok-typed-in-App-clause-value : goal.elaborate-returns-in_ok-typed-in-App-clause-value
elaborate-returns-in_ok-typed-in-App-clause-value g t c Δ W w s r e =
    let n = c.args.fuel.now in
    let u = c.args.t.now in
    let k = c.pay.new.fuel in
    let yes : c.pay.result ≡ true = search rules in
    let had = c.pay.ensures.had yes in
    let h0 = g.T.Terms.holds c.args.terms.now in
    let m0 = g.T.Terms.means c.args.terms.now in
    let f' = c.get.result.now in
    let us = c.as_slice.result.now in
    let e0 = app_is Δ u W w s n k had c.in-App.f f' c.in-App.us us c.in-App.is c.get.ensures c.as_slice.ensures in
    let h1 = g.T.Terms.holds c.elaborate.new.terms in
    let m1 = g.T.Terms.means c.elaborate.new.terms in
    let h2 = g.T.Terms.holds c.applied.new.terms in
    let m2 = g.T.Terms.means c.applied.new.terms in
    let mf = plain_typed m1 c.in_ok-f-in-App.f in
    let e1 = next _ (elaborate Δ f' Any w s k) mf c.elaborate.new.fuel (application_rest Δ u W w s n k had us) e0 (c.in_ok-f-in-App.ensures.value Δ Any w s r refl) in
    let r1 = read_next h0 m0 h1 m1 c.in_ok-f-in-App.ensures.kept c.requires.held c.in_ok-f-in-App.f.work mf.work refl r in
    let h = g.T.Terms.holds c.meet.new.terms in
    let m = g.T.Terms.means c.meet.new.terms in
    let k12 = keeps_both h0 m0 h1 m1 h2 m2 c.in_ok-f-in-App.ensures.kept c.in_ok-typed-in-App.ensures.kept in
    let mt = plain_typed m2 c.in_ok-typed-in-App.typed in
    let e2 = next _ (applied Δ (map (elaborate Δ) us) mf.work s mf.term mf.ty c.elaborate.new.fuel) mt c.applied.new.fuel (met Δ u W w s n k had) e1 (c.in_ok-typed-in-App.ensures.value Δ mf s r1 refl refl) in
    answers h m _ _ _ c.meet.new.fuel c.meet.result e2
    (c.meet.ensures.value Δ W mt.work s mt.term mt.ty (read_next h0 m0 h2 m2 k12 c.requires.held c.in_ok-typed-in-App.typed.work mt.work refl r) (want_kept h0 m0 h2 m2 k12 c.args.want c.requires.want ∙ e) refl refl)

pub elaborate-meet-requires-clause-held : goal.elaborate-meet-requires-clause-held
elaborate-meet-requires-clause-held g t c =
    let h0 = g.T.Terms.holds c.args.terms.now in
    let m0 = g.T.Terms.means c.args.terms.now in
    let h1 = g.T.Terms.holds c.elaborate.new.terms in
    let m1 = g.T.Terms.means c.elaborate.new.terms in
    let h2 = g.T.Terms.holds c.applied.new.terms in
    let m2 = g.T.Terms.means c.applied.new.terms in
    let k12 = keeps_both h0 m0 h1 m1 h2 m2 c.in_ok-f-in-App.ensures.kept c.in_ok-typed-in-App.ensures.kept in
    held_next h0 m0 h2 m2 k12 c.requires.held c.in_ok-typed-in-App.typed.work c.in_ok-typed-in-App.ensures.held.metas

pub elaborate-meet-requires-clause-want : goal.elaborate-meet-requires-clause-want
elaborate-meet-requires-clause-want g t c =
    let h0 = g.T.Terms.holds c.args.terms.now in
    let m0 = g.T.Terms.means c.args.terms.now in
    let h1 = g.T.Terms.holds c.elaborate.new.terms in
    let m1 = g.T.Terms.means c.elaborate.new.terms in
    let h2 = g.T.Terms.holds c.applied.new.terms in
    let m2 = g.T.Terms.means c.applied.new.terms in
    let k12 = keeps_both h0 m0 h1 m1 h2 m2 c.in_ok-f-in-App.ensures.kept c.in_ok-typed-in-App.ensures.kept in
    want_held h0 m0 h2 m2 k12 c.args.want c.requires.want

pub elaborate-applied-requires : goal.elaborate-applied-requires
elaborate-applied-requires g t c κs within = (
  app_falls c.args.t.now c.in-App.f c.in-App.us c.as_slice.result.now t c.in-App.is c.as_slice.ensures c.decreases,
  (let h0 = g.T.Terms.holds c.args.terms.now in
      let m0 = g.T.Terms.means c.args.terms.now in
      let h1 = g.T.Terms.holds c.elaborate.new.terms in
      let m1 = g.T.Terms.means c.elaborate.new.terms in
      let held = held_next h0 m0 h1 m1 c.in_ok-f-in-App.ensures.kept c.requires.held c.in_ok-f-in-App.f.work c.in_ok-f-in-App.ensures.held.metas in
      let term = c.in_ok-f-in-App.ensures.held.term in
      let ty = c.in_ok-f-in-App.ensures.held.ty in
      search rules),
)

pub constant-returns-in_err-item-clause-value : goal.constant-returns-in_err-item-clause-value
constant-returns-in_err-item-clause-value g t c Δ W w s r e =
    let n = c.args.fuel.now in
    let h0 = g.T.Terms.holds c.args.terms.now in
    let m0 = g.T.Terms.means c.args.terms.now in
    let us = c.args.us.now in
    let a = c.args.a.now in
    let at = c.args.at in
    let e0 = constant_of Δ at a us W w s n in
    fails h0 m0 _ _ (known at a (length us) (item_named Δ a) n) (constant_rest Δ a (map (elaborate Δ) us) W w s) n c.from_residual.result c.in_err-item.field-0.0 e0 c.from_residual.ensures.1
    (c.in_err-item.ensures.value Δ n r.items_are)

pub constant-returns-in_err-work-clause-value : goal.constant-returns-in_err-work-clause-value
constant-returns-in_err-work-clause-value g t c Δ W w s r e =
    let n = c.args.fuel.now in
    let h0 = g.T.Terms.holds c.args.terms.now in
    let m0 = g.T.Terms.means c.args.terms.now in
    let us = c.args.us.now in
    let a = c.args.a.now in
    let item = c.in_ok-item.item.now in
    let at = c.args.at in
    let e0 = constant_of Δ at a us W w s n in
    let e1 = next _ (known at a (length us) (item_named Δ a) n) (plain_item m0 item) n (constant_rest Δ a (map (elaborate Δ) us) W w s) e0 (c.in_ok-item.ensures.value Δ n r.items_are) in
    let ps : plain_locals m0 c.as_slice-params.result.now ≡ plain_locals m0 item.params = ap (plain_locals m0) c.as_slice-params.ensures in
    let h1 = g.T.Terms.holds c.arguments.new.terms in
    let m1 = g.T.Terms.means c.arguments.new.terms in
    fails h1 m1 _ _ (arguments Δ (map (elaborate Δ) us) (plain_locals m0 item.params) none w s n) _ c.arguments.new.fuel c.from_residual-in_err-work.result c.in_err-work.field-0.0 e1 c.from_residual-in_err-work.ensures.1
    (c.in_err-work.ensures.value Δ w s (plain_locals m0 item.params) r ps)

pub constant-returns-clause-value : goal.constant-returns-clause-value
constant-returns-clause-value g t c Δ W w s r e =
    let n = c.args.fuel.now in
    let h0 = g.T.Terms.holds c.args.terms.now in
    let m0 = g.T.Terms.means c.args.terms.now in
    let us = c.args.us.now in
    let a = c.args.a.now in
    let item = c.in_ok-item.item.now in
    let at = c.args.at in
    let e0 = constant_of Δ at a us W w s n in
    let e1 = next _ (known at a (length us) (item_named Δ a) n) (plain_item m0 item) n (constant_rest Δ a (map (elaborate Δ) us) W w s) e0 (c.in_ok-item.ensures.value Δ n r.items_are) in
    let ps : plain_locals m0 c.as_slice-params.result.now ≡ plain_locals m0 item.params = ap (plain_locals m0) c.as_slice-params.ensures in
    let item_held = item_found_held h0 c.args.env.now c.args.a.now c.in_ok-item.item.now c.requires.held.globals.items_held c.in_ok-item.ensures.found in
    let h1 = g.T.Terms.holds c.arguments.new.terms in
    let m1 = g.T.Terms.means c.arguments.new.terms in
    let h = g.T.Terms.holds c.instance.new.terms in
    let m = g.T.Terms.means c.instance.new.terms in
    let k1 = c.in_ok-work.ensures.kept in
    let work = c.in_ok-work.work in
    let args = c.in_ok-work.args in
    let v = plain_work m1 work in
    let vs = terms_of (map m1 args.items) in
    let e2 = next _ (arguments Δ (map (elaborate Δ) us) (plain_locals m0 item.params) none w s n) (v, vs) c.arguments.new.fuel _ e1 (c.in_ok-work.ensures.value Δ w s (plain_locals m0 item.params) r ps) in
    answers h m _ _ _ c.instance.new.fuel c.instance.result e2
    (c.instance.ensures.value Δ W v s (m0 item.ty) vs (read_next h0 m0 h1 m1 k1 c.requires.held work v refl r) (want_kept h0 m0 h1 m1 k1 c.args.want c.requires.want ∙ e) (k1 item.ty item_held.ty).1 (ap (λ hs. terms_of (map m1 hs)) c.deref.ensures.value))

pub constant-instance-requires-clause-held : goal.constant-instance-requires-clause-held
constant-instance-requires-clause-held g t c =
    let h0 = g.T.Terms.holds c.args.terms.now in
    let m0 = g.T.Terms.means c.args.terms.now in
    let h1 = g.T.Terms.holds c.arguments.new.terms in
    let m1 = g.T.Terms.means c.arguments.new.terms in
    held_next h0 m0 h1 m1 c.in_ok-work.ensures.kept c.requires.held c.in_ok-work.work c.in_ok-work.ensures.held.0

pub constant-instance-requires-clause-ty : goal.constant-instance-requires-clause-ty
constant-instance-requires-clause-ty g t c =
    let h0 = g.T.Terms.holds c.args.terms.now in
    let item = c.in_ok-item.item.now in
    let item_held = item_found_held h0 c.args.env.now c.args.a.now item c.requires.held.globals.items_held c.in_ok-item.ensures.found in
    (c.in_ok-work.ensures.kept item.ty item_held.ty).0

pub elaborate-constant-requires : goal.elaborate-constant-requires
elaborate-constant-requires g t c κs within = (
  const_falls c.args.t.now c.in-Const.a c.in-Const.us c.as_slice-us.result.now t c.in-Const.is c.as_slice-us.ensures c.decreases,
  (let held = c.requires.held in
      let want = c.requires.want in
      search rules),
)

pub constant-arguments-requires : goal.constant-arguments-requires
constant-arguments-requires g t c κs within = (
  (let d = c.decreases in omega arith),
  (let h0 = g.T.Terms.holds c.args.terms.now in
      let item_held = item_found_held h0 c.args.env.now c.args.a.now c.in_ok-item.item.now c.requires.held.globals.items_held c.in_ok-item.ensures.found in
      let held = c.requires.held in
      let params : AreLocals h0 c.as_slice-params.result.now = subst (AreLocals h0) (sym c.as_slice-params.ensures) item_held.params in
      let count : length c.args.us.now ≡ length c.as_slice-params.result.now = c.in_ok-item.ensures.count ∙ ap (λ ps. length ps) (sym c.as_slice-params.ensures) in
      search rules),
)

pub abstraction-returns-in_err-wanted-clause-value : goal.abstraction-returns-in_err-wanted-clause-value
abstraction-returns-in_err-wanted-clause-value g t c Δ W w s r e =
    let n = c.args.fuel.now in
    let h0 = g.T.Terms.holds c.args.terms.now in
    let m0 = g.T.Terms.means c.args.terms.now in
    let A = c.args.a.now in
    let M = c.args.m.now in
    let x = c.args.x.now in
    let e0 = function_is Δ W x (elaborate Δ A) (elaborate Δ M) w s n in
    let h1 = g.T.Terms.holds c.wanted_product.new.terms in
    let m1 = g.T.Terms.means c.wanted_product.new.terms in
    fails h1 m1 _ _ (wanted_product Δ W w n) _ c.wanted_product.new.fuel c.from_residual.result c.in_err-wanted.field-0.0 e0 c.from_residual.ensures.1
    (c.in_err-wanted.ensures.value Δ W w s r e)

pub abstraction-returns-in_err-a-clause-value : goal.abstraction-returns-in_err-a-clause-value
abstraction-returns-in_err-a-clause-value g t c Δ W w s r e =
    let n = c.args.fuel.now in
    let h0 = g.T.Terms.holds c.args.terms.now in
    let m0 = g.T.Terms.means c.args.terms.now in
    let A = c.args.a.now in
    let M = c.args.m.now in
    let x = c.args.x.now in
    let e0 = function_is Δ W x (elaborate Δ A) (elaborate Δ M) w s n in
    let h1 = g.T.Terms.holds c.wanted_product.new.terms in
    let m1 = g.T.Terms.means c.wanted_product.new.terms in
    let p1 = option_map (plain_product m1) c.in_ok-wanted.wanted in
    let kk1 = c.in_ok-wanted.ensures.kept in
    let e1 = next _ (wanted_product Δ W w n) p1 c.wanted_product.new.fuel (function_rest Δ W s x (elaborate Δ A) (elaborate Δ M) w) e0 (c.in_ok-wanted.ensures.value Δ W w s r e) in
    let r1 = read_kept h0 m0 h1 m1 kk1 c.requires.held r in
    let h2 = g.T.Terms.holds c.elaborate.new.terms in
    let m2 = g.T.Terms.means c.elaborate.new.terms in
    fails h2 m2 _ _ (elaborate Δ A AsType w s c.wanted_product.new.fuel) _ c.elaborate.new.fuel c.from_residual-in_err-a.result c.in_err-a.field-0.0 e1 c.from_residual-in_err-a.ensures.1
    (c.in_err-a.ensures.value Δ AsType w s r1 refl)

pub abstraction-met_domain-requires-clause-held : goal.abstraction-met_domain-requires-clause-held
abstraction-met_domain-requires-clause-held g t c =
    let h0 = g.T.Terms.holds c.args.terms.now in
    let m0 = g.T.Terms.means c.args.terms.now in
    let h1 = g.T.Terms.holds c.wanted_product.new.terms in
    let m1 = g.T.Terms.means c.wanted_product.new.terms in
    let h2 = g.T.Terms.holds c.elaborate.new.terms in
    let m2 = g.T.Terms.means c.elaborate.new.terms in
    let kk1 = c.in_ok-wanted.ensures.kept in
    let ha = c.in_ok-a.ensures.held in
    let kk2 = keeps_both h0 m0 h1 m1 h2 m2 kk1 c.in_ok-a.ensures.kept in
    held_next h0 m0 h2 m2 kk2 c.requires.held c.in_ok-a.a.work ha.metas

pub abstraction-met_domain-requires-clause-product : goal.abstraction-met_domain-requires-clause-product
abstraction-met_domain-requires-clause-product g t c =
    let h1 = g.T.Terms.holds c.wanted_product.new.terms in
    let m1 = g.T.Terms.means c.wanted_product.new.terms in
    let h2 = g.T.Terms.holds c.elaborate.new.terms in
    let m2 = g.T.Terms.means c.elaborate.new.terms in
    product_held h1 m1 h2 m2 c.in_ok-a.ensures.kept c.in_ok-wanted.wanted c.in_ok-wanted.ensures.held

pub abstraction-returns-in_err-work-clause-value : goal.abstraction-returns-in_err-work-clause-value
abstraction-returns-in_err-work-clause-value g t c Δ W w s r e =
    let n = c.args.fuel.now in
    let h0 = g.T.Terms.holds c.args.terms.now in
    let m0 = g.T.Terms.means c.args.terms.now in
    let A = c.args.a.now in
    let M = c.args.m.now in
    let x = c.args.x.now in
    let e0 = function_is Δ W x (elaborate Δ A) (elaborate Δ M) w s n in
    let h1 = g.T.Terms.holds c.wanted_product.new.terms in
    let m1 = g.T.Terms.means c.wanted_product.new.terms in
    let p1 = option_map (plain_product m1) c.in_ok-wanted.wanted in
    let kk1 = c.in_ok-wanted.ensures.kept in
    let e1 = next _ (wanted_product Δ W w n) p1 c.wanted_product.new.fuel (function_rest Δ W s x (elaborate Δ A) (elaborate Δ M) w) e0 (c.in_ok-wanted.ensures.value Δ W w s r e) in
    let r1 = read_kept h0 m0 h1 m1 kk1 c.requires.held r in
    let h2 = g.T.Terms.holds c.elaborate.new.terms in
    let m2 = g.T.Terms.means c.elaborate.new.terms in
    let ma = plain_typed m2 c.in_ok-a.a in
    let ha = c.in_ok-a.ensures.held in
    let kk2 = keeps_both h0 m0 h1 m1 h2 m2 kk1 c.in_ok-a.ensures.kept in
    let e2 = next _ (elaborate Δ A AsType w s c.wanted_product.new.fuel) ma c.elaborate.new.fuel (domain_rest Δ W s x (elaborate Δ M) p1) e1 (c.in_ok-a.ensures.value Δ AsType w s r1 refl) in
    let r2 = read_next h0 m0 h2 m2 kk2 c.requires.held c.in_ok-a.a.work ma.work refl r in
    let q2 = product_kept h1 m1 h2 m2 c.in_ok-a.ensures.kept c.in_ok-wanted.wanted c.in_ok-wanted.ensures.held in
    let h3 = g.T.Terms.holds c.met_domain.new.terms in
    let m3 = g.T.Terms.means c.met_domain.new.terms in
    fails h3 m3 _ _ (met_domain Δ p1 ma s c.elaborate.new.fuel) _ c.met_domain.new.fuel c.from_residual-in_err-work.result c.in_err-work.field-0.0 e2 c.from_residual-in_err-work.ensures.1
    (c.in_err-work.ensures.value Δ p1 ma s r2 q2 refl)

pub abstraction-returns-in_err-m-clause-value : goal.abstraction-returns-in_err-m-clause-value
abstraction-returns-in_err-m-clause-value g t c Δ W w s r e =
    let n = c.args.fuel.now in
    let h0 = g.T.Terms.holds c.args.terms.now in
    let m0 = g.T.Terms.means c.args.terms.now in
    let A = c.args.a.now in
    let M = c.args.m.now in
    let x = c.args.x.now in
    let e0 = function_is Δ W x (elaborate Δ A) (elaborate Δ M) w s n in
    let h1 = g.T.Terms.holds c.wanted_product.new.terms in
    let m1 = g.T.Terms.means c.wanted_product.new.terms in
    let p1 = option_map (plain_product m1) c.in_ok-wanted.wanted in
    let kk1 = c.in_ok-wanted.ensures.kept in
    let e1 = next _ (wanted_product Δ W w n) p1 c.wanted_product.new.fuel (function_rest Δ W s x (elaborate Δ A) (elaborate Δ M) w) e0 (c.in_ok-wanted.ensures.value Δ W w s r e) in
    let r1 = read_kept h0 m0 h1 m1 kk1 c.requires.held r in
    let h2 = g.T.Terms.holds c.elaborate.new.terms in
    let m2 = g.T.Terms.means c.elaborate.new.terms in
    let ma = plain_typed m2 c.in_ok-a.a in
    let ha = c.in_ok-a.ensures.held in
    let kk2 = keeps_both h0 m0 h1 m1 h2 m2 kk1 c.in_ok-a.ensures.kept in
    let e2 = next _ (elaborate Δ A AsType w s c.wanted_product.new.fuel) ma c.elaborate.new.fuel (domain_rest Δ W s x (elaborate Δ M) p1) e1 (c.in_ok-a.ensures.value Δ AsType w s r1 refl) in
    let r2 = read_next h0 m0 h2 m2 kk2 c.requires.held c.in_ok-a.a.work ma.work refl r in
    let q2 = product_kept h1 m1 h2 m2 c.in_ok-a.ensures.kept c.in_ok-wanted.wanted c.in_ok-wanted.ensures.held in
    let h3 = g.T.Terms.holds c.met_domain.new.terms in
    let m3 = g.T.Terms.means c.met_domain.new.terms in
    let v = plain_work m3 c.in_ok-work.work in
    let W' = plain_want m3 c.in_ok-work.inside in
    let kk3 = keeps_both h0 m0 h2 m2 h3 m3 kk2 c.in_ok-work.ensures.kept in
    let e3 = next _ (met_domain Δ p1 ma s c.elaborate.new.fuel) (v, W') c.met_domain.new.fuel (inside_rest Δ W s x (elaborate Δ M) p1 ma) e2 (c.in_ok-work.ensures.value Δ p1 ma s r2 q2 refl) in
    let r3 = read_next h0 m0 h3 m3 kk3 c.requires.held c.in_ok-work.work v refl r in
    let a3 = (c.in_ok-work.ensures.kept c.in_ok-a.a.term ha.term).1 in
    let h4 = g.T.Terms.holds c.under.new.terms in
    let m4 = g.T.Terms.means c.under.new.terms in
    fails h4 m4 _ _ (under Δ (Some x) (elaborate Δ M) W' v ma.term s c.met_domain.new.fuel) _ c.under.new.fuel c.from_residual-in_err-m.result c.in_err-m.field-0.0 e3 c.from_residual-in_err-m.ensures.1
    (c.in_err-m.ensures.value Δ W' v s ma.term r3 refl a3)

pub abstraction-abstracted-requires-clause-held : goal.abstraction-abstracted-requires-clause-held
abstraction-abstracted-requires-clause-held g t c =
    let h0 = g.T.Terms.holds c.args.terms.now in
    let m0 = g.T.Terms.means c.args.terms.now in
    let h1 = g.T.Terms.holds c.wanted_product.new.terms in
    let m1 = g.T.Terms.means c.wanted_product.new.terms in
    let h2 = g.T.Terms.holds c.elaborate.new.terms in
    let m2 = g.T.Terms.means c.elaborate.new.terms in
    let h3 = g.T.Terms.holds c.met_domain.new.terms in
    let m3 = g.T.Terms.means c.met_domain.new.terms in
    let h4 = g.T.Terms.holds c.under.new.terms in
    let m4 = g.T.Terms.means c.under.new.terms in
    let kk1 = c.in_ok-wanted.ensures.kept in
    let ha = c.in_ok-a.ensures.held in
    let kk2 = keeps_both h0 m0 h1 m1 h2 m2 kk1 c.in_ok-a.ensures.kept in
    let kk3 = keeps_both h0 m0 h2 m2 h3 m3 kk2 c.in_ok-work.ensures.kept in
    let kk4 = keeps_both h0 m0 h3 m3 h4 m4 kk3 c.in_ok-m.ensures.kept in
    held_next h0 m0 h4 m4 kk4 c.requires.held c.in_ok-m.m.work c.in_ok-m.ensures.held.metas

pub abstraction-abstracted-requires-clause-want : goal.abstraction-abstracted-requires-clause-want
abstraction-abstracted-requires-clause-want g t c =
    let h0 = g.T.Terms.holds c.args.terms.now in
    let m0 = g.T.Terms.means c.args.terms.now in
    let h1 = g.T.Terms.holds c.wanted_product.new.terms in
    let m1 = g.T.Terms.means c.wanted_product.new.terms in
    let h2 = g.T.Terms.holds c.elaborate.new.terms in
    let m2 = g.T.Terms.means c.elaborate.new.terms in
    let h3 = g.T.Terms.holds c.met_domain.new.terms in
    let m3 = g.T.Terms.means c.met_domain.new.terms in
    let h4 = g.T.Terms.holds c.under.new.terms in
    let m4 = g.T.Terms.means c.under.new.terms in
    let kk1 = c.in_ok-wanted.ensures.kept in
    let ha = c.in_ok-a.ensures.held in
    let kk2 = keeps_both h0 m0 h1 m1 h2 m2 kk1 c.in_ok-a.ensures.kept in
    let kk3 = keeps_both h0 m0 h2 m2 h3 m3 kk2 c.in_ok-work.ensures.kept in
    let kk4 = keeps_both h0 m0 h3 m3 h4 m4 kk3 c.in_ok-m.ensures.kept in
    want_held h0 m0 h4 m4 kk4 c.args.want c.requires.want

pub abstraction-abstracted-requires-clause-product : goal.abstraction-abstracted-requires-clause-product
abstraction-abstracted-requires-clause-product g t c =
    let h0 = g.T.Terms.holds c.args.terms.now in
    let m0 = g.T.Terms.means c.args.terms.now in
    let h1 = g.T.Terms.holds c.wanted_product.new.terms in
    let m1 = g.T.Terms.means c.wanted_product.new.terms in
    let h2 = g.T.Terms.holds c.elaborate.new.terms in
    let m2 = g.T.Terms.means c.elaborate.new.terms in
    let h3 = g.T.Terms.holds c.met_domain.new.terms in
    let m3 = g.T.Terms.means c.met_domain.new.terms in
    let h4 = g.T.Terms.holds c.under.new.terms in
    let m4 = g.T.Terms.means c.under.new.terms in
    let kk24 = keeps_both h2 m2 h3 m3 h4 m4 c.in_ok-work.ensures.kept c.in_ok-m.ensures.kept in
    let kk14 = keeps_both h1 m1 h2 m2 h4 m4 c.in_ok-a.ensures.kept kk24 in
    product_held h1 m1 h4 m4 kk14 c.in_ok-wanted.wanted c.in_ok-wanted.ensures.held

pub abstraction-abstracted-requires-clause-domain : goal.abstraction-abstracted-requires-clause-domain
abstraction-abstracted-requires-clause-domain g t c =
    let h0 = g.T.Terms.holds c.args.terms.now in
    let m0 = g.T.Terms.means c.args.terms.now in
    let h1 = g.T.Terms.holds c.wanted_product.new.terms in
    let m1 = g.T.Terms.means c.wanted_product.new.terms in
    let h2 = g.T.Terms.holds c.elaborate.new.terms in
    let m2 = g.T.Terms.means c.elaborate.new.terms in
    let h3 = g.T.Terms.holds c.met_domain.new.terms in
    let m3 = g.T.Terms.means c.met_domain.new.terms in
    let h4 = g.T.Terms.holds c.under.new.terms in
    let m4 = g.T.Terms.means c.under.new.terms in
    let kk24 = keeps_both h2 m2 h3 m3 h4 m4 c.in_ok-work.ensures.kept c.in_ok-m.ensures.kept in
    let kk14 = keeps_both h1 m1 h2 m2 h4 m4 c.in_ok-a.ensures.kept kk24 in
    (kk24 c.in_ok-a.a.term c.in_ok-a.ensures.held.term).0

pub abstraction-returns-clause-value : goal.abstraction-returns-clause-value
abstraction-returns-clause-value g t c Δ W w s r e =
    let n = c.args.fuel.now in
    let h0 = g.T.Terms.holds c.args.terms.now in
    let m0 = g.T.Terms.means c.args.terms.now in
    let A = c.args.a.now in
    let M = c.args.m.now in
    let x = c.args.x.now in
    let e0 = function_is Δ W x (elaborate Δ A) (elaborate Δ M) w s n in
    let h1 = g.T.Terms.holds c.wanted_product.new.terms in
    let m1 = g.T.Terms.means c.wanted_product.new.terms in
    let p1 = option_map (plain_product m1) c.in_ok-wanted.wanted in
    let kk1 = c.in_ok-wanted.ensures.kept in
    let e1 = next _ (wanted_product Δ W w n) p1 c.wanted_product.new.fuel (function_rest Δ W s x (elaborate Δ A) (elaborate Δ M) w) e0 (c.in_ok-wanted.ensures.value Δ W w s r e) in
    let r1 = read_kept h0 m0 h1 m1 kk1 c.requires.held r in
    let h2 = g.T.Terms.holds c.elaborate.new.terms in
    let m2 = g.T.Terms.means c.elaborate.new.terms in
    let ma = plain_typed m2 c.in_ok-a.a in
    let ha = c.in_ok-a.ensures.held in
    let kk2 = keeps_both h0 m0 h1 m1 h2 m2 kk1 c.in_ok-a.ensures.kept in
    let e2 = next _ (elaborate Δ A AsType w s c.wanted_product.new.fuel) ma c.elaborate.new.fuel (domain_rest Δ W s x (elaborate Δ M) p1) e1 (c.in_ok-a.ensures.value Δ AsType w s r1 refl) in
    let r2 = read_next h0 m0 h2 m2 kk2 c.requires.held c.in_ok-a.a.work ma.work refl r in
    let q2 = product_kept h1 m1 h2 m2 c.in_ok-a.ensures.kept c.in_ok-wanted.wanted c.in_ok-wanted.ensures.held in
    let h3 = g.T.Terms.holds c.met_domain.new.terms in
    let m3 = g.T.Terms.means c.met_domain.new.terms in
    let v = plain_work m3 c.in_ok-work.work in
    let W' = plain_want m3 c.in_ok-work.inside in
    let kk3 = keeps_both h0 m0 h2 m2 h3 m3 kk2 c.in_ok-work.ensures.kept in
    let e3 = next _ (met_domain Δ p1 ma s c.elaborate.new.fuel) (v, W') c.met_domain.new.fuel (inside_rest Δ W s x (elaborate Δ M) p1 ma) e2 (c.in_ok-work.ensures.value Δ p1 ma s r2 q2 refl) in
    let r3 = read_next h0 m0 h3 m3 kk3 c.requires.held c.in_ok-work.work v refl r in
    let a3 = (c.in_ok-work.ensures.kept c.in_ok-a.a.term ha.term).1 in
    let h4 = g.T.Terms.holds c.under.new.terms in
    let m4 = g.T.Terms.means c.under.new.terms in
    let mm = plain_typed m4 c.in_ok-m.m in
    let kk4 = keeps_both h0 m0 h3 m3 h4 m4 kk3 c.in_ok-m.ensures.kept in
    let e4 = next _ (under Δ (Some x) (elaborate Δ M) W' v ma.term s c.met_domain.new.fuel) mm c.under.new.fuel (body_rest Δ W s p1 ma) e3 (c.in_ok-m.ensures.value Δ W' v s ma.term r3 refl a3) in
    let r4 = read_next h0 m0 h4 m4 kk4 c.requires.held c.in_ok-m.m.work mm.work refl r in
    let kk24 = keeps_both h2 m2 h3 m3 h4 m4 c.in_ok-work.ensures.kept c.in_ok-m.ensures.kept in
    let kk14 = keeps_both h1 m1 h2 m2 h4 m4 c.in_ok-a.ensures.kept kk24 in
    let h = g.T.Terms.holds c.abstracted.new.terms in
    let m = g.T.Terms.means c.abstracted.new.terms in
    answers h m _ _ _ c.abstracted.new.fuel c.abstracted.result e4
    (c.abstracted.ensures.value Δ W p1 ma.term mm s r4 (want_kept h0 m0 h4 m4 kk4 c.args.want c.requires.want ∙ e) (product_kept h1 m1 h4 m4 kk14 c.in_ok-wanted.wanted c.in_ok-wanted.ensures.held) (kk24 c.in_ok-a.a.term ha.term).1 refl refl)

pub dependent_product-returns-in_err-a-clause-value : goal.dependent_product-returns-in_err-a-clause-value
dependent_product-returns-in_err-a-clause-value g t c Δ W w s r e =
    let n = c.args.fuel.now in
    let h0 = g.T.Terms.holds c.args.terms.now in
    let m0 = g.T.Terms.means c.args.terms.now in
    let A = c.args.a.now in
    let B = c.args.b.now in
    let y = option_copied c.args.x in
    let e0 = product_is Δ W s y (elaborate Δ A) (elaborate Δ B) w n in
    let h1 = g.T.Terms.holds c.elaborate.new.terms in
    let m1 = g.T.Terms.means c.elaborate.new.terms in
    fails h1 m1 _ _ (elaborate Δ A AsType w s n) _ c.elaborate.new.fuel c.from_residual.result c.in_err-a.field-0.0 e0 c.from_residual.ensures.1
    (c.in_err-a.ensures.value Δ AsType w s r refl)

pub dependent_product-returns-in_err-b-clause-value : goal.dependent_product-returns-in_err-b-clause-value
dependent_product-returns-in_err-b-clause-value g t c Δ W w s r e =
    let n = c.args.fuel.now in
    let h0 = g.T.Terms.holds c.args.terms.now in
    let m0 = g.T.Terms.means c.args.terms.now in
    let A = c.args.a.now in
    let B = c.args.b.now in
    let y = option_copied c.args.x in
    let e0 = product_is Δ W s y (elaborate Δ A) (elaborate Δ B) w n in
    let h1 = g.T.Terms.holds c.elaborate.new.terms in
    let m1 = g.T.Terms.means c.elaborate.new.terms in
    let ma = plain_typed m1 c.in_ok-a.a in
    let ha = c.in_ok-a.ensures.held in
    let kk1 = c.in_ok-a.ensures.kept in
    let e1 = next _ (elaborate Δ A AsType w s n) ma c.elaborate.new.fuel (product_rest Δ W s y (elaborate Δ B)) e0 (c.in_ok-a.ensures.value Δ AsType w s r refl) in
    let r1 = read_next h0 m0 h1 m1 kk1 c.requires.held c.in_ok-a.a.work ma.work refl r in
    let h2 = g.T.Terms.holds c.under.new.terms in
    let m2 = g.T.Terms.means c.under.new.terms in
    fails h2 m2 _ _ (under Δ y (elaborate Δ B) AsType ma.work ma.term s c.elaborate.new.fuel) _ c.under.new.fuel c.from_residual-in_err-b.result c.in_err-b.field-0.0 e1 c.from_residual-in_err-b.ensures.1
    (c.in_err-b.ensures.value Δ AsType ma.work s ma.term r1 refl refl)

pub dependent_product-product-requires-clause-held : goal.dependent_product-product-requires-clause-held
dependent_product-product-requires-clause-held g t c =
    let h0 = g.T.Terms.holds c.args.terms.now in
    let m0 = g.T.Terms.means c.args.terms.now in
    let h1 = g.T.Terms.holds c.elaborate.new.terms in
    let m1 = g.T.Terms.means c.elaborate.new.terms in
    let h2 = g.T.Terms.holds c.under.new.terms in
    let m2 = g.T.Terms.means c.under.new.terms in
    let kk2 = keeps_both h0 m0 h1 m1 h2 m2 c.in_ok-a.ensures.kept c.in_ok-b.ensures.kept in
    held_next h0 m0 h2 m2 kk2 c.requires.held c.in_ok-b.b.work c.in_ok-b.ensures.held.metas

pub dependent_product-product-requires-clause-want : goal.dependent_product-product-requires-clause-want
dependent_product-product-requires-clause-want g t c =
    let h0 = g.T.Terms.holds c.args.terms.now in
    let m0 = g.T.Terms.means c.args.terms.now in
    let h1 = g.T.Terms.holds c.elaborate.new.terms in
    let m1 = g.T.Terms.means c.elaborate.new.terms in
    let h2 = g.T.Terms.holds c.under.new.terms in
    let m2 = g.T.Terms.means c.under.new.terms in
    let kk2 = keeps_both h0 m0 h1 m1 h2 m2 c.in_ok-a.ensures.kept c.in_ok-b.ensures.kept in
    want_held h0 m0 h2 m2 kk2 c.args.want c.requires.want

pub dependent_product-returns-clause-value : goal.dependent_product-returns-clause-value
dependent_product-returns-clause-value g t c Δ W w s r e =
    let n = c.args.fuel.now in
    let h0 = g.T.Terms.holds c.args.terms.now in
    let m0 = g.T.Terms.means c.args.terms.now in
    let A = c.args.a.now in
    let B = c.args.b.now in
    let y = option_copied c.args.x in
    let e0 = product_is Δ W s y (elaborate Δ A) (elaborate Δ B) w n in
    let h1 = g.T.Terms.holds c.elaborate.new.terms in
    let m1 = g.T.Terms.means c.elaborate.new.terms in
    let ma = plain_typed m1 c.in_ok-a.a in
    let ha = c.in_ok-a.ensures.held in
    let kk1 = c.in_ok-a.ensures.kept in
    let e1 = next _ (elaborate Δ A AsType w s n) ma c.elaborate.new.fuel (product_rest Δ W s y (elaborate Δ B)) e0 (c.in_ok-a.ensures.value Δ AsType w s r refl) in
    let r1 = read_next h0 m0 h1 m1 kk1 c.requires.held c.in_ok-a.a.work ma.work refl r in
    let h2 = g.T.Terms.holds c.under.new.terms in
    let m2 = g.T.Terms.means c.under.new.terms in
    let mb = plain_typed m2 c.in_ok-b.b in
    let kk2 = keeps_both h0 m0 h1 m1 h2 m2 kk1 c.in_ok-b.ensures.kept in
    let e2 = next _ (under Δ y (elaborate Δ B) AsType ma.work ma.term s c.elaborate.new.fuel) mb c.under.new.fuel (product_end Δ W s ma) e1 (c.in_ok-b.ensures.value Δ AsType ma.work s ma.term r1 refl refl) in
    let h = g.T.Terms.holds c.product.new.terms in
    let m = g.T.Terms.means c.product.new.terms in
    answers h m _ _ _ c.product.new.fuel c.product.result e2
    (c.product.ensures.value Δ W ma.term mb s (read_next h0 m0 h2 m2 kk2 c.requires.held c.in_ok-b.b.work mb.work refl r) (want_kept h0 m0 h2 m2 kk2 c.args.want c.requires.want ∙ e) (c.in_ok-b.ensures.kept c.in_ok-a.a.term ha.term).1 refl refl)

pub under-returns-in_err-entries-clause-value : goal.under-returns-in_err-entries-clause-value
under-returns-in_err-entries-clause-value g t c Δ W w s A r e p =
    let h0 = g.T.Terms.holds c.args.terms.now in
    let m0 = g.T.Terms.means c.args.terms.now in
    let h1 = g.T.Terms.holds c.entered.new.terms in
    let m1 = g.T.Terms.means c.entered.new.terms in
    let label = option_copied c.args.label in
    fails h1 m1 _ _ (entered Δ label A w s c.args.fuel.now) _ c.entered.new.fuel c.from_residual.result c.in_err-entries.field-0.0 refl c.from_residual.ensures.1
    (shows_more h1 m1 _ _ c.entered.new.fuel c.in_err-entries.field-0.0 (c.in_err-entries.ensures.value Δ w s A r p))

pub under-returns-clause-value : goal.under-returns-clause-value
under-returns-clause-value g t c Δ W w s A r e p =
    let h0 = g.T.Terms.holds c.args.terms.now in
    let m0 = g.T.Terms.means c.args.terms.now in
    let h1 = g.T.Terms.holds c.entered.new.terms in
    let m1 = g.T.Terms.means c.entered.new.terms in
    let n = c.args.fuel.now in
    let label = option_copied c.args.label in
    let el = elaborate Δ c.args.t.now in
    let inner = behind label (plain_locals m1 c.in_ok-entries.entries) s in
    let h = g.T.Terms.holds c.elaborate.new.terms in
    let m = g.T.Terms.means c.elaborate.new.terms in
    let k1 = c.in_ok-entries.ensures.kept in
    let gave : entered Δ label A w s n ≡ Gave inner c.entered.new.fuel = ap (λ o. go_on o (λ Γ. pure (behind label Γ s))) (c.in_ok-entries.ensures.value Δ w s A r p) in
    let bound = same_here c.args.here.now.outer.now s.outer (bound_of c.deref.result.now) (label ∷ s.bound) (plain_locals m1 c.as_slice.result.now) (plain_locals m1 c.in_ok-entries.entries)
    (ap (λ (z : Surroundings). z.outer) r.here_is)
    (ap bound_of (c.deref.ensures.value ∙ c.in_ok-push.ensures.items ∙ ap (λ ls. ls ++ c.args.label ∷ []) c.in_ok-bound.ensures.items) ∙ pushed c.args.here.now.bound.now c.args.label ∙ ap (λ (z : Surroundings). label ∷ z.bound) r.here_is)
    (ap (plain_locals m1) c.as_slice.ensures) in
    answers h m _ _ _ c.elaborate.new.fuel c.elaborate.result (next _ (entered Δ label A w s n) inner c.entered.new.fuel (λ z. el W w z) refl gave)
    (c.elaborate.ensures.value Δ W w inner (record { items_are = (read_kept h0 m0 h1 m1 k1 c.requires.held r).items_are; work_is = (read_kept h0 m0 h1 m1 k1 c.requires.held r).work_is; here_is = bound }) (want_kept h0 m0 h1 m1 k1 c.args.want c.requires.want ∙ e))

pub arguments-loop-u-init : goal.arguments-loop-u-init
arguments-loop-u-init g t c =
    (arguments_begin c.args.us.now c.args.params.now c.args.work c.new-made.result.items c.args.fuel.now c.new-made.ensures.items c.requires.held.globals.metas_held, refl)

pub arguments-bounds-params-place : goal.arguments-bounds-params-place
arguments-bounds-params-place g t c =
    let place = c.loop-u.invariant.1 in omega (arith, place, c.loop-u-test.true, c.requires.count)

pub arguments-subst_all-requires-clause-term : goal.arguments-subst_all-requires-clause-term
arguments-subst_all-requires-clause-term g t c =
    let h0 = g.T.Terms.holds c.args.terms.now in
    let m0 = g.T.Terms.means c.args.terms.now in
    let hl = g.T.Terms.holds c.loop-u.terms in
    let ml = g.T.Terms.means c.loop-u.terms in
    let inv = c.loop-u.invariant.0 in
    let place = c.loop-u.invariant.1 in
    let us = c.args.us.now in
    let params = c.args.params.now in
    let i = c.loop-u.u-index in
    let p = get_or params c.loop-u.place c.index-params-place.result in
    let lp : i < length params = omega (arith, c.loop-u-test.true, c.requires.count) in
    let ip : p ≡ get_or params i p = ap (λ x. get_or params c.loop-u.place x) c.index-params-place.is ∙ ap (λ k. get_or params k p) place in
    let hp : h0 p.ty = subst (λ z. h0 z.ty) (sym ip) (c.requires.params i p lp) in
    (inv.kept p.ty hp).0

pub arguments-subst_all-requires-clause-arguments : goal.arguments-subst_all-requires-clause-arguments
arguments-subst_all-requires-clause-arguments g t c =
    let h0 = g.T.Terms.holds c.args.terms.now in
    let m0 = g.T.Terms.means c.args.terms.now in
    let hl = g.T.Terms.holds c.loop-u.terms in
    let ml = g.T.Terms.means c.loop-u.terms in
    let inv = c.loop-u.invariant.0 in
    let place = c.loop-u.invariant.1 in
    let us = c.args.us.now in
    let params = c.args.params.now in
    let i = c.loop-u.u-index in
    subst (All hl) (sym c.deref.ensures.value) inv.made

pub arguments-returns-in_err-typed-clause-value : goal.arguments-returns-in_err-typed-clause-value
arguments-returns-in_err-typed-clause-value g t c Δ w s ps r e =
    let h0 = g.T.Terms.holds c.args.terms.now in
    let m0 = g.T.Terms.means c.args.terms.now in
    let hl = g.T.Terms.holds c.loop-u.terms in
    let ml = g.T.Terms.means c.loop-u.terms in
    let inv = c.loop-u.invariant.0 in
    let place = c.loop-u.invariant.1 in
    let us = c.args.us.now in
    let params = c.args.params.now in
    let i = c.loop-u.u-index in
    let p = get_or params c.loop-u.place c.index-params-place.result in
    let lp : i < length params = omega (arith, c.loop-u-test.true, c.requires.count) in
    let ip : p ≡ get_or params i p = ap (λ x. get_or params c.loop-u.place x) c.index-params-place.is ∙ ap (λ k. get_or params k p) place in
    let hp : h0 p.ty = subst (λ z. h0 z.ty) (sym ip) (c.requires.params i p lp) in
    let D = terms_of (map ml c.loop-u.made.items) in
    let h1 = g.T.Terms.holds c.subst_all.new.terms in
    let m1 = g.T.Terms.means c.subst_all.new.terms in
    let k01 = keeps_both h0 m0 hl ml h1 m1 inv.kept c.in_ok-ty.ensures.kept in
    let want : Of (m1 c.in_ok-ty.ty) ≡ Of (subst_all D (m0 p.ty)) = ap (λ T. Of T) (c.in_ok-ty.ensures.tree ∙ ap₂ subst_all (ap (λ hs. terms_of (map ml hs)) c.deref.ensures.value) (inv.kept p.ty hp).1) in
    let h2 = g.T.Terms.holds c.elaborate.new.terms in
    let m2 = g.T.Terms.means c.elaborate.new.terms in
    fails h2 m2 _ _ (elaborate Δ c.u-item.result (Of (subst_all D (m0 p.ty))) (plain_work ml c.loop-u.work) s c.loop-u.fuel) _ c.elaborate.new.fuel c.from_residual-in_err-typed.result c.in_err-typed.field-0.0
    (ap (λ ps. arguments Δ (map (elaborate Δ) us) ps none w s c.args.fuel.now) (sym e) ∙ arguments_next us params c.args.work inv c.u-item.result p c.loop-u-test.true lp c.u-item.is ip Δ w s r)
    c.from_residual-in_err-typed.ensures.1
    (c.in_err-typed.ensures.value Δ (Of (subst_all D (m0 p.ty))) (plain_work ml c.loop-u.work) s (read_next h0 m0 h1 m1 k01 c.requires.held c.loop-u.work (plain_work ml c.loop-u.work) (work_kept hl ml h1 m1 c.in_ok-ty.ensures.kept c.loop-u.work inv.metas) r) want)

pub arguments-loop-u-preserved : goal.arguments-loop-u-preserved
arguments-loop-u-preserved g t c =
    let h0 = g.T.Terms.holds c.args.terms.now in
    let m0 = g.T.Terms.means c.args.terms.now in
    let hl = g.T.Terms.holds c.loop-u.terms in
    let ml = g.T.Terms.means c.loop-u.terms in
    let inv = c.loop-u.invariant.0 in
    let place = c.loop-u.invariant.1 in
    let us = c.args.us.now in
    let params = c.args.params.now in
    let i = c.loop-u.u-index in
    let p = get_or params c.loop-u.place c.index-params-place.result in
    let lp : i < length params = omega (arith, c.loop-u-test.true, c.requires.count) in
    let ip : p ≡ get_or params i p = ap (λ x. get_or params c.loop-u.place x) c.index-params-place.is ∙ ap (λ k. get_or params k p) place in
    let hp : h0 p.ty = subst (λ z. h0 z.ty) (sym ip) (c.requires.params i p lp) in
    let D = terms_of (map ml c.loop-u.made.items) in
    let h1 = g.T.Terms.holds c.subst_all.new.terms in
    let m1 = g.T.Terms.means c.subst_all.new.terms in
    let k01 = keeps_both h0 m0 hl ml h1 m1 inv.kept c.in_ok-ty.ensures.kept in
    let want : Of (m1 c.in_ok-ty.ty) ≡ Of (subst_all D (m0 p.ty)) = ap (λ T. Of T) (c.in_ok-ty.ensures.tree ∙ ap₂ subst_all (ap (λ hs. terms_of (map ml hs)) c.deref.ensures.value) (inv.kept p.ty hp).1) in
    let h2 = g.T.Terms.holds c.elaborate.new.terms in
    let m2 = g.T.Terms.means c.elaborate.new.terms in (
      arguments_turn us params c.args.work inv c.u-item.result p c.in_ok-typed.typed c.in_ok-typed.typed.work c.push.new.self.items (i + 1) c.elaborate.new.fuel c.loop-u-test.true lp c.u-item.is ip c.in_ok-ty.ensures.kept c.in_ok-typed.ensures.kept c.in_ok-typed.ensures.held
          c.in_ok-typed.ensures.less refl c.in_ok-push.ensures.items refl
          (λ Δ w s r. c.in_ok-typed.ensures.value Δ (Of (subst_all D (m0 p.ty))) (plain_work ml c.loop-u.work) s (read_next h0 m0 h1 m1 k01 c.requires.held c.loop-u.work (plain_work ml c.loop-u.work) (work_kept hl ml h1 m1 c.in_ok-ty.ensures.kept c.loop-u.work inv.metas) r) want),
      omega (arith, place),
    )

pub arguments-returns-clause-value : goal.arguments-returns-clause-value
arguments-returns-clause-value g t c Δ w s ps r e =
    let h0 = g.T.Terms.holds c.args.terms.now in
    let m0 = g.T.Terms.means c.args.terms.now in
    let hl = g.T.Terms.holds c.loop-u.terms in
    let ml = g.T.Terms.means c.loop-u.terms in
    let inv = c.loop-u.invariant.0 in
    let place = c.loop-u.invariant.1 in
    let us = c.args.us.now in
    let params = c.args.params.now in
    let i = c.loop-u.u-index in
    ap (λ ps. arguments Δ (map (elaborate Δ) us) ps none w s c.args.fuel.now) (sym e) ∙ arguments_done us params c.args.work inv Δ w s c.loop-u-test.false r

pub arguments-returns-in_err-push-clause-kept : goal.arguments-returns-in_err-push-clause-kept
arguments-returns-in_err-push-clause-kept g t c =
    let h0 = g.T.Terms.holds c.args.terms.now in
    let m0 = g.T.Terms.means c.args.terms.now in
    let hl = g.T.Terms.holds c.loop-u.terms in
    let ml = g.T.Terms.means c.loop-u.terms in
    let h1 = g.T.Terms.holds c.subst_all.new.terms in
    let m1 = g.T.Terms.means c.subst_all.new.terms in
    let h2 = g.T.Terms.holds c.elaborate.new.terms in
    let m2 = g.T.Terms.means c.elaborate.new.terms in
    let inv = c.loop-u.invariant.0 in
    keeps_both h0 m0 h1 m1 h2 m2 (keeps_both h0 m0 hl ml h1 m1 inv.kept c.in_ok-ty.ensures.kept) c.in_ok-typed.ensures.kept

pub elaborate-abstraction-requires : goal.elaborate-abstraction-requires
elaborate-abstraction-requires g t c κs within = (
  lam_falls c.args.t.now c.in-Lam.x c.in-Lam.a c.get-a.result.now c.in-Lam.m c.get-m.result.now t c.in-Lam.is c.get-a.ensures c.get-m.ensures c.decreases,
  (let held = c.requires.held in
      let want = c.requires.want in
      search rules),
)

pub elaborate-dependent_product-requires : goal.elaborate-dependent_product-requires
elaborate-dependent_product-requires g t c κs within = (
  pi_falls c.args.t.now c.in-Pi.x c.in-Pi.a c.get-a-in-Pi.result.now c.in-Pi.b c.get-b.result.now t c.in-Pi.is c.get-a-in-Pi.ensures c.get-b.ensures c.decreases,
  (let held = c.requires.held in
      let want = c.requires.want in
      search rules),
)

pub abstraction-elaborate-requires : goal.abstraction-elaborate-requires
abstraction-elaborate-requires g t c κs within = (
  (let d = c.decreases in omega arith),
  (let h0 = g.T.Terms.holds c.args.terms.now in
      let m0 = g.T.Terms.means c.args.terms.now in
      let h1 = g.T.Terms.holds c.wanted_product.new.terms in
      let m1 = g.T.Terms.means c.wanted_product.new.terms in
      let held = held_kept h0 m0 h1 m1 c.in_ok-wanted.ensures.kept c.requires.held in
      search rules),
)

pub abstraction-under-requires : goal.abstraction-under-requires
abstraction-under-requires g t c κs within = (
  (let d = c.decreases in omega arith),
  (let h0 = g.T.Terms.holds c.args.terms.now in
      let m0 = g.T.Terms.means c.args.terms.now in
      let h1 = g.T.Terms.holds c.wanted_product.new.terms in
      let m1 = g.T.Terms.means c.wanted_product.new.terms in
      let h2 = g.T.Terms.holds c.elaborate.new.terms in
      let m2 = g.T.Terms.means c.elaborate.new.terms in
      let h3 = g.T.Terms.holds c.met_domain.new.terms in
      let m3 = g.T.Terms.means c.met_domain.new.terms in
      let kk2 = keeps_both h0 m0 h1 m1 h2 m2 c.in_ok-wanted.ensures.kept c.in_ok-a.ensures.kept in
      let kk3 = keeps_both h0 m0 h2 m2 h3 m3 kk2 c.in_ok-work.ensures.kept in
      let held = held_next h0 m0 h3 m3 kk3 c.requires.held c.in_ok-work.work c.in_ok-work.ensures.held.0 in
      let want = c.in_ok-work.ensures.held.1 in
      let domain = (c.in_ok-work.ensures.kept c.in_ok-a.a.term c.in_ok-a.ensures.held.term).0 in
      search rules),
)

pub dependent_product-elaborate-requires : goal.dependent_product-elaborate-requires
dependent_product-elaborate-requires g t c κs within = (
  (let d = c.decreases in omega arith),
  (let held = c.requires.held in
      search rules),
)

pub dependent_product-under-requires : goal.dependent_product-under-requires
dependent_product-under-requires g t c κs within = (
  (let d = c.decreases in omega arith),
  (let h0 = g.T.Terms.holds c.args.terms.now in
      let m0 = g.T.Terms.means c.args.terms.now in
      let h1 = g.T.Terms.holds c.elaborate.new.terms in
      let m1 = g.T.Terms.means c.elaborate.new.terms in
      let held = held_next h0 m0 h1 m1 c.in_ok-a.ensures.kept c.requires.held c.in_ok-a.a.work c.in_ok-a.ensures.held.metas in
      let domain = c.in_ok-a.ensures.held.term in
      search rules),
)

pub arguments-elaborate-requires : goal.arguments-elaborate-requires
arguments-elaborate-requires g t c κs within = (
  argument_falls c.args.us.now c.loop-u.u-index c.u-item.result t c.loop-u-test.true c.u-item.is c.decreases,
  (let h0 = g.T.Terms.holds c.args.terms.now in
      let m0 = g.T.Terms.means c.args.terms.now in
      let hl = g.T.Terms.holds c.loop-u.terms in
      let ml = g.T.Terms.means c.loop-u.terms in
      let h1 = g.T.Terms.holds c.subst_all.new.terms in
      let m1 = g.T.Terms.means c.subst_all.new.terms in
      let inv = c.loop-u.invariant.0 in
      let k01 = keeps_both h0 m0 hl ml h1 m1 inv.kept c.in_ok-ty.ensures.kept in
      let held = held_next h0 m0 h1 m1 k01 c.requires.held c.loop-u.work (decls_held hl ml h1 m1 c.in_ok-ty.ensures.kept c.loop-u.work.metas inv.metas) in
      let want = c.in_ok-ty.ensures.held in
      search rules),
)

pub applied-loop-u-init : goal.applied-loop-u-init
applied-loop-u-init g t c =
    applied_begin c.args.us.now c.args.function c.args.fuel.now (record { metas = c.requires.held.globals.metas_held; term = c.requires.term; ty = c.requires.ty })

pub applied-returns-in_err-typed-clause-value : goal.applied-returns-in_err-typed-clause-value
applied-returns-in_err-typed-clause-value g t c Δ f s r p q =
    let h0 = g.T.Terms.holds c.args.terms.now in
    let m0 = g.T.Terms.means c.args.terms.now in
    let hl = g.T.Terms.holds c.loop-u.terms in
    let ml = g.T.Terms.means c.loop-u.terms in
    let h1 = g.T.Terms.holds c.applied_to.new.terms in
    let m1 = g.T.Terms.means c.applied_to.new.terms in
    let inv = c.loop-u.invariant in
    let us = c.args.us.now in
    let i = c.loop-u.u-index in
    let before = plain_typed ml c.loop-u.typed in
    fails h1 m1 _ _ (applied_to Δ (elaborate Δ c.u-item.result) before s c.loop-u.fuel) _ c.applied_to.new.fuel c.from_residual.result c.in_err-typed.field-0.0
    (applied_next us c.args.function inv c.u-item.result c.loop-u-test.true c.u-item.is Δ f s r p q)
    c.from_residual.ensures.1
    (c.in_err-typed.ensures.value Δ before s (read_next h0 m0 hl ml inv.kept c.requires.held c.loop-u.typed.work before.work refl r) refl refl)

pub applied-loop-u-preserved : goal.applied-loop-u-preserved
applied-loop-u-preserved g t c =
    let h0 = g.T.Terms.holds c.args.terms.now in
    let m0 = g.T.Terms.means c.args.terms.now in
    let hl = g.T.Terms.holds c.loop-u.terms in
    let ml = g.T.Terms.means c.loop-u.terms in
    let h1 = g.T.Terms.holds c.applied_to.new.terms in
    let m1 = g.T.Terms.means c.applied_to.new.terms in
    let inv = c.loop-u.invariant in
    let us = c.args.us.now in
    let i = c.loop-u.u-index in
    let before = plain_typed ml c.loop-u.typed in
    applied_turn us c.args.function inv c.u-item.result c.in_ok-typed.typed (i + 1) c.applied_to.new.fuel c.loop-u-test.true c.u-item.is c.in_ok-typed.ensures.kept c.in_ok-typed.ensures.held c.in_ok-typed.ensures.less refl
    (λ Δ f s r. c.in_ok-typed.ensures.value Δ before s (read_next h0 m0 hl ml inv.kept c.requires.held c.loop-u.typed.work before.work refl r) refl refl)

pub applied-returns-clause-value : goal.applied-returns-clause-value
applied-returns-clause-value g t c Δ f s r p q =
    applied_done c.args.us.now c.args.function c.loop-u.invariant Δ f s c.loop-u-test.false r p q

pub applied_to-returns-in_err-domain-clause-value : goal.applied_to-returns-in_err-domain-clause-value
applied_to-returns-in_err-domain-clause-value g t c Δ f s r p q =
    let n = c.args.fuel.now in
    let el = elaborate Δ c.args.u.now in
    let h1 = g.T.Terms.holds c.function_parts.new.terms in
    let m1 = g.T.Terms.means c.function_parts.new.terms in
    fails h1 m1 _ _ (function_parts Δ f s n) (argument_rest Δ el f s) c.function_parts.new.fuel c.from_residual.result c.in_err-domain.field-0.0 (applied_to_is Δ el f s n) c.from_residual.ensures.1
    (c.in_err-domain.ensures.value Δ f s r p q)

pub applied_to-returns-in_err-argument-clause-value : goal.applied_to-returns-in_err-argument-clause-value
applied_to-returns-in_err-argument-clause-value g t c Δ f s r p q =
    let n = c.args.fuel.now in
    let el = elaborate Δ c.args.u.now in
    let h0 = g.T.Terms.holds c.args.terms.now in
    let m0 = g.T.Terms.means c.args.terms.now in
    let h1 = g.T.Terms.holds c.function_parts.new.terms in
    let m1 = g.T.Terms.means c.function_parts.new.terms in
    let parts : Term × Term = (m1 c.in_ok-domain.domain, m1 c.in_ok-domain.codomain) in
    let kk1 = c.in_ok-domain.ensures.kept in
    let e1 = next _ (function_parts Δ f s n) parts c.function_parts.new.fuel (argument_rest Δ el f s) (applied_to_is Δ el f s n) (c.in_ok-domain.ensures.value Δ f s r p q) in
    let r1 = read_kept h0 m0 h1 m1 kk1 c.requires.held r in
    let h2 = g.T.Terms.holds c.elaborate.new.terms in
    let m2 = g.T.Terms.means c.elaborate.new.terms in
    fails h2 m2 _ _ (el (Of parts.0) f.work s c.function_parts.new.fuel) _ c.elaborate.new.fuel c.from_residual-in_err-argument.result c.in_err-argument.field-0.0 e1 c.from_residual-in_err-argument.ensures.1
    (c.in_err-argument.ensures.value Δ (Of parts.0) f.work s r1 refl)

pub applied_to-application-requires-clause-function : goal.applied_to-application-requires-clause-function
applied_to-application-requires-clause-function g t c =
    let h0 = g.T.Terms.holds c.args.terms.now in
    let m0 = g.T.Terms.means c.args.terms.now in
    let h1 = g.T.Terms.holds c.function_parts.new.terms in
    let m1 = g.T.Terms.means c.function_parts.new.terms in
    let h2 = g.T.Terms.holds c.elaborate.new.terms in
    let m2 = g.T.Terms.means c.elaborate.new.terms in
    (keeps_both h0 m0 h1 m1 h2 m2 c.in_ok-domain.ensures.kept c.in_ok-argument.ensures.kept c.args.function.term c.requires.term).0

pub applied_to-application-requires-clause-codomain : goal.applied_to-application-requires-clause-codomain
applied_to-application-requires-clause-codomain g t c =
    (c.in_ok-argument.ensures.kept c.in_ok-domain.codomain c.in_ok-domain.ensures.held.1).0

pub applied_to-returns-clause-value : goal.applied_to-returns-clause-value
applied_to-returns-clause-value g t c Δ f s r p q =
    let n = c.args.fuel.now in
    let el = elaborate Δ c.args.u.now in
    let h0 = g.T.Terms.holds c.args.terms.now in
    let m0 = g.T.Terms.means c.args.terms.now in
    let h1 = g.T.Terms.holds c.function_parts.new.terms in
    let m1 = g.T.Terms.means c.function_parts.new.terms in
    let parts : Term × Term = (m1 c.in_ok-domain.domain, m1 c.in_ok-domain.codomain) in
    let kk1 = c.in_ok-domain.ensures.kept in
    let e1 = next _ (function_parts Δ f s n) parts c.function_parts.new.fuel (argument_rest Δ el f s) (applied_to_is Δ el f s n) (c.in_ok-domain.ensures.value Δ f s r p q) in
    let r1 = read_kept h0 m0 h1 m1 kk1 c.requires.held r in
    let h2 = g.T.Terms.holds c.elaborate.new.terms in
    let m2 = g.T.Terms.means c.elaborate.new.terms in
    let ma = plain_typed m2 c.in_ok-argument.argument in
    let k12 = keeps_both h0 m0 h1 m1 h2 m2 kk1 c.in_ok-argument.ensures.kept in
    let left = c.elaborate.new.fuel in
    next _ (el (Of parts.0) f.work s c.function_parts.new.fuel) ma left (λ a. pure (made a.work (App f.term a.term) (subst_all (none ▹ a.term) parts.1))) e1 (c.in_ok-argument.ensures.value Δ (Of parts.0) f.work s r1 refl)
    ∙ ap₂ (λ (t T : Term). Gave (made ma.work (App t ma.term) (subst_all (none ▹ ma.term) T)) left) (sym ((k12 c.args.function.term c.requires.term).1 ∙ p)) (sym (c.in_ok-argument.ensures.kept c.in_ok-domain.codomain c.in_ok-domain.ensures.held.1).1)
    ∙ ap (λ x. Gave x left) (sym c.in_ok-application.ensures.value)
