use Rattle.std.proofs.Common.{◌≡◌, Some, subst, length, map, refl, ap, sym, ◌∙◌, Ok}
use Rattle.std.specs.Option.{option_copied}
use Rattle.ld_trees.specs.Term.{none}
use Rattle.term_syntax.specs.Scoping.{applied, arguments, below, scope}
use Rattle.std.proofs.lemmas.Result.{err_from_is_err_and}
use Rattle.ld_trees.specs.Term.{Const}
use Rattle.ld_terms.specs.Views.{terms_of}
use Rattle.term_text.specs.Scoped.{arities, bound_of, Refuses, IsResolved}
use Rattle.term_text.proofs.ScopeNodes.{at_same, at_equal, lam_domain, lam_body, lam_made, pi_domain, pi_codomain, pi_made, app_head, app_spine, const_unfit, const_arguments, const_made}
use Rattle.term_text.proofs.ScopeLaws.{before_all, each_init, each_turn, spine_init, spine_turn}
use Rattle.term_text.proofs.scope.+scope.Goals as goal

pub scope_each-loop-u-init : goal.scope_each-loop-u-init
scope_each-loop-u-init g t c =
    (each_init _ _ c.new-out.result.items c.new-out.ensures.items (ap (arguments none) (before_all (arities (g.G.Globals.items c.args.globals.now)) c.args.names.now (bound_of c.args.bound.now.items) c.args.us.now)), refl)

pub scope_each-loop-u-preserved : goal.scope_each-loop-u-preserved
scope_each-loop-u-preserved g t c =
    let scoped : scope (arities (g.G.Globals.items c.args.globals.now)) c.args.names.now c.u-item.result (bound_of c.args.bound.now.items) ≡ Ok (g.T.Terms.means c.scope_node.new.terms c.in_ok-scope_node.field-0) =
    ap (λ ls. scope (arities (g.G.Globals.items c.args.globals.now)) c.args.names.now c.u-item.result (bound_of ls)) (sym c.loop-u.invariant.1) ∙ c.in_ok-scope_node.ensures.exact.1 in (
      rw c.in_ok-push.ensures.items
          (each_turn (λ u. scope (arities (g.G.Globals.items c.args.globals.now)) c.args.names.now u (bound_of c.args.bound.now.items)) c.args.us.now c.loop-u.u-index c.u-item.result c.in_ok-scope_node.field-0
          c.loop-u.invariant.0 c.loop-u-test.true c.u-item.is c.in_ok-scope_node.ensures.kept c.in_ok-scope_node.ensures.exact.0 scoped),
      c.in_ok-scope_node.ensures.bound ∙ c.loop-u.invariant.1,
    )

pub scope_spine-loop-u-init : goal.scope_spine-loop-u-init
scope_spine-loop-u-init g t c =
    (spine_init _ _ c.args.head c.requires (ap (applied (g.T.Terms.means c.args.terms.now c.args.head)) (before_all (arities (g.G.Globals.items c.args.globals.now)) c.args.names.now (bound_of c.args.bound.now.items) c.args.us.now)), refl)

pub scope_spine-loop-u-preserved : goal.scope_spine-loop-u-preserved
scope_spine-loop-u-preserved g t c =
    let scoped : scope (arities (g.G.Globals.items c.args.globals.now)) c.args.names.now c.u-item.result (bound_of c.args.bound.now.items) ≡ Ok (g.T.Terms.means c.scope_node.new.terms c.in_ok-a.a) =
    ap (λ ls. scope (arities (g.G.Globals.items c.args.globals.now)) c.args.names.now c.u-item.result (bound_of ls)) (sym c.loop-u.invariant.1) ∙ c.in_ok-a.ensures.exact.1 in (
      spine_turn (λ u. scope (arities (g.G.Globals.items c.args.globals.now)) c.args.names.now u (bound_of c.args.bound.now.items)) c.args.us.now c.loop-u.u-index c.u-item.result c.in_ok-a.a c.in_ok-h.h
          c.loop-u.invariant.0 c.loop-u-test.true c.u-item.is c.in_ok-a.ensures.kept scoped c.in_ok-h.ensures.kept c.in_ok-h.ensures.held c.in_ok-h.ensures.tree,
      c.in_ok-a.ensures.bound ∙ c.loop-u.invariant.1,
    )

pub scope_node-returns-in_err-check_constant-in-Const-clause-exact : goal.scope_node-returns-in_err-check_constant-in-Const-clause-exact
scope_node-returns-in_err-check_constant-in-Const-clause-exact g t c =
    let A = arities (g.G.Globals.items c.args.globals.now) in
    let N = c.args.names.now in
    let B = bound_of c.args.bound.now.items in
    let p = err_from_is_err_and c.from_residual-in_err-check_constant-in-Const.result c.from_residual-in_err-check_constant-in-Const.ensures.1 in
    rw (p.1, p.2) (const_unfit A N c.args.t.now B c.in-Const.a c.in-Const.us (length c.as_slice.result.now) c.in_err-check_constant-in-Const.field-0.0 c.in-Const.is (ap (λ us. length us) c.as_slice.ensures) c.in_err-check_constant-in-Const.ensures)

pub scope_node-returns-in_err-us-in-Const-clause-exact : goal.scope_node-returns-in_err-us-in-Const-clause-exact
scope_node-returns-in_err-us-in-Const-clause-exact g t c =
    let A = arities (g.G.Globals.items c.args.globals.now) in
    let N = c.args.names.now in
    let B = bound_of c.args.bound.now.items in
    let p = err_from_is_err_and c.from_residual-in_err-us-in-Const.result c.from_residual-in_err-us-in-Const.ensures.1 in
    rw (p.1, p.2) (const_arguments A N c.args.t.now B c.in-Const.a c.in-Const.us (length c.as_slice.result.now) c.in_err-us-in-Const.field-0.0 c.in-Const.is (ap (λ us. length us) c.as_slice.ensures) c.in_ok-check_constant-in-Const.ensures
    (subst (λ us. Refuses (arguments none (below B (map (scope A N) us))) c.in_err-us-in-Const.field-0.0) c.as_slice-in-Const.ensures c.in_err-us-in-Const.ensures.exact))

pub scope_node-returns-in_err-f-in-App-clause-exact : goal.scope_node-returns-in_err-f-in-App-clause-exact
scope_node-returns-in_err-f-in-App-clause-exact g t c =
    let A = arities (g.G.Globals.items c.args.globals.now) in
    let N = c.args.names.now in
    let B = bound_of c.args.bound.now.items in
    let p = err_from_is_err_and c.from_residual-in_err-f-in-App.result c.from_residual-in_err-f-in-App.ensures.1 in
    rw (p.1, p.2) (app_head A N c.args.t.now B c.in-App.f c.in-App.us c.in_err-f-in-App.field-0.0 c.in-App.is
    (at_same A N (λ o. Refuses o c.in_err-f-in-App.field-0.0) B c.get.result.now c.in-App.f c.get.ensures c.in_err-f-in-App.ensures.exact))

pub scope_node-returns-in_err-a-in-Lam-clause-exact : goal.scope_node-returns-in_err-a-in-Lam-clause-exact
scope_node-returns-in_err-a-in-Lam-clause-exact g t c =
    let A = arities (g.G.Globals.items c.args.globals.now) in
    let N = c.args.names.now in
    let B = bound_of c.args.bound.now.items in
    let p = err_from_is_err_and c.from_residual-in_err-a-in-Lam.result c.from_residual-in_err-a-in-Lam.ensures.1 in
    rw (p.1, p.2) (lam_domain A N c.args.t.now B c.in-Lam.x c.in-Lam.a c.in-Lam.m c.in_err-a-in-Lam.field-0.0 c.in-Lam.is
    (at_same A N (λ o. Refuses o c.in_err-a-in-Lam.field-0.0) B c.get-in-Lam.result.now c.in-Lam.a c.get-in-Lam.ensures c.in_err-a-in-Lam.ensures.exact))

pub scope_node-returns-in_err-m-in-Lam-clause-exact : goal.scope_node-returns-in_err-m-in-Lam-clause-exact
scope_node-returns-in_err-m-in-Lam-clause-exact g t c =
    let A = arities (g.G.Globals.items c.args.globals.now) in
    let N = c.args.names.now in
    let B = bound_of c.args.bound.now.items in
    let p = err_from_is_err_and c.from_residual-in_err-m-in-Lam.result c.from_residual-in_err-m-in-Lam.ensures.1 in
    rw (p.1, p.2) (lam_body A N c.args.t.now B c.in-Lam.x c.in-Lam.a c.in-Lam.m (g.T.Terms.means c.scope_node-in-Lam.new.terms c.in_ok-a-in-Lam.a) c.in_err-m-in-Lam.field-0.0 c.in-Lam.is
    (at_same A N (λ o. o ≡ Ok (g.T.Terms.means c.scope_node-in-Lam.new.terms c.in_ok-a-in-Lam.a)) B c.get-in-Lam.result.now c.in-Lam.a c.get-in-Lam.ensures c.in_ok-a-in-Lam.ensures.exact.1)
    (at_equal A N (λ o. Refuses o c.in_err-m-in-Lam.field-0.0) c.get-in-Lam-2.result.now c.in-Lam.m (Some c.in-Lam.x) (Some c.in-Lam.x) c.scope_node-in-Lam.new.bound.items c.args.bound.now.items
    c.get-in-Lam-2.ensures refl c.in_ok-a-in-Lam.ensures.bound c.in_err-m-in-Lam.ensures.exact))

pub scope_node-returns-in_err-a-in-Pi-clause-exact : goal.scope_node-returns-in_err-a-in-Pi-clause-exact
scope_node-returns-in_err-a-in-Pi-clause-exact g t c =
    let A = arities (g.G.Globals.items c.args.globals.now) in
    let N = c.args.names.now in
    let B = bound_of c.args.bound.now.items in
    let p = err_from_is_err_and c.from_residual-in_err-a-in-Pi.result c.from_residual-in_err-a-in-Pi.ensures.1 in
    rw (p.1, p.2) (pi_domain A N c.args.t.now B c.in-Pi.x c.in-Pi.a c.in-Pi.b c.in_err-a-in-Pi.field-0.0 c.in-Pi.is
    (at_same A N (λ o. Refuses o c.in_err-a-in-Pi.field-0.0) B c.get-in-Pi.result.now c.in-Pi.a c.get-in-Pi.ensures c.in_err-a-in-Pi.ensures.exact))

pub scope_node-returns-in_err-b-in-Pi-clause-exact : goal.scope_node-returns-in_err-b-in-Pi-clause-exact
scope_node-returns-in_err-b-in-Pi-clause-exact g t c =
    let A = arities (g.G.Globals.items c.args.globals.now) in
    let N = c.args.names.now in
    let B = bound_of c.args.bound.now.items in
    let p = err_from_is_err_and c.from_residual-in_err-b-in-Pi.result c.from_residual-in_err-b-in-Pi.ensures.1 in
    rw (p.1, p.2) (pi_codomain A N c.args.t.now B c.in-Pi.x c.in-Pi.a c.in-Pi.b (g.T.Terms.means c.scope_node-in-Pi.new.terms c.in_ok-a-in-Pi.a) c.in_err-b-in-Pi.field-0.0 c.in-Pi.is
    (at_same A N (λ o. o ≡ Ok (g.T.Terms.means c.scope_node-in-Pi.new.terms c.in_ok-a-in-Pi.a)) B c.get-in-Pi.result.now c.in-Pi.a c.get-in-Pi.ensures c.in_ok-a-in-Pi.ensures.exact.1)
    (at_equal A N (λ o. Refuses o c.in_err-b-in-Pi.field-0.0) c.get-in-Pi-2.result.now c.in-Pi.b (option_copied c.as_ref.result) c.in-Pi.x c.scope_node-in-Pi.new.bound.items c.args.bound.now.items
    c.get-in-Pi-2.ensures c.as_ref.ensures.value c.in_ok-a-in-Pi.ensures.bound c.in_err-b-in-Pi.ensures.exact))

pub scope_node-returns-in_ok-make-in-Const-clause-exact : goal.scope_node-returns-in_ok-make-in-Const-clause-exact
scope_node-returns-in_ok-make-in-Const-clause-exact g t c =
    let A = arities (g.G.Globals.items c.args.globals.now) in
    let N = c.args.names.now in
    let B = bound_of c.args.bound.now.items in (
      c.in_ok-make-in-Const.ensures.held,
      const_made A N c.args.t.now B c.in-Const.a c.in-Const.us (length c.as_slice.result.now) (terms_of (map (g.T.Terms.means c.scope_each.new.terms) c.in_ok-us-in-Const.us.items))
          (g.T.Terms.means c.make-in-Const.new.self c.in_ok-make-in-Const.field-0) c.in-Const.is (ap (λ us. length us) c.as_slice.ensures) c.in_ok-check_constant-in-Const.ensures
          (subst (λ us. arguments none (below B (map (scope A N) us)) ≡ Ok (terms_of (map (g.T.Terms.means c.scope_each.new.terms) c.in_ok-us-in-Const.us.items))) c.as_slice-in-Const.ensures c.in_ok-us-in-Const.ensures.exact.1)
          (c.in_ok-make-in-Const.ensures.tree ∙ ap (λ hs. Const c.in-Const.a (terms_of (map (g.T.Terms.means c.scope_each.new.terms) hs))) c.deref-in-Const.ensures.value),
    )

pub scope_node-returns-in_ok-f-in-App-clause-exact : goal.scope_node-returns-in_ok-f-in-App-clause-exact
scope_node-returns-in_ok-f-in-App-clause-exact g t c =
    let A = arities (g.G.Globals.items c.args.globals.now) in
    let N = c.args.names.now in
    let B = bound_of c.args.bound.now.items in
    let whole = app_spine A N c.args.t.now B c.in-App.f c.in-App.us (g.T.Terms.means c.scope_node.new.terms c.in_ok-f-in-App.f) c.in-App.is (at_same A N (λ o. o ≡ Ok (g.T.Terms.means c.scope_node.new.terms c.in_ok-f-in-App.f)) B c.get.result.now c.in-App.f c.get.ensures c.in_ok-f-in-App.ensures.exact.1)
    ∙ ap (λ us. applied (g.T.Terms.means c.scope_node.new.terms c.in_ok-f-in-App.f) (below B (map (scope A N) us))) (sym c.as_slice-in-App.ensures)
    ∙ ap (λ ls. applied (g.T.Terms.means c.scope_node.new.terms c.in_ok-f-in-App.f) (below (bound_of ls) (map (scope A N) c.as_slice-in-App.result.now))) (sym c.in_ok-f-in-App.ensures.bound) in
    subst (λ o. IsResolved (g.T.Terms.holds c.scope_spine.new.terms) (g.T.Terms.means c.scope_spine.new.terms) o c.scope_spine.result) (sym whole) c.scope_spine.ensures.exact

pub scope_node-returns-in_ok-make-in-Lam-clause-exact : goal.scope_node-returns-in_ok-make-in-Lam-clause-exact
scope_node-returns-in_ok-make-in-Lam-clause-exact g t c =
    let A = arities (g.G.Globals.items c.args.globals.now) in
    let N = c.args.names.now in
    let B = bound_of c.args.bound.now.items in (
      c.in_ok-make-in-Lam.ensures.held,
      lam_made A N c.args.t.now B c.in-Lam.x c.in-Lam.a c.in-Lam.m (g.T.Terms.means c.scope_node-in-Lam.new.terms c.in_ok-a-in-Lam.a) (g.T.Terms.means c.scope_under.new.terms c.in_ok-a-in-Lam.a) (g.T.Terms.means c.scope_under.new.terms c.in_ok-m-in-Lam.m)
          (g.T.Terms.means c.make-in-Lam.new.self c.in_ok-make-in-Lam.field-0) c.in-Lam.is
          (at_same A N (λ o. o ≡ Ok (g.T.Terms.means c.scope_node-in-Lam.new.terms c.in_ok-a-in-Lam.a)) B c.get-in-Lam.result.now c.in-Lam.a c.get-in-Lam.ensures c.in_ok-a-in-Lam.ensures.exact.1)
          (at_equal A N (λ o. o ≡ Ok (g.T.Terms.means c.scope_under.new.terms c.in_ok-m-in-Lam.m)) c.get-in-Lam-2.result.now c.in-Lam.m (Some c.in-Lam.x) (Some c.in-Lam.x) c.scope_node-in-Lam.new.bound.items c.args.bound.now.items
          c.get-in-Lam-2.ensures refl c.in_ok-a-in-Lam.ensures.bound c.in_ok-m-in-Lam.ensures.exact.1)
          (c.in_ok-m-in-Lam.ensures.kept c.in_ok-a-in-Lam.a c.in_ok-a-in-Lam.ensures.exact.0).1 c.in_ok-make-in-Lam.ensures.tree,
    )

pub scope_node-returns-in_ok-make-in-Pi-clause-exact : goal.scope_node-returns-in_ok-make-in-Pi-clause-exact
scope_node-returns-in_ok-make-in-Pi-clause-exact g t c =
    let A = arities (g.G.Globals.items c.args.globals.now) in
    let N = c.args.names.now in
    let B = bound_of c.args.bound.now.items in (
      c.in_ok-make-in-Pi.ensures.held,
      pi_made A N c.args.t.now B c.in-Pi.x c.in-Pi.a c.in-Pi.b (g.T.Terms.means c.scope_node-in-Pi.new.terms c.in_ok-a-in-Pi.a) (g.T.Terms.means c.scope_under-in-Pi.new.terms c.in_ok-a-in-Pi.a) (g.T.Terms.means c.scope_under-in-Pi.new.terms c.in_ok-b-in-Pi.b)
          (g.T.Terms.means c.make-in-Pi.new.self c.in_ok-make-in-Pi.field-0) c.in-Pi.is
          (at_same A N (λ o. o ≡ Ok (g.T.Terms.means c.scope_node-in-Pi.new.terms c.in_ok-a-in-Pi.a)) B c.get-in-Pi.result.now c.in-Pi.a c.get-in-Pi.ensures c.in_ok-a-in-Pi.ensures.exact.1)
          (at_equal A N (λ o. o ≡ Ok (g.T.Terms.means c.scope_under-in-Pi.new.terms c.in_ok-b-in-Pi.b)) c.get-in-Pi-2.result.now c.in-Pi.b (option_copied c.as_ref.result) c.in-Pi.x c.scope_node-in-Pi.new.bound.items c.args.bound.now.items
          c.get-in-Pi-2.ensures c.as_ref.ensures.value c.in_ok-a-in-Pi.ensures.bound c.in_ok-b-in-Pi.ensures.exact.1)
          (c.in_ok-b-in-Pi.ensures.kept c.in_ok-a-in-Pi.a c.in_ok-a-in-Pi.ensures.exact.0).1 c.in_ok-make-in-Pi.ensures.tree,
    )
