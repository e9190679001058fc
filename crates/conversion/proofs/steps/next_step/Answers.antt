use Rattle.std.proofs.Common.{rules, ◌≡◌, length, Some, sym, slice_get}
use Rattle.std.proofs.lemmas.Result.{IfOk-weaker}
use Rattle.ld_terms.specs.Items.{item_named}
use Rattle.conversion.proofs.NextSteps.{abstraction_step, constant_step, meta_step, reduct_held}
use Rattle.conversion.proofs.Lookups.{item_found_held, decl_found_held}
use Rattle.conversion.proofs.steps.next_step.Goals as goal

pub returns-in_ok-push-in-Some-clause-step : goal.returns-in_ok-push-in-Some-clause-step
returns-in_ok-push-in-Some-clause-step g c =
    let means = g.T.Terms.means c.args.terms.now in
    let one = rw c.new-args.ensures.items at c.in_ok-push-in-Some.ensures.items in
    abstraction_step means _ (means c.args.head) (means c.in-Lam.field-0) c.args.waiting.now.items c.pop.new.self.items c.in-Some.arg (record { body = c.in-Lam.body; args = c.push.new.self })
    c.in-Lam.ensures.tree c.in-Some.ensures.items one

pub returns-in-Some-constant-clause-step : goal.returns-in-Some-constant-clause-step
returns-in-Some-constant-clause-step g c =
    let means = g.T.Terms.means c.args.terms.now in
    let is = g.G.Globals.items c.args.globals.now in
    let ds = g.G.Globals.metas c.args.globals.now in
    let found : item_named is c.in-Const.name.now ≡ Some c.in-Some-constant.item.now = search rules in
    let params : length c.as_slice.result.now ≡ length c.in-Some-constant.item.now.params = search rules in
    IfOk-weaker c.unfold.result _ _
    (λ o p. constant_step means is ds (means c.args.head) c.in-Const.name.now c.in-Const.args.now c.in-Some-constant.item.now c.args.waiting.now.items o c.in-Const.ensures.tree found (rw (sym params) (p means)))
    c.unfold.ensures.step

pub returns-in-Some-constant-clause-held : goal.returns-in-Some-constant-clause-held
returns-in-Some-constant-clause-held g c =
    let holds = g.T.Terms.holds c.args.terms.now in
    let is = g.G.Globals.items c.args.globals.now in
    let found : item_named is c.in-Const.name.now ≡ Some c.in-Some-constant.item.now = search rules in
    let held = item_found_held holds is c.in-Const.name.now c.in-Some-constant.item.now c.requires.globals.items_held found in
    IfOk-weaker c.unfold.result _ _
    (λ o p. reduct_held holds c.in-Some-constant.item.now.body c.in-Const.args.now o held.body c.in-Const.ensures.held p)
    c.unfold.ensures.parts

pub returns-in-Some-meta-clause-step : goal.returns-in-Some-meta-clause-step
returns-in-Some-meta-clause-step g c =
    let means = g.T.Terms.means c.args.terms.now in
    let is = g.G.Globals.items c.args.globals.now in
    let ds = g.G.Globals.metas c.args.globals.now in
    let found : slice_get ds c.in-Meta.m ≡ Some c.in-Some-meta.decl.now = search rules in
    let params : length c.as_slice-in-Some-meta.result.now ≡ length c.in-Some-meta.decl.now.ctx = search rules in
    IfOk-weaker c.unfold-in-Some-meta.result _ _
    (λ o p. meta_step means is ds (means c.args.head) c.in-Meta.m c.in-Meta.args.now c.in-Some-meta.decl.now c.args.waiting.now.items o c.in-Meta.ensures.tree found (rw (sym params) (p means)))
    c.unfold-in-Some-meta.ensures.step

pub returns-in-Some-meta-clause-held : goal.returns-in-Some-meta-clause-held
returns-in-Some-meta-clause-held g c =
    let holds = g.T.Terms.holds c.args.terms.now in
    let ds = g.G.Globals.metas c.args.globals.now in
    let found : slice_get ds c.in-Meta.m ≡ Some c.in-Some-meta.decl.now = search rules in
    let held = decl_found_held holds ds c.in-Meta.m c.in-Some-meta.decl.now c.requires.globals.metas_held found in
    IfOk-weaker c.unfold-in-Some-meta.result _ _
    (λ o p. reduct_held holds c.in-Some-meta.decl.now.value c.in-Meta.args.now o held.value c.in-Meta.ensures.held p)
    c.unfold-in-Some-meta.ensures.parts
