use Rattle.std.proofs.Common.{Ok, length, refl, ◌∙◌, ap, sym}
use Rattle.ld_trees.specs.Term.{Term}
use Rattle.kernel_check.specs.Inference.{infer}
use Rattle.meta_context.specs.Plain.{rules_env, rules_ctx}
use Rattle.book_reader.specs.Items.{resolved, kernel, fits}
use Rattle.book_reader.proofs.Follow.{residual, shows_more, shows_after, after}
use Rattle.book_reader.proofs.Meanings.{read_kept, read_length, items_held, locals_held}
use Rattle.book_reader.proofs.items.check_body.Goals as goal

pub returns-in_err-body-clause-value : goal.returns-in_err-body-clause-value
returns-in_err-body-clause-value g c Δ Γ A r e =
    let h = g.T.Terms.holds c.resolve.new.terms in
    let m = g.T.Terms.means c.resolve.new.terms in
    residual h m _ _ _ c.from_residual.result c.in_err-body.field-0.0 c.from_residual.ensures.1
    (shows_more h m (resolved Δ Γ c.args.text.now c.args.fuel.now) _ c.in_err-body.field-0.0 (c.in_err-body.ensures.value Δ Γ c.args.fuel.now r))

pub returns-in_err-found-clause-value : goal.returns-in_err-found-clause-value
returns-in_err-found-clause-value g c Δ Γ A r e =
    let m1 = g.T.Terms.means c.resolve.new.terms in
    let h = g.T.Terms.holds c.find_type.new.terms in
    let m = g.T.Terms.means c.find_type.new.terms in
    let r1 = read_kept (g.T.Terms.holds c.args.terms.now) (g.T.Terms.means c.args.terms.now) (g.T.Terms.holds c.resolve.new.terms) m1 c.resolve.ensures.kept c.args.env.now c.args.params.now Δ Γ c.requires.items c.requires.params r in
    let M = m1 c.in_ok-body.body in
    residual h m _ _ _ c.from_residual-in_err-found.result c.in_err-found.field-0.0 c.from_residual-in_err-found.ensures.1
    (shows_after h m (resolved Δ Γ c.args.text.now c.args.fuel.now) M c.args.fuel.now _ c.in_err-found.field-0.0 (c.in_ok-body.ensures.value Δ Γ c.args.fuel.now r)
    (shows_more h m (kernel (infer (rules_env Δ) (rules_ctx Γ) M) c.args.fuel.now) _ c.in_err-found.field-0.0 (c.in_err-found.ensures.value Δ Γ M r1 refl)))

pub returns-in_err-convert-clause-value : goal.returns-in_err-convert-clause-value
returns-in_err-convert-clause-value g c Δ Γ A r e =
    let h0 = g.T.Terms.holds c.args.terms.now in
    let m0 = g.T.Terms.means c.args.terms.now in
    let h1 = g.T.Terms.holds c.resolve.new.terms in
    let m1 = g.T.Terms.means c.resolve.new.terms in
    let h2 = g.T.Terms.holds c.find_type.new.terms in
    let m2 = g.T.Terms.means c.find_type.new.terms in
    let h = g.T.Terms.holds c.convert.new.terms in
    let m = g.T.Terms.means c.convert.new.terms in
    let r1 = read_kept h0 m0 h1 m1 c.resolve.ensures.kept c.args.env.now c.args.params.now Δ Γ c.requires.items c.requires.params r in
    let r2 = read_kept h1 m1 h2 m2 c.find_type.ensures.kept c.args.env.now c.args.params.now Δ Γ (items_held h0 m0 h1 m1 c.resolve.ensures.kept c.args.env.now c.requires.items) (locals_held h0 m0 h1 m1 c.resolve.ensures.kept c.args.params.now c.requires.params) r1 in
    let k1 = c.resolve.ensures.kept c.args.ty c.requires.ty in
    let k2 = c.find_type.ensures.kept c.args.ty k1.0 in
    let M = m1 c.in_ok-body.body in
    let F = m2 c.in_ok-found.found in
    let depth = ap (λ ls. length ls) c.as_slice.ensures.value ∙ read_length m0 c.args.env.now c.args.params.now Δ Γ r in
    residual h m _ _ _ c.from_residual-in_err-convert.result c.in_err-convert.field-0.0 c.from_residual-in_err-convert.ensures.1
    (shows_after h m (resolved Δ Γ c.args.text.now c.args.fuel.now) M c.args.fuel.now _ c.in_err-convert.field-0.0 (c.in_ok-body.ensures.value Δ Γ c.args.fuel.now r)
    (shows_after h m (kernel (infer (rules_env Δ) (rules_ctx Γ) M) c.args.fuel.now) F c.find_type.new.fuel _ c.in_err-convert.field-0.0 (c.in_ok-found.ensures.value Δ Γ M r1 refl)
    (shows_more h m (fits Δ (length Γ) F A c.find_type.new.fuel) _ c.in_err-convert.field-0.0 (rw (← depth) (c.in_err-convert.ensures.value Δ F A r2.items_are refl (k2.1 ∙ k1.1 ∙ e))))))

pub returns-clause-value : goal.returns-clause-value
returns-clause-value g c Δ Γ A r e =
    let h0 = g.T.Terms.holds c.args.terms.now in
    let m0 = g.T.Terms.means c.args.terms.now in
    let h1 = g.T.Terms.holds c.resolve.new.terms in
    let m1 = g.T.Terms.means c.resolve.new.terms in
    let h2 = g.T.Terms.holds c.find_type.new.terms in
    let m2 = g.T.Terms.means c.find_type.new.terms in
    let r1 = read_kept h0 m0 h1 m1 c.resolve.ensures.kept c.args.env.now c.args.params.now Δ Γ c.requires.items c.requires.params r in
    let r2 = read_kept h1 m1 h2 m2 c.find_type.ensures.kept c.args.env.now c.args.params.now Δ Γ (items_held h0 m0 h1 m1 c.resolve.ensures.kept c.args.env.now c.requires.items) (locals_held h0 m0 h1 m1 c.resolve.ensures.kept c.args.params.now c.requires.params) r1 in
    let k1 = c.resolve.ensures.kept c.args.ty c.requires.ty in
    let k2 = c.find_type.ensures.kept c.args.ty k1.0 in
    let M = m1 c.in_ok-body.body in
    let F = m2 c.in_ok-found.found in
    let b2 = c.find_type.ensures.kept c.in_ok-body.body c.in_ok-body.ensures.held in
    let b3 = c.convert.ensures.kept c.in_ok-body.body b2.0 in
    let depth = ap (λ ls. length ls) c.as_slice.ensures.value ∙ read_length m0 c.args.env.now c.args.params.now Δ Γ r in
    after (resolved Δ Γ c.args.text.now c.args.fuel.now) M c.args.fuel.now _ (c.in_ok-body.ensures.value Δ Γ c.args.fuel.now r)
    ∙ after (kernel (infer (rules_env Δ) (rules_ctx Γ) M) c.args.fuel.now) F c.find_type.new.fuel _ (c.in_ok-found.ensures.value Δ Γ M r1 refl)
    ∙ after (fits Δ (length Γ) F A c.find_type.new.fuel) tt c.convert.new.fuel _ (rw (← depth) (c.in_ok-convert.ensures.value Δ F A r2.items_are refl (k2.1 ∙ k1.1 ∙ e)))
    ∙ ap (λ (t : Term). Ok (t, c.convert.new.fuel)) (sym (b3.1 ∙ b2.1))
