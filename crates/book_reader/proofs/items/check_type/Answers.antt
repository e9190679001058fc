use Rattle.std.proofs.Common.{Ok, refl, ◌∙◌, ap, sym}
use Rattle.ld_trees.specs.Term.{Term}
use Rattle.book_reader.specs.Items.{resolved, sorted}
use Rattle.book_reader.proofs.Follow.{residual, shows_more, shows_after, after}
use Rattle.book_reader.proofs.Meanings.{read_kept}
use Rattle.book_reader.proofs.items.check_type.Goals as goal

pub returns-in_err-ty-clause-value : goal.returns-in_err-ty-clause-value
returns-in_err-ty-clause-value g c Δ Γ r =
    let h = g.T.Terms.holds c.resolve.new.terms in
    let m = g.T.Terms.means c.resolve.new.terms in
    residual h m _ _ _ c.from_residual.result c.in_err-ty.field-0.0 c.from_residual.ensures.1
    (shows_more h m (resolved Δ Γ c.args.text.now c.args.fuel.now) _ c.in_err-ty.field-0.0 (c.in_err-ty.ensures.value Δ Γ c.args.fuel.now r))

pub returns-in_err-find_sort-clause-value : goal.returns-in_err-find_sort-clause-value
returns-in_err-find_sort-clause-value g c Δ Γ r =
    let m1 = g.T.Terms.means c.resolve.new.terms in
    let h = g.T.Terms.holds c.find_sort.new.terms in
    let m = g.T.Terms.means c.find_sort.new.terms in
    let r1 = read_kept (g.T.Terms.holds c.args.terms.now) (g.T.Terms.means c.args.terms.now) (g.T.Terms.holds c.resolve.new.terms) m1 c.resolve.ensures.kept c.args.env.now c.args.params.now Δ Γ c.requires.items c.requires.params r in
    residual h m _ _ _ c.from_residual-in_err-find_sort.result c.in_err-find_sort.field-0.0 c.from_residual-in_err-find_sort.ensures.1
    (shows_after h m (resolved Δ Γ c.args.text.now c.args.fuel.now) (m1 c.in_ok-ty.ty) c.args.fuel.now _ c.in_err-find_sort.field-0.0 (c.in_ok-ty.ensures.value Δ Γ c.args.fuel.now r)
    (shows_more h m (sorted Δ Γ (m1 c.in_ok-ty.ty) c.args.fuel.now) _ c.in_err-find_sort.field-0.0 (c.in_err-find_sort.ensures.value Δ Γ (m1 c.in_ok-ty.ty) r1 refl)))

pub returns-clause-value : goal.returns-clause-value
returns-clause-value g c Δ Γ r =
    let m1 = g.T.Terms.means c.resolve.new.terms in
    let r1 = read_kept (g.T.Terms.holds c.args.terms.now) (g.T.Terms.means c.args.terms.now) (g.T.Terms.holds c.resolve.new.terms) m1 c.resolve.ensures.kept c.args.env.now c.args.params.now Δ Γ c.requires.items c.requires.params r in
    let same = (c.find_sort.ensures.kept c.in_ok-ty.ty c.in_ok-ty.ensures.held).1 in
    after (resolved Δ Γ c.args.text.now c.args.fuel.now) (m1 c.in_ok-ty.ty) c.args.fuel.now _ (c.in_ok-ty.ensures.value Δ Γ c.args.fuel.now r)
    ∙ after (sorted Δ Γ (m1 c.in_ok-ty.ty) c.args.fuel.now) tt c.find_sort.new.fuel _ (c.in_ok-find_sort.ensures.value Δ Γ (m1 c.in_ok-ty.ty) r1 refl)
    ∙ ap (λ (t : Term). Ok (t, c.find_sort.new.fuel)) (sym same)
