use Rattle.std.proofs.Common.{◌≡◌, [], Ok, ◌∙◌, ap, refl, sym, subst, None}
use Rattle.ld_trees.specs.Term.{Term}
use Rattle.ld_terms.specs.Items.{item_named}
use Rattle.ld_terms.specs.Names.{IsTextName}
use Rattle.ld_terms.specs.declared.globals.Item.{Item}
use Rattle.term_syntax.specs.ReadsBack.{IsContext}
use Rattle.conversion.specs.Globals.{AreLocals}
use Rattle.meta_context.specs.Entered.{names_of}
use Rattle.meta_context.specs.Plain.{plain_locals}
use Rattle.std.specs.Option.{option_map}
use Rattle.book_reader.specs.Items.{parameters, typed, optional_body, new_name}
use Rattle.book_reader.proofs.Follow.{residual, shows_more, shows_after, after}
use Rattle.book_reader.proofs.Meanings.{keeps_after, read_later, items_held, locals_kept, locals_held, read_kept, same_items, name_new, name_taken}
use Rattle.book_reader.proofs.items.check_item.Goals as goal

pub returns-in_err-new_name-clause-value : goal.returns-in_err-new_name-clause-value
returns-in_err-new_name-clause-value g c Δ d =
    let h = g.T.Terms.holds c.args.terms.now in
    let m = g.T.Terms.means c.args.terms.now in
    residual h m _ _ _ c.from_residual.result c.in_err-new_name.field-0.0 c.from_residual.ensures.1
    (shows_more h m (new_name Δ c.args.source.now.name c.args.fuel.now) _ c.in_err-new_name.field-0.0 (name_taken h m c.args.env.now Δ c.args.source.now.name c.args.fuel.now c.in_err-new_name.field-0.0 d c.in_err-new_name.ensures))

pub returns-in_err-params-clause-value : goal.returns-in_err-params-clause-value
returns-in_err-params-clause-value g c Δ d =
    let m0 = g.T.Terms.means c.args.terms.now in
    let h = g.T.Terms.holds c.check_parameters.new.terms in
    let m = g.T.Terms.means c.check_parameters.new.terms in
    let fresh = name_new m0 c.args.env.now Δ c.args.source.now.name c.args.fuel.now d c.in_ok-new_name.ensures in
    residual h m _ _ _ c.from_residual-in_err-params.result c.in_err-params.field-0.0 c.from_residual-in_err-params.ensures.1
    (shows_after h m (new_name Δ c.args.source.now.name c.args.fuel.now) tt c.args.fuel.now _ c.in_err-params.field-0.0 fresh
    (shows_more h m (parameters Δ [] c.args.source.now.params c.args.fuel.now) _ c.in_err-params.field-0.0 (rw (← c.as_slice.ensures) (c.in_err-params.ensures.value Δ d))))

pub check_type-requires-clause-items : goal.check_type-requires-clause-items
check_type-requires-clause-items g c = items_held _ _ _ (g.T.Terms.means c.check_parameters.new.terms) c.check_parameters.ensures.kept c.args.env.now c.requires.items

pub returns-in_err-ty-clause-value : goal.returns-in_err-ty-clause-value
returns-in_err-ty-clause-value g c Δ d =
    let h0 = g.T.Terms.holds c.args.terms.now in
    let m0 = g.T.Terms.means c.args.terms.now in
    let h1 = g.T.Terms.holds c.check_parameters.new.terms in
    let m1 = g.T.Terms.means c.check_parameters.new.terms in
    let h = g.T.Terms.holds c.check_type.new.terms in
    let m = g.T.Terms.means c.check_type.new.terms in
    let n = c.args.fuel.now in
    let Γ = plain_locals m1 c.in_ok-params.params in
    let fresh = name_new m0 c.args.env.now Δ c.args.source.now.name n d c.in_ok-new_name.ensures in
    let r1 = read_later h0 m0 h1 m1 c.check_parameters.ensures.kept c.args.env.now c.in_ok-params.params Δ c.requires.items d in
    residual h m _ _ _ c.from_residual-in_err-ty.result c.in_err-ty.field-0.0 c.from_residual-in_err-ty.ensures.1
    (shows_after h m (new_name Δ c.args.source.now.name n) tt n _ c.in_err-ty.field-0.0 fresh
    (shows_after h m (parameters Δ [] c.args.source.now.params n) Γ c.check_parameters.new.fuel _ c.in_err-ty.field-0.0 (rw (← c.as_slice.ensures) (c.in_ok-params.ensures.value Δ d))
    (shows_more h m (typed Δ Γ c.args.source.now.ty c.check_parameters.new.fuel) _ c.in_err-ty.field-0.0 (c.in_err-ty.ensures.value Δ Γ r1))))

pub check_optional-requires-clause-items : goal.check_optional-requires-clause-items
check_optional-requires-clause-items g c =
    items_held _ _ _ (g.T.Terms.means c.check_type.new.terms) c.check_type.ensures.kept c.args.env.now
    (items_held _ _ _ (g.T.Terms.means c.check_parameters.new.terms) c.check_parameters.ensures.kept c.args.env.now c.requires.items)

pub check_optional-requires-clause-params : goal.check_optional-requires-clause-params
check_optional-requires-clause-params g c = locals_held _ _ _ (g.T.Terms.means c.check_type.new.terms) c.check_type.ensures.kept c.in_ok-params.params c.in_ok-params.ensures.held

pub returns-in_err-body-clause-value : goal.returns-in_err-body-clause-value
returns-in_err-body-clause-value g c Δ d =
    let h0 = g.T.Terms.holds c.args.terms.now in
    let m0 = g.T.Terms.means c.args.terms.now in
    let h1 = g.T.Terms.holds c.check_parameters.new.terms in
    let m1 = g.T.Terms.means c.check_parameters.new.terms in
    let h2 = g.T.Terms.holds c.check_type.new.terms in
    let m2 = g.T.Terms.means c.check_type.new.terms in
    let h = g.T.Terms.holds c.check_optional.new.terms in
    let m = g.T.Terms.means c.check_optional.new.terms in
    let n = c.args.fuel.now in
    let Γ = plain_locals m1 c.in_ok-params.params in
    let T = m2 c.in_ok-ty.ty in
    let fresh = name_new m0 c.args.env.now Δ c.args.source.now.name n d c.in_ok-new_name.ensures in
    let r1 = read_later h0 m0 h1 m1 c.check_parameters.ensures.kept c.args.env.now c.in_ok-params.params Δ c.requires.items d in
    let r2 = read_kept h1 m1 h2 m2 c.check_type.ensures.kept c.args.env.now c.in_ok-params.params Δ Γ (items_held h0 m0 h1 m1 c.check_parameters.ensures.kept c.args.env.now c.requires.items) c.in_ok-params.ensures.held r1 in
    residual h m _ _ _ c.from_residual-in_err-body.result c.in_err-body.field-0.0 c.from_residual-in_err-body.ensures.1
    (shows_after h m (new_name Δ c.args.source.now.name n) tt n _ c.in_err-body.field-0.0 fresh
    (shows_after h m (parameters Δ [] c.args.source.now.params n) Γ c.check_parameters.new.fuel _ c.in_err-body.field-0.0 (rw (← c.as_slice.ensures) (c.in_ok-params.ensures.value Δ d))
    (shows_after h m (typed Δ Γ c.args.source.now.ty c.check_parameters.new.fuel) T c.check_type.new.fuel _ c.in_err-body.field-0.0 (c.in_ok-ty.ensures.value Δ Γ r1)
    (shows_more h m (optional_body Δ Γ T c.args.source.now.body c.check_type.new.fuel) _ c.in_err-body.field-0.0 (c.in_err-body.ensures.value Δ Γ T r2 refl)))))

pub returns-clause-value : goal.returns-clause-value
returns-clause-value g c Δ d =
    let h0 = g.T.Terms.holds c.args.terms.now in
    let m0 = g.T.Terms.means c.args.terms.now in
    let h1 = g.T.Terms.holds c.check_parameters.new.terms in
    let m1 = g.T.Terms.means c.check_parameters.new.terms in
    let h2 = g.T.Terms.holds c.check_type.new.terms in
    let m2 = g.T.Terms.means c.check_type.new.terms in
    let h = g.T.Terms.holds c.check_optional.new.terms in
    let m = g.T.Terms.means c.check_optional.new.terms in
    let n = c.args.fuel.now in
    let left = c.check_optional.new.fuel in
    let params = c.in_ok-params.params in
    let Γ = plain_locals m1 params in
    let T = m2 c.in_ok-ty.ty in
    let M = option_map m c.in_ok-body.body in
    let fresh = name_new m0 c.args.env.now Δ c.args.source.now.name n d c.in_ok-new_name.ensures in
    let r1 = read_later h0 m0 h1 m1 c.check_parameters.ensures.kept c.args.env.now c.in_ok-params.params Δ c.requires.items d in
    let r2 = read_kept h1 m1 h2 m2 c.check_type.ensures.kept c.args.env.now params Δ Γ (items_held h0 m0 h1 m1 c.check_parameters.ensures.kept c.args.env.now c.requires.items) c.in_ok-params.ensures.held r1 in
    let held2 = locals_held h1 m1 h2 m2 c.check_type.ensures.kept params c.in_ok-params.ensures.held in
    let entries = ap (plain_locals m) c.into_locals.ensures.value ∙ locals_kept h2 m2 h m c.check_optional.ensures.kept params held2 ∙ locals_kept h1 m1 h2 m2 c.check_type.ensures.kept params c.in_ok-params.ensures.held in
    after (new_name Δ c.args.source.now.name n) tt n _ fresh
    ∙ after (parameters Δ [] c.args.source.now.params n) Γ c.check_parameters.new.fuel _ (rw (← c.as_slice.ensures) (c.in_ok-params.ensures.value Δ d))
    ∙ after (typed Δ Γ c.args.source.now.ty c.check_parameters.new.fuel) T c.check_type.new.fuel _ (c.in_ok-ty.ensures.value Δ Γ r1)
    ∙ after (optional_body Δ Γ T c.args.source.now.body c.check_type.new.fuel) M left _ (c.in_ok-body.ensures.value Δ Γ T r2 refl)
    ∙ ap (λ (i : Item Term). Ok (i, left)) (same_items _ _ Γ (plain_locals m c.into_locals.result) T (m c.in_ok-ty.ty) M M (sym c.in_ok-name.ensures) (sym entries) (sym (c.check_optional.ensures.kept c.in_ok-ty.ty c.in_ok-ty.ensures.held).1) refl)

pub returns-clause-held : goal.returns-clause-held
returns-clause-held g c =
    let h1 = g.T.Terms.holds c.check_parameters.new.terms in
    let m1 = g.T.Terms.means c.check_parameters.new.terms in
    let h2 = g.T.Terms.holds c.check_type.new.terms in
    let m2 = g.T.Terms.means c.check_type.new.terms in
    let h = g.T.Terms.holds c.check_optional.new.terms in
    let m = g.T.Terms.means c.check_optional.new.terms in
    let held2 = locals_held h1 m1 h2 m2 c.check_type.ensures.kept c.in_ok-params.params c.in_ok-params.ensures.held in
    record {
      params = subst (AreLocals h) (sym c.into_locals.ensures.value) (locals_held h2 m2 h m c.check_optional.ensures.kept c.in_ok-params.params held2);
      ty = (c.check_optional.ensures.kept c.in_ok-ty.ty c.in_ok-ty.ensures.held).0;
      body = c.in_ok-body.ensures.held;
    }

pub returns-clause-may : goal.returns-clause-may
returns-clause-may g c = record {
  named = subst IsTextName (sym c.in_ok-name.ensures) c.requires.named.item;
  fresh = subst (λ n. item_named c.args.env.now n ≡ None) (sym c.in_ok-name.ensures) c.in_ok-new_name.ensures;
  params = subst (λ ls. IsContext (names_of ls)) (sym c.into_locals.ensures.value) c.into_locals.ensures.named;
}

pub returns-clause-kept : goal.returns-clause-kept
returns-clause-kept g c =
    keeps_after _ _ _ _ (g.T.Terms.means c.check_type.new.terms) _
    (keeps_after _ _ _ _ (g.T.Terms.means c.check_parameters.new.terms) _ c.check_parameters.ensures.kept c.check_type.ensures.kept) c.check_optional.ensures.kept
