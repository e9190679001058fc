use Rattle.std.proofs.Common.{◌∷◌, ◌++◌, [], map, reverse, sym, ap, ap₂, ◌∙◌}
use Rattle.std.proofs.lemmas.List.{map-append}
use Rattle.json.specs.Print.{quoted}
use Rattle.command_set.proofs.Shown.{next_name}
use Rattle.command_set.proofs.env_inspect.quoted_names.Goals as goal

pub loop-place-preserved : goal.loop-place-preserved
loop-place-preserved g c =
    let q = c.in_ok-quoted_name-in-Some in
    ap (map (λ x. x.items)) c.in_ok-push-in-Some.ensures.items ∙ map-append (λ x. x.items) c.loop-place.names.items (q.field-0 ∷ [])
    ∙ ap₂ (λ a b. a ++ b ∷ []) c.loop-place.invariant q.ensures
    ∙ sym (next_name (λ i. quoted i.name) (reverse c.args.items.now) c.loop-place.place c.in-Some.item.now c.in-Some.ensures)
