use Rattle.std.proofs.Common.{[], ◌∷◌, map, refl, ap, ◌∙◌, arith}
use Rattle.std.proofs.lemmas.List.{map-append}
use Rattle.state_print.proofs.Turns.{next_number}
use Rattle.state_print.proofs.numbers.numbers_json.Goals as goal

pub loop-n-preserved : goal.loop-n-preserved
loop-n-preserved c =
    ap (map (λ x. x.items)) c.in_ok-push.ensures.items
    ∙ map-append (λ x. x.items) c.loop-n.texts.items (c.in_ok-number_text.field-0 ∷ [])
    ∙ next_number c.args.numbers.now c.loop-n.n-index _ (map (λ x. x.items) c.loop-n.texts.items) c.in_ok-number_text.field-0.items (omega arith) refl c.loop-n.invariant c.in_ok-number_text.ensures
