use Rattle.std.proofs.Common.{◌∙◌, ap, ap₂, sym, subst}
use Rattle.ld_trees.specs.Term.{Term}
use Rattle.unification.specs.Steps.{Gave, Refused}
use Rattle.pattern_unify.specs.Walks.{IsSpent}
use Rattle.move_set.specs.Refusals.{NoOccurrence}
use Rattle.move_set.specs.Replacing.{occurrences, replaced}
use Rattle.move_set.proofs.TypeMoves.{open_short, open_none, open_some}
use Rattle.move_set.proofs.replacing.open.Goals as goal

pub returns-then-not-spend_occurrences-clause-value : goal.returns-then-not-spend_occurrences-clause-value
returns-then-not-spend_occurrences-clause-value g c M t eM et =
    let a = c.args.name.now in
    let n = c.args.fuel.now in
    let left = c.spend_occurrences.new.fuel in
    let spent : IsSpent (occurrences a t) n left c.spend_occurrences.result = subst (λ t. IsSpent (occurrences a t) n left c.spend_occurrences.result) et c.spend_occurrences.ensures in
    open_short a M t n left c.spend_occurrences.result c.if-not-spend_occurrences.true spent

pub returns-then-left-before-clause-value : goal.returns-then-left-before-clause-value
returns-then-left-before-clause-value g c M t eM et =
    let a = c.args.name.now in
    let n = c.args.fuel.now in
    let left = c.spend_occurrences.new.fuel in
    let spent : IsSpent (occurrences a t) n left c.spend_occurrences.result = subst (λ t. IsSpent (occurrences a t) n left c.spend_occurrences.result) et c.spend_occurrences.ensures in
    open_none a M t n left c.spend_occurrences.result c.if-not-spend_occurrences.false spent (sym c.left.ensures ∙ c.if-left-before.true ∙ c.left-before.ensures) ∙ ap (λ x. Refused (NoOccurrence x) left) (sym c.in_ok-name.ensures)

pub returns-clause-value : goal.returns-clause-value
returns-clause-value g c M t eM et =
    let a = c.args.name.now in
    let n = c.args.fuel.now in
    let left = c.spend_occurrences.new.fuel in
    let spent : IsSpent (occurrences a t) n left c.spend_occurrences.result = subst (λ t. IsSpent (occurrences a t) n left c.spend_occurrences.result) et c.spend_occurrences.ensures in
    open_some a M t n left c.spend_occurrences.result c.if-not-spend_occurrences.false spent (λ q. c.if-left-before.false (c.left.ensures ∙ q ∙ sym c.left-before.ensures))
    ∙ ap (λ (x : Term). Gave x left) (sym (c.in_ok-replace.ensures.tree ∙ ap₂ (replaced a) eM et))
