use Rattle.std.proofs.Common.{ℕ, List, Contains, ap, ◌∙◌, subst, ⊎_elim}
use Rattle.turn_lock.proofs.Lists.{none_in_nil}
use Rattle.turn_lock.proofs.tests.sixty_four_passes_come_and_go.Goals as goal

pub close-story-requires-clause-numbers : goal.close-story-requires-clause-numbers
close-story-requires-clause-numbers g c = λ n there.
    ⊎_elim
    (λ (a : Contains c.make_step.new.pass.gave n). absurd (none_in_nil n (subst (λ (l : List ℕ). Contains l n) (ap (λ p. p.gave) c.make_step.ensures ∙ ap (λ p. p.gave) c.in_ok-shared.ensures.pass) a)))
    (λ (b : Contains c.come_and_go.new.zero.took n). b)
    (c.come_and_go.ensures.back n there)
