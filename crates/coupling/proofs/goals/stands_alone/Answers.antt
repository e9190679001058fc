use Rattle.std.proofs.Common.{◌≡◌, ℕ, Bool, true, length, arith, sym, ◌∙◌}
use Rattle.std.proofs.lemmas.Bool.{false≢true}
use Rattle.goal_state.specs.State.{plain_metas}
use Rattle.goal_state.proofs.Lists.{some_passes}
use Rattle.coupling.specs.Coupling.{is_coupled}
use Rattle.coupling.proofs.goals.stands_alone.Goals as goal

pub returns-then-is_coupled_in_place : goal.returns-then-is_coupled_in_place
returns-then-is_coupled_in_place g c =
    let p : ℕ → Bool = is_coupled (plain_metas (g.T.Terms.means c.args.terms.now) c.args.metas.now) c.args.g in
    let passes : p c.loop-h.h ≡ true = sym c.is_coupled_in_place.ensures ∙ c.if-is_coupled_in_place.true in
    (λ t. absurd (false≢true t), λ e. absurd (some_passes p (length c.args.metas.now) c.loop-h.h (omega arith) passes e))
