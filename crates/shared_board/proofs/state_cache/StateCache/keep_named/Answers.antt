use Rattle.std.proofs.Common.{◌≡◌, ℕ, Option, Some, subst}
use Rattle.state_tree.specs.Server.{state_at}
use Rattle.state_tree.specs.TreeModel.{HeldAs}
use Rattle.shared_board.proofs.KeptStates.{keeps_or_puts}
use Rattle.shared_board.proofs.state_cache.StateCache.keep_named.Goals as goal

pub returns-in-Some-Some : goal.returns-in-Some-Some
returns-in-Some-Some g c = record {
  kept = λ t are held.
      let there : HeldAs (state_at t c.args.named) (Some c.in-Some-Some.state) = subst (HeldAs (state_at t c.args.named)) c.in-Some-Some.is-1 held in
      keeps_or_puts t c.args.self.now.states c.keep_state.new.self.states c.in-Some-Some.id c.in-Some-Some.state c.keep_state.ensures are (subst (λ (named : Option ℕ). state_at t named ≡ Some c.in-Some-Some.state) c.in-Some-Some.is-0 there);
}
