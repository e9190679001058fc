use Rattle.std.proofs.Common.{ap}
use Rattle.shared_board.proofs.KeptStates.{recalled_ok, promoted_are}
use Rattle.shared_board.proofs.state_cache.StateCache.recall_named.Goals as goal

pub returns-in-Some-clause-found : goal.returns-in-Some-clause-found
returns-in-Some-clause-found g c = λ t are. rw c.in-Some.is (recalled_ok t c.args.self.now.states.entries c.in-Some.id c.recall_state.result c.recall_state.ensures.found are)

pub returns-in-Some-clause-kept : goal.returns-in-Some-clause-kept
returns-in-Some-clause-kept g c = λ t are. rw (ap (λ k. k.entries) c.recall_state.ensures.kept) (promoted_are t c.args.self.now.states.entries c.in-Some.id are)
