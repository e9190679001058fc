use Rattle.std.proofs.Common.{ap}
use Rattle.turn_lock.proofs.Closing.{ends}
use Rattle.turn_lock.proofs.shared.Shared.close.Goals as goal

pub returns-clause-value : goal.returns-clause-value
returns-clause-value g c = (ends _ _ _ _ _ _ _ _ _ _ _ _ _ (ap (λ m. m.0) c.split_retired-retired.ensures.seat.2) c.pass.view_is c.self.view_is c.requires.own c.requires.root c.requires.numbers c.close_with-closed.ensures.values.2 _ c.take-value.ensures.value).0

pub returns-clause-made : goal.returns-clause-made
returns-clause-made g c = (ends _ _ _ _ _ _ _ _ _ _ _ _ _ (ap (λ m. m.0) c.split_retired-retired.ensures.seat.2) c.pass.view_is c.self.view_is c.requires.own c.requires.root c.requires.numbers c.close_with-closed.ensures.values.2 _ c.take-value.ensures.value).1
