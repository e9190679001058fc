use Rattle.elaboration.proofs.Order.{holes_are_numbered_in_text_order}
use Rattle.elaboration.proofs.laws.holes_are_numbered_in_text_order.Goals as goal

pub returns : goal.returns
returns c = holes_are_numbered_in_text_order
