use Rattle.meta_laws.proofs.Growing.{keeping_is_preorder}
use Rattle.meta_laws.proofs.keeping_is_preorder.Goals as goal

pub returns : goal.returns
returns c = keeping_is_preorder
