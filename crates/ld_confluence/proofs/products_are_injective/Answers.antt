use Rattle.ld_confluence.proofs.Confluence.{products_are_injective}
use Rattle.ld_confluence.proofs.products_are_injective.Goals as goal

pub returns : goal.returns
returns c = products_are_injective
