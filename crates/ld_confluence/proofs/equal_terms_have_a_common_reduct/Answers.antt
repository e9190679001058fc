use Rattle.ld_confluence.proofs.Confluence.{confluence}
use Rattle.ld_confluence.proofs.equal_terms_have_a_common_reduct.Goals as goal

pub returns : goal.returns
returns c = confluence
