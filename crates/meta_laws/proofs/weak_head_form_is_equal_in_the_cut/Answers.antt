use Rattle.meta_laws.proofs.Engines.{weak_head_form_is_equal_in_the_cut}
use Rattle.meta_laws.proofs.weak_head_form_is_equal_in_the_cut.Goals as goal

pub returns : goal.returns
returns c = weak_head_form_is_equal_in_the_cut
