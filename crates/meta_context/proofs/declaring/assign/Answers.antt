use Rattle.meta_context.proofs.Numbers.{below_length}
use Rattle.meta_context.proofs.declaring.assign.Goals as goal

pub with_value-requires : goal.with_value-requires
with_value-requires g c = below_length c.args.metas.now c.args.m c.requires.open.0 c.requires.open.1
