use Rattle.std.proofs.Common.{arith}
use Rattle.std.specs.Arc.{arc_value}
use Rattle.shared_map.specs.Grown.{parts_of}
use Rattle.shared_map.proofs.Parts.{put_together, few_parts, some_parts}
use Rattle.shared_map.proofs.part.with_part.Goals as goal

pub returns-clause-parts : goal.returns-clause-parts
returns-clause-parts g c = put_together arc_value c.args.parts.now c.args.at (parts_of c.args.grown) _ _ _ (omega arith) (rw c.in_ok-made.ensures.items at c.in_ok-share.ensures) c.in_ok-add.ensures c.in_ok-share-2.ensures

pub returns-clause-few : goal.returns-clause-few
returns-clause-few g c = few_parts arc_value c.share-2.new.into.items c.args.parts.now c.args.at c.args.grown c.requires (put_together arc_value c.args.parts.now c.args.at (parts_of c.args.grown) _ _ _ (omega arith) (rw c.in_ok-made.ensures.items at c.in_ok-share.ensures) c.in_ok-add.ensures c.in_ok-share-2.ensures)

pub returns-clause-some : goal.returns-clause-some
returns-clause-some g c = some_parts arc_value c.share-2.new.into.items c.args.parts.now c.args.at c.args.grown c.requires (put_together arc_value c.args.parts.now c.args.at (parts_of c.args.grown) _ _ _ (omega arith) (rw c.in_ok-made.ensures.items at c.in_ok-share.ensures) c.in_ok-add.ensures c.in_ok-share-2.ensures)
