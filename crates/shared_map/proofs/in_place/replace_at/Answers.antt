use Rattle.std.specs.Arc.{arc_value}
use Rattle.shared_map.proofs.Parts.{one_in_place, two_in_place}
use Rattle.shared_map.proofs.in_place.replace_at.Goals as goal

pub returns-in_ok-parts-in-One-clause-parts : goal.returns-in_ok-parts-in-One-clause-parts
returns-in_ok-parts-in-One-clause-parts g c =
    one_in_place arc_value c.args.parts.now.items c.args.at c.in_ok-parts-in-One.field-0 c.in-One.part c.args.grown c.requires c.in-One.is c.in_ok-parts-in-One.ensures.ok

pub returns-in_ok-insert-in-Two-clause-parts : goal.returns-in_ok-insert-in-Two-clause-parts
returns-in_ok-insert-in-Two-clause-parts g c =
    two_in_place arc_value c.args.parts.now.items c.insert.new.self.items c.args.at c.in_ok-part-in-Two.part c.in_ok-next-in-Two.next c.in-Two.part c.in-Two.next c.args.grown c.requires c.in-Two.is
    c.in_ok-part-in-Two.ensures.ok c.in_ok-next-in-Two.ensures.ok c.in_ok-insert-in-Two.ensures.items
