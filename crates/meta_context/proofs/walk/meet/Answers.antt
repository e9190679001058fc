use Rattle.std.proofs.Common.{◌<◌, length, refl, sym, arith}
use Rattle.meta_context.specs.Walks.{unknown}
use Rattle.meta_context.proofs.Entering.{none_entered}
use Rattle.meta_context.proofs.Numbers.{below_length}
use Rattle.meta_context.proofs.walk.meet.Goals as goal

pub meet_declared-requires : goal.meet_declared-requires
meet_declared-requires g c =
    let below : c.args.k < length c.args.metas.now = below_length c.args.metas.now c.args.k c.in-Some.decl.now (sym c.in-Some.ensures) in
    let sized = c.requires in
    omega arith

pub returns-in-Some : goal.returns-in-Some
returns-in-Some g c = c.meet_declared.ensures c.args.metas.now (sym c.in-Some.ensures)

pub returns-in-None : goal.returns-in-None
returns-in-None g c = record { more = _; parts = none_entered _ _; meets = unknown (sym c.in-None.ensures) refl refl }
