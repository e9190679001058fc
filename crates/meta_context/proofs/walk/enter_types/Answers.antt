use Rattle.std.proofs.Common.{◌≡◌, refl, ◌∙◌, length, arith}
use Rattle.meta_context.specs.Walks.{types_of}
use Rattle.meta_context.proofs.Entering.{none_entered, next_entered, all_entered, length-types, type_read}
use Rattle.meta_context.proofs.walk.enter_types.Goals as goal

pub loop-entry-init : goal.loop-entry-init
loop-entry-init g c = record { entered = none_entered _ _; met = refl }

pub loop-entry-preserved : goal.loop-entry-preserved
loop-entry-preserved g c =
    let long : length (types_of c.args.entries.now) ≡ length c.args.entries.now = length-types c.args.entries.now in
    record {
      entered = next_entered (types_of c.args.entries.now) c.loop-entry.entry-index c.entry-item.result.ty _ _ _ _ _ _ (omega arith) (type_read c.args.entries.now c.loop-entry.entry-index c.entry-item.result (omega arith) c.entry-item.is) c.loop-entry.invariant.entered c.in_ok-enter.ensures.entered;
      met = c.in_ok-enter.ensures.met ∙ c.loop-entry.invariant.met;
    }

pub returns-clause-entered : goal.returns-clause-entered
returns-clause-entered g c =
    let long : length (types_of c.args.entries.now) ≡ length c.args.entries.now = length-types c.args.entries.now in
    all_entered (types_of c.args.entries.now) c.loop-entry.entry-index _ _ _ _ (omega arith) c.loop-entry.invariant.entered
