use Rattle.std.proofs.Common.{◌≡◌, take}
use Rattle.meta_context.specs.Walks.{HaveEntered, types_of}
use Rattle.meta_context.proofs.walk.enter_types.Given as goal

abbrev pub invariant-loop-entry : goal.invariant-loop-entry
invariant-loop-entry g l = record {
  entered : HaveEntered (take l.entry-index (types_of l.entries)) l.fn.walk.left.items l.fn.walk.entered.keys l.walk.left.items l.walk.entered.keys;
  met : l.walk.met.items ≡ l.fn.walk.met.items;
}
