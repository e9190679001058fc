use Rattle.std.proofs.Common.{◌≡◌, take}
use Rattle.meta_context.specs.Walks.{HaveEntered}
use Rattle.meta_context.proofs.walk.enter_all.Given as goal

abbrev pub invariant-loop-h : goal.invariant-loop-h
invariant-loop-h g l = record {
  entered : HaveEntered (take l.h-index l.hs) l.fn.walk.left.items l.fn.walk.entered.keys l.walk.left.items l.walk.entered.keys;
  met : l.walk.met.items ≡ l.fn.walk.met.items;
}
