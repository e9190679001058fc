use Rattle.std.proofs.Common.{◌≡◌, take}
use Rattle.meta_context.specs.Entered.{names_of}
use Rattle.elaborate.proofs.elaborating.names_in.Given as goal

abbrev pub invariant-loop-entry : goal.invariant-loop-entry
invariant-loop-entry g l = l.names.items ≡ names_of (take l.entry-index l.ctx)
