use Rattle.std.proofs.Common.{◌≡◌, map, take}
use Rattle.kernel_check.proofs.kernel.types_of.Given as goal

abbrev pub invariant-loop-local : goal.invariant-loop-local
invariant-loop-local g l = l.types.items ≡ map (λ x. x.ty) (take l.local-index l.ctx)
