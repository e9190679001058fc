use Rattle.std.proofs.Common.{◌≡◌, ◌+◌, ◌-◌, take, length, option_map}
use Rattle.unification.specs.Patterns.{place_of}
use Rattle.pattern_unify.specs.Walks.{variables_of}
use Rattle.pattern_unify.proofs.variables.place_among.Given as goal

abbrev pub invariant-loop-k : goal.invariant-loop-k
invariant-loop-k l = place_of (variables_of l.variables) l.i ≡ option_map (λ p. (length l.variables - l.k) + p) (place_of (variables_of (take l.k l.variables)) l.i)
