-- The handles that a walk remembers.
use Rattle.std.specs.Prelude.{List, []}
use Rattle.coupling.specs.declared.looks.Looks.{Looks}
use Rattle.coupling.specs.declared.looks.Looks.TheVariants as looks

abbrev pub remembered : {H : Type 0} → Looks H → List H
remembered looks.Forgotten = []
remembered (looks.Kept s) = s.keys

-- a walk that remembers no handle takes no memory
abbrev pub TakesNone : {H : Type 0} → Looks H → Type 0
TakesNone looks.Forgotten = Unit {0}
TakesNone (looks.Kept s) = ⊥
