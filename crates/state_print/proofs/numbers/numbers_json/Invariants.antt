use Rattle.std.proofs.Common.{◌≡◌, map, take}
use Rattle.std.specs.Prelude.{decimal}
use Rattle.state_print.proofs.numbers.numbers_json.Given as goal

abbrev pub invariant-loop-n : goal.invariant-loop-n
invariant-loop-n l = map (λ x. x.items) l.texts.items ≡ map decimal (take l.n-index l.numbers)
