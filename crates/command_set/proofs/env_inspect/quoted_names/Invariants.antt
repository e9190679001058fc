use Rattle.std.proofs.Common.{◌≡◌, map, take, reverse}
use Rattle.json.specs.Print.{quoted}
use Rattle.command_set.proofs.env_inspect.quoted_names.Given as goal

abbrev pub invariant-loop-place : goal.invariant-loop-place
invariant-loop-place g l = map (λ x. x.items) l.names.items ≡ map (λ i. quoted i.name) (take l.place (reverse l.items))
