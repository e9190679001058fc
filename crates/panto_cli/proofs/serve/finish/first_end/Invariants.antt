use Rattle.std.proofs.Common.{◌≡◌, drop, map}
use Rattle.panto_cli.specs.Links.{first_end}
use Rattle.panto_cli.proofs.serve.finish.first_end.Given as goal

abbrev pub invariant-loop-link : goal.invariant-loop-link
invariant-loop-link g l = first_end (map (λ link. link.end) l.served) ≡ first_end (map (λ link. link.end) (drop l.link-index l.served))
