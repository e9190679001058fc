use Rattle.std.proofs.Common.{arith}
use Rattle.std.proofs.lemmas.Grind.{common_steps}
use Rattle.command_set.specs.Inspect.{catalog}
use Rattle.command_set.proofs.Shown.{names_plain}
use Rattle.command_set.proofs.env_inspect.catalog.Goals as goal

pub returns : goal.returns
unfolding catalog
returns g c = let e = names_plain (g.T.Terms.means c.stored.result.now.terms) c.stored.result.now.items c.args.env.now c.stored.ensures.plain in grind (arith, common_steps)
