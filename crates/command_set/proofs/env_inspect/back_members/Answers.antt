use Rattle.std.proofs.Common.{rules}
use Rattle.command_set.proofs.Shown.{back_is}
use Rattle.command_set.proofs.env_inspect.back_members.Goals as goal

pub returns : goal.returns
returns g c = let e = back_is (g.T.Terms.means c.args.terms.now) c.args.item.now in search rules
