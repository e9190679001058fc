use Rattle.std.proofs.Common.{arith}
use Rattle.std.proofs.lemmas.Grind.{common_steps}
use Rattle.reply_text.proofs.Lists.{behind_commas}
use Rattle.reply_text.proofs.context.push_rest.Goals as goal

pub returns : goal.returns
returns c = let e = behind_commas (λ v. v.items) c.args.values.now in grind (arith, common_steps)
