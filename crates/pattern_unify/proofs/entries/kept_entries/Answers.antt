use Rattle.std.proofs.Common.{sym, arith}
use Rattle.pattern_unify.proofs.KeptEntries.{flagged_short}
use Rattle.pattern_unify.proofs.entries.kept_entries.Goals as goal

pub returns-then-k-ctx : goal.returns-then-k-ctx
returns-then-k-ctx g c =
    sym (flagged_short (g.T.Terms.means c.args.terms.now) c.args.marks.now c.args.ctx.now c.loop-k.flags.items c.loop-k.k c.loop-k.invariant (omega (arith, c.if-k-ctx.true)))
