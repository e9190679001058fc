use Rattle.std.proofs.Common.{◌++◌, ap, sym, ◌∙◌}
use Rattle.session_maker.proofs.Rounds.{repeated_next}
use Rattle.session_maker.proofs.Texts.{joined}
use Rattle.session_maker.proofs.lines.push_arrows.Goals as goal

pub loop-preserved : goal.loop-preserved
loop-preserved c = joined _ _ _ _ _ c.loop.invariant c.in_ok-extend_from_slice.ensures.items ∙ ap (λ l. c.args.text.now.items ++ l) (sym (repeated_next _ c.loop.counter))
