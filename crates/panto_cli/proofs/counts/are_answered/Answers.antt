use Rattle.std.proofs.Common.{◌∙◌, ap, sym, arith}
use Rattle.std.specs.List.{list_all}
use Rattle.std.proofs.lemmas.List.Folds.{list_all_at}
use Rattle.std.proofs.lemmas.List.{take_all}
use Rattle.panto_cli.specs.Demo.{is_answered}
use Rattle.panto_cli.proofs.counts.are_answered.Goals as goal

pub returns-then-not-is_answered : goal.returns-then-not-is_answered
returns-then-not-is_answered c =
    sym (list_all_at is_answered c.args.entries.now c.loop-entry.entry-index c.entry-item.result (omega arith)
    (ap is_answered (sym c.entry-item.is) ∙ sym c.is_answered.ensures ∙ c.if-not-is_answered.true))

pub returns : goal.returns
returns c = sym (ap (list_all is_answered) (sym (take_all c.loop-entry.entry-index c.args.entries.now (omega arith))) ∙ c.loop-entry.invariant)
