use Rattle.std.proofs.Common.{◌+◌, None, length, ap, ◌∙◌}
use Rattle.std.proofs.lemmas.List.{length_push}
use Rattle.worker_gate.proofs.Cells.{empty_more}
use Rattle.worker_gate.proofs.table.empty_table.Goals as goal

pub loop-preserved : goal.loop-preserved
loop-preserved g c = record {
  len = ap length c.in_ok-push.ensures.items ∙ length_push c.loop.table.items None ∙ ap (λ n. n + 1) c.loop.invariant.len;
  empty = rw c.in_ok-push.ensures.items (empty_more c.loop.table.items c.loop.invariant.empty);
}
