use Rattle.std.proofs.Common.{◌++◌, ◌∙◌, arith}
use Rattle.pan_io.proofs.CutLemmas.{reads_ready, reads_run, cut_whole}
use Rattle.pan_io.proofs.cut.cut_line.Goals as goal

pub returns-then-move_run-clause-line : goal.returns-then-move_run-clause-line
returns-then-move_run-clause-line g c =
    let so_far = c.runs.invariant.reading in
    let ready = c.in-Bytes.ensures in
    let run = c.if-move_run.ensures.run in (
      so_far.0 ++ run.0,
      run.2 so_far.0 so_far.1,
      cut_whole _ _ _ _ _ _ _ (reads_ready _ _ _ _ _ _ _ so_far.2 ready.bytes ready.used) run.1,
    )

pub runs-preserved : goal.runs-preserved
runs-preserved g c =
    let so_far = c.runs.invariant.reading in
    let ready = c.in-Bytes.ensures in
    let run = c.if-move_run.ensures.run in
    record {
      reading = (
        so_far.0 ++ run.0,
        run.2 so_far.0 so_far.1,
        reads_run _ _ _ _ _ _ _ (reads_ready _ _ _ _ _ _ _ so_far.2 ready.bytes ready.used) run.1,
      );
      tells = ready.tells ∙ c.runs.invariant.tells;
      later = omega (arith, ready.later);
    }
