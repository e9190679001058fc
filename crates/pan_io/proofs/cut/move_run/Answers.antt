use Rattle.std.proofs.Common.{◌<◌, ◌-◌, ◌^◌, arith, take}
use Rattle.pan_io.proofs.Runs.{uses_found, uses_none}
use Rattle.pan_io.proofs.cut.move_run.Goals as goal

pub returns-in-Some-clause-run : goal.returns-in-Some-clause-run
returns-in-Some-clause-run c =
    let run = c.run-run.result.now in
    let at = c.in-Some.len in
    let found = c.in-Some.ensures in (
      take at run,
      uses_found _ _ _ at run c.run-run.ensures.run found.within found.first found.found c.skip.ensures.pending c.skip.ensures.used,
      c.extend.ensures,
    )

pub returns-in-None-clause-run : goal.returns-in-None-clause-run
returns-in-None-clause-run c =
    let run = c.run-run.result.now in
    let skip = c.skip-in-None.ensures in
    let room : 0 < 2 ^ 40 - c.args.input.now.used = omega (arith, c.requires.room) in (
      run,
      uses_none _ _ _ run c.run-run.ensures.run room c.requires.waits c.in-None.ensures.none skip.pending skip.used,
      c.extend-in-None.ensures,
    )
