use Rattle.std.proofs.Common.{◌≡◌, ℕ, ◌≤◌, List, ◌-◌, ◌^◌, is_some}
use Rattle.pan_io.specs.Kept.{Holds}
use Rattle.pan_io.proofs.CutLemmas.{Reads}
use Rattle.pan_io.proofs.cut.cut_line.Given as goal

abbrev pub invariant-runs : goal.invariant-runs
invariant-runs g l = record {
  reading : (raw : List ℕ) × Holds l.draft raw × Reads (g.S.Source.left l.fn.source) (g.S.Source.left l.source) l.fn.input l.input raw;
  tells : is_some (g.S.Source.left l.source) ≡ is_some (g.S.Source.left l.fn.source);
  later : g.S.Source.faults l.fn.source ≤ g.S.Source.faults l.source;
}

abbrev pub decreases-runs : goal.decreases-runs
decreases-runs g l = 2 ^ 40 - l.input.used
