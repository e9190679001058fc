use Rattle.std.proofs.Common.{◌≡◌, ℕ, ◌≤◌, ◌<◌, ◌-◌, false, length, slice_index_or}
use Rattle.pan_io.specs.Text.{is_line_end}
use Rattle.pan_io.proofs.cut.line_end_in.Given as goal

abbrev pub invariant-bytes : goal.invariant-bytes
invariant-bytes l = record {
  within : l.at ≤ length l.run;
  none : (k : ℕ) (d : ℕ) → k < l.at → is_line_end (slice_index_or l.run k d) ≡ false;
}

abbrev pub decreases-bytes : goal.decreases-bytes
decreases-bytes l = length l.run - l.at
