use Rattle.std.proofs.Common.{◌≡◌, ◌<◌, ℕ, option_map, slice_get}
use Rattle.meta_context.specs.Plain.{plain_local}
use Rattle.continue_resume.proofs.equality.same_entries.Given as goal

abbrev pub invariant-loop-i : goal.invariant-loop-i
invariant-loop-i g l = (k : ℕ) → k < l.i → option_map (plain_local (g.T.Terms.means l.a)) (slice_get l.xs k) ≡ option_map (plain_local (g.T.Terms.means l.b)) (slice_get l.ys k)
