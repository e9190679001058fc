use Rattle.std.proofs.Common.{◌≡◌, ◌<◌, ℕ, option_map, reverse, slice_get}
use Rattle.meta_context.specs.Plain.{plain_item}
use Rattle.continue_resume.proofs.equality.same_environments.Given as goal

abbrev pub invariant-loop-place : goal.invariant-loop-place
invariant-loop-place g l = (k : ℕ) → k < l.place → option_map (plain_item (g.T.Terms.means l.a)) (slice_get (reverse l.env) k) ≡ option_map (plain_item (g.T.Terms.means l.b)) (slice_get (reverse l.other) k)
