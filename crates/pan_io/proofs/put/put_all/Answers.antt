use Rattle.std.proofs.Common.{arith, ◌∙◌}
use Rattle.pan_io.proofs.Pieces.{puts_more}
use Rattle.pan_io.proofs.put.put_all.Goals as goal

pub pieces-preserved : goal.pieces-preserved
pieces-preserved g c =
    let so_far = c.pieces.invariant.taken in
    record {
      taken = puts_more _ _ _ _ so_far.0 c.pieces.rest.now _ so_far.1 so_far.2 c.in_ok-count.ensures.bytes;
      tells = c.in_ok-count.ensures.tells ∙ c.pieces.invariant.tells;
      later = omega (arith, c.in_ok-count.ensures.cause.later);
    }
