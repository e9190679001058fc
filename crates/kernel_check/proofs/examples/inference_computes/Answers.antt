use Rattle.std.proofs.Common.{refl}
use Rattle.kernel_check.proofs.examples.inference_computes.Goals as goal

pub returns : goal.returns
returns c = record {
  enough = refl;
  too_few = refl;
  many = refl;
  products = refl;
  products_short = refl;
  mismatch = refl;
  not_function = refl;
  not_type = refl;
  entry = refl;
  constant = refl;
  wrong_count = refl;
  equal_constants = refl;
  equal_constants_short = refl;
  sort = refl;
  no_sort = refl;
}
