use Rattle.std.proofs.Common.{refl}
use Rattle.shared_list.proofs.examples.example_of_puts.Goals as goal

pub returns : goal.returns
returns c = record {
  get0 = refl;
  get1 = refl;
  first2 = refl;
  last2 = refl;
  behind2 = refl;
  first3 = refl;
  behind3 = refl;
  len0 = refl;
  len1 = refl;
  len2 = refl;
  len3 = refl;
}
