use Rattle.std.proofs.Common.{refl}
use Rattle.shared_map.proofs.examples.example_of_puts.Goals as goal

pub returns : goal.returns
returns c = record { get0 = refl; get1 = refl; get2 = refl; len0 = refl; len1 = refl; len2 = refl }
