use Rattle.std.proofs.Common.{refl}
use Rattle.state_tree.specs.Server.{found_in}
use Rattle.state_tree.proofs.Looks.{holds_found}
use Rattle.state_tree.proofs.laws.looks_hold.Goals as goal

pub returns : goal.returns
returns g c = λ t ask. holds_found t ask (found_in t ask) refl
