use Rattle.std.proofs.Common.{true, refl}
use Rattle.session_server.proofs.SeesLemmas.{others_none}
use Rattle.session_server.proofs.desk.AloneDesk.enter.Goals as goal

pub returns-clause-entered : goal.returns-clause-entered
returns-clause-entered g c = record { tree = c.args.tree.now; others = others_none true 0 _ _ refl; enters = c.enter.ensures }
