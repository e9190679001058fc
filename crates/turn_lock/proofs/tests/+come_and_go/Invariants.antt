use Rattle.std.proofs.Common.{◌-◌}
use Rattle.turn_lock.proofs.tests.+come_and_go.Given as goal

abbrev pub decreases-come_and_go : goal.decreases-come_and_go
decreases-come_and_go g l = 64 - l.number
