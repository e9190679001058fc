use Rattle.std.proofs.Common.{◌+◌, ◌*◌}
use Rattle.link_server.proofs.beside.+sessions.Given as goal

abbrev pub decreases-run_beside-join_mut+arg3 : goal.decreases-run_beside-join_mut+arg3
decreases-run_beside-join_mut+arg3 g l = 3 * g.Q.Queue.left l.queue.now + 1

abbrev pub decreases-run_all : goal.decreases-run_all
decreases-run_all g l = 3 * g.Q.Queue.left l.queue.now

abbrev pub decreases-run_beside : goal.decreases-run_beside
decreases-run_beside g l = 3 * g.Q.Queue.left l.queue.now + 2
