use Rattle.std.proofs.Common.{◌≡◌, ◌++◌, map}
use Rattle.std.specs.List.{AllByRecursion}
use Rattle.state_tree.specs.Enters.{tree_of}
use Rattle.session_server.specs.Made.{IsKept}
use Rattle.session_server.specs.Desks.{OthersComeTo, Went}
use Rattle.session_server.proofs.prepare.look_all.Given as goal

abbrev pub invariant-loop-request : goal.invariant-loop-request
invariant-loop-request g l = record {
  own : g.D.Desk.is_own l.fn.desk l.place;
  went : Went (g.D.Desk.meaning l.fn.desk) l.fn.place l.place;
  others : OthersComeTo (g.D.Desk.meaning l.fn.desk) l.fn.place l.place;
  left : l.fn.requests.items ≡ l.yielded ++ l.request-iterator.rest.items;
  made : map (λ job. job.request) l.jobs.items ≡ l.yielded;
  kept : AllByRecursion (λ job. IsKept (tree_of g.W.Work.value ((g.D.Desk.meaning l.fn.desk).view l.place)) job.request job.found) l.jobs.items;
}
