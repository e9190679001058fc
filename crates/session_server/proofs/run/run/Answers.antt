use Rattle.std.proofs.Common.{arith, refl, ◌∙◌}
use Rattle.session_server.proofs.GoingLemmas.{went_none, went_more, goes_to_more}
use Rattle.session_server.proofs.SessionLemmas.{along_none, memory_first}
use Rattle.session_server.proofs.run.run.Goals as goal

pub lines-init : goal.lines-init
lines-init g c = record {
  own = c.requires.own;
  went = went_none (g.D.Desk.meaning c.args.desk.now) c.args.place.now;
  runs = along_none g.W.Work.value (g.D.Desk.meaning c.args.desk.now).alone (g.D.Desk.meaning c.args.desk.now).pass _ _ _ _ c.in-Ok.ensures.history c.in-Ok.ensures.stop;
  tells_in = refl;
  tells_out = refl;
  later_in = omega arith;
  later_out = omega arith;
  most = omega (arith, c.in-Ok.ensures.used);
}

pub lines-smaller : goal.lines-smaller
lines-smaller g c =
    let went = c.in-Next.ensures.step _ _ _ c.lines.invariant.runs in
    omega (arith, went.1, c.in-Next.ensures.most)

pub lines-preserved : goal.lines-preserved
lines-preserved g c =
    let step = c.in-Next.ensures.step _ _ _ c.lines.invariant.runs in
    record {
      own = c.in-Next.ensures.own;
      went = went_more (g.D.Desk.meaning c.args.desk.now) _ _ _ c.lines.invariant.went c.in-Next.ensures.goes;
      runs = step.0;
      tells_in = c.in-Next.ensures.tells_in ∙ c.lines.invariant.tells_in;
      tells_out = c.in-Next.ensures.tells_out ∙ c.lines.invariant.tells_out;
      later_in = omega (arith, c.in-Next.ensures.later_in);
      later_out = omega (arith, c.in-Next.ensures.later_out);
      most = c.in-Next.ensures.most;
    }

pub returns-in-Stop-clause-goes : goal.returns-in-Stop-clause-goes
returns-in-Stop-clause-goes g c = goes_to_more (g.D.Desk.meaning c.args.desk.now) _ _ _ c.in-Stop.end c.lines.invariant.went c.in-Stop.ensures.goes

pub returns-in_default-clause-goes : goal.returns-in_default-clause-goes
returns-in_default-clause-goes g c = went_none (g.D.Desk.meaning c.args.desk.now) c.args.place.now

pub returns-in_default-clause-serves : goal.returns-in_default-clause-serves
returns-in_default-clause-serves g c = memory_first g.W.Work.value (g.D.Desk.meaning c.args.desk.now).alone (g.D.Desk.meaning c.args.desk.now).pass _ _ _

pub returns-in-Stop-clause-serves : goal.returns-in-Stop-clause-serves
returns-in-Stop-clause-serves g c = c.in-Stop.ensures.step _ _ _ c.lines.invariant.runs
