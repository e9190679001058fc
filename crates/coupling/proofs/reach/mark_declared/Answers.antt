use Rattle.std.proofs.Common.{sym}
use Rattle.conversion.specs.Globals.{IsDeclOf}
use Rattle.coupling.proofs.Declared.{all_at, parts_marked, no_parts_marked}
use Rattle.coupling.proofs.reach.mark_declared.Goals as goal

pub mark_parts-requires-clause-held : goal.mark_parts-requires-clause-held
mark_parts-requires-clause-held g c = all_at (IsDeclOf (g.T.Terms.holds c.args.terms.now)) c.args.metas.now c.args.m c.in-Some.decl.now c.requires.metas (sym c.in-Some.ensures)

pub returns-in_ok-mark_parts-in-Some-clause-marked : goal.returns-in_ok-mark_parts-in-Some-clause-marked
returns-in_ok-mark_parts-in-Some-clause-marked g c =
    parts_marked (g.T.Terms.means c.args.terms.now) c.args.metas.now c.args.m _ _ _ c.in-Some.decl.now (sym c.in-Some.ensures) c.in_ok-mark_parts-in-Some.ensures.marked

pub returns-in-None-clause-marked : goal.returns-in-None-clause-marked
returns-in-None-clause-marked g c = no_parts_marked (g.T.Terms.means c.args.terms.now) c.args.metas.now c.args.m _ _ (sym c.in-None.ensures) c.requires.known
