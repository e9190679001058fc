use Rattle.std.proofs.Common.{sym}
use Rattle.continue_resume.proofs.Reading.{shared_as, first_missing, second_missing}
use Rattle.continue_resume.proofs.continuing.is_shared.Goals as goal

pub returns-in-Some-Some : goal.returns-in-Some-Some
returns-in-Some-Some g c =
    let s = c.args.target.now in
    let t = c.args.branch.now in
    shared_as g.T.Terms.means s.terms c.terms-left.result.now t.terms c.terms-right.result.now s.metas c.metas.result.now t.metas c.metas-2.result.now
    c.terms-left.ensures.value c.terms-right.ensures.value c.metas.ensures c.metas-2.ensures c.args.m c.is_open_as.result c.in-Some-Some.d.now c.in-Some-Some.c.now
    (sym c.in-Some-Some.ensures) (sym c.in-Some-Some.ensures') c.is_open_as.ensures

pub returns-in_default : goal.returns-in_default
returns-in_default g c =
    let s = c.args.target.now in
    let t = c.args.branch.now in
    second_missing g.T.Terms.means s.terms c.terms-left.result.now t.terms c.terms-right.result.now s.metas c.metas.result.now t.metas c.metas-2.result.now
    c.terms-left.ensures.value c.terms-right.ensures.value c.metas.ensures c.metas-2.ensures c.args.m (sym c.in_default.ensures')

pub returns-in_default-2 : goal.returns-in_default-2
returns-in_default-2 g c =
    let s = c.args.target.now in
    let t = c.args.branch.now in
    first_missing g.T.Terms.means s.terms c.terms-left.result.now t.terms c.terms-right.result.now s.metas c.metas.result.now t.metas c.metas-2.result.now
    c.terms-left.ensures.value c.terms-right.ensures.value c.metas.ensures c.metas-2.ensures c.args.m (sym c.in_default.ensures)
