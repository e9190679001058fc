use Rattle.std.proofs.Common.{sym}
use Rattle.meta_context.specs.Plain.{plain_items}
use Rattle.continue_resume.proofs.Reading.{types_as}
use Rattle.continue_resume.proofs.continuing.same_theorem.Goals as goal

pub returns : goal.returns
returns g c =
    let means = g.T.Terms.means in
    let s = c.args.target.now in
    let t = c.args.branch.now in
    types_as means s.terms c.terms-left.result.now t.terms c.terms-right.result.now s.metas c.metas.result.now t.metas c.metas-2.result.now
    c.terms-left.ensures.value c.terms-right.ensures.value c.metas.ensures c.metas-2.ensures
    (plain_items (means s.terms) s.items) (plain_items (means t.terms) t.items) s.goals t.goals c.same_across.result c.in-Some-Some.d.now c.in-Some-Some.c.now
    (sym c.in-Some-Some.ensures) (sym c.in-Some-Some.ensures') c.same_across.ensures
