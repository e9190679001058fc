use Rattle.std.proofs.Common.{◌≡◌, true, false, is_some, rules}
use Rattle.continue_resume.proofs.Reading.{contexts_differ, types_decide}
use Rattle.continue_resume.proofs.continuing.is_open_as.Goals as goal

pub returns-then-not-same_entries : goal.returns-then-not-same_entries
returns-then-not-same_entries g c =
    let f : c.same_entries.result ≡ false = search rules in
    contexts_differ (g.T.Terms.means c.args.a.now) (g.T.Terms.means c.args.b.now) c.args.d.now.value c.same_entries.result c.args.d.now.ctx c.as_slice.result.now c.args.c.now.ctx c.as_slice-2.result.now
    c.as_slice.ensures c.as_slice-2.ensures c.same_entries.ensures c.args.d.now.ty c.args.c.now.ty f

pub returns : goal.returns
returns g c =
    let t : c.same_entries.result ≡ true = search rules in
    let n : is_some c.args.d.now.value ≡ false = search rules in
    types_decide (g.T.Terms.means c.args.a.now) (g.T.Terms.means c.args.b.now) c.args.d.now.value c.same_entries.result c.args.d.now.ctx c.as_slice.result.now c.args.c.now.ctx c.as_slice-2.result.now
    c.as_slice.ensures c.as_slice-2.ensures c.same_entries.ensures c.args.d.now.ty c.args.c.now.ty c.same_across.result n t c.same_across.ensures
