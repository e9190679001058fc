use Rattle.std.proofs.Common.{◌≡◌, length, arith}
use Rattle.std.proofs.lemmas.List.{length-map, length-set}
use Rattle.meta_context.specs.Stored.{decl_of, metas_of}
use Rattle.coupling.proofs.Reaching.{reaching_next, reaching_smaller, reached_all}
use Rattle.coupling.proofs.reach.reach.Goals as goal

pub loop-m-preserved : goal.loop-m-preserved
loop-m-preserved g c =
    let means = g.T.Terms.means c.args.terms.now in
    record {
      reaching = reaching_next means (metas_of means c.args.metas.now) c.args.g c.in-Some.m c.loop-m.seen c.loop-m.marks c.loop-m.invariant.reaching c.in-Some.ensures.0 c.in-Some.ensures.1
          c.mark_declared.new.seen c.mark_declared.new.marks c.in_ok-mark_declared.ensures.marked;
      free = λ f. c.in_ok-mark_declared.ensures.free (c.loop-m.invariant.free f);
    }

pub loop-m-smaller : goal.loop-m-smaller
loop-m-smaller g c =
    let means = g.T.Terms.means c.args.terms.now in
    reaching_smaller means (metas_of means c.args.metas.now) c.args.g c.in-Some.m c.loop-m.seen c.loop-m.marks c.loop-m.invariant.reaching c.in-Some.ensures.0 c.in-Some.ensures.1
    c.mark_declared.new.seen c.mark_declared.new.marks c.in_ok-mark_declared.ensures.marked

pub returns-clause-reached : goal.returns-clause-reached
returns-clause-reached g c =
    let means = g.T.Terms.means c.args.terms.now in
    let ds = c.args.metas.now in
    let declared : length (metas_of means ds) ≡ length ds = length-map ds (decl_of means) in
    let begun = length-set c.clear.new.marks c.args.g 1 in
    let long : length c.loop-m.marks ≡ length ds = omega (arith, begun) in
    reached_all means (metas_of means ds) c.args.g c.loop-m.seen c.loop-m.marks c.loop-m.invariant.reaching c.in_default.ensures (omega (arith, long, declared)) (omega (arith, long, c.requires.declared))
