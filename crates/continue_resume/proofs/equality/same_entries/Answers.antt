use Rattle.std.proofs.Common.{◌≡◌, ◌<◌, length, IsTrue, refl, arith, rules, below_more}
use Rattle.std.proofs.lemmas.Bool.{false≢true}
use Rattle.meta_context.specs.Plain.{plain_local}
use Rattle.continue_resume.proofs.Reading.{maps_same, same_here, place_same}
use Rattle.continue_resume.proofs.equality.same_entries.Goals as goal

pub returns-then-not-is_same_entry : goal.returns-then-not-is_same_entry
returns-then-not-is_same_entry g c =
    let left = plain_local (g.T.Terms.means c.args.a.now) in
    let right = plain_local (g.T.Terms.means c.args.b.now) in
    let l : c.loop-i.i < length c.args.xs.now = omega (arith, c.loop-i-test.true) in
    let m : c.loop-i.i < length c.args.ys.now = omega (arith, c.loop-i-test.true, c.if-xs-ys.false) in (
      λ t. absurd (false≢true t),
      λ e.
          let k = same_here left right c.args.xs.now c.args.ys.now c.loop-i.i c.index-xs-i.result c.index-ys-i.result l m c.index-xs-i.is c.index-ys-i.is e in
          let y : IsTrue c.is_same_entry.result = c.is_same_entry.ensures.1 k in
          search rules,
    )

pub loop-i-preserved : goal.loop-i-preserved
loop-i-preserved g c =
    let left = plain_local (g.T.Terms.means c.args.a.now) in
    let right = plain_local (g.T.Terms.means c.args.b.now) in
    let l : c.loop-i.i < length c.args.xs.now = omega (arith, c.loop-i-test.true) in
    let m : c.loop-i.i < length c.args.ys.now = omega (arith, c.loop-i-test.true, c.if-xs-ys.false) in
    let y : IsTrue c.is_same_entry.result = search rules in
    below_more _ _ c.loop-i.invariant (place_same left right c.args.xs.now c.args.ys.now c.loop-i.i c.index-xs-i.result c.index-ys-i.result l m c.index-xs-i.is c.index-ys-i.is (c.is_same_entry.ensures.0 y))

pub returns : goal.returns
returns g c =
    let left = plain_local (g.T.Terms.means c.args.a.now) in
    let right = plain_local (g.T.Terms.means c.args.b.now) in
    let n : length c.args.xs.now ≡ length c.args.ys.now = search rules in
    (λ _. maps_same left right c.args.xs.now c.args.ys.now n (λ k l. c.loop-i.invariant k (omega (arith, l, c.loop-i-test.false))), λ _. refl)
