use Rattle.std.proofs.Common.{◌≡◌, length, IsTrue, refl, arith, rules}
use Rattle.std.proofs.lemmas.Bool.{false≢true}
use Rattle.meta_context.specs.Plain.{plain_item}
use Rattle.continue_resume.proofs.Reading.{reversed_place, reversed_maps}
use Rattle.continue_resume.proofs.equality.same_environments.Goals as goal

pub returns-then-not-same_at : goal.returns-then-not-same_at
returns-then-not-same_at g c =
    let left = plain_item (g.T.Terms.means c.args.a.now) in
    let right = plain_item (g.T.Terms.means c.args.b.now) in (
      λ t. absurd (false≢true t),
      λ e.
          let y : IsTrue c.same_at.result = c.same_at.ensures.1 (reversed_place left right c.args.env.now c.args.other.now c.loop-place.place e) in
          search rules,
    )

pub returns : goal.returns
returns g c =
    let left = plain_item (g.T.Terms.means c.args.a.now) in
    let right = plain_item (g.T.Terms.means c.args.b.now) in
    let one = c.len.ensures.counted in
    let two = c.len-2.ensures.counted in
    let end = c.len-place-end.ensures.counted in
    let n : length c.args.env.now ≡ length c.args.other.now = omega (arith, one, two, c.if-len.false) in
    (λ _. reversed_maps left right c.args.env.now c.args.other.now n (λ k l. c.loop-place.invariant k (omega (arith, l, end, c.loop-place-test.false))), λ _. refl)
