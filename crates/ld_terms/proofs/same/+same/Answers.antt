use Rattle.std.proofs.Common.{rules, map, ◌≡◌, ◌<◌, length, arith, ap, refl, IsTrue}
use Rattle.ld_trees.specs.Term.{Named, Numbered}
use Rattle.ld_terms.proofs.Arguments.{same_heads, part_less}
use Rattle.ld_terms.proofs.Comparisons.{maps_equal, equal_at, held_at}
use Rattle.ld_terms.proofs.same.+same.Goals as goal

pub same_nodes-returns-then-same : goal.same_nodes-returns-then-same
same_nodes-returns-then-same g t c =
    same_heads (Named c.in-Const-Const.n.now) (Named c.in-Const-Const.m.now) (map (g.S.Sides.left_means c.args.sides.now) c.in-Const-Const.us.now) (map (g.S.Sides.right_means c.args.sides.now) c.in-Const-Const.vs.now) _ _
    c.in-Const-Const.ensures.tree c.in-Const-Const.ensures'.tree (ap Named (search rules)) c.same_each.ensures

pub same_nodes-returns-then-n-m : goal.same_nodes-returns-then-n-m
same_nodes-returns-then-n-m g t c =
    same_heads (Numbered c.in-Meta-Meta.n) (Numbered c.in-Meta-Meta.m) (map (g.S.Sides.left_means c.args.sides.now) c.in-Meta-Meta.us.now) (map (g.S.Sides.right_means c.args.sides.now) c.in-Meta-Meta.vs.now) _ _
    c.in-Meta-Meta.ensures.tree c.in-Meta-Meta.ensures'.tree (ap Numbered (search rules)) c.same_each-then-n-m.ensures

pub same_each-same_trees-requires : goal.same_each-same_trees-requires
same_each-same_trees-requires g t c κs within =
    let sides = c.args.sides.now in
    let ul : c.loop-i.i < length c.args.us.now = omega (arith, c.loop-i-test.true) in
    let vl : c.loop-i.i < length c.args.vs.now = omega (arith, c.loop-i-test.true, c.if-us-vs.false) in
    let small = part_less (g.S.Sides.left_means sides) c.args.us.now c.index-us-i.result c.loop-i.i ul c.index-us-i.is in
    let left = held_at (g.S.Sides.left_holds sides) c.args.us.now c.loop-i.i c.index-us-i.result c.requires.left ul c.index-us-i.is in
    let right = held_at (g.S.Sides.right_holds sides) c.args.vs.now c.loop-i.i c.index-vs-i.result c.requires.right vl c.index-vs-i.is in
    search rules

pub same_each-returns-then-not-same_trees : goal.same_each-returns-then-not-same_trees
same_each-returns-then-not-same_trees g t c =
    let sides = c.args.sides.now in
    let ul : c.loop-i.i < length c.args.us.now = omega (arith, c.loop-i-test.true) in (
      λ f. absurd cc,
      λ e.
          let k = equal_at (g.S.Sides.left_means sides) (g.S.Sides.right_means sides) c.args.us.now c.args.vs.now c.loop-i.i c.index-us-i.result c.index-vs-i.result e ul c.index-us-i.is c.index-vs-i.is in
          let y : IsTrue c.same_trees.result = c.same_trees.ensures.1 k in
          search rules,
    )

pub same_each-returns : goal.same_each-returns
same_each-returns g t c =
    let sides = c.args.sides.now in
    let n : length c.args.us.now ≡ length c.args.vs.now = search rules in (
      λ _. maps_equal (g.S.Sides.left_means sides) (g.S.Sides.right_means sides) c.args.us.now c.args.vs.now n (λ k d l. c.loop-i.invariant k d (omega (arith, l, c.loop-i-test.false))),
      λ _. refl,
    )
