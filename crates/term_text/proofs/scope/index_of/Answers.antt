use Rattle.std.proofs.Common.{◌≡◌, ◌+◌, ◌-◌, ◌<◌, true, false, length, get_or, take, arith, ap, sym, ◌∙◌}
use Rattle.term_syntax.specs.Scoping as spec
use Rattle.term_text.specs.Scoped.{bound_of, is_bound_by}
use Rattle.term_text.proofs.Indices.{raised, bound_here, not_bound}
use Rattle.term_text.proofs.scope.index_of.Goals as goal

pub returns-then-is_bound_by : goal.returns-then-is_bound_by
returns-then-is_bound_by c =
    let back : c.loop-left.left ≡ c.loop-left.left - 1 + 1 = omega (arith, c.loop-left-test.true) in
    let lt : c.loop-left.left - 1 < length c.args.bound.now = omega (arith, c.loop-left-test.true, c.loop-left.invariant.0) in
    let met : is_bound_by (get_or c.args.bound.now (c.loop-left.left - 1) c.index-bound-left.result) c.args.x.now ≡ true =
    ap (λ y. is_bound_by y c.args.x.now) (sym c.index-bound-left.is) ∙ sym c.is_bound_by.ensures ∙ c.if-is_bound_by.true in
    sym (bound_here c.args.names.now c.args.x.now c.args.bound.now c.loop-left.passed (c.loop-left.left - 1) c.index-bound-left.result _ lt met
    (c.loop-left.invariant.1 ∙ ap (λ n. raised c.loop-left.passed (spec.index_of c.args.names.now c.args.x.now (bound_of (take n c.args.bound.now)))) back))

pub loop-left-preserved : goal.loop-left-preserved
loop-left-preserved c =
    let back : c.loop-left.left ≡ c.loop-left.left - 1 + 1 = omega (arith, c.loop-left-test.true) in
    let lt : c.loop-left.left - 1 < length c.args.bound.now = omega (arith, c.loop-left-test.true, c.loop-left.invariant.0) in
    let unmet : is_bound_by (get_or c.args.bound.now (c.loop-left.left - 1) c.index-bound-left.result) c.args.x.now ≡ false =
    ap (λ y. is_bound_by y c.args.x.now) (sym c.index-bound-left.is) ∙ sym c.is_bound_by.ensures ∙ c.if-is_bound_by.false in
    let one_more : c.in_ok-passed.passed ≡ c.loop-left.passed + 1 = c.in_ok-passed.ensures in (
      omega (arith, one_more, c.loop-left-test.true, c.loop-left.invariant.0),
      not_bound c.args.names.now c.args.x.now c.args.bound.now c.loop-left.passed (c.loop-left.left - 1) c.index-bound-left.result _ lt unmet
          (c.loop-left.invariant.1 ∙ ap (λ n. raised c.loop-left.passed (spec.index_of c.args.names.now c.args.x.now (bound_of (take n c.args.bound.now)))) back)
          ∙ ap (λ p. raised p (spec.index_of c.args.names.now c.args.x.now (bound_of (take (c.loop-left.left - 1) c.args.bound.now)))) (sym one_more),
    )
