use Rattle.meta_context.specs.Plain.{rules_env}
use Rattle.pattern_unify.proofs.Joined.{settled, settled_footprint}
use Rattle.pattern_unify.proofs.unifying.settle.Goals as goal

pub returns-clause-settled : goal.returns-clause-settled
returns-clause-settled g c Δ Σ d v r e there legal k =
    let h = g.T.Terms.holds c.settle_in.new.terms in
    let m = g.T.Terms.means c.settle_in.new.terms in
    settled h m (rules_env Δ) Σ c.args.fuel.now c.settle_in.new.fuel legal c.args.m d v k there c.settle_in.result (c.settle_in.ensures.value Δ Σ v r e)

pub returns-clause-footprint : goal.returns-clause-footprint
returns-clause-footprint g c Δ Σ v r e legal =
    let h = g.T.Terms.holds c.settle_in.new.terms in
    let m = g.T.Terms.means c.settle_in.new.terms in
    settled_footprint h m (rules_env Δ) Σ c.args.fuel.now c.settle_in.new.fuel legal c.args.m v c.settle_in.result (c.settle_in.ensures.value Δ Σ v r e)
