use Rattle.meta_context.specs.Plain.{rules_env}
use Rattle.pattern_unify.proofs.Joined.{unified, footprint}
use Rattle.pattern_unify.proofs.unifying.unify.Goals as goal

pub returns-clause-unified : goal.returns-clause-unified
returns-clause-unified g c Δ Σ A B r a b legal p q =
    let h = g.T.Terms.holds c.unify_in.new.terms in
    let m = g.T.Terms.means c.unify_in.new.terms in
    unified h m (rules_env Δ) Σ c.args.fuel.now c.unify_in.new.fuel legal c.args.depth A B p q c.unify_in.result (c.unify_in.ensures.value Δ Σ A B r a b)

pub returns-clause-footprint : goal.returns-clause-footprint
returns-clause-footprint g c Δ Σ A B r a b legal p q =
    let h = g.T.Terms.holds c.unify_in.new.terms in
    let m = g.T.Terms.means c.unify_in.new.terms in
    footprint h m (rules_env Δ) Σ c.args.fuel.now c.unify_in.new.fuel legal c.args.depth A B p q c.unify_in.result (c.unify_in.ensures.value Δ Σ A B r a b)
