use Rattle.std.proofs.Common.{ap, nat_eq}
use Rattle.std.proofs.lemmas.Result.{IfOk-weaker}
use Rattle.ld_trees.specs.Term.{Named, Numbered}
use Rattle.pattern_unify.proofs.PartPairs.{abstractions_added, products_added, binders_held, heads_paired, held_if, same_name, same_number, number_same}
use Rattle.pattern_unify.proofs.pairs.pair_heads.Goals as goal

pub returns-in_ok-pair_binders-in-Lam-Lam-clause-added : goal.returns-in_ok-pair_binders-in-Lam-Lam-clause-added
returns-in_ok-pair_binders-in-Lam-Lam-clause-added g c =
    let means = g.T.Terms.means c.args.terms.now in
    abstractions_added c.args.depth means (means c.args.a) (means c.args.b) c.in-Lam-Lam.t c.in-Lam-Lam.m c.in-Lam-Lam.s c.in-Lam-Lam.n c.args.pairs.now.items c.pair_binders.new.pairs.items
    c.in-Lam-Lam.ensures.tree c.in-Lam-Lam.ensures'.tree c.in_ok-pair_binders-in-Lam-Lam.ensures

pub returns-in_ok-pair_binders-in-Lam-Lam-clause-held : goal.returns-in_ok-pair_binders-in-Lam-Lam-clause-held
returns-in_ok-pair_binders-in-Lam-Lam-clause-held g c =
    let holds = g.T.Terms.holds c.args.terms.now in
    binders_held c.args.depth holds c.in-Lam-Lam.t c.in-Lam-Lam.m c.in-Lam-Lam.s c.in-Lam-Lam.n c.args.pairs.now.items c.pair_binders.new.pairs.items
    c.in-Lam-Lam.ensures.held.0 c.in-Lam-Lam.ensures.held.1 c.in-Lam-Lam.ensures'.held.0 c.in-Lam-Lam.ensures'.held.1 c.requires.pairs c.in_ok-pair_binders-in-Lam-Lam.ensures

pub returns-in_ok-pair_binders-in-Pi-Pi-clause-added : goal.returns-in_ok-pair_binders-in-Pi-Pi-clause-added
returns-in_ok-pair_binders-in-Pi-Pi-clause-added g c =
    let means = g.T.Terms.means c.args.terms.now in
    products_added c.args.depth means (means c.args.a) (means c.args.b) c.in-Pi-Pi.t c.in-Pi-Pi.m c.in-Pi-Pi.s c.in-Pi-Pi.n c.args.pairs.now.items c.pair_binders-in-Pi-Pi.new.pairs.items
    c.in-Pi-Pi.ensures.tree c.in-Pi-Pi.ensures'.tree c.in_ok-pair_binders-in-Pi-Pi.ensures

pub returns-in_ok-pair_binders-in-Pi-Pi-clause-held : goal.returns-in_ok-pair_binders-in-Pi-Pi-clause-held
returns-in_ok-pair_binders-in-Pi-Pi-clause-held g c =
    let holds = g.T.Terms.holds c.args.terms.now in
    binders_held c.args.depth holds c.in-Pi-Pi.t c.in-Pi-Pi.m c.in-Pi-Pi.s c.in-Pi-Pi.n c.args.pairs.now.items c.pair_binders-in-Pi-Pi.new.pairs.items
    c.in-Pi-Pi.ensures.held.0 c.in-Pi-Pi.ensures.held.1 c.in-Pi-Pi.ensures'.held.0 c.in-Pi-Pi.ensures'.held.1 c.requires.pairs c.in_ok-pair_binders-in-Pi-Pi.ensures

pub returns-in-Const-Const-clause-added : goal.returns-in-Const-Const-clause-added
returns-in-Const-Const-clause-added g c =
    let means = g.T.Terms.means c.args.terms.now in
    IfOk-weaker c.pair_if.result _ _
    (λ r p. heads_paired c.args.depth means (means c.args.a) (means c.args.b) (Named c.in-Const-Const.c.now) (Named c.in-Const-Const.d.now) c.in-Const-Const.us.now c.in-Const-Const.vs.now c.args.pairs.now.items c.pair_if.new.pairs.items c.same.result r
    c.in-Const-Const.ensures.tree c.in-Const-Const.ensures'.tree (λ e. ap Named (c.same.ensures.0 e)) (λ e. c.same.ensures.1 (same_name c.in-Const-Const.c.now c.in-Const-Const.d.now e)) p)
    c.pair_if.ensures

pub returns-in-Const-Const-clause-held : goal.returns-in-Const-Const-clause-held
returns-in-Const-Const-clause-held g c =
    let holds = g.T.Terms.holds c.args.terms.now in
    IfOk-weaker c.pair_if.result _ _
    (λ r p. held_if c.args.depth holds c.in-Const-Const.us.now c.in-Const-Const.vs.now c.args.pairs.now.items c.pair_if.new.pairs.items c.same.result r c.in-Const-Const.ensures.held c.in-Const-Const.ensures'.held c.requires.pairs p)
    c.pair_if.ensures

pub returns-in-Meta-Meta-clause-added : goal.returns-in-Meta-Meta-clause-added
returns-in-Meta-Meta-clause-added g c =
    let means = g.T.Terms.means c.args.terms.now in
    let m = c.in-Meta-Meta.m in
    let n = c.in-Meta-Meta.n in
    IfOk-weaker c.pair_if-in-Meta-Meta.result _ _
    (λ r p. heads_paired c.args.depth means (means c.args.a) (means c.args.b) (Numbered m) (Numbered n) c.in-Meta-Meta.us.now c.in-Meta-Meta.vs.now c.args.pairs.now.items c.pair_if-in-Meta-Meta.new.pairs.items (nat_eq m n) r
    c.in-Meta-Meta.ensures.tree c.in-Meta-Meta.ensures'.tree (same_number m n) (number_same m n) p)
    c.pair_if-in-Meta-Meta.ensures

pub returns-in-Meta-Meta-clause-held : goal.returns-in-Meta-Meta-clause-held
returns-in-Meta-Meta-clause-held g c =
    let holds = g.T.Terms.holds c.args.terms.now in
    IfOk-weaker c.pair_if-in-Meta-Meta.result _ _
    (λ r p. held_if c.args.depth holds c.in-Meta-Meta.us.now c.in-Meta-Meta.vs.now c.args.pairs.now.items c.pair_if-in-Meta-Meta.new.pairs.items (nat_eq c.in-Meta-Meta.m c.in-Meta-Meta.n) r c.in-Meta-Meta.ensures.held c.in-Meta-Meta.ensures'.held c.requires.pairs p)
    c.pair_if-in-Meta-Meta.ensures
