use Rattle.std.proofs.Common.{◌≡◌, length, true, sym, arith, rules}
use Rattle.goal_state.specs.State.{is_open}
use Rattle.coupling.proofs.Stored.{needed_itself, shared_coupled}
use Rattle.coupling.proofs.goals.is_coupled.Goals as goal

pub returns-then-own-h-ne0-clause-value : goal.returns-then-own-h-ne0-clause-value
returns-then-own-h-ne0-clause-value g c =
    let o : is_open c.args.metas.now c.args.h ≡ true = search rules in
    let n = c.if-own-h-ne0.true in
    sym (needed_itself (g.T.Terms.means c.args.terms.now) c.args.metas.now c.args.g c.args.own.now c.requires.sized c.requires.own c.args.h c.if-g-h.false o (omega (arith, n)))

pub returns-clause-value : goal.returns-clause-value
returns-clause-value g c =
    let o : is_open c.args.metas.now c.args.h ≡ true = search rules in
    let sized : length c.reach.new.marks ≡ length c.args.metas.now = omega (arith, c.requires.room) in
    shared_coupled (g.T.Terms.means c.args.terms.now) c.args.metas.now c.args.g c.args.own.now c.requires.sized c.requires.own c.args.h c.reach.new.marks sized c.in_ok-reach.ensures.reached
    c.share_one.result c.if-g-h.false o c.share_one.ensures.some c.share_one.ensures.none
