use Rattle.std.proofs.Common.{◌≡◌, ◌∙◌, [], ◌∷◌, sym, rules, subst}
use Rattle.std.proofs.lemmas.List.Elements.{All-contains, Contains-push}
use Rattle.std.specs.Prelude.{Contains}
use Rattle.meta_context.specs.Walks.{HaveEntered}
use Rattle.meta_context.proofs.Turns.{turn, turn_smaller}
use Rattle.meta_context.proofs.Closed.{begins, found, not_found}
use Rattle.meta_context.proofs.walk.depends.Goals as goal

pub loop-x-init : goal.loop-x-init
loop-x-init g c =
    let e : HaveEntered (c.args.h ∷ []) [] [] c.enter.new.walk.left.items c.enter.new.walk.entered.keys =
    subst (λ xs. HaveEntered (c.args.h ∷ []) xs [] c.enter.new.walk.left.items c.enter.new.walk.entered.keys) c.new.ensures.items
    (subst (λ ks. HaveEntered (c.args.h ∷ []) c.new.result.items ks c.enter.new.walk.left.items c.enter.new.walk.entered.keys) c.new-2.ensures.empty c.in_ok-enter.ensures.entered) in
    begins (g.T.Terms.holds c.args.terms.now) (g.T.Terms.means c.args.terms.now) c.args.metas.now c.args.m c.args.h _ _ _ c.next.result c.requires.term c.next.ensures.counted (c.in_ok-enter.ensures.met ∙ c.in_ok-vec.ensures.items_if_clones_equal (λ y e. e)) e

pub look_at-requires-clause-term : goal.look_at-requires-clause-term
look_at-requires-clause-term g c =
    let left = c.loop-x.walk.left.items in
    let at : Contains left c.in-Some.x = subst (λ xs. Contains xs c.in-Some.x) (sym c.in-Some.ensures.items) (Contains-push c.pop.new.self.items c.in-Some.x) in
    All-contains (g.T.Terms.holds c.args.terms.now) left c.in-Some.x c.loop-x.invariant.held at

pub look_at-requires-clause-sized : goal.look_at-requires-clause-sized
look_at-requires-clause-sized g c = c.loop-x.invariant.sized

pub loop-x-preserved : goal.loop-x-preserved
loop-x-preserved g c =
    let looked = c.in_ok-look_at.ensures.looked c.if-branch.false in
    turn (g.T.Terms.holds c.args.terms.now) (g.T.Terms.means c.args.terms.now) c.args.metas.now c.args.m c.args.h c.requires.metas
    c.loop-x.walk.left.items c.pop.new.self.items c.loop-x.walk.entered.keys _ _ c.loop-x.walk.met.items _ c.in-Some.x c.loop-x.invariant c.in-Some.ensures.items looked

pub loop-x-smaller : goal.loop-x-smaller
loop-x-smaller g c =
    let looked = c.in_ok-look_at.ensures.looked c.if-branch.false in
    turn_smaller (g.T.Terms.holds c.args.terms.now) (g.T.Terms.means c.args.terms.now) c.args.metas.now c.args.m c.args.h c.requires.metas
    c.loop-x.walk.left.items c.pop.new.self.items c.loop-x.walk.entered.keys _ _ c.loop-x.walk.met.items _ c.in-Some.x c.loop-x.invariant c.in-Some.ensures.items looked

pub returns-then-branch : goal.returns-then-branch
returns-then-branch g c =
    let left = c.loop-x.walk.left.items in
    let at : Contains left c.in-Some.x = subst (λ xs. Contains xs c.in-Some.x) (sym c.in-Some.ensures.items) (Contains-push c.pop.new.self.items c.in-Some.x) in
    found (g.T.Terms.holds c.args.terms.now) (g.T.Terms.means c.args.terms.now) c.args.metas.now c.args.m c.args.h left c.loop-x.walk.entered.keys c.loop-x.walk.met.items c.loop-x.invariant c.in-Some.x at
    (c.in_ok-look_at.ensures.found c.if-branch.true)

pub returns : goal.returns
returns g c =
    let ended : c.loop-x.walk.left.items ≡ [] = search rules in
    not_found (g.T.Terms.holds c.args.terms.now) (g.T.Terms.means c.args.terms.now) c.args.metas.now c.args.m c.args.h _ _ _ c.loop-x.invariant ended
