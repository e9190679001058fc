use Rattle.std.proofs.Common.{arith, ◌∙◌, ap, ◌++◌, ◌∷◌, []}
use Rattle.state_tree.specs.declared.work.Gave.TheVariants.{Answer}
use Rattle.state_tree.proofs.EnteringLemmas.{Went, went_early, went_open, missed}
use Rattle.state_tree.proofs.tree.Tree.enter.Goals as goal

pub enter_early-requires : goal.enter_early-requires
enter_early-requires g c = record { room = (c.self.inside.entries, omega (arith, c.self.invariant.room.journal), c.self.invariant.room) }

early : (g : _) (c : goal.After-enter_early g) → Went g.W.Work.value c.self.inside.book.value c.self.inside.entries c.self.inside.holdings c.enter_early.new.holdings c.args.pass c.args.ready c.in-Early.line
early g c = went_early g.W.Work.value _ _ c.self.inside.holdings c.enter_early.new.holdings c.args.pass c.args.ready c.in-Early.line c.self.invariant (λ e. c.if-len-self.false (c.len.ensures ∙ c.self.inside.holdings.journal.ok.0 ∙ e))
    c.in-Early.ensures.check c.enter_early.ensures.envs c.enter_early.ensures.states
    (c.enter_early.ensures.journal ∙ ap (λ r. c.self.inside.holdings.journal.items ++ record { pass = c.args.pass; request = r; gave = Answer } ∷ []) c.into_request.ensures)
    (c.enter_early.ensures.room _ (omega (arith, c.self.invariant.room.journal)) c.self.invariant.room)

pub invariant_of-self : goal.invariant_of-self
invariant_of-self g c = (early g c).grown

pub enter_open-requires : goal.enter_open-requires
enter_open-requires g c = record { room = (c.self.inside.entries, omega (arith, c.self.invariant.room.journal), c.self.invariant.room) }

open_now : (g : _) (c : goal.After-enter_open g) → Went g.W.Work.value c.self.inside.book.value c.self.inside.entries c.self.inside.holdings c.enter_open.new.holdings c.args.pass c.args.ready c.enter_open.result
open_now g c =
    let parts = c.into_parts-request.ensures in
    went_open g.W.Work.value _ _ c.self.inside.holdings c.enter_open.new.holdings c.args.pass c.args.ready c.enter_open.result c.self.invariant (λ e. c.if-len-self.false (c.len.ensures ∙ c.self.inside.holdings.journal.ok.0 ∙ e))
    c.in-Open.ensures.check c.in-Open.ensures.prepared (rw (← c.self.view_is) at c.requires.held) c.requires.bad
    (rw parts at c.enter_open.ensures.line)
    (rw parts at c.enter_open.ensures.journal)
    (c.enter_open.ensures.room _ (omega (arith, c.self.invariant.room.journal)) c.self.invariant.room)

pub invariant_of-self-in-Open : goal.invariant_of-self-in-Open
invariant_of-self-in-Open g c = (open_now g c).grown

pub returns-in-Again : goal.returns-in-Again
returns-in-Again g c = rw (← c.self.view_is) (missed g.W.Work.value _ _ c.self.inside.holdings c.args.ready c.in-Again.id c.self.invariant (λ e. c.if-len-self.false (c.len.ensures ∙ c.self.inside.holdings.journal.ok.0 ∙ e)) c.in-Again.ensures.check)

pub returns-in-Early : goal.returns-in-Early
returns-in-Early g c = rw (← c.self.view_is) (early g c).enters

pub returns-in-Open : goal.returns-in-Open
returns-in-Open g c = rw (← c.self.view_is) (open_now g c).enters
