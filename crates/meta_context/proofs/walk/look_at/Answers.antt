use Rattle.std.proofs.Common.{subst}
use Rattle.ld_terms.specs.declared.view.View.TheVariants as view
use Rattle.meta_context.specs.Walks.{Meets, IsMet}
use Rattle.meta_context.proofs.Entering.{both_entered}
use Rattle.meta_context.proofs.walk.look_at.Goals as goal

pub returns-in_ok-meet-in-Meta-clause-looked : goal.returns-in_ok-meet-in-Meta-clause-looked
returns-in_ok-meet-in-Meta-clause-looked g c =
    let us = c.in-Meta.us in
    let one = c.enter_all-in-Meta.new.walk in
    let two = c.meet.new.walk in
    let met : Meets c.args.metas.now c.in-Meta.k one.left.items one.entered.keys one.met.items two.left.items two.entered.keys two.met.items = c.in_ok-meet-in-Meta.ensures in
    λ _. record {
      node = view.Meta c.in-Meta.k us;
      more = met.more;
      tree = c.in-Meta.ensures.tree;
      held = c.in-Meta.ensures.held;
      parts = both_entered us.now met.more _ _ _ _ _ _ c.in_ok-enter_all-in-Meta.ensures.entered met.parts;
      meets = (c.if-k-m.false, subst (λ bs. IsMet c.args.metas.now c.in-Meta.k bs two.met.items met.more) c.in_ok-enter_all-in-Meta.ensures.met met.meets);
    }
