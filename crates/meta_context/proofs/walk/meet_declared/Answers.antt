use Rattle.std.proofs.Common.{[], refl, ◌∙◌, None, Some}
use Rattle.meta_context.specs.Walks.{again, first}
use Rattle.meta_context.proofs.Entering.{none_entered, decl_entered, read_as}
use Rattle.meta_context.proofs.walk.meet_declared.Goals as goal

pub returns-then-again : goal.returns-then-again
returns-then-again g c = λ ds s. record {
  more = [];
  parts = none_entered _ _;
  meets = again (read_as c.args.walk.now.met.items c.args.k _ _ c.requires.declared c.index-again.ensures c.if-again.true) refl refl;
}

pub returns-in_ok-enter-in-Some : goal.returns-in_ok-enter-in-Some
returns-in_ok-enter-in-Some g c = λ ds s. record {
  more = _;
  parts = decl_entered c.args.decl.now c.as_slice.result.now (Some c.in-Some.value) _ _ _ _ _ _ _ _ c.as_slice.ensures c.in-Some.is c.in_ok-enter_types.ensures.entered c.in_ok-enter.ensures.entered c.in_ok-enter-in-Some.ensures.entered;
  meets = first c.args.decl.now s (read_as c.args.walk.now.met.items c.args.k _ _ c.requires.declared c.index-again.ensures c.if-again.false)
      (c.in_ok-enter-in-Some.ensures.met ∙ c.in_ok-enter.ensures.met ∙ c.in_ok-enter_types.ensures.met) refl;
}

pub returns-in-None : goal.returns-in-None
returns-in-None g c = λ ds s. record {
  more = _;
  parts = decl_entered c.args.decl.now c.as_slice.result.now None _ _ _ _ _ _ _ _ c.as_slice.ensures c.in-None.is c.in_ok-enter_types.ensures.entered c.in_ok-enter.ensures.entered (none_entered _ _);
  meets = first c.args.decl.now s (read_as c.args.walk.now.met.items c.args.k _ _ c.requires.declared c.index-again.ensures c.if-again.false)
      (c.in_ok-enter.ensures.met ∙ c.in_ok-enter_types.ensures.met) refl;
}
