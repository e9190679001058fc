use Rattle.std.proofs.Common.{subst, sym, inl, inr}
use Rattle.std.specs.Prelude.{Contains}
use Rattle.meta_context.proofs.Entering.{inserted_only}
use Rattle.coupling.specs.Looks.{remembered}
use Rattle.coupling.proofs.looks.remember.Goals as goal

pub returns-in_ok-insert-in-Kept-clause-only : goal.returns-in_ok-insert-in-Kept-clause-only
returns-in_ok-insert-in-Kept-clause-only g c x d = elim (inserted_only _ g.met.T.Terms.exact c.in-Kept.handles.keys c.args.h x (subst (λ ks. Contains ks x) c.in_ok-insert-in-Kept.ensures.keys d)) [
  | inl e ↦ inl e
  | inr q ↦ inr (subst (λ s. Contains (remembered s) x) (sym c.in-Kept.is) q)
]
