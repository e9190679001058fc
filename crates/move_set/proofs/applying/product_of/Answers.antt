use Rattle.std.proofs.Common.{◌≡◌, ◌∙◌, ap, sym, subst}
use Rattle.conversion.specs.Runs.{Refusal as KernelRefusal}
use Rattle.conversion.specs.WeakHead.{whnf}
use Rattle.meta_context.specs.Plain.{rules_env}
use Rattle.unification.specs.Metavariables.{reach}
use Rattle.unification.specs.Refusals as unification
use Rattle.unification.specs.Steps.{ran, Gave, Refused}
use Rattle.pattern_unify.proofs.Meanings.{read_reach}
use Rattle.pattern_unify.proofs.Follow.{after}
use Rattle.move_set.specs.Answers.{Shows}
use Rattle.move_set.specs.Applying.{parts_or, product_of}
use Rattle.move_set.specs.Faults.{halt_fault}
use Rattle.move_set.specs.Refusals.{Refusal, from_unification}
use Rattle.move_set.proofs.Follow.{residual, shows_more, halt_shows, refuses}
use Rattle.move_set.proofs.Products.{no_parts}
use Rattle.move_set.proofs.applying.product_of.Goals as goal

pub returns-in_err-form-clause-value : goal.returns-in_err-form-clause-value
returns-in_err-form-clause-value g c Δ Σ A r read f shown =
    let h = g.T.Terms.holds c.whnf.new.terms in
    let m = g.T.Terms.means c.whnf.new.terms in
    let env = read_reach (g.T.Terms.means c.args.terms.now) c.args.env.now c.args.metas.now Δ Σ read in
    residual h m _ _ _ c.from_residual.result (halt_fault c.in_err-form.field-0.0) c.from_residual.ensures.1
    (rw (← env, ← f) (shows_more h m _ (parts_or r) _ _ (halt_shows h m m (λ r. from_unification (unification.Kernel r)) _ _ c.in_err-form.field-0.0 c.in_err-form.ensures.value)))

pub returns-in-Some-clause-value : goal.returns-in-Some-clause-value
returns-in-Some-clause-value g c Δ Σ A r read f shown =
    let m = g.T.Terms.means c.whnf.new.terms in
    let left = c.whnf.new.fuel in
    let env = read_reach (g.T.Terms.means c.args.terms.now) c.args.env.now c.args.metas.now Δ Σ read in
    let into : KernelRefusal → Refusal = λ r. from_unification (unification.Kernel r) in
    let ran_is : ran into (whnf (reach (rules_env Δ) Σ) A c.args.fuel.now) ≡ Gave (m c.in_ok-form.form) left = rw (← env, ← f) (ap (ran into) c.in_ok-form.ensures.value) in
    after (ran into (whnf (reach (rules_env Δ) Σ) A c.args.fuel.now)) (m c.in_ok-form.form) left (parts_or r) ran_is ∙ ap (λ t. parts_or r t left) c.in-Some.ensures.parts

pub returns-in-None-clause-value : goal.returns-in-None-clause-value
returns-in-None-clause-value g c Δ Σ A r read f shown =
    let h0 = g.T.Terms.holds c.args.terms.now in
    let m0 = g.T.Terms.means c.args.terms.now in
    let h = g.T.Terms.holds c.whnf.new.terms in
    let m = g.T.Terms.means c.whnf.new.terms in
    let left = c.whnf.new.fuel in
    let env = read_reach (g.T.Terms.means c.args.terms.now) c.args.env.now c.args.metas.now Δ Σ read in
    let into : KernelRefusal → Refusal = λ r. from_unification (unification.Kernel r) in
    let ran_is : ran into (whnf (reach (rules_env Δ) Σ) A c.args.fuel.now) ≡ Gave (m c.in_ok-form.form) left = rw (← env, ← f) (ap (ran into) c.in_ok-form.ensures.value) in
    let none : product_of (rules_env Δ) r Σ A c.args.fuel.now ≡ Refused r left =
    after (ran into (whnf (reach (rules_env Δ) Σ) A c.args.fuel.now)) (m c.in_ok-form.form) left (parts_or r) ran_is ∙ no_parts r (m c.in_ok-form.form) left c.in-None.ensures.parts in
    subst (λ o. Shows h m o left c.args.refusal) (sym none) (refuses _ h0 h m0 m r left c.args.refusal c.whnf.ensures.kept shown)
