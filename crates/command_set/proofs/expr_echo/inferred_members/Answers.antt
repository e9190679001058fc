use Rattle.std.proofs.Common.{◌≡◌, ◌≢◌, ◌∙◌, subst, IfOk, [], None, Ok}
use Rattle.conversion.specs.Globals.{context_of, env_of}
use Rattle.conversion.specs.Runs.{Gave}
use Rattle.kernel_check.specs.Inference.{infer}
use Rattle.kernel_check.specs.Answers.{Shows as ShowsOutcome}
use Rattle.kernel_check.specs.declared.fault.KernelFault.TheVariants as fault
use Rattle.meta_context.specs.Plain.{plain_items}
use Rattle.reply_text.specs.Showable.{fault_members}
use Rattle.command_set.specs.Echo.{resolved}
use Rattle.command_set.proofs.Answered.{showable}
use Rattle.command_set.proofs.Echoed.{type_is, refusal_is}
use Rattle.command_set.proofs.Results.{both_ok}
use Rattle.command_set.proofs.expr_echo.inferred_members.Goals as goal

pub typed_members-requires-clause-term : goal.typed_members-requires-clause-term
typed_members-requires-clause-term g c = (c.infer.ensures.kept c.args.h c.requires.term).0

pub typed_members-requires-clause-ty : goal.typed_members-requires-clause-ty
typed_members-requires-clause-ty g c = c.in-Ok.ensures.held

pub fault_members-requires : goal.fault_members-requires
fault_members-requires g c = record { showable = showable (g.T.Terms.holds c.infer.new.terms) (g.T.Terms.means c.infer.new.terms) _ _ c.in-Err.fault c.in-Err.ensures.value }

pub returns-in-Ok : goal.returns-in-Ok
returns-in-Ok g c =
    let m0 = g.T.Terms.means c.args.terms.now in
    let m = g.T.Terms.means c.infer.new.terms in
    let e : c.deref.result.now ≡ [] = c.deref.ensures.value ∙ c.new-closed.ensures.items in
    let v = subst (λ ls. infer (env_of m0 c.args.items.now []) (context_of m0 ls) (m0 c.args.h) c.new-fuel.result ≡ Gave (m c.in-Ok.ty) c.infer.new.fuel) e c.in-Ok.ensures.value in
    let k = c.infer.ensures.kept c.args.h c.requires.term in
    subst (λ t. IfOk c.typed_members.result (λ x. x ≡ t)) (type_is m0 c.args.items.now c.args.units (m0 c.args.h) (m c.in-Ok.ty) (m c.args.h) c.new-fuel.result c.infer.new.fuel c.new-fuel.ensures v k.1) c.typed_members.ensures

pub returns : goal.returns
returns g c =
    let m0 = g.T.Terms.means c.args.terms.now in
    let h = g.T.Terms.holds c.infer.new.terms in
    let m = g.T.Terms.means c.infer.new.terms in
    let e : c.deref.result.now ≡ [] = c.deref.ensures.value ∙ c.new-closed.ensures.items in
    let v = subst (λ ls. ShowsOutcome h m (infer (env_of m0 c.args.items.now []) (context_of m0 ls) (m0 c.args.h) c.new-fuel.result) c.infer.new.fuel c.in-Err.fault) e c.in-Err.ensures.value in
    both_ok c.fault_members.result (λ x. x ≡ fault_members m None c.in-Err.fault) (λ x. c.in-Err.fault ≢ fault.Memory) (λ x. x ≡ resolved (plain_items m0 c.args.items.now) c.args.units (Ok (m0 c.args.h)))
    (λ x p q. p ∙ refusal_is m0 c.args.items.now c.args.units (m0 c.args.h) h m c.in-Err.fault c.new-fuel.result c.infer.new.fuel c.new-fuel.ensures v q)
    c.fault_members.ensures.value c.fault_members.ensures.some
