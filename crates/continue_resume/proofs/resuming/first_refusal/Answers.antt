use Rattle.std.proofs.Common.{suc, drop, sym, subst, arith}
use Rattle.continue_resume.specs.Resuming.{if_all_open}
use Rattle.continue_resume.specs.Answers.{ShowsRefusal}
use Rattle.continue_resume.proofs.Legal.{refused_at}
use Rattle.continue_resume.proofs.resuming.first_refusal.Goals as goal

pub returns-in-Some : goal.returns-in-Some
returns-in-Some g c r =
    let ds = c.args.metas.now in
    let ms = c.args.goals.now in
    let i = c.loop-m.m-index in
    subst (λ o. ShowsRefusal o c.in-Some.fault) (sym (refused_at ds ms i r (omega arith) (c.loop-m.invariant r))) (c.in-Some.ensures (if_all_open ds (drop (suc i) ms) r))
