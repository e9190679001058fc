use Rattle.std.proofs.Common.{All, sym, subst, ap, ◌∙◌}
use Rattle.meta_context.specs.Declaring.{IsOpen}
use Rattle.goal_state.specs.State.{AreDistinct}
use Rattle.goal_state.specs.StoredState.{plain_state}
use Rattle.continue_resume.specs.Continuing.{with_goals}
use Rattle.continue_resume.specs.Resuming.{Resumes, with_listed, if_all_open}
use Rattle.continue_resume.specs.Answers.{ShowsRefusal}
use Rattle.continue_resume.proofs.Legal.{all_open, listed_all, listed_once}
use Rattle.continue_resume.proofs.Reading.{all_open_again, all_small, shows}
use Rattle.continue_resume.proofs.resuming.resume.Goals as goal

pub returns-in-Some : goal.returns-in-Some
returns-in-Some g c =
    let s = c.args.state.now in
    let ms = c.args.goals.now in
    let means = g.T.Terms.means in
    let r = Resumes (with_goals (plain_state means s) (with_listed s.goals ms)) in
    shows _ c.in-Some.fault
    (subst (λ o. ShowsRefusal o c.in-Some.fault) (ap (λ ds. if_all_open ds ms r) c.metas.ensures ∙ sym (all_open_again (means s.terms) s.metas ms r)) (c.in-Some.ensures r))

pub with_listed-requires : goal.with_listed-requires
with_listed-requires g c =
    let s = c.args.state.now in
    let ms = c.args.goals.now in
    let t = plain_state g.T.Terms.means s in
    all_small s.metas ms c.terms-terms.ensures.legal.few (all_open s.metas t ms (sym (ap (λ ds. if_all_open ds ms (Resumes t)) c.metas.ensures) ∙ c.in_default.ensures (Resumes t)))

pub with_goals-requires-clause-active : goal.with_goals-requires-clause-active
with_goals-requires-clause-active g c =
    let s = c.args.state.now in
    let ms = c.args.goals.now in
    let means = g.T.Terms.means in
    let t = plain_state means s in
    let opened = all_open t.metas t ms (all_open_again (means s.terms) s.metas ms (Resumes t) ∙ sym (ap (λ ds. if_all_open ds ms (Resumes t)) c.metas.ensures) ∙ c.in_default.ensures (Resumes t)) in
    subst (All (IsOpen t.metas)) (sym (c.in_ok-goals.ensures ∙ ap (λ xs. with_listed xs ms) c.goals.ensures)) (listed_all (IsOpen t.metas) s.goals ms c.terms-terms.ensures.legal.legal.active opened)

pub with_goals-requires-clause-once : goal.with_goals-requires-clause-once
with_goals-requires-clause-once g c =
    let s = c.args.state.now in
    let ms = c.args.goals.now in
    subst AreDistinct (sym (c.in_ok-goals.ensures ∙ ap (λ xs. with_listed xs ms) c.goals.ensures)) (listed_once s.goals ms c.terms-terms.ensures.legal.legal.once)

pub returns : goal.returns
returns g c =
    let s = c.args.state.now in
    let ms = c.args.goals.now in
    let means = g.T.Terms.means in
    let t = plain_state means s in
    let r = Resumes (with_goals t (with_listed s.goals ms)) in
    let same = c.in_ok-goals.ensures ∙ ap (λ xs. with_listed xs ms) c.goals.ensures in
    all_open_again (means s.terms) s.metas ms r
    ∙ sym (ap (λ ds. if_all_open ds ms r) c.metas.ensures)
    ∙ c.in_default.ensures r
    ∙ ap Resumes (ap (with_goals t) (sym same) ∙ sym c.in_ok-with_goals.ensures)
