use Rattle.std.proofs.Common.{◌≡◌, ◌∙◌, Some, None, ap, refl, sym, subst}
use Rattle.goal_state.specs.StoredState.{plain_state}
use Rattle.unification.specs.Steps.{◌>>◌, pure, Gave, Refused}
use Rattle.move_set.specs.Answers.{IsRefused, plain_moved}
use Rattle.move_set.specs.Moves.{first_open, none_open, after_move}
use Rattle.move_set.specs.Refusals.{Unsolved}
use Rattle.move_set.specs.declared.fault.MoveFault.TheVariants as fault
use Rattle.move_set.proofs.OnGoals.{first_again, bare_refused, finished}
use Rattle.move_set.proofs.running.finish.Goals as goal

pub returns-in-Some : goal.returns-in-Some
returns-in-Some g c o left e =
    let m = g.T.Terms.means c.args.terms in
    let s = plain_state g.T.Terms.means c.args.state.now in
    let made = plain_moved m c.args.moved in
    let found : first_open made.metas made.holes ≡ Some c.in-Some.at = first_again m c.args.moved.metas c.args.moved.holes ∙ ap (first_open c.args.moved.metas) (sym c.as_slice.ensures) ∙ sym c.first_open.ensures ∙ c.in-Some.is in
    let refused : o ≡ Refused (Unsolved c.in-Some.at) left = sym e ∙ ap (λ x. (none_open x >> pure (after_move s c.args.auto made)) left) found in
    subst (λ why. IsRefused g.T.Terms.holds g.T.Terms.means o c.bare.result.terms why) (sym c.bare.ensures.fault)
    (bare_refused g.T.Terms.holds g.T.Terms.means c.args.terms o left (fault.Unsolved c.in-Some.at) c.bare.result.terms refl c.bare.ensures.terms refused)

pub returns-in-None : goal.returns-in-None
returns-in-None g c o left e =
    let m = g.T.Terms.means c.args.terms in
    let s = plain_state g.T.Terms.means c.args.state.now in
    let made = plain_moved m c.args.moved in
    let found : first_open made.metas made.holes ≡ None = first_again m c.args.moved.metas c.args.moved.holes ∙ ap (first_open c.args.moved.metas) (sym c.as_slice.ensures) ∙ sym c.first_open.ensures ∙ c.in-None.is in
    let gave : o ≡ Gave (after_move s c.args.auto made) left = sym e ∙ ap (λ x. (none_open x >> pure (after_move s c.args.auto made)) left) found in
    finished g.T.Terms.holds g.T.Terms.means c.args.terms (λ r. r.terms) (λ r. r.fault) o c.advance.result (after_move s c.args.auto made) left gave c.advance.ensures.state c.advance.ensures.memory
