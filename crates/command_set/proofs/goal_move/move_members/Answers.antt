use Rattle.std.proofs.Common.{◌≡◌, subst, ◌∙◌, ap, sym, None, codes}
use Rattle.move_set.specs.Answers.{IsRefused}
use Rattle.reply_text.specs.Refusals.{syntax, no_goal, plain, name_taken, unsolved, out_of_fuel}
use Rattle.command_set.specs.Goals.{made, says, of_name, move_refusal}
use Rattle.command_set.specs.Shown.{IsShownMove}
use Rattle.command_set.proofs.Results.{one_ok}
use Rattle.command_set.proofs.goal_move.move_members.Goals as goal

pub elab_members-requires : goal.elab_members-requires
elab_members-requires g c = record { shown = subst (IsShownMove g.T.Terms.holds c.args.terms.now) c.in-Elab.is c.requires.shown }

pub returns-in-Elab : goal.returns-in-Elab
returns-in-Elab g c = λ o s.
    let shown = subst (IsRefused g.T.Terms.holds g.T.Terms.means o c.args.terms.now) c.in-Elab.is s in
    c.elab_members.ensures o shown.2 shown.0 shown.1 shown.3.1

pub returns-in-Syntax : goal.returns-in-Syntax
unfolding move_refusal
returns-in-Syntax g c = λ o s.
    let shown = subst (IsRefused g.T.Terms.holds g.T.Terms.means o c.args.terms.now) c.in-Syntax.is s in
    one_ok c.syntax_members.result (λ x. x ≡ syntax c.in-Syntax.at) (λ x. made o ≡ says x) (λ x p. ap made shown.3 ∙ ap says (sym p)) c.syntax_members.ensures

pub returns-in-NoGoal : goal.returns-in-NoGoal
unfolding move_refusal
returns-in-NoGoal g c = λ o s.
    let shown = subst (IsRefused g.T.Terms.holds g.T.Terms.means o c.args.terms.now) c.in-NoGoal.is s in
    one_ok c.no_goal_members.result (λ x. x ≡ no_goal c.in-NoGoal.index c.in-NoGoal.count) (λ x. made o ≡ says x) (λ x p. ap made shown.3 ∙ ap says (sym p)) c.no_goal_members.ensures

pub returns-in-NotProduct : goal.returns-in-NotProduct
unfolding move_refusal
returns-in-NotProduct g c = λ o s.
    let shown = subst (IsRefused g.T.Terms.holds g.T.Terms.means o c.args.terms.now) c.in-NotProduct.is s in
    one_ok c.plain_members.result (λ x. x ≡ plain (codes "notProduct") None) (λ x. made o ≡ says x) (λ x p. ap made shown.3 ∙ ap says (sym p)) c.plain_members.ensures

pub returns-in-Unsolved : goal.returns-in-Unsolved
unfolding move_refusal
returns-in-Unsolved g c = λ o s.
    let shown = subst (IsRefused g.T.Terms.holds g.T.Terms.means o c.args.terms.now) c.in-Unsolved.is s in
    one_ok c.unsolved_members.result (λ x. x ≡ unsolved None c.in-Unsolved.at) (λ x. made o ≡ says x) (λ x p. ap made shown.3 ∙ ap says (sym p)) c.unsolved_members.ensures

pub returns-in-TooManyMetas : goal.returns-in-TooManyMetas
unfolding move_refusal
returns-in-TooManyMetas g c = λ o s.
    let shown = subst (IsRefused g.T.Terms.holds g.T.Terms.means o c.args.terms.now) c.in-TooManyMetas.is s in
    one_ok c.plain_members-in-TooManyMetas.result (λ x. x ≡ plain (codes "tooManyMetas") None) (λ x. made o ≡ says x) (λ x p. ap made shown.3 ∙ ap says (sym p)) c.plain_members-in-TooManyMetas.ensures

pub returns-in-Fuel : goal.returns-in-Fuel
unfolding move_refusal
returns-in-Fuel g c = λ o s.
    let shown = subst (IsRefused g.T.Terms.holds g.T.Terms.means o c.args.terms.now) c.in-Fuel.is s in
    one_ok c.fuel_members.result (λ x. x ≡ out_of_fuel None) (λ x. made o ≡ says x) (λ x p. ap made shown.3.0 ∙ ap says (sym p)) c.fuel_members.ensures

pub returns-in-NameTaken : goal.returns-in-NameTaken
unfolding move_refusal
returns-in-NameTaken g c = λ o s.
    let shown = subst (IsRefused g.T.Terms.holds g.T.Terms.means o c.args.terms.now) c.in-NameTaken.is s in
    one_ok c.taken_members.result (λ x. x ≡ name_taken None c.as_bytes.result.now) (λ x. made o ≡ says x) (λ x p. ap made shown.3 ∙ ap (λ x. says (name_taken None x)) (sym c.as_bytes.ensures) ∙ ap says (sym p)) c.taken_members.ensures

pub returns-in-NoAssumption : goal.returns-in-NoAssumption
unfolding move_refusal
returns-in-NoAssumption g c = λ o s.
    let shown = subst (IsRefused g.T.Terms.holds g.T.Terms.means o c.args.terms.now) c.in-NoAssumption.is s in
    one_ok c.plain_members-in-NoAssumption.result (λ x. x ≡ plain (codes "noAssumption") None) (λ x. made o ≡ says x) (λ x p. ap made shown.3 ∙ ap says (sym p)) c.plain_members-in-NoAssumption.ensures

pub returns-in-NotDefined : goal.returns-in-NotDefined
unfolding move_refusal
returns-in-NotDefined g c = λ o s.
    let shown = subst (IsRefused g.T.Terms.holds g.T.Terms.means o c.args.terms.now) c.in-NotDefined.is s in
    one_ok c.name_members.result (λ x. x ≡ of_name (codes "notDefined") c.as_bytes-in-NotDefined.result.now) (λ x. made o ≡ says x)
    (λ x p. ap made shown.3 ∙ ap (λ x. says (of_name (codes "notDefined") x)) (sym c.as_bytes-in-NotDefined.ensures) ∙ ap says (sym p)) c.name_members.ensures

pub returns-in-NoOccurrence : goal.returns-in-NoOccurrence
unfolding move_refusal
returns-in-NoOccurrence g c = λ o s.
    let shown = subst (IsRefused g.T.Terms.holds g.T.Terms.means o c.args.terms.now) c.in-NoOccurrence.is s in
    one_ok c.name_members-in-NoOccurrence.result (λ x. x ≡ of_name (codes "noOccurrence") c.as_bytes-in-NoOccurrence.result.now) (λ x. made o ≡ says x)
    (λ x p. ap made shown.3 ∙ ap (λ x. says (of_name (codes "noOccurrence") x)) (sym c.as_bytes-in-NoOccurrence.ensures) ∙ ap says (sym p)) c.name_members-in-NoOccurrence.ensures
