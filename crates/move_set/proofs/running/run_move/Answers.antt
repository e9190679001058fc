use Rattle.std.proofs.Common.{◌≡◌, ◌≢◌, ◌∙◌, ◌<◌, ℕ, length, Some, None, sym, refl, subst}
use Rattle.std.specs.Prelude.{slice_get}
use Rattle.ld_trees.specs.Term.{Term}
use Rattle.ld_terms.specs.declared.globals.Decl.{Decl}
use Rattle.goal_state.specs.State.{State, IsLegalState}
use Rattle.goal_state.specs.StoredState.{plain_state}
use Rattle.goal_state.specs.Following.{Extend}
use Rattle.coupling.specs.Coupling.{AreCoupled}
use Rattle.unification.specs.Laws.{Stays}
use Rattle.pattern_unify.proofs.Meanings.{metas_length}
use Rattle.move_set.specs.Answers.{IsRefused}
use Rattle.move_set.specs.Laws.{IsNeeded, LooksTheSame}
use Rattle.move_set.specs.Moves.{moved}
use Rattle.move_set.proofs.OnGoals.{gives_then, text_read, text_refused}
use Rattle.move_set.proofs.States.{moving_follows, moving_has_footprint}
use Rattle.move_set.proofs.Independent.{uncoupled_goals_stay}
use Rattle.move_set.proofs.running.run_move.Goals as goal

pub returns-in-Ok-clause-value : goal.returns-in-Ok-clause-value
returns-in-Ok-clause-value g c =
    let s0 : State = plain_state g.T.Terms.means c.args.state.now in
    c.move_on.ensures s0 (moved s0 c.args.goal c.args.text.now c.args.units c.args.auto) refl (sym (text_read s0 c.args.goal c.args.text.now c.args.units c.args.auto c.in-Ok.step c.in-Ok.ensures.exact))

pub returns-in-Ok-clause-kept : goal.returns-in-Ok-clause-kept
returns-in-Ok-clause-kept g c =
    let s0 : State = plain_state g.T.Terms.means c.args.state.now in
    let o = moved s0 c.args.goal c.args.text.now c.args.units c.args.auto in
    let ok : IsLegalState s0 = c.terms-terms.ensures.legal.legal in
    let value = c.move_on.ensures s0 o refl (sym (text_read s0 c.args.goal c.args.text.now c.args.units c.args.auto c.in-Ok.step c.in-Ok.ensures.exact)) in
    gives_then g.T.Terms.holds g.T.Terms.means c.args.state.now.terms (λ r. r.terms) (λ r. r.fault) o (λ (s : State). Extend s0.metas s.metas) c.move_on.result value
    (λ s left e. let f = moving_follows s0 s c.args.goal c.args.text.now c.args.units left c.args.auto ok e in f.0.extend)

pub returns-in-Ok-clause-assigns : goal.returns-in-Ok-clause-assigns
returns-in-Ok-clause-assigns g c =
    let s0 : State = plain_state g.T.Terms.means c.args.state.now in
    let o = moved s0 c.args.goal c.args.text.now c.args.units c.args.auto in
    let m0 = g.T.Terms.means c.args.state.now.terms in
    let value = c.move_on.ensures s0 o refl (sym (text_read s0 c.args.goal c.args.text.now c.args.units c.args.auto c.in-Ok.step c.in-Ok.ensures.exact)) in
    let ok : IsLegalState s0 = c.terms-terms.ensures.legal.legal in
    let AreStill : State → Type 0 = λ s. (g k : ℕ) → slice_get c.args.state.now.goals c.args.goal ≡ Some g → k < length c.args.state.now.metas → (IsNeeded s0.metas g k → ⊥) → Stays s0.metas s.metas k in
    gives_then g.T.Terms.holds g.T.Terms.means c.args.state.now.terms (λ r. r.terms) (λ r. r.fault) o AreStill c.move_on.result value
    (λ s left e m k is low unneeded.
    let here : k < length s0.metas = subst (λ l. k < l) (sym (metas_length m0 c.args.state.now.metas)) low in
    moving_has_footprint s0 s c.args.goal m k c.args.text.now c.args.units left c.args.auto ok is e here unneeded)

pub returns-in-Ok-clause-independent : goal.returns-in-Ok-clause-independent
returns-in-Ok-clause-independent g c =
    let s0 : State = plain_state g.T.Terms.means c.args.state.now in
    let o = moved s0 c.args.goal c.args.text.now c.args.units c.args.auto in
    let value = c.move_on.ensures s0 o refl (sym (text_read s0 c.args.goal c.args.text.now c.args.units c.args.auto c.in-Ok.step c.in-Ok.ensures.exact)) in
    let ok : IsLegalState s0 = c.terms-terms.ensures.legal.legal in
    let AreStill : State → Type 0 = λ s. (m h : ℕ) (d : Decl Term) → slice_get c.args.state.now.goals c.args.goal ≡ Some m → slice_get s0.metas h ≡ Some d → d.value ≡ None → m ≢ h → (AreCoupled s0.metas m h → ⊥) → LooksTheSame s0.metas s.metas h d in
    gives_then g.T.Terms.holds g.T.Terms.means c.args.state.now.terms (λ r. r.terms) (λ r. r.fault) o AreStill c.move_on.result value
    (λ s left e m h d is there unset apart uncoupled. uncoupled_goals_stay s0 s c.args.goal m h d c.args.text.now c.args.units left c.args.auto ok is e there unset apart uncoupled)

pub returns-in-Err-clause-value : goal.returns-in-Err-clause-value
returns-in-Err-clause-value g c =
    let s0 : State = plain_state g.T.Terms.means c.args.state.now in
    let o = moved s0 c.args.goal c.args.text.now c.args.units c.args.auto in
    subst (λ why. IsRefused g.T.Terms.holds g.T.Terms.means o c.bare.result.terms why) (sym (c.bare.ensures.fault ∙ c.from.ensures))
    (text_refused g.T.Terms.holds g.T.Terms.means c.args.state.now.terms s0 c.args.goal c.args.text.now c.args.units c.args.auto c.bare.result.terms c.in-Err.fault c.bare.ensures.terms c.in-Err.ensures.exact)
