use Rattle.std.proofs.Common.{◌≡◌, ◌∙◌, ap, ap₂, sym, refl, subst, IfSome, Some, None, option_map}
use Rattle.term_syntax.specs.Scoping.{index_of, label_text}
use Rattle.meta_context.specs.Plain.{rules_ctx}
use Rattle.unification.specs.Steps.{Refused}
use Rattle.elaboration.specs.Refusals.{UnknownName}
use Rattle.elaboration.specs.Elaboration.{Surroundings}
use Rattle.elaborate.specs.Standing.{pair_trees}
use Rattle.elaborate.specs.Steps.{typed_at}
use Rattle.elaborate.proofs.Follow.{answers}
use Rattle.elaborate.proofs.HolesAndVariables.{variable_is}
use Rattle.elaborate.proofs.Meanings.{context_read, held_kept, read_kept, room, want_held, want_kept}
use Rattle.elaborate.proofs.leaves.variable.Goals as goal

pub typed_variable-requires-clause-entries : goal.typed_variable-requires-clause-entries
typed_variable-requires-clause-entries g c =
    c.requires.held.entries

pub typed_variable-requires-clause-room : goal.typed_variable-requires-clause-room
typed_variable-requires-clause-room g c =
    room c.requires.held

pub meet-requires-clause-held : goal.meet-requires-clause-held
meet-requires-clause-held g c =
    let h0 = g.T.Terms.holds c.args.terms.now in
    let m0 = g.T.Terms.means c.args.terms.now in
    let h1 = g.T.Terms.holds c.typed_variable.new.terms in
    let m1 = g.T.Terms.means c.typed_variable.new.terms in
    held_kept h0 m0 h1 m1 c.in_ok-found.ensures.kept c.requires.held

pub meet-requires-clause-want : goal.meet-requires-clause-want
meet-requires-clause-want g c =
    let h0 = g.T.Terms.holds c.args.terms.now in
    let m0 = g.T.Terms.means c.args.terms.now in
    let h1 = g.T.Terms.holds c.typed_variable.new.terms in
    let m1 = g.T.Terms.means c.typed_variable.new.terms in
    want_held h0 m0 h1 m1 c.in_ok-found.ensures.kept c.args.want c.requires.want

pub returns-in-Some-clause-value : goal.returns-in-Some-clause-value
returns-in-Some-clause-value g c Δ W w s r e =
    let h0 = g.T.Terms.holds c.args.terms.now in
    let m0 = g.T.Terms.means c.args.terms.now in
    let h1 = g.T.Terms.holds c.typed_variable.new.terms in
    let m1 = g.T.Terms.means c.typed_variable.new.terms in
    let index : c.in_ok-index.index ≡ index_of s.outer c.args.x.now s.bound =
    c.in_ok-index.ensures ∙ ap (λ (z : Surroundings). index_of z.outer c.args.x.now z.bound) r.here_is in
    let typed : typed_at (rules_ctx s.entries) (index_of s.outer c.args.x.now s.bound) ≡ option_map (pair_trees m1) (Some c.in-Some.pair) =
    sym (ap₂ typed_at (context_read m0 r) index) ∙ sym c.in_ok-found.ensures.value ∙ ap (option_map (pair_trees m1)) c.in-Some.is in
    let R = UnknownName c.args.at (label_text c.args.x.now) in
    let n = c.args.fuel.now in
    let whole = variable_is Δ R W w s n (index_of s.outer c.args.x.now s.bound) (option_map (pair_trees m1) (Some c.in-Some.pair)) typed in
    let h = g.T.Terms.holds c.meet.new.terms in
    let m = g.T.Terms.means c.meet.new.terms in
    answers h m _ _ _ c.meet.new.fuel c.meet.result whole
    (c.meet.ensures.value Δ W w s (m1 c.in-Some.pair.0) (m1 c.in-Some.pair.1) (read_kept h0 m0 h1 m1 c.in_ok-found.ensures.kept c.requires.held r) (want_kept h0 m0 h1 m1 c.in_ok-found.ensures.kept c.args.want c.requires.want ∙ e) refl refl)

pub returns-in_ok-name-in-None-clause-value : goal.returns-in_ok-name-in-None-clause-value
returns-in_ok-name-in-None-clause-value g c Δ W w s r e =
    let h0 = g.T.Terms.holds c.args.terms.now in
    let m0 = g.T.Terms.means c.args.terms.now in
    let h1 = g.T.Terms.holds c.typed_variable.new.terms in
    let m1 = g.T.Terms.means c.typed_variable.new.terms in
    let index : c.in_ok-index.index ≡ index_of s.outer c.args.x.now s.bound =
    c.in_ok-index.ensures ∙ ap (λ (z : Surroundings). index_of z.outer c.args.x.now z.bound) r.here_is in
    let typed : typed_at (rules_ctx s.entries) (index_of s.outer c.args.x.now s.bound) ≡ option_map (pair_trees m1) None =
    sym (ap₂ typed_at (context_read m0 r) index) ∙ sym c.in_ok-found.ensures.value ∙ ap (option_map (pair_trees m1)) c.in-None.is in
    let R = UnknownName c.args.at (label_text c.args.x.now) in
    let n = c.args.fuel.now in
    let whole = variable_is Δ R W w s n (index_of s.outer c.args.x.now s.bound) (option_map (pair_trees m1) None) typed in
    whole ∙ ap (λ x. Refused (UnknownName c.args.at x) n) (sym c.in_ok-name-in-None.ensures)

pub meet-requires-clause-term : goal.meet-requires-clause-term
meet-requires-clause-term g c =
    let h1 = g.T.Terms.holds c.typed_variable.new.terms in
    (subst (λ o. IfSome o (λ p. h1 p.0 × h1 p.1)) c.in-Some.is c.in_ok-found.ensures.held).0

pub meet-requires-clause-ty : goal.meet-requires-clause-ty
meet-requires-clause-ty g c =
    let h1 = g.T.Terms.holds c.typed_variable.new.terms in
    (subst (λ o. IfSome o (λ p. h1 p.0 × h1 p.1)) c.in-Some.is c.in_ok-found.ensures.held).1
