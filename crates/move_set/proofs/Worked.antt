-- Moves over what their texts are elaborated as, so that worked examples compute.
use Rattle.std.proofs.Common.{◌≡◌, ℕ, Bool, List, [], map, Option, Some, None, Ok, refl, sym, ap, ap₂, ◌∙◌, ◌++◌}
use Rattle.ld_trees.specs.Term.{Term}
use Rattle.ld_terms.specs.declared.globals.Item.{Item}
use Rattle.ld_terms.specs.declared.globals.Decl.{Decl}
use Rattle.term_syntax.specs.Lex.{Text}
use Rattle.term_syntax.specs.Input.{Input}
use Rattle.term_syntax.specs.Grammar.{node}
use Rattle.term_syntax.specs.Reading.{Outcome as Parsed}
use Rattle.term_syntax.specs.declared.surface.Surface.{Surface}
use Rattle.term_syntax.specs.declared.surface.Shape.TheVariants as shape
use Rattle.move_text.specs.Reading.{read}
use Rattle.move_text.specs.declared.moves.Move.{Move}
use Rattle.move_text.specs.declared.moves.Move.TheVariants as move
use Rattle.meta_context.specs.Plain.{rules_env}
use Rattle.goal_state.specs.State.{State}
use Rattle.unification.specs.Steps.{Refused, go_on, ◌>>=◌, ◌>>◌, renamed}
use Rattle.unification.specs.Refusals.{Plain}
use Rattle.elaboration.specs.Elaboration.{Elaborates, Made, Any, Of, started, standing}
use Rattle.elaboration.proofs.Equations.{IsRead, AreRead, is_star, is_wild, is_asked, is_named, is_call, is_applied, is_function, is_product, none_more, one_more, computes}
use Rattle.move_set.specs.Refusals.{Outcome, Step, Unsolved, from_elaboration, elab_step}
use Rattle.move_set.specs.Applying.{apply}
use Rattle.move_set.specs.Asked.{or_first, first_of, first_asked}
use Rattle.move_set.specs.Moves.{Moved, none_open, settled, refine, exact, apply_to, step, goal_at, ended, at_goal, read_at_goal, moved}
use Rattle.move_set.proofs.AskedEquations.{asked_star, asked_wild, asked_asked, asked_named, asked_const, asked_app, asked_lam, asked_pi}

-- ---- the first `?`

module _ {items : List (Item Term)} where
  abbrev mutual
    pub asked_of : {t : Surface} {e : Elaborates} → IsRead items t e → Option ℕ
    asked_of is_star = None
    asked_of is_wild = None
    asked_of (is_asked {at = at}) = Some at
    asked_of is_named = None
    asked_of (is_call d) = all_asked_of d
    asked_of (is_applied d e) = or_first (asked_of d) (all_asked_of e)
    asked_of (is_function d e) = or_first (asked_of d) (asked_of e)
    asked_of (is_product d e) = or_first (asked_of d) (asked_of e)

    pub all_asked_of : {us : List Surface} {vs : List Elaborates} → AreRead items us vs → Option ℕ
    all_asked_of none_more = None
    all_asked_of (one_more d e) = or_first (asked_of d) (all_asked_of e)

  mutual
    pub asked_is : {t : Surface} {e : Elaborates} (d : IsRead items t e) → first_asked t ≡ asked_of d
    asked_is (is_star {at = at}) = asked_star (node at shape.Star) refl
    asked_is (is_wild {at = at}) = asked_wild (node at shape.Wild) refl
    asked_is (is_asked {at = at}) = asked_asked (node at shape.Asked) refl
    asked_is (is_named {at = at} {x = x}) = asked_named (node at (shape.Named x)) x refl
    asked_is (is_call {at = at} {a = a} {us = us} d) = asked_const (node at (shape.Const a us)) a us refl ∙ all_asked_are d
    asked_is (is_applied {at = at} {f = f} {us = us} d e) = asked_app (node at (shape.App f us)) f us refl ∙ ap₂ or_first (asked_is d) (all_asked_are e)
    asked_is (is_function {at = at} {x = x} {A = A} {M = M} d e) = asked_lam (node at (shape.Lam x A M)) x A M refl ∙ ap₂ or_first (asked_is d) (asked_is e)
    asked_is (is_product {at = at} {x = x} {A = A} {B = B} d e) = asked_pi (node at (shape.Pi x A B)) x A B refl ∙ ap₂ or_first (asked_is d) (asked_is e)

    all_asked_are : {us : List Surface} {vs : List Elaborates} (d : AreRead items us vs) → first_of (map first_asked us) ≡ all_asked_of d
    all_asked_are none_more = refl
    all_asked_are (one_more d e) = ap₂ or_first (asked_is d) (all_asked_are e)

-- ---- the moves

module _ (items : List (Item Term)) (metas : Plain) (g : ℕ) (d : Decl Term) where
  abbrev after_check : Made → Step Moved
  after_check m = settled items metas g d m.work.metas m.term m.work.goals m.work.holes

  abbrev pub refined : Elaborates → Step Moved
  refined e = elab_step (e (Of d.ty) (started items metas) (standing items d.ctx)) >>= after_check

  abbrev after_synth : Made → Step Moved
  after_synth m = do
    a ← apply (rules_env items) d (record { metas = m.work.metas; args = []; term = m.term; ty = m.ty })
    settled items metas g d a.metas a.term (m.work.goals ++ a.args) m.work.holes

  abbrev pub applied : Elaborates → Step Moved
  applied e = elab_step (e Any (started items metas) (standing items d.ctx)) >>= after_synth

  refined_is : {t : Surface} {e : Elaborates} → IsRead items t e → (n : ℕ) → refine items metas g d t n ≡ refined e n
  refined_is r n = ap (λ o. go_on (renamed from_elaboration o) after_check) (computes items _ (Of d.ty) (started items metas) (standing items d.ctx) n _ r refl)

  applied_is : {t : Surface} {e : Elaborates} → IsRead items t e → (n : ℕ) → apply_to items metas g d t n ≡ applied e n
  applied_is r n = ap (λ o. go_on (renamed from_elaboration o) after_synth) (computes items _ Any (started items metas) (standing items d.ctx) n _ r refl)

  exact_is : {t : Surface} {e : Elaborates} (r : IsRead items t e) → asked_of r ≡ None → (n : ℕ) → exact items metas g d t n ≡ refined e n
  exact_is {t = t} r q n = ap (λ o. (none_open o >> refine items metas g d t) n) (asked_is r ∙ q) ∙ refined_is r n

-- ---- a text's move on a goal

module _ (s : State) (index : ℕ) (text : Text) (units : ℕ) (auto : Bool) {i : Input} {g : ℕ} {d : Decl Term} {o : Outcome State} where
  -- the move that was read, on the goal that was found
  pub on_goal : (m : Move) → read text ≡ Ok (m, i) → goal_at s index ≡ Some (g, d) → go_on (step s.items s.metas g d m units) (ended s auto) ≡ o → moved s index text units auto ≡ o
  unfolding moved
  on_goal m q there f = ap (λ (p : Parsed Move). read_at_goal s index auto p units) q ∙ ap (λ p. at_goal s index auto m p units) there ∙ f

  module _ {t : Surface} {e : Elaborates} where
    pub refines : read text ≡ Ok (move.Refine t, i) → goal_at s index ≡ Some (g, d) → IsRead s.items t e → go_on (refined s.items s.metas g d e units) (ended s auto) ≡ o → moved s index text units auto ≡ o
    refines q there r f = on_goal (move.Refine t) q there (ap (λ o. go_on o (ended s auto)) (refined_is s.items s.metas g d r units) ∙ f)

    pub settles : read text ≡ Ok (move.Exact t, i) → goal_at s index ≡ Some (g, d) → (r : IsRead s.items t e) → asked_of r ≡ None → go_on (refined s.items s.metas g d e units) (ended s auto) ≡ o → moved s index text units auto ≡ o
    settles q there r none f = on_goal (move.Exact t) q there (ap (λ o. go_on o (ended s auto)) (exact_is s.items s.metas g d r none units) ∙ f)

    pub applies : read text ≡ Ok (move.Apply t, i) → goal_at s index ≡ Some (g, d) → IsRead s.items t e → go_on (applied s.items s.metas g d e units) (ended s auto) ≡ o → moved s index text units auto ≡ o
    applies q there r f = on_goal (move.Apply t) q there (ap (λ o. go_on o (ended s auto)) (applied_is s.items s.metas g d r units) ∙ f)

    pub refuses_asked : (at : ℕ) → read text ≡ Ok (move.Exact t, i) → goal_at s index ≡ Some (g, d) → (r : IsRead s.items t e) → asked_of r ≡ Some at → o ≡ Refused (Unsolved at) units → moved s index text units auto ≡ o
    refuses_asked at q there r p f = on_goal (move.Exact t) q there (ap (λ x. go_on ((none_open x >> refine s.items s.metas g d t) units) (ended s auto)) (asked_is r ∙ p) ∙ sym f)
