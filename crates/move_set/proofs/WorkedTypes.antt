-- `have` and `change` over what their texts are elaborated as, so that worked examples compute.
use Rattle.std.proofs.Common.{◌≡◌, ℕ, Bool, false, not, List, Option, Some, None, Ok, refl, sym, ap, ◌∙◌}
use Rattle.ld_trees.specs.Term.{Term}
use Rattle.ld_terms.specs.declared.globals.Item.{Item}
use Rattle.ld_terms.specs.declared.globals.Decl.{Decl}
use Rattle.term_syntax.specs.Lex.{Text}
use Rattle.term_syntax.specs.Input.{Input}
use Rattle.term_syntax.specs.declared.surface.Surface.{Surface}
use Rattle.move_text.specs.Reading.{read}
use Rattle.move_text.specs.declared.moves.Move.TheVariants as move
use Rattle.goal_state.specs.State.{State}
use Rattle.unification.specs.Steps.{Refused, go_on, ◌>>=◌, ◌>>◌, demand, renamed}
use Rattle.unification.specs.Refusals.{Plain}
use Rattle.elaboration.specs.Elaboration.{Elaborates, Made, AsType, started, standing, check_type}
use Rattle.elaboration.proofs.Equations.{IsRead, computes}
use Rattle.move_set.specs.Refusals.{Outcome, Step, NameTaken, Unsolved, from_elaboration, elab_step}
use Rattle.move_set.specs.Asked.{first_asked}
use Rattle.move_set.specs.Moves.{Moved, has_entry, none_open, cut, have, restated, change, goal_at, ended, moved}
use Rattle.move_set.proofs.Worked.{asked_of, asked_is, on_goal}

module _ (items : List (Item Term)) (metas : Plain) (g : ℕ) (d : Decl Term) where
  -- the type that a text says, as it is elaborated
  abbrev pub typed : Elaborates → Step Made
  typed e = elab_step (e AsType (started items metas) (standing items d.ctx))

  abbrev pub restate : Made → Step Moved
  restate m = restated items metas g d m.work.metas m.term m.work.holes

  abbrev pub cut_at : Text → Made → Step Moved
  cut_at x m = cut items metas g d m.work.metas x m.term m.work.holes

  typed_is : {t : Surface} {e : Elaborates} → IsRead items t e → (f : Made → Step Moved) (n : ℕ) → (elab_step (check_type items metas d.ctx t) >>= f) n ≡ (typed e >>= f) n
  typed_is r f n = ap (λ o. go_on (renamed from_elaboration o) f) (computes items _ AsType (started items metas) (standing items d.ctx) n _ r refl)

  change_is : {t : Surface} {e : Elaborates} (r : IsRead items t e) → asked_of r ≡ None → (n : ℕ) → change items metas g d t n ≡ (typed e >>= restate) n
  change_is {t = t} r q n = ap (λ o. (none_open o >> (elab_step (check_type items metas d.ctx t) >>= restate)) n) (asked_is r ∙ q) ∙ typed_is r restate n

  -- where no entry has the name
  free : (x : Text) (t : Surface) → has_entry d.ctx x ≡ false → (o : Option ℕ) → first_asked t ≡ o → (n : ℕ) → have items metas g d x t n ≡ (none_open o >> (elab_step (check_type items metas d.ctx t) >>= cut_at x)) n
  free x t p o q n = ap (λ b. (demand (not b) (NameTaken x) >> (none_open (first_asked t) >> (elab_step (check_type items metas d.ctx t) >>= cut_at x))) n) p ∙ ap (λ o. (none_open o >> (elab_step (check_type items metas d.ctx t) >>= cut_at x)) n) q

  have_is : {t : Surface} {e : Elaborates} (x : Text) (r : IsRead items t e) → has_entry d.ctx x ≡ false → asked_of r ≡ None → (n : ℕ) → have items metas g d x t n ≡ (typed e >>= cut_at x) n
  have_is {t = t} x r p q n = free x t p None (asked_is r ∙ q) n ∙ typed_is r (cut_at x) n

-- ---- a text's move on a goal

module _ (s : State) (index : ℕ) (text : Text) (units : ℕ) (auto : Bool) {i : Input} {g : ℕ} {d : Decl Term} {o : Outcome State} {t : Surface} {e : Elaborates} where
  pub changes : read text ≡ Ok (move.Change t, i) → goal_at s index ≡ Some (g, d) → (r : IsRead s.items t e) → asked_of r ≡ None → go_on ((typed s.items s.metas g d e >>= restate s.items s.metas g d) units) (ended s auto) ≡ o → moved s index text units auto ≡ o
  changes q there r none f = on_goal s index text units auto (move.Change t) q there (ap (λ o. go_on o (ended s auto)) (change_is s.items s.metas g d r none units) ∙ f)

  pub change_asks : (at : ℕ) → read text ≡ Ok (move.Change t, i) → goal_at s index ≡ Some (g, d) → (r : IsRead s.items t e) → asked_of r ≡ Some at → o ≡ Refused (Unsolved at) units → moved s index text units auto ≡ o
  change_asks at q there r p f =
      on_goal s index text units auto (move.Change t) q there
      (ap (λ x. go_on ((none_open x >> (elab_step (check_type s.items s.metas d.ctx t) >>= restate s.items s.metas g d)) units) (ended s auto)) (asked_is r ∙ p) ∙ sym f)

  pub cuts : (x : Text) → read text ≡ Ok (move.Have x t, i) → goal_at s index ≡ Some (g, d) → (r : IsRead s.items t e) → has_entry d.ctx x ≡ false → asked_of r ≡ None
      → go_on ((typed s.items s.metas g d e >>= cut_at s.items s.metas g d x) units) (ended s auto) ≡ o → moved s index text units auto ≡ o
  cuts x q there r new none f = on_goal s index text units auto (move.Have x t) q there (ap (λ o. go_on o (ended s auto)) (have_is s.items s.metas g d x r new none units) ∙ f)

  pub have_asks : (x : Text) (at : ℕ) → read text ≡ Ok (move.Have x t, i) → goal_at s index ≡ Some (g, d) → (r : IsRead s.items t e) → has_entry d.ctx x ≡ false → asked_of r ≡ Some at → o ≡ Refused (Unsolved at) units → moved s index text units auto ≡ o
  have_asks x at q there r new p f = on_goal s index text units auto (move.Have x t) q there (ap (λ y. go_on y (ended s auto)) (free s.items s.metas g d x t new (Some at) (asked_is r ∙ p) units) ∙ sym f)
