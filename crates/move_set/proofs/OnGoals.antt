-- A move in a state, over a store and over plain trees.
use Rattle.std.proofs.Common.{◌≡◌, ℕ, zero, suc, ◌≤◌, ◌<◌, Bool, false, not, ◌&&◌, nat_le, List, [], ◌∷◌, ◌++◌, filter, length, All, if◌then◌else◌, get_or, Option, Some, None, option_map, Result, Ok, Err, refl, sym, ap, ap₂, ◌∙◌, arith, subst}
use Rattle.std.specs.Prelude.{slice_get, IfOk, IfErr, MatchResult}
use Rattle.std.proofs.Math.Path.{fun_ext}
use Rattle.std.proofs.lemmas.Option.{slice_get_within, slice_get_past, get_or_from_slice_get}
use Rattle.ld_trees.specs.Term.{Term}
use Rattle.ld_terms.specs.declared.globals.Decl.{Decl}
use Rattle.term_syntax.specs.Lex.{Text}
use Rattle.term_syntax.specs.Input.{Input}
use Rattle.term_syntax.specs.Reading.{Outcome as Parsed, Gives as ReadGives, IsRead}
use Rattle.term_syntax.specs.declared.fault.ReadFault.{ReadFault}
use Rattle.term_syntax.specs.declared.fault.ReadFault.TheVariants as read_faults
use Rattle.move_text.specs.Reading.{read}
use Rattle.move_text.specs.declared.moves.Move.{Move}
use Rattle.meta_trees.specs.Dependencies.{below}
use Rattle.meta_context.specs.Declaring.{IsOpen}
use Rattle.meta_laws.specs.Cut.{listed}
use Rattle.goal_state.specs.State.{State, is_open, plain_metas}
use Rattle.goal_state.specs.StoredState.{StoredState, plain_state}
use Rattle.goal_state.proofs.Means.{open_again, open_is}
use Rattle.unification.specs.Steps.{Gave, Refused, go_on}
use Rattle.pattern_unify.proofs.Meanings.{metas_length}
use Rattle.pattern_unify.proofs.Follow.{after}
use Rattle.move_set.specs.declared.fault.MoveFault.{MoveFault}
use Rattle.move_set.specs.declared.fault.MoveFault.TheVariants as fault
use Rattle.move_set.specs.Answers.{Shows, shows_terms, IsBeside, IsRefused, Gives}
use Rattle.move_set.specs.Faults.{read_fault}
use Rattle.move_set.specs.Refusals.{NoGoal, Syntax, Outcome}
use Rattle.move_set.specs.Moves.{Moved, step, first_open, next_goals, declared_goal, goal_at, ended, at_goal, read_at_goal, moved}

-- ---- refusals

module _ {T H : Type 0} (holds : T → H → Type 0) (means : T → H → Term) where
  pub bare_refused : (t : T) (o : Outcome State) (left : ℕ) (e : MoveFault H) (shown : Option T) → shows_terms e ≡ false → shown ≡ None → Shows (holds t) (means t) o left e → IsRefused holds means o shown e
  bare_refused t o left e shown plain is h = (t, beside, left, h)
    where
      beside : IsBeside t shown (shows_terms e)
      beside = subst (IsBeside t shown) (sym plain) is

  pub memory_refused : (t : T) (o : Outcome State) (terms : Option T) (e : MoveFault H) → terms ≡ None → e ≡ fault.Memory → IsRefused holds means o terms e
  memory_refused t o terms e is q = subst (λ (e : MoveFault H). IsRefused holds means o terms e) (sym q) (t, is, 0, tt)

-- ---- the goals over a store

module _ {H : Type 0} (means : H → Term) (ds : List (Decl H)) where
  same_open : is_open (plain_metas means ds) ≡ is_open ds
  same_open = fun_ext (λ m. open_again means ds m)

  pub next_again : (before : ℕ) (fresh goals : List ℕ) (auto : Bool) → next_goals (plain_metas means ds) before fresh goals auto ≡ next_goals ds before fresh goals auto
  next_again before fresh goals auto =
      ap₂ (λ (p : ℕ → Bool) (n : ℕ). let stated = filter p fresh in (stated ++ below (λ m. nat_le before m && p m && not (listed m stated)) n) ++ filter p (if auto then goals else [])) same_open (metas_length means ds)

  pub first_again : (holes : List (ℕ × ℕ)) → first_open (plain_metas means ds) holes ≡ first_open ds holes
  first_again [] = refl
  first_again (h ∷ hs) = ap₂ (λ b (o : Option ℕ). if b then Some h.1 else o) (open_again means ds h.0) (first_again hs)

  pub open_stored : (m : ℕ) → IsOpen (plain_metas means ds) m → IsOpen ds m
  open_stored m h = (open_is ds m).0 (sym (open_again means ds m) ∙ (open_is (plain_metas means ds) m).1 h)

-- ---- the goal at an index

module _ (s : State) (index : ℕ) (auto : Bool) (m : Move) (units : ℕ) where
  pub no_goal : length s.goals ≤ index → at_goal s index auto m (goal_at s index) units ≡ Refused (NoGoal index (length s.goals)) units
  no_goal l = ap (λ o. at_goal s index auto m (declared_goal s.metas o) units) (slice_get_past s.goals index l)

  module _ (g : ℕ) (d : Decl Term) (is : slice_get s.goals index ≡ Some g) (there : slice_get s.metas g ≡ Some d) where
    pub on_goal : at_goal s index auto m (goal_at s index) units ≡ go_on (step s.items s.metas g d m units) (ended s auto)
    on_goal =
        let found : goal_at s index ≡ Some (g, d) = ap (declared_goal s.metas) is ∙ ap (λ (o : Option (Decl Term)). option_map (λ d. (g, d)) o) there in
        ap (λ o. at_goal s index auto m o units) found

    pub moved_on : (made : Moved) (left : ℕ) → step s.items s.metas g d m units ≡ Gave made left → at_goal s index auto m (goal_at s index) units ≡ ended s auto made left
    moved_on made left e = on_goal ∙ after (step s.items s.metas g d m units) made left (ended s auto) e

pub active_open : (s : State) (index g : ℕ) → All (IsOpen s.metas) s.goals → slice_get s.goals index ≡ Some g → IsOpen s.metas g
active_open s index g a is = subst (IsOpen s.metas) (get_or_from_slice_get s.goals index g g is) (a index g (slice_get_within s.goals index g is))

pub found_at : (xs : List ℕ) (i : ℕ) → i < length xs → slice_get xs i ≡ Some (get_or xs i 0)
found_at [] i l = absurd (omega (arith, l))
found_at (x ∷ xs) zero l = refl
found_at (x ∷ xs) (suc i) l = found_at xs i (omega (arith, l))

-- ---- what the calls come to

module _ {T H : Type 0} (holds : T → H → Type 0) (means : T → H → Term) {R : Type 0} (t : T) (terms : R → Option T) (why : R → MoveFault H) (o : Outcome State) where
  pub finished : (r : Result (StoredState T H) R) (x : State) (left : ℕ) → o ≡ Gave x left → IfOk r (λ s. plain_state means s ≡ x)
      → IfErr r (λ r. (terms r ≡ None) × (why r ≡ fault.Memory)) → MatchResult r (Gives means o) (λ r. IsRefused holds means o (terms r) (why r))
  finished (Ok s) x left is f m = (left, is ∙ ap (λ x. Gave x left) (sym f))
  finished (Err e) x left is f m = memory_refused holds means t o (terms e) (why e) m.0 m.1

  pub gives_then : (P : State → Type 0) (r : Result (StoredState T H) R) → MatchResult r (Gives means o) (λ r. IsRefused holds means o (terms r) (why r))
      → ((s : State) (left : ℕ) → o ≡ Gave s left → P s) → IfOk r (λ s. P (plain_state means s))
  gives_then P (Ok s) h f = f (plain_state means s) h.0 h.1
  gives_then P (Err e) h f = tt

-- ---- the text

pub text_read : (s : State) (index : ℕ) (text : Text) (units : ℕ) (auto : Bool) (m : Move) → IsRead (λ (m : Move) (i : Input). m) (read text) m → moved s index text units auto ≡ at_goal s index auto m (goal_at s index) units
unfolding moved
text_read s index text units auto m h = by (read text) h where
  by : (o : Parsed Move) → IsRead (λ (m : Move) (i : Input). m) o m → read_at_goal s index auto o units ≡ at_goal s index auto m (goal_at s index) units
  by (Ok p) h = ap (λ (m : Move). at_goal s index auto m (goal_at s index) units) (sym h)
  by (Err i) h = absurd h

pub text_refused : {T H : Type 0} (holds : T → H → Type 0) (means : T → H → Term) (t : T) (s : State) (index : ℕ) (text : Text) (units : ℕ) (auto : Bool) (terms : Option T) (e : ReadFault)
    → terms ≡ None → ReadGives {A = Move} {B = Move} (λ (m : Move) (i : Input). m) (read text) (Err e) → IsRefused holds means (moved s index text units auto) terms (read_fault e)
unfolding moved
text_refused holds means t s index text units auto terms read_faults.Memory is h = (t, is, 0, tt)
text_refused holds means t s index text units auto terms (read_faults.Syntax at) is h = (t, is, units, ap (λ o. read_at_goal s index auto o units) h.1 ∙ ap (λ at. Refused (Syntax at) units) (sym h.2))
