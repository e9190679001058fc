-- What calls of a move answer, over a store of terms.
use Rattle.std.specs.Prelude.{◌≡◌, ◌<◌, ℕ, suc, Bool, true, false, List, All, Option, Some, None, Result, Ok, Err}
use Rattle.ld_trees.specs.Term.{Term}
use Rattle.pattern_unify.specs.declared.fault.UnifyFault.{UnifyFault}
use Rattle.pattern_unify.specs.declared.fault.UnifyFault.TheVariants as unify
use Rattle.ld_terms.specs.declared.globals.Decl.{Decl}
use Rattle.conversion.specs.Globals.{IsDeclOf}
use Rattle.goal_state.specs.State.{State, plain_metas}
use Rattle.goal_state.specs.StoredState.{StoredState, plain_state}
use Rattle.unification.specs.Steps.{Gave, Refused, OutOfFuel}
use Rattle.unification.specs.Refusals.{Plain}
use Rattle.elaborate.specs.declared.fault.ElabFault.{ElabFault}
use Rattle.elaborate.specs.declared.fault.ElabFault.TheVariants as elab
use Rattle.elaborate.specs.Answers.{ShowsElab}
use Rattle.move_set.specs.Refusals.{Refusal, Outcome, Step, Syntax, NoGoal, NameTaken, NotProduct, NoAssumption, NotDefined, NoOccurrence, Unsolved, Elab, TooManyMetas}
use Rattle.move_set.specs.Applying.{Application}
use Rattle.move_set.specs.Moves.{Moved}
use Rattle.move_set.specs.declared.moves.Moved.{Moved as StoredMoved}
use Rattle.move_set.specs.declared.applying.Application.{Application as StoredApplication}
use Rattle.move_set.specs.declared.applying.Turn.{Turn}
use Rattle.move_set.specs.declared.applying.Turn.TheVariants as turn
use Rattle.move_set.specs.declared.fault.MoveFault.{MoveFault}
use Rattle.move_set.specs.declared.fault.MoveFault.TheVariants as fault

-- ---- refusals

-- a refusal of elaboration that has no variant of its own
abbrev pub IsInner : {H : Type 0} → ElabFault H → Type 0
IsInner elab.TooManyMetas = ⊥
IsInner elab.Fuel = ⊥
IsInner elab.Memory = ⊥
IsInner e = Unit {0}

-- A fault shows the refusal of an outcome with terms of the store and the units that are left, or that a unit was wanted and none was
-- left. Want of memory shows nothing of the outcome.
abbrev pub Shows : {A H : Type 0} → (H → Type 0) → (H → Term) → Outcome A → ℕ → MoveFault H → Type 0
Shows holds means o left (fault.Syntax at) = o ≡ Refused (Syntax at) left
Shows holds means o left (fault.NoGoal index count) = o ≡ Refused (NoGoal index count) left
Shows holds means o left (fault.NameTaken name) = o ≡ Refused (NameTaken name) left
Shows holds means o left fault.NotProduct = o ≡ Refused NotProduct left
Shows holds means o left fault.NoAssumption = o ≡ Refused NoAssumption left
Shows holds means o left (fault.NotDefined name) = o ≡ Refused (NotDefined name) left
Shows holds means o left (fault.NoOccurrence name) = o ≡ Refused (NoOccurrence name) left
Shows holds means o left (fault.Unsolved at) = o ≡ Refused (Unsolved at) left
Shows holds means o left (fault.Elab e) = IsInner e × ShowsElab (λ r. Elab r) holds means o left e
Shows holds means o left fault.TooManyMetas = o ≡ Refused TooManyMetas left
Shows holds means o left fault.Fuel = (o ≡ OutOfFuel) × (left ≡ 0)
Shows holds means o left fault.Memory = Unit {0}

-- whether a fault shows terms
abbrev pub unify_shows_terms : {H : Type 0} → UnifyFault H → Bool
unify_shows_terms (unify.Kernel e) = true
unify_shows_terms (unify.Mismatch n f w) = true
unify_shows_terms e = false

abbrev pub elab_shows_terms : {H : Type 0} → ElabFault H → Bool
elab_shows_terms (elab.Unify e) = unify_shows_terms e
elab_shows_terms (elab.NotFunction n t f) = true
elab_shows_terms (elab.NotType n t) = true
elab_shows_terms e = false

abbrev pub shows_terms : {H : Type 0} → MoveFault H → Bool
shows_terms (fault.Elab e) = elab_shows_terms e
shows_terms e = false

-- the store stands beside a fault exactly where it shows terms
abbrev pub IsBeside : {T : Type 0} → T → Option T → Bool → Type 0
IsBeside t terms true = terms ≡ Some t
IsBeside t terms false = terms ≡ None

-- what a refused move says of an outcome: a fault that shows it, with a store of the fault's terms
abbrev pub IsRefused : {T H : Type 0} → (T → H → Type 0) → (T → H → Term) → Outcome State → Option T → MoveFault H → Type 0
IsRefused {T} holds means o terms e = (t : T) × IsBeside t terms (shows_terms e) × (left : ℕ) × Shows (holds t) (means t) o left e

-- ---- answers

-- the value of a call with the units that are left, or a fault that shows its refusal
abbrev pub Answers : {A H R : Type 0} → (H → Type 0) → (H → Term) → (R → A) → Outcome A → ℕ → Result R (MoveFault H) → Type 0
Answers holds means value o left (Ok r) = o ≡ Gave (value r) left
Answers holds means value o left (Err e) = Shows holds means o left e

-- the state that an outcome gives, with some units left
abbrev pub Gives : {T H : Type 0} → (T → H → Term) → Outcome State → StoredState T H → Type 0
Gives means o s = (left : ℕ) × (o ≡ Gave (plain_state means s) left)

-- what a move has come to over handles, with the trees that they mean
abbrev pub plain_moved : {H : Type 0} → (H → Term) → StoredMoved H → Moved
plain_moved means r = record { metas = plain_metas means r.metas; fresh = r.fresh; holes = r.holes }

-- an application over handles, with the trees that they mean
abbrev pub plain_application : {H : Type 0} → (H → Term) → StoredApplication H → Application
plain_application means a = record { metas = plain_metas means a.metas; args = a.args; term = means a.term; ty = means a.ty }

-- ---- turns of `apply`

-- a fault shows a refusal, whatever units are left
abbrev pub ShowsRefusal : {H : Type 0} → (H → Type 0) → (H → Term) → Refusal → MoveFault H → Type 0
ShowsRefusal holds means r e = (let o : Outcome (Unit {0}) = Refused r 0 in Shows holds means o 0 e)

-- the store holds the terms of an application and of its metavariables
pub record IsApplicationIn {H : Type 0} (holds : H → Type 0) (a : StoredApplication H) : Type 0 where
  pub metas : All (IsDeclOf holds) a.metas
  pub term : holds a.term
  pub ty : holds a.ty

abbrev pub application_of : {H : Type 0} → Turn H → StoredApplication H
application_of (turn.Fitted a) = a
application_of (turn.Longer a) = a

-- A turn is the outcome of applying the term, where its type is the goal's; or it leads to the same as one with one more argument and
-- fewer units.
abbrev pub IsTurn : {H : Type 0} → (H → Type 0) → (H → Term) → (Application → Step Application) → Application → ℕ → ℕ → Result (Turn H) (MoveFault H) → Type 0
IsTurn holds means apply a n left (Ok (turn.Fitted b)) = apply a n ≡ Gave (plain_application means b) left
IsTurn holds means apply a n left (Ok (turn.Longer b)) = (apply a n ≡ apply (plain_application means b) left) × (left < n)
IsTurn holds means apply a n left (Err e) = Shows holds means (apply a n) left e

-- ---- tries of `assumption`

-- One entry is tried, of which n others follow. The outcome of trying from it on is that its type fits; or it is that of trying from the
-- next one on with the units that are left.
abbrev pub IsTried : {H : Type 0} → (H → Type 0) → (H → Term) → (ℕ → ℕ → Step (ℕ × Plain)) → ℕ → ℕ → ℕ → ℕ → Result (Option (List (Decl H))) (MoveFault H) → Type 0
IsTried holds means tried i n units left (Ok (Some more)) = tried i (suc n) units ≡ Gave (i, plain_metas means more) left
IsTried holds means tried i n units left (Ok None) = tried i (suc n) units ≡ tried (suc i) n left
IsTried holds means tried i n units left (Err e) = Shows holds means (tried i (suc n) units) left e
