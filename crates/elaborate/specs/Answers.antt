-- What calls of elaboration answer, over a store of terms.
use Rattle.std.specs.Prelude.{◌≡◌, ℕ, Result, Ok, Err}
use Rattle.ld_trees.specs.Term.{Term}
use Rattle.goal_state.specs.State.{plain_metas}
use Rattle.unification.specs.Steps.{Outcome, Gave, Refused, OutOfFuel}
use Rattle.pattern_unify.specs.Answers.{ShowsUnify}
use Rattle.pattern_unify.specs.declared.fault.UnifyFault.{UnifyFault}
use Rattle.pattern_unify.specs.declared.fault.UnifyFault.TheVariants as inner
use Rattle.elaboration.specs.Refusals.{Refusal, Unify, UnknownName, WrongCount, NoExpected, NotFunction, NotType, TooManyMetas}
use Rattle.elaboration.specs.Elaboration.{Made}
use Rattle.elaborate.specs.declared.made.Made.{Made as StoredMade}
use Rattle.elaborate.specs.declared.fault.ElabFault.{ElabFault}
use Rattle.elaborate.specs.declared.fault.ElabFault.TheVariants as fault

-- a refusal of unification that has no variant of its own
abbrev pub IsRefusal : {H : Type 0} → UnifyFault H → Type 0
IsRefusal inner.TooManyMetas = ⊥
IsRefusal inner.Fuel = ⊥
IsRefusal inner.Memory = ⊥
IsRefusal e = Unit {0}

-- A fault of elaboration shows the outcome's refusal, which is of a kind that holds those of elaboration, with terms of the store and the
-- units that are left, or that a unit was wanted and none was left. Want of memory shows nothing of the outcome.
abbrev pub ShowsElab : {R A H : Type 0} → (Refusal → R) → (H → Type 0) → (H → Term) → Outcome R A → ℕ → ElabFault H → Type 0
ShowsElab into holds means o left (fault.Unify e) = IsRefusal e × ShowsUnify (λ r. into (Unify r)) holds means o left e
ShowsElab into holds means o left (fault.UnknownName at name) = o ≡ Refused (into (UnknownName at name)) left
ShowsElab into holds means o left (fault.WrongCount at name given wanted) = o ≡ Refused (into (WrongCount at name given wanted)) left
ShowsElab into holds means o left (fault.NoExpected at) = o ≡ Refused (into (NoExpected at)) left
ShowsElab into holds means o left (fault.NotFunction n t f) = (o ≡ Refused (into (NotFunction n (means t) (means f))) left) × holds t × holds f
ShowsElab into holds means o left (fault.NotType n t) = (o ≡ Refused (into (NotType n (means t))) left) × holds t
ShowsElab into holds means o left fault.TooManyMetas = o ≡ Refused (into TooManyMetas) left
ShowsElab into holds means o left fault.Fuel = (o ≡ OutOfFuel) × (left ≡ 0)
ShowsElab into holds means o left fault.Memory = Unit {0}

-- the value of a call with the units that are left, or a fault that shows its refusal
abbrev pub Answers : {A H R : Type 0} → (H → Type 0) → (H → Term) → (R → A) → Outcome Refusal A → ℕ → Result R (ElabFault H) → Type 0
Answers holds means value o left (Ok r) = o ≡ Gave (value r) left
Answers holds means value o left (Err e) = ShowsElab (λ r. r) holds means o left e

-- what was elaborated, with the trees that its handles mean
abbrev pub plain_made : {H : Type 0} → (H → Term) → StoredMade H → Made
plain_made means r = record { work = record { metas = plain_metas means r.metas; goals = r.goals; holes = r.holes }; term = means r.term; ty = means r.ty }
