-- Starting: what it gives, and that the state is legal.
use Rattle.std.proofs.Common.{◌≡◌, ℕ, zero, suc, ◌≤◌, List, [], ◌∷◌, All, Bool, true, false, if◌then◌else◌, None, Result, Ok, Err, length, refl, sym, ap, ap₂, ◌∙◌, subst, arith}
use Rattle.std.specs.Prelude.{IsErrAnd}
use Rattle.ld_trees.specs.Term.{Sort, Term, Srt, none, ◌▹◌}
use Rattle.ld_rules.specs.Environment.{Env}
use Rattle.ld_rules.specs.Legality.{IsLegalEnvironment}
use Rattle.ld_terms.specs.Views.{Keeps}
use Rattle.ld_terms.specs.declared.globals.Item.{Item}
use Rattle.ld_terms.specs.declared.globals.Decl.{Decl}
use Rattle.ld_terms.proofs.Turns.{keeps_both}
use Rattle.conversion.specs.Globals.{IsItemOf, IsDeclOf, env_of}
use Rattle.conversion.specs.Runs.{Refusal, Outcome, Gave, Refused, OutOfFuel, go_on, pure}
use Rattle.kernel_check.specs.Inference.{infer_sort}
use Rattle.kernel_check.specs.Answers.{Shows, Answers, sort_term}
use Rattle.kernel_check.proofs.Calls.{sort_gave}
use Rattle.kernel_check.specs.declared.fault.KernelFault.{KernelFault}
use Rattle.kernel_check.specs.declared.fault.KernelFault.TheVariants as kernel
use Rattle.meta_trees.specs.MetaContext.{declare}
use Rattle.meta_context.specs.Declaring.{declared, IsOpen}
use Rattle.meta_context.specs.Entered.{AreEntered, AreDeclared}
use Rattle.meta_context.specs.Limits.{is_too_deep}
use Rattle.meta_context.specs.Plain.{plain_items, rules_env}
use Rattle.meta_context.proofs.PlainItems.{env_again}
use Rattle.meta_context.proofs.Stored.{items_have_no_metas}
use Rattle.meta_laws.specs.Legality.{HasNoMetas, IsLegalMetas}
use Rattle.meta_laws.proofs.Legal.{empty_is_legal}
use Rattle.meta_laws.proofs.Settling.{declaring_is_sound}
use Rattle.goal_state.specs.State.{State, plain_metas, IsLegalState}
use Rattle.goal_state.specs.StoredState.{StoredState, plain_state, IsKeptState}
use Rattle.goal_state.specs.Starting.{Started, TooDeep, Inferred, first_state, first_run, started}
use Rattle.goal_state.specs.Answers.{start_fault, ShowsStart, Starts, DeclaresFirst}
use Rattle.goal_state.specs.declared.fault.StartFault.{StartFault}
use Rattle.goal_state.specs.declared.fault.StartFault.TheVariants as fault
use Rattle.goal_state.specs.Laws.{StartingIsLegal}
use Rattle.goal_state.proofs.Following.{items_kept, items_held}

-- ---- the law

-- metavariable 0 alone is legal where its type has a sort
first_legal : (Δ : Env) (T : Term) (s : Sort) (n left : ℕ) → HasNoMetas Δ → IsLegalEnvironment Δ → infer_sort Δ none T n ≡ Gave s left → IsLegalMetas Δ (declare none T [])
first_legal Δ T s n left h l e = (declaring_is_sound Δ [] none T s n left (empty_is_legal Δ h l) l e).0

first_open : (T : Term) → All (IsOpen (declared [] T [])) (0 ∷ [])
first_open T zero d l = (_, refl, refl)
first_open T (suc k) d l = absurd (omega arith)

first_is_legal : (items : List (Item Term)) (T : Term) (s : Sort) (n left : ℕ) → IsLegalEnvironment (rules_env items) → infer_sort (rules_env items) none T n ≡ Gave s left → IsLegalState (first_state items T)
first_is_legal items T s n left l e = record {
  legal = first_legal (rules_env items) T s n left (items_have_no_metas (λ t. t) items) l e;
  root = refl;
  active = first_open T;
  once = (refl, tt);
}

-- the inference of the sort gave one
sort_of_start : (b : Bool) (o : Outcome Sort) (S s : State) (left : ℕ) → (if b then TooDeep 0 else Inferred (go_on o (λ _. pure S))) ≡ Inferred (Gave s left) → (z : Sort) × (o ≡ Gave z left) × (S ≡ s)
sort_of_start true o S s left e = absurd cc
sort_of_start false (Gave z k) S s left e =
    let q : k ≡ left = cc in
    let r : S ≡ s = cc in
    (z, ap (Gave z) q, r)
sort_of_start false (Refused r k) S s left e = absurd cc
sort_of_start false OutOfFuel S s left e = absurd cc

pub starting_is_legal : StartingIsLegal
starting_is_legal items T n left s l e =
    let x = sort_of_start (is_too_deep (none ▹ T)) (infer_sort (rules_env items) none T n) (first_state items T) s left e in
    subst IsLegalState x.2 (first_is_legal items T x.0 n left l x.1)

-- ---- the call

-- the one declaration is over handles of the store
all_first : {H : Type 0} (holds : H → Type 0) (ty : H) → holds ty → All (IsDeclOf holds) (declared [] ty [])
all_first holds ty h zero d l = record { ctx = λ k d l. absurd (omega arith); ty = h; value = tt }
all_first holds ty h (suc k) d l = absurd (omega arith)

started_with : (items : List (Item Term)) (T : Term) (n left : ℕ) (z : Sort) → is_too_deep (none ▹ T) ≡ false → infer_sort (rules_env items) none T n ≡ Gave z left
    → started items T n ≡ Inferred (Gave (first_state items T) left)
started_with items T n left z f e =
    ap (λ b. if b then TooDeep 0 else Inferred (first_run items T n)) f ∙ ap (λ o. Inferred (go_on o (λ _. pure (first_state items T)))) e

abbrev RefusedTerm : Refusal → ℕ → Outcome Term
RefusedTerm r k = Refused r k

abbrev RefusedState : Refusal → ℕ → Outcome State
RefusedState r k = Refused r k

refused_again : (r q : Refusal) (k l : ℕ) → RefusedTerm r k ≡ RefusedTerm q l → RefusedState r k ≡ RefusedState q l
refused_again r q k l e =
    let a : r ≡ q = cc in
    let b : k ≡ l = cc in
    ap₂ RefusedState a b

-- a refusal of the sort is one of the start
shown_again : {H : Type 0} (holds : H → Type 0) (means : H → Term) (o : Outcome Sort) (S : State) (units left : ℕ) (e : KernelFault H)
    → Shows holds means (go_on o (λ s. pure (Srt s))) left e → ShowsStart holds means (Inferred (go_on o (λ _. pure S))) units left (start_fault e)
shown_again holds means o S units left kernel.Memory h = tt
shown_again holds means (Gave z k) S units left (kernel.NotType n t) h = let e = h.0 in absurd cc
shown_again holds means (Gave z k) S units left (kernel.NotFunction n t f) h = let e = h.0 in absurd cc
shown_again holds means (Gave z k) S units left (kernel.Mismatch n f w) h = let e = h.0 in absurd cc
shown_again holds means (Gave z k) S units left (kernel.ReductIllTyped n t r) h = let e = h.0 in absurd cc
shown_again holds means (Gave z k) S units left kernel.Fuel h = let e = h.0 in absurd cc
shown_again holds means (Refused q k) S units left (kernel.NotType n t) h = (_, refl, (refused_again q _ k left h.0, h.1))
shown_again holds means (Refused q k) S units left (kernel.NotFunction n t f) h = (_, refl, (refused_again q _ k left h.0, h.1, h.2))
shown_again holds means (Refused q k) S units left (kernel.Mismatch n f w) h = (_, refl, (refused_again q _ k left h.0, h.1, h.2))
shown_again holds means (Refused q k) S units left (kernel.ReductIllTyped n t r) h = (_, refl, (refused_again q _ k left h.0, h.1, h.2))
shown_again holds means (Refused q k) S units left kernel.Fuel h = let e = h.0 in absurd cc
shown_again holds means OutOfFuel S units left (kernel.NotType n t) h = let e = h.0 in absurd cc
shown_again holds means OutOfFuel S units left (kernel.NotFunction n t f) h = let e = h.0 in absurd cc
shown_again holds means OutOfFuel S units left (kernel.Mismatch n f w) h = let e = h.0 in absurd cc
shown_again holds means OutOfFuel S units left (kernel.ReductIllTyped n t r) h = let e = h.0 in absurd cc
shown_again holds means OutOfFuel S units left kernel.Fuel h = (_, refl, (refl, h.1))

module _ {T H : Type 0} (holds : T → H → Type 0) (means : T → H → Term) (old new : T) (items : List (Item H)) (ty : H) (units : ℕ) (kept : Keeps (holds old) (means old) (holds new) (means new)) where
  -- what the start gives by its definition
  abbrev pub Given : Started
  Given = started (plain_items (means old) items) (means old ty) units

  sort_found : (left : ℕ) (r : H) → Answers (holds new) (means new) (means new) (sort_term (env_of (means old) items []) none (means old ty) units) left (Ok r)
      → (z : Sort) × (infer_sort (rules_env (plain_items (means old) items)) none (means old ty) units ≡ Gave z left)
  sort_found left r e =
      let x = sort_gave (infer_sort (env_of (means old) items []) none (means old ty) units) (means new r) left e in
      (x.0, ap (λ Δ. infer_sort Δ none (means old ty) units) (sym (env_again (means old) items)) ∙ x.1)

  -- a type that is too deep
  pub depth_refused : (e : StartFault H) → DeclaresFirst (means old) ty (Err e) → ShowsStart (holds new) (means new) Given units units e
  depth_refused (fault.Kernel e) d = absurd d
  depth_refused (fault.TooDeep m) d =
      let T = means old ty in
      (ap (λ b. if b then TooDeep 0 else Inferred (first_run (plain_items (means old) items) T units)) d.0 ∙ ap TooDeep (sym d.1), refl)
  depth_refused fault.Memory d = tt

  -- a type without a sort
  pub sort_refused : (left : ℕ) (e : KernelFault H) → is_too_deep (none ▹ means old ty) ≡ false → Shows (holds new) (means new) (sort_term (env_of (means old) items []) none (means old ty) units) left e
      → ShowsStart (holds new) (means new) Given units left (start_fault e)
  sort_refused left e f h =
      let Δ = env_of (means old) items [] in
      let S = first_state (plain_items (means old) items) (means old ty) in
      subst (λ o. ShowsStart (holds new) (means new) o units left (start_fault e))
      (ap (λ Δ. Inferred (go_on (infer_sort Δ none (means old ty) units) (λ _. pure S))) (env_again (means old) items)
      ∙ sym (ap (λ b. if b then TooDeep 0 else Inferred (first_run (plain_items (means old) items) (means old ty) units)) f))
      (shown_again (holds new) (means new) (infer_sort Δ none (means old ty) units) S units left e h)

  module _ (fork : T) (forked : Keeps (holds new) (means new) (holds fork) (means fork)) (held : All (IsItemOf (holds old)) items) (at : holds old ty)
      (env : List (Item H)) (metas : List (Decl H)) (goals : List ℕ) (same : env ≡ items) (declares : DeclaresFirst (means old) ty (Ok metas)) (only : goals ≡ 0 ∷ []) where
    both : Keeps (holds old) (means old) (holds fork) (means fork)
    both = keeps_both (holds old) (means old) (holds new) (means new) (holds fork) (means fork) kept forked

    -- the state that is made means the first state
    pub first_plain : plain_state means (record { terms = fork; items = env; metas = metas; goals = goals }) ≡ first_state (plain_items (means old) items) (means old ty)
    first_plain =
        ap (λ (is : List (Item H)). let s : State = record { items = plain_items (means fork) is; metas = plain_metas (means fork) metas; goals = goals } in s) same
        ∙ ap (λ (is : List (Item Term)). let s : State = record { items = is; metas = plain_metas (means fork) metas; goals = goals } in s) (items_kept (holds old) (means old) (holds fork) (means fork) both items held)
        ∙ ap (λ (ds : List (Decl H)). let s : State = record { items = plain_items (means old) items; metas = plain_metas (means fork) ds; goals = goals } in s) declares.1
        ∙ ap (λ (T : Term). let s : State = record { items = plain_items (means old) items; metas = declared [] T []; goals = goals } in s) (both ty at).1
        ∙ ap (λ (ms : List ℕ). let s : State = record { items = plain_items (means old) items; metas = declared [] (means old ty) []; goals = ms } in s) only

    module _ (left : ℕ) (r : H) (answers : Answers (holds new) (means new) (means new) (sort_term (env_of (means old) items []) none (means old ty) units) left (Ok r)) where
      given : Given ≡ Inferred (Gave (first_state (plain_items (means old) items) (means old ty)) left)
      given = let x = sort_found left r answers in started_with (plain_items (means old) items) (means old ty) units left x.0 declares.0 x.1

      pub start_value : Given ≡ Inferred (Gave (plain_state means (record { terms = fork; items = env; metas = metas; goals = goals })) left)
      start_value = given ∙ ap (λ s. Inferred (Gave s left)) (sym first_plain)

      pub start_kept : IsLegalEnvironment (env_of (means old) items []) → AreEntered env → AreDeclared metas → length metas ≤ 65536
          → IsKeptState holds means (record { terms = fork; items = env; metas = metas; goals = goals })
      start_kept legal entered declared few = record {
        held = record {
          items_held = subst (All (IsItemOf (holds fork))) (sym same) (items_held (holds old) (means old) (holds fork) (means fork) both items held);
          metas_held = subst (All (IsDeclOf (holds fork))) (sym declares.1) (all_first (holds fork) ty (both ty at).0);
        };
        entered = entered;
        declared = declared;
        few = few;
        legal = subst IsLegalState (sym first_plain) (starting_is_legal (plain_items (means old) items) (means old ty) units left _ (subst IsLegalEnvironment (env_again (means old) items) legal) given);
      }

-- what a `?` makes of a refusal
pub refusal_answers : {T H : Type 0} (holds : T → H → Type 0) (means : T → H → Term) (new : T) (o : Started) (units left : ℕ) (r : Result (StoredState T H) (StartFault H)) (e : StartFault H)
    → IsErrAnd r (λ x. x ≡ e) → ShowsStart (holds new) (means new) o units left e → Starts holds means new o units left r
refusal_answers holds means new o units left (Ok s) e a h = absurd a
refusal_answers holds means new o units left (Err x) e a h = subst (ShowsStart (holds new) (means new) o units left) (sym a) h
