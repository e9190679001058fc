-- What the faults of starts show is what the replies say.
use Rattle.std.proofs.Common.{◌≡◌, ◌≢◌, ℕ, List, [], None, Ok, Err, refl, sym, ap, ◌∙◌}
use Rattle.ld_trees.specs.Term.{Term}
use Rattle.ld_terms.specs.Views.{Keeps}
use Rattle.ld_terms.specs.declared.globals.Item.{Item}
use Rattle.term_syntax.specs.Scoping.{Resolved, scope}
use Rattle.term_syntax.specs.Input.{Input, place}
use Rattle.term_syntax.specs.Reading.{Outcome as Parsed, IsRead}
use Rattle.term_syntax.specs.declared.surface.Surface.{Surface}
use Rattle.term_syntax.specs.declared.scope_fault.ScopeFault.{ScopeFault}
use Rattle.term_syntax.specs.declared.scope_fault.ScopeFault.TheVariants as unresolved
use Rattle.term_text.specs.Scoped.{arities, Refuses}
use Rattle.conversion.specs.Runs.{Outcome as KernelOutcome}
use Rattle.kernel_check.specs.declared.fault.KernelFault.{KernelFault}
use Rattle.kernel_check.specs.declared.fault.KernelFault.TheVariants as fault
use Rattle.meta_context.specs.Plain.{plain_items}
use Rattle.goal_state.specs.State.{State}
use Rattle.goal_state.specs.Starting.{Started, started}
use Rattle.goal_state.specs.Answers.{ShowsRefusal, ShowsStart}
use Rattle.goal_state.specs.declared.fault.StartFault.{StartFault}
use Rattle.goal_state.specs.declared.fault.StartFault.TheVariants as starting
use Rattle.reply_text.specs.Refusals.{scoping, syntax}
use Rattle.reply_text.specs.Showable.{IsShowable, fault_members}
use Rattle.command_set.specs.Goals.{says, inferred, begun, resolved, parsed}
use Rattle.command_set.specs.Shown.{IsShownStart}
use Rattle.command_set.specs.Stored.{IsStored}
use Rattle.command_set.proofs.Kept.{items_kept}
use Rattle.command_set.proofs.Shown.{arities_again}

module _ {H : Type 0} (holds : H → Type 0) (means : H → Term) where
  start_kernel : (r : KernelOutcome State) (left : ℕ) (e : KernelFault H) → ShowsRefusal holds means r left e → inferred r ≡ says (fault_members means None e)
  unfolding fault_members
  start_kernel r left (fault.NotType n x) s = ap inferred s.0
  start_kernel r left (fault.NotFunction n x y) s = ap inferred s.0
  start_kernel r left (fault.Mismatch n x y) s = ap inferred s.0
  start_kernel r left (fault.ReductIllTyped n x y) s = ap inferred s.0
  start_kernel r left fault.Fuel s = ap inferred s.0
  start_kernel r left fault.Memory s = absurd s

  pub start_refused : (o : Started) (units left : ℕ) (e : KernelFault H) → ShowsStart holds means o units left (starting.Kernel e) → begun o ≡ says (fault_members means None e)
  start_refused o units left e s = ap begun s.1 ∙ start_kernel s.0 left e s.2

  refusal_showable : (r : KernelOutcome State) (left : ℕ) (e : KernelFault H) → ShowsRefusal holds means r left e → IsShowable holds e
  refusal_showable r left (fault.NotType n x) s = s.1
  refusal_showable r left (fault.NotFunction n x y) s = (s.1, s.2)
  refusal_showable r left (fault.Mismatch n x y) s = (s.1, s.2)
  refusal_showable r left (fault.ReductIllTyped n x y) s = (s.1, s.2)
  refusal_showable r left fault.Fuel s = tt
  refusal_showable r left fault.Memory s = absurd s

  pub start_showable : (o : Started) (units left : ℕ) (e : StartFault H) → ShowsStart holds means o units left e → IsShownStart holds e
  start_showable o units left (starting.Kernel e) s = refusal_showable s.0 left e s.2
  start_showable o units left (starting.TooDeep m) s = tt
  start_showable o units left starting.Memory s = tt

-- ---- names and texts

pub start_scope : (items : List (Item Term)) (units : ℕ) (o : Resolved Term) (e : ScopeFault) → Refuses o e → e ≢ unresolved.Memory → resolved items units o ≡ says (scoping None e)
start_scope items units o (unresolved.UnknownName at name) r not = ap (resolved items units) r
start_scope items units o (unresolved.WrongCount at name given wanted) r not = ap (resolved items units) r
start_scope items units o (unresolved.Unsolved at) r not = ap (resolved items units) r
start_scope items units o unresolved.Memory r not = absurd (not refl)

pub start_read : (items : List (Item Term)) (units : ℕ) (o : Parsed Surface) (s : Surface) → IsRead (λ t _. t) o s → resolved items units (scope (arities items) [] s []) ≡ parsed items units o
start_read items units (Ok p) s e = ap (λ s. resolved items units (scope (arities items) [] s [])) e
start_read items units (Err i) s e = absurd e

pub start_unread : (items : List (Item Term)) (units : ℕ) (o : Parsed Surface) (at : ℕ) → (k : Input) × (o ≡ Err k) × (at ≡ place k) → parsed items units o ≡ says (syntax at)
start_unread items units o at h = ap (parsed items units) h.1 ∙ ap (λ (n : ℕ). says (syntax n)) (sym h.2)

pub start_kept : {H : Type 0} (holds : H → Type 0) (means : H → Term) (holds' : H → Type 0) (means' : H → Term) (items : List (Item H)) (units : ℕ) (o : Resolved Term) (t : Term)
    → Keeps holds means holds' means' → IsStored holds means items → o ≡ Ok t → resolved (plain_items means items) units o ≡ begun (started (plain_items means' items) t units)
start_kept holds means holds' means' items units o t kept stored e =
    ap (resolved (plain_items means items) units) e ∙ ap (λ is. begun (started is t units)) (sym (items_kept holds means holds' means' kept items stored.held))

pub start_again : {H : Type 0} (means : H → Term) (items : List (Item H)) (Δ : List (Item Term)) (units : ℕ) (s : Surface) → plain_items means items ≡ Δ
    → resolved (plain_items means items) units (scope (arities items) [] s []) ≡ resolved Δ units (scope (arities Δ) [] s [])
start_again means items Δ units s e = ap (λ a. resolved (plain_items means items) units (scope a [] s [])) (arities_again means items) ∙ ap (λ is. resolved is units (scope (arities is) [] s [])) e
