-- The replies to texts, from what reading, scoping and inference answer over a store.
use Rattle.std.proofs.Common.{◌≡◌, ◌≢◌, ℕ, List, [], Ok, Err, None, sym, ap, ◌∙◌}
use Rattle.ld_trees.specs.Term.{Term, none}
use Rattle.ld_terms.specs.Views.{Keeps}
use Rattle.ld_terms.specs.declared.globals.Item.{Item}
use Rattle.term_syntax.specs.Input.{Input, place}
use Rattle.term_syntax.specs.Reading.{Outcome as Parsed, IsRead}
use Rattle.term_syntax.specs.Scoping.{Resolved, scope}
use Rattle.term_syntax.specs.declared.surface.Surface.{Surface}
use Rattle.term_text.specs.Scoped.{arities}
use Rattle.conversion.specs.Globals.{env_of}
use Rattle.conversion.specs.Runs.{Gave}
use Rattle.kernel_check.specs.Inference.{infer}
use Rattle.kernel_check.specs.Answers.{Shows as ShowsOutcome}
use Rattle.kernel_check.specs.declared.fault.KernelFault.{KernelFault}
use Rattle.kernel_check.specs.declared.fault.KernelFault.TheVariants as fault
use Rattle.meta_context.specs.Plain.{plain_items}
use Rattle.meta_context.proofs.PlainItems.{env_again}
use Rattle.reply_text.specs.Refusals.{syntax}
use Rattle.reply_text.specs.Showable.{fault_members}
use Rattle.command_set.specs.Echo.{typed, inferred, resolved, parsed}
use Rattle.command_set.specs.Stored.{IsStored}
use Rattle.command_set.proofs.Answered.{fault_is}
use Rattle.command_set.proofs.Kept.{items_kept}
use Rattle.command_set.proofs.Shown.{arities_again}

-- ---- reading

pub read_gave : (items : List (Item Term)) (units : ℕ) (o : Parsed Surface) (s : Surface) → IsRead (λ t _. t) o s → resolved items units (scope (arities items) [] s []) ≡ parsed items units o
read_gave items units (Ok p) s e = ap (λ s. resolved items units (scope (arities items) [] s [])) e
read_gave items units (Err i) s e = absurd e

pub read_refused : (items : List (Item Term)) (units : ℕ) (o : Parsed Surface) (at : ℕ) → (k : Input) × (o ≡ Err k) × (at ≡ place k) → syntax at ≡ parsed items units o
read_refused items units o at h = ap syntax h.2 ∙ sym (ap (parsed items units) h.1)

-- ---- inference

module _ {H : Type 0} (means : H → Term) (items : List (Item H)) (units : ℕ) (t : Term) where
  again : inferred t (infer (env_of means items []) none t units) ≡ resolved (plain_items means items) units (Ok t)
  again = ap (λ Δ. inferred t (infer Δ none t units)) (env_again means items)

  pub type_is : (T u : Term) (n left : ℕ) → n ≡ units → infer (env_of means items []) none t n ≡ Gave T left → u ≡ t → typed u T ≡ resolved (plain_items means items) units (Ok t)
  type_is T u n left m e s = ap (λ u. typed u T) s ∙ sym (ap (inferred t) (ap (infer (env_of means items []) none t) (sym m) ∙ e)) ∙ again

  pub refusal_is : (holds' : H → Type 0) (means' : H → Term) (e : KernelFault H) (n left : ℕ) → n ≡ units → ShowsOutcome holds' means' (infer (env_of means items []) none t n) left e → e ≢ fault.Memory
      → fault_members means' None e ≡ resolved (plain_items means items) units (Ok t)
  refusal_is holds' means' e n left m s not = fault_is holds' means' t (infer (env_of means items []) none t n) left e s not ∙ ap (λ n. inferred t (infer (env_of means items []) none t n)) m ∙ again

-- ---- environments

-- the reply to a tree, in an environment that was kept
pub resolved_kept : {H : Type 0} (holds : H → Type 0) (means : H → Term) (holds' : H → Type 0) (means' : H → Term) (items : List (Item H)) (units : ℕ) (o : Resolved Term) (t : Term)
    → Keeps holds means holds' means' → IsStored holds means items → o ≡ Ok t → resolved (plain_items means' items) units (Ok t) ≡ resolved (plain_items means items) units o
resolved_kept holds means holds' means' items units o t kept stored e = ap (λ is. resolved is units (Ok t)) (items_kept holds means holds' means' kept items stored.held) ∙ sym (ap (resolved (plain_items means items) units) e)

-- a stored environment has the arities of the plain one that it means
pub resolved_again : {H : Type 0} (means : H → Term) (items : List (Item H)) (Δ : List (Item Term)) (units : ℕ) (s : Surface) → plain_items means items ≡ Δ
    → resolved (plain_items means items) units (scope (arities items) [] s []) ≡ resolved Δ units (scope (arities Δ) [] s [])
resolved_again means items Δ units s e = ap (λ a. resolved (plain_items means items) units (scope a [] s [])) (arities_again means items) ∙ ap (λ is. resolved is units (scope (arities is) [] s [])) e
