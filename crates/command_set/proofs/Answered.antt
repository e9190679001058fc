-- What a fault over a store shows is the refusal of the definition.
use Rattle.std.proofs.Common.{◌≡◌, ◌≢◌, ℕ, List, Some, None, Result, Ok, Err, refl, sym, ap, ◌∙◌}
use Rattle.ld_trees.specs.Term.{Term}
use Rattle.ld_terms.specs.declared.globals.Item.{Item}
use Rattle.term_syntax.specs.Scoping.{Resolved}
use Rattle.term_syntax.specs.declared.scope_fault.ScopeFault.{ScopeFault}
use Rattle.term_syntax.specs.declared.scope_fault.ScopeFault.TheVariants as scope
use Rattle.term_text.specs.Scoped.{Refuses}
use Rattle.conversion.specs.Runs.{Outcome}
use Rattle.kernel_check.specs.Answers.{Shows as ShowsOutcome}
use Rattle.kernel_check.specs.declared.fault.KernelFault.{KernelFault}
use Rattle.kernel_check.specs.declared.fault.KernelFault.TheVariants as fault
use Rattle.book_reader.specs.declared.fault.BookFault.{BookFault}
use Rattle.book_reader.specs.declared.fault.BookFault.TheVariants as book
use Rattle.book_reader.specs.Items.{ItemRefusal}
use Rattle.book_reader.specs.Book.{BookRefusal, AtItem}
use Rattle.book_reader.specs.Answers.{ShowsBook, ShowsScope, ShowsKernel}
use Rattle.reply_text.specs.Refusals.{scoping}
use Rattle.reply_text.specs.Showable.{IsShowable, fault_members}
use Rattle.command_set.specs.Shown.{IsShownFault}
use Rattle.reply_text.specs.declared.members.Members.{Members}
use Rattle.reply_text.specs.Members.{body_text}
use Rattle.state_tree.specs.Value.{Says}
use Rattle.command_set.specs.Values.{added_value}
use Rattle.command_set.specs.Echo.{inferred, resolved}
use Rattle.command_set.specs.Books.{item_refusal, book_refusal}

module _ {H : Type 0} (holds : H → Type 0) (means : H → Term) where
  -- the terms of a fault are terms of the store
  pub showable : {A : Type 0} (o : Outcome A) (left : ℕ) (e : KernelFault H) → ShowsOutcome holds means o left e → IsShowable holds e
  showable o left (fault.NotType n x) s = s.1
  showable o left (fault.NotFunction n x y) s = (s.1, s.2)
  showable o left (fault.Mismatch n x y) s = (s.1, s.2)
  showable o left (fault.ReductIllTyped n x y) s = (s.1, s.2)
  showable o left fault.Fuel s = tt
  showable o left fault.Memory s = tt

  item_showable : (r : ItemRefusal) (e : KernelFault H) → ShowsKernel holds means r e → IsShowable holds e
  item_showable r (fault.NotType n x) s = s.1
  item_showable r (fault.NotFunction n x y) s = (s.1, s.2)
  item_showable r (fault.Mismatch n x y) s = (s.1, s.2)
  item_showable r (fault.ReductIllTyped n x y) s = (s.1, s.2)
  item_showable r fault.Fuel s = tt
  item_showable r fault.Memory s = tt

  pub book_showable : {A : Type 0} (o : Result A BookRefusal) (e : BookFault H) → ShowsBook holds means o e → IsShownFault holds e
  book_showable o (book.Syntax at) s = tt
  book_showable o (book.NameTaken k name) s = tt
  book_showable o (book.Scope k e) s = tt
  book_showable o (book.Kernel k e) s = item_showable s.0 e s.2
  book_showable o book.Memory s = tt

  -- a refusal of inference
  pub fault_is : (t : Term) (o : Outcome Term) (left : ℕ) (e : KernelFault H) → ShowsOutcome holds means o left e → e ≢ fault.Memory → fault_members means None e ≡ inferred t o
  unfolding fault_members
  fault_is t o left (fault.NotType n x) s not = sym (ap (inferred t) s.0)
  fault_is t o left (fault.NotFunction n x y) s not = sym (ap (inferred t) s.0)
  fault_is t o left (fault.Mismatch n x y) s not = sym (ap (inferred t) s.0)
  fault_is t o left (fault.ReductIllTyped n x y) s not = sym (ap (inferred t) s.0)
  fault_is t o left fault.Fuel s not = sym (ap (inferred t) s.0)
  fault_is t o left fault.Memory s not = absurd (not refl)

  -- a refusal of an item by the kernel
  item_fault_is : (k : ℕ) (r : ItemRefusal) (e : KernelFault H) → ShowsKernel holds means r e → fault_members means (Some k) e ≡ item_refusal k r
  unfolding fault_members
  item_fault_is k r (fault.NotType n x) s = sym (ap (item_refusal k) s.0)
  item_fault_is k r (fault.NotFunction n x y) s = sym (ap (item_refusal k) s.0)
  item_fault_is k r (fault.Mismatch n x y) s = sym (ap (item_refusal k) s.0)
  item_fault_is k r (fault.ReductIllTyped n x y) s = sym (ap (item_refusal k) s.0)
  item_fault_is k r fault.Fuel s = sym (ap (item_refusal k) s)
  item_fault_is k r fault.Memory s = absurd s

item_scope_is : (k : ℕ) (r : ItemRefusal) (e : ScopeFault) → ShowsScope r e → scoping (Some k) e ≡ item_refusal k r
item_scope_is k r (scope.UnknownName at name) s = sym (ap (item_refusal k) s)
item_scope_is k r (scope.WrongCount at name given wanted) s = sym (ap (item_refusal k) s)
item_scope_is k r (scope.Unsolved at) s = sym (ap (item_refusal k) s)
item_scope_is k r scope.Memory s = absurd s

-- a refusal of scoping
pub scope_is : (items : List (Item Term)) (units : ℕ) (o : Resolved Term) (e : ScopeFault) → Refuses o e → e ≢ scope.Memory → scoping None e ≡ resolved items units o
scope_is items units o (scope.UnknownName at name) r not = sym (ap (resolved items units) r)
scope_is items units o (scope.WrongCount at name given wanted) r not = sym (ap (resolved items units) r)
scope_is items units o (scope.Unsolved at) r not = sym (ap (resolved items units) r)
scope_is items units o scope.Memory r not = absurd (not refl)

-- ---- books

refused : {A : Type 0} → BookRefusal → Result A BookRefusal
refused r = Err r

ok : {A : Type 0} → A → Result A BookRefusal
ok x = Ok x

same_refusal : {A : Type 0} (r q : BookRefusal) → refused {A = A} r ≡ refused q → r ≡ q
unfolding refused
same_refusal r q e = cc

pub scope_fault_is : {H A : Type 0} (holds : H → Type 0) (means : H → Term) (k : ℕ) (r : BookRefusal) (e : ScopeFault) → ShowsBook {A = A} holds means (Err r) (book.Scope k e) → scoping (Some k) e ≡ book_refusal r
unfolding book_refusal refused
scope_fault_is {A = A} holds means k r e s = item_scope_is k s.0 e s.2 ∙ sym (ap book_refusal (same_refusal {A = A} r (AtItem k s.0) s.1))

pub kernel_fault_is : {H A : Type 0} (holds : H → Type 0) (means : H → Term) (k : ℕ) (r : BookRefusal) (e : KernelFault H) → ShowsBook {A = A} holds means (Err r) (book.Kernel k e) → fault_members means (Some k) e ≡ book_refusal r
unfolding book_refusal refused
kernel_fault_is {A = A} holds means k r e s = item_fault_is holds means k s.0 e s.2 ∙ sym (ap book_refusal (same_refusal {A = A} r (AtItem k s.0) s.1))

-- ---- added items

ok_or_err : {A : Type 0} (x : A) (r : BookRefusal) → ok x ≡ refused r → ⊥
unfolding refused ok
ok_or_err x r e = cc

pub refused_is : {H S : Type 0} (holds : H → Type 0) (means : H → Term) (o : Result (List (Item Term)) BookRefusal) (e : BookFault H) (x : Members)
    → ShowsBook holds means o e → e ≢ book.Memory → ((r : BookRefusal) → ShowsBook {A = List (Item Term)} holds means (Err r) e → x ≡ book_refusal r) → added_value {S = S} o ≡ Says (body_text x)
unfolding refused ok
refused_is holds means (Err r) e x s not f = ap (λ x. Says (body_text x)) (sym (f r s))
refused_is holds means (Ok is) (book.Syntax at) x s not f = absurd (ok_or_err is _ s)
refused_is holds means (Ok is) (book.NameTaken k name) x s not f = absurd (ok_or_err is _ s)
refused_is holds means (Ok is) (book.Scope k e) x s not f = absurd (ok_or_err is _ s.1)
refused_is holds means (Ok is) (book.Kernel k e) x s not f = absurd (ok_or_err is _ s.1)
refused_is holds means (Ok is) book.Memory x s not f = absurd (not refl)
