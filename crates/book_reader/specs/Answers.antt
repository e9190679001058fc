-- What the reader of books answers, over a store of terms.
use Rattle.std.specs.Prelude.{◌≡◌, List, All, Result, Ok, Err}
use Rattle.ld_trees.specs.Term.{Term}
use Rattle.ld_terms.specs.declared.globals.Item.{Item}
use Rattle.term_syntax.specs.declared.scope_fault.ScopeFault.{ScopeFault}
use Rattle.term_syntax.specs.declared.scope_fault.ScopeFault.TheVariants as scope
use Rattle.conversion.specs.Globals.{IsItemOf}
use Rattle.conversion.specs.Runs.{NotType, NotFunction, Mismatch, ReductIllTyped}
use Rattle.kernel_check.specs.declared.fault.KernelFault.{KernelFault}
use Rattle.kernel_check.specs.declared.fault.KernelFault.TheVariants as kernel
use Rattle.book_reader.specs.declared.fault.BookFault.{BookFault}
use Rattle.book_reader.specs.declared.fault.BookFault.TheVariants as fault
use Rattle.meta_context.specs.Plain.{plain_items}
use Rattle.book_reader.specs.Items.{ItemRefusal, NameTaken, Scope, Kernel, Fuel}
use Rattle.book_reader.specs.Book.{BookRefusal, Syntax, AtItem}

-- a fault of scoping is that refusal, and never want of memory
abbrev pub ShowsScope : ItemRefusal → ScopeFault → Type 0
ShowsScope r scope.Memory = ⊥
ShowsScope r e = r ≡ Scope e

-- a fault of the kernel shows that refusal with terms of the store, and is never want of memory
abbrev pub ShowsKernel : {H : Type 0} → (H → Type 0) → (H → Term) → ItemRefusal → KernelFault H → Type 0
ShowsKernel holds means r (kernel.NotType n t) = (r ≡ Kernel (NotType n (means t))) × holds t
ShowsKernel holds means r (kernel.NotFunction n t f) = (r ≡ Kernel (NotFunction n (means t) (means f))) × holds t × holds f
ShowsKernel holds means r (kernel.Mismatch n f w) = (r ≡ Kernel (Mismatch n (means f) (means w))) × holds f × holds w
ShowsKernel holds means r (kernel.ReductIllTyped n t u) = (r ≡ Kernel (ReductIllTyped n (means t) (means u))) × holds t × holds u
ShowsKernel holds means r kernel.Fuel = r ≡ Fuel
ShowsKernel holds means r kernel.Memory = ⊥

-- a fault shows a book's refusal; want of memory may come at any time
abbrev pub ShowsBook : {H A : Type 0} → (H → Type 0) → (H → Term) → Result A BookRefusal → BookFault H → Type 0
ShowsBook holds means o (fault.Syntax at) = o ≡ Err (Syntax at)
ShowsBook holds means o (fault.NameTaken k name) = o ≡ Err (AtItem k (NameTaken name))
ShowsBook holds means o (fault.Scope k e) = (r : ItemRefusal) × (o ≡ Err (AtItem k r)) × ShowsScope r e
ShowsBook holds means o (fault.Kernel k e) = (r : ItemRefusal) × (o ≡ Err (AtItem k r)) × ShowsKernel holds means r e
ShowsBook holds means o fault.Memory = Unit {0}

-- the environment that the definition gives, with terms of the store, or its refusal
abbrev pub IsBook : {H : Type 0} → (H → Type 0) → (H → Term) → Result (List (Item Term)) BookRefusal → Result (List (Item H)) (BookFault H) → Type 0
IsBook holds means o (Ok items) = (o ≡ Ok (plain_items means items)) × All (IsItemOf holds) items
IsBook holds means o (Err e) = ShowsBook holds means o e
