-- What the private calls of the check of an item answer.
use Rattle.std.specs.Prelude.{◌≡◌, ℕ, List, None, is_some, true, Result, Ok, Err}
use Rattle.ld_terms.specs.Items.{item_named}
use Rattle.ld_trees.specs.Term.{Term}
use Rattle.ld_terms.specs.declared.globals.Item.{Item}
use Rattle.ld_terms.specs.declared.globals.Local.{Local}
use Rattle.meta_context.specs.Plain.{plain_items, plain_locals}
use Rattle.book_reader.specs.declared.checked.ItemFault.{ItemFault}
use Rattle.book_reader.specs.declared.checked.ItemFault.TheVariants as fault
use Rattle.book_reader.specs.Items.{ItemRefusal, NameTaken}
use Rattle.book_reader.specs.Answers.{ShowsScope, ShowsKernel}

-- a fault shows a refusal; want of memory shows nothing
abbrev pub Shows : {H A : Type 0} → (H → Type 0) → (H → Term) → Result (A × ℕ) ItemRefusal → ItemFault H → Type 0
Shows holds means o (fault.NameTaken name) = o ≡ Err (NameTaken name)
Shows holds means o (fault.Scope e) = (r : ItemRefusal) × (o ≡ Err r) × ShowsScope r e
Shows holds means o (fault.Kernel e) = (r : ItemRefusal) × (o ≡ Err r) × ShowsKernel holds means r e
Shows holds means o fault.Memory = Unit {0}

-- the value of a check with the units that are left, or its refusal
abbrev pub Answers : {A H R : Type 0} → (H → Type 0) → (H → Term) → (R → A) → Result (A × ℕ) ItemRefusal → ℕ → Result R (ItemFault H) → Type 0
Answers holds means value o left (Ok r) = o ≡ Ok (value r, left)
Answers holds means value o left (Err e) = Shows holds means o e

-- the answer of the test whether a name is new
abbrev pub IsNewName : {H : Type 0} → List (Item H) → List ℕ → Result (Unit {0}) (ItemFault H) → Type 0
IsNewName items name (Ok u) = item_named items name ≡ None
IsNewName items name (Err (fault.NameTaken n)) = (n ≡ name) × (is_some (item_named items name) ≡ true)
IsNewName items name (Err fault.Memory) = Unit {0}
IsNewName items name (Err e) = ⊥

-- a stored environment and stored parameters mean plain ones
pub record IsRead {H : Type 0} (means : H → Term) (items : List (Item H)) (params : List (Local H)) (Δ : List (Item Term)) (Γ : List (Local Term)) : Type 0 where
  pub items_are : plain_items means items ≡ Δ
  pub params_are : plain_locals means params ≡ Γ
