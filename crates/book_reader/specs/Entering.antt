-- What the private calls that enter items answer.
use Rattle.std.specs.Prelude.{◌≡◌, ℕ, List, ◌∷◌, All, Result, Ok, Err}
use Rattle.ld_trees.specs.Term.{Term}
use Rattle.ld_terms.specs.declared.globals.Item.{Item}
use Rattle.conversion.specs.Globals.{IsItemOf}
use Rattle.term_syntax.specs.declared.fault.ReadFault.{ReadFault}
use Rattle.term_syntax.specs.declared.fault.ReadFault.TheVariants as read
use Rattle.meta_context.specs.Plain.{plain_items}
use Rattle.book_reader.specs.declared.checked.ItemFault.{ItemFault}
use Rattle.book_reader.specs.declared.checked.ItemFault.TheVariants as item
use Rattle.book_reader.specs.declared.fault.BookFault.{BookFault}
use Rattle.book_reader.specs.declared.fault.BookFault.TheVariants as book
use Rattle.book_reader.specs.Items.{ItemRefusal}
use Rattle.book_reader.specs.Checked.{Shows}

-- the fault of a text that isn't read
abbrev pub fault_of : {H : Type 0} → ReadFault → BookFault H
fault_of (read.Syntax at) = book.Syntax at
fault_of read.Memory = book.Memory

-- the fault of the item of that number
abbrev pub fault_at : {H : Type 0} → ℕ → ItemFault H → BookFault H
fault_at k (item.NameTaken name) = book.NameTaken k name
fault_at k (item.Scope e) = book.Scope k e
fault_at k (item.Kernel e) = book.Kernel k e
fault_at k item.Memory = book.Memory

-- the environment with the item that a check gave, or its refusal
abbrev pub IsStep : {H : Type 0} → (H → Type 0) → (H → Term) → ℕ → List (Item Term) → Result (Item Term × ℕ) ItemRefusal → Result (List (Item H)) (BookFault H) → Type 0
IsStep {H} holds means k Δ o (Ok items) = (i : Item Term) × (left : ℕ) × (o ≡ Ok (i, left)) × (plain_items means items ≡ i ∷ Δ) × All (IsItemOf holds) items
IsStep {H} holds means k Δ o (Err e) = (f : ItemFault H) × (e ≡ fault_at k f) × Shows holds means o f
