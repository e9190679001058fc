-- Items by their names.
use Rattle.std.specs.Prelude.{ℕ, List, Option, find}
use Rattle.std.specs.Str.{bytes_eq}
use Rattle.ld_terms.specs.declared.globals.Item.{Item}

-- the item of a name, in a list that begins with the item added last
abbrev pub item_named : {H : Type 0} → List (Item H) → List ℕ → Option (Item H)
item_named is name = find (λ i. bytes_eq i.name name) is
