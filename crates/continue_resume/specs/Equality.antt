-- Whether environments and contexts are equal, names of parameters and of entries included.
use Rattle.std.specs.Prelude.{List, Option, Some, None, Bool, true, false, ◌&&◌}
use Rattle.std.specs.Cmp.Lexicographic.{pointwise}
use Rattle.ld_trees.specs.Term.{Term, same_name, same}
use Rattle.ld_terms.specs.declared.globals.Local.{Local}
use Rattle.ld_terms.specs.declared.globals.Item.{Item}

abbrev pub same_local : Local Term → Local Term → Bool
same_local a b = same_name a.name b.name && same a.ty b.ty

abbrev pub same_locals : List (Local Term) → List (Local Term) → Bool
same_locals xs ys = pointwise same_local xs ys

abbrev pub same_body : Option Term → Option Term → Bool
same_body None None = true
same_body (Some t) (Some u) = same t u
same_body _ _ = false

abbrev pub same_item : Item Term → Item Term → Bool
same_item i j = same_name i.name j.name && (same_locals i.params j.params && (same i.ty j.ty && same_body i.body j.body))

abbrev pub same_items : List (Item Term) → List (Item Term) → Bool
same_items is js = pointwise same_item is js
