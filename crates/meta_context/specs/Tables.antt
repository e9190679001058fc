-- How an environment and a metavariable context are kept: as maps by their places and names.
use Rattle.std.specs.Prelude.{◌≡◌, ◌≤◌, ℕ, List, map, length, reverse}
use Rattle.std.specs.FinMap.{find}
use Rattle.std.specs.Cmp.Lexicographic.{slice_cmp}
use Rattle.std.specs.Ordering.{nat_cmp}
use Rattle.ld_terms.specs.Items.{item_named}
use Rattle.ld_terms.specs.declared.globals.Item.{Item}
use Rattle.ld_terms.specs.declared.globals.Decl.{Decl}
use Rattle.shared_map.specs.Table.{table}
use Rattle.meta_context.specs.Entered.{AreEntered, AreDeclared}

-- the rows of a map, in the order of their keys
abbrev pub rows : {K X : Type 0} → List (K × X) → List X
rows es = map (λ e. e.1) es

-- the items by their places, the last one first
abbrev pub items_in : {H : Type 0} → List (ℕ × Item H) → List (Item H)
items_in es = reverse (rows es)

-- items by their places, and the same items by their names
pub record AreIndexed {H : Type 0} (places : List (ℕ × Item H)) (named : List (List ℕ × Item H)) : Type 0 where
  pub numbered : places ≡ table (rows places)
  pub found : (name : List ℕ) → find (slice_cmp nat_cmp) name named ≡ item_named (items_in places) name
  pub entered : AreEntered (items_in places)

-- the metavariables by their numbers
pub record AreNumbered {H : Type 0} (decls : List (ℕ × Decl H)) : Type 0 where
  pub numbered : decls ≡ table (rows decls)
  pub declared : AreDeclared (rows decls)
  pub few : length (rows decls) ≤ 65536
