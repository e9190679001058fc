-- What an environment and a metavariable context hold besides their terms: names and lengths.
use Rattle.std.specs.Prelude.{◌≡◌, List, [], ◌∷◌, map, None}
use Rattle.ld_terms.specs.Names.{IsTextName}
use Rattle.ld_terms.specs.Items.{item_named}
use Rattle.ld_terms.specs.declared.globals.Local.{Local}
use Rattle.ld_terms.specs.declared.globals.Item.{Item}
use Rattle.ld_terms.specs.declared.globals.Decl.{Decl}
use Rattle.term_syntax.specs.Printing.{Names}
use Rattle.term_syntax.specs.ReadsBack.{IsContext}

-- the names of entries, the first entered first
abbrev pub names_of : {H : Type 0} → List (Local H) → Names
names_of ls = map (λ l. l.name) ls

-- An item may enter behind others: it has a name of the texts that none of them has, and its parameters have names of the texts or
-- the level names of their own levels, and are fewer than 999,999,000.
pub record MayEnter {H : Type 0} (items : List (Item H)) (i : Item H) : Type 0 where
  pub named : IsTextName i.name
  pub fresh : item_named items i.name ≡ None
  pub params : IsContext (names_of i.params)

-- each item of a list, which begins with the item added last, may enter behind those before it
abbrev pub AreEntered : {H : Type 0} → List (Item H) → Type 0
AreEntered [] = Unit {0}
AreEntered (i ∷ is) = MayEnter is i × AreEntered is

-- the context of each metavariable has such names, and is as short
abbrev pub AreDeclared : {H : Type 0} → List (Decl H) → Type 0
AreDeclared [] = Unit {0}
AreDeclared (d ∷ ds) = IsContext (names_of d.ctx) × AreDeclared ds
