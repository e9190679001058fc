-- The names that moves give to entries.
use Rattle.ld_terms.specs.Names.{IsTextName}
use Rattle.move_text.specs.declared.moves.Move.{Move}
use Rattle.move_text.specs.declared.moves.Move.TheVariants as m

-- the name of a new entry is a name of the texts
abbrev pub HasTextName : Move → Type 0
HasTextName (m.Intro x) = IsTextName x
HasTextName (m.Have x t) = IsTextName x
HasTextName _ = Unit {0}
