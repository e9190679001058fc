-- Names that a book's text gives.
use Rattle.std.specs.Prelude.{All, Option, Some, None}
use Rattle.ld_terms.specs.Names.{IsTextName}
use Rattle.term_syntax.specs.Lex.{Text}
use Rattle.book_reader.specs.declared.source.Source.{Source}

-- a name of the texts, where there is one
abbrev pub IsNamed : Option Text → Type 0
IsNamed None = Unit {0}
IsNamed (Some x) = IsTextName x

-- the item's name is one of the texts, and so is each that a parameter has
pub record HasNames (s : Source) : Type 0 where
  pub item : IsTextName s.name
  pub params : All (λ p. IsNamed p.name) s.params
