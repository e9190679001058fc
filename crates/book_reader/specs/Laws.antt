-- The laws of the reading against the grammar.
use Rattle.std.specs.Prelude.{◌≡◌, ℕ, List, ◌∷◌, ◌++◌, length, Err}
use Rattle.term_syntax.specs.Lex.{Text, Lexeme, lexemes}
use Rattle.term_syntax.specs.Input.{Input, place_of}
use Rattle.book_reader.specs.declared.source.Source.{Source}
use Rattle.book_reader.specs.Grammar.{AreItems, IsBookText}
use Rattle.book_reader.specs.Reading.{read}

-- a text has at most one list of items
abbrev pub ItemsAreUnique : Type 0
ItemsAreUnique = (text : Text) (ss us : List Source) → IsBookText text ss → IsBookText text us → ss ≡ us

-- no book begins with these tokens and goes on with the first one of those, whatever stands behind it
abbrev pub NoneContinues : List Lexeme → List Lexeme → Type 0
NoneContinues before rest = (l : Lexeme) (behind others : List Lexeme) → rest ≡ l ∷ behind → (ss : List Source) → AreItems (before ++ l ∷ others) ss → ⊥

-- Where a text is refused at a token, no book begins with the tokens before it and goes on with it.
abbrev pub NothingContinues : Type 0
NothingContinues = (text : Text) (i : Input) → read text ≡ Err i
    → (before : List Lexeme) × (lexemes 0 text ≡ before ++ i.ahead) × NoneContinues before i.ahead

-- The text is no book. It is refused at the token that stands at this place, with which no book goes on that begins with the tokens
-- before it; or at its end.
pub record IsRefusedAt (text : Text) (place : ℕ) : Type 0 where
  pub taken : List Lexeme
  pub rest : List Lexeme
  pub tokens : lexemes 0 text ≡ taken ++ rest
  pub none : NoneContinues taken rest
  pub no_book : (ss : List Source) → IsBookText text ss → ⊥
  pub at_next : place ≡ place_of (length text) rest
