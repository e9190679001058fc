-- The laws of the reading against the grammar.
use Rattle.std.specs.Prelude.{◌≡◌, List, [], ◌∷◌, ◌++◌, ℕ, Result, Ok, Err}
use Rattle.term_syntax.specs.Lex.{Text, Lexeme, lexemes}
use Rattle.term_syntax.specs.Input.{Input, place}
use Rattle.term_syntax.specs.Reading.{Outcome}
use Rattle.move_text.specs.declared.moves.Move.{Move}
use Rattle.move_text.specs.Grammar.{IsMove, IsMoveText}
use Rattle.move_text.specs.Reading.{read}

-- the move that was read, or the place of the refusal
abbrev pub shown : Outcome Move → Result Move ℕ
shown (Ok p) = Ok p.0
shown (Err i) = Err (place i)

-- a text is at most one move
abbrev pub MovesAreUnique : Type 0
MovesAreUnique = (text : Text) (m n : Move) → IsMoveText text m → IsMoveText text n → m ≡ n

-- no text of the grammar begins with these tokens and goes on with the first one of those, whatever stands behind it
abbrev pub NoneContinues : List Lexeme → List Lexeme → Type 0
NoneContinues before rest = (l : Lexeme) (behind others : List Lexeme) → rest ≡ l ∷ behind → (move : Move) → IsMove (before ++ l ∷ others) move [] → ⊥

-- Where a text is refused at a token, no text of the grammar begins with the tokens before it and goes on with it.
abbrev pub NothingContinues : Type 0
NothingContinues = (text : Text) (i : Input) → read text ≡ Err i
    → (before : List Lexeme) × (lexemes 0 text ≡ before ++ i.ahead) × NoneContinues before i.ahead
