-- The laws of the reading against the grammar.
use Rattle.std.specs.Prelude.{◌≡◌, Result, Ok, Err, ℕ, List, [], ◌∷◌, ◌++◌}
use Rattle.term_syntax.specs.declared.surface.Surface.{Surface}
use Rattle.term_syntax.specs.Lex.{Text, Lexeme, lexemes}
use Rattle.term_syntax.specs.Input.{Input, place}
use Rattle.term_syntax.specs.Reading.{Outcome, read}
use Rattle.term_syntax.specs.Grammar.{IsTerm, IsText, max_nesting}

-- the tree that was read, or the place of the refusal
abbrev pub shown : Outcome Surface → Result Surface ℕ
shown (Ok p) = Ok p.0
shown (Err i) = Err (place i)

-- what is read is in the grammar
abbrev pub ReadingIsSound : Type 0
ReadingIsSound = (text : Text) (t : Surface) → shown (read text) ≡ Ok t → IsText text t

-- whatever is in the grammar is read
abbrev pub ReadingIsComplete : Type 0
ReadingIsComplete = (text : Text) (t : Surface) → IsText text t → shown (read text) ≡ Ok t

-- a text has at most one tree
abbrev pub TreesAreUnique : Type 0
TreesAreUnique = (text : Text) (t u : Surface) → IsText text t → IsText text u → t ≡ u

-- no text of the grammar begins with these tokens and goes on with the first one of those, whatever stands behind it
abbrev pub NoneContinues : List Lexeme → List Lexeme → Type 0
NoneContinues before rest = (l : Lexeme) (behind others : List Lexeme) → rest ≡ l ∷ behind → (t : Surface) → IsTerm max_nesting (before ++ l ∷ others) t [] → ⊥

-- Where a text is refused at a token, no text of the grammar begins with the tokens before it and goes on with it.
abbrev pub NothingContinues : Type 0
NothingContinues = (text : Text) (i : Input) → read text ≡ Err i
    → (before : List Lexeme) × (lexemes 0 text ≡ before ++ i.ahead) × NoneContinues before i.ahead
