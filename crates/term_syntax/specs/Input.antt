-- What a reader of terms has before it: the tokens that are left, and the steps that every rule is made of.
use Rattle.std.specs.Prelude.{◌≡◌, ◌≤◌, ℕ, ◌+◌, Bool, true, false, ◌&&◌, ◌||◌, ◌==◌, List, [], ◌∷◌, length, take, drop}
use Rattle.term_syntax.specs.Kinds.{is_kind}
use Rattle.term_syntax.specs.declared.kind.Kind.{Kind}
use Rattle.term_syntax.specs.declared.kind.Kind.TheVariants.{End, Open, Colon, Name, Level}
use Rattle.term_syntax.specs.Lex.{Text, Lexeme, lexemes, Cut}

-- the kind of the first token
abbrev pub kind_of : List Lexeme → Kind
kind_of [] = End
kind_of (l ∷ ls) = l.kind

-- the bytes of the first token
abbrev pub spelling_of : List Lexeme → Text
spelling_of [] = []
spelling_of (l ∷ ls) = l.text

-- the tokens behind the first
abbrev pub tail_of : List Lexeme → List Lexeme
tail_of [] = []
tail_of (l ∷ ls) = ls

-- where the next token begins, or the text ends
abbrev pub place_of : ℕ → List Lexeme → ℕ
place_of end [] = end
place_of end (l ∷ ls) = l.at

-- whether no token is left
abbrev pub is_nil : List Lexeme → Bool
is_nil [] = true
is_nil (l ∷ ls) = false

-- the token of this text that begins at `start` is the first one from `from` on
pub record IsNext (text : Text) (from start : ℕ) (cut : Cut) : Type 0 where
  pub after : from ≤ start
  pub within : start + cut.1 ≤ length text
  pub same : lexemes from (drop from text) ≡ lexemes start (drop start text)
  pub kind : cut.0 ≡ kind_of (lexemes start (drop start text))
  pub spelling : take cut.1 (drop start text) ≡ spelling_of (lexemes start (drop start text))
  pub rest : lexemes (start + cut.1) (drop (start + cut.1) text) ≡ tail_of (lexemes start (drop start text))
  pub place : start ≡ place_of (length text) (lexemes start (drop start text))
  pub over : (start == length text) ≡ is_nil (lexemes start (drop start text))

-- what is left of a text
pub record Input : Type 0 where
  -- the place directly after the last token that was taken
  pub at : ℕ
  -- the length of the text
  pub end : ℕ
  -- the tokens that are left
  pub ahead : List Lexeme

-- the kind of the next token, its bytes and its place
abbrev pub kind : Input → Kind
kind i = kind_of i.ahead

abbrev pub spelling : Input → Text
spelling i = spelling_of i.ahead

abbrev pub place : Input → ℕ
place i = place_of i.end i.ahead

-- after the next token
abbrev pub next : Input → Input
next i = record { at = place i + length (spelling i); end = i.end; ahead = tail_of i.ahead }

-- a text from a place on
abbrev pub input_at : Text → ℕ → Input
input_at text at = record { at = at; end = length text; ahead = lexemes at (drop at text) }

-- `(`, a name or a level name, and `:`
abbrev pub begins_binder : List Lexeme → Bool
begins_binder ls = is_kind (kind_of ls) Open && (is_kind (kind_of (tail_of ls)) Name || is_kind (kind_of (tail_of ls)) Level) && is_kind (kind_of (tail_of (tail_of ls))) Colon
