-- The place at which a text of terms is refused: the first token with which no text of the grammar goes on.
--
-- That no text goes on with the refused token is a law of term_syntax (NothingContinues). Here stands the other half: the tokens before
-- it do begin a text, so the place is not too late either.
use Rattle.std.specs.Prelude.{◌≡◌, ℕ, suc, ◌⊎◌, List, [], ◌∷◌, ◌++◌, Err}
use Rattle.term_syntax.specs.declared.surface.Surface.{Surface}
use Rattle.term_syntax.specs.declared.kind.Kind.TheVariants.{Call, Name}
use Rattle.term_syntax.specs.Lex.{Text, Lexeme, lexemes}
use Rattle.term_syntax.specs.Input.{Input}
use Rattle.term_syntax.specs.Reading.{read, read_at}
use Rattle.term_syntax.specs.Grammar.{IsTerm, IsText, max_nesting}
use Rattle.term_syntax.specs.Laws.{NoneContinues}
use Rattle.term_syntax.specs.FromPlace.{tokens_from}

-- the same token as a plain name
abbrev pub plain : Lexeme → Lexeme
plain l = record { kind = Name; at = l.at; text = l.text }

-- What tokens at the front of a text may stand as: they stay the same, or the last one is a name that `(` follows directly and stands
-- as a plain name. For whether it is one depends on what comes next: in `fun (x(` the x is fine, as `fun (x : *) => x` shows, and the
-- `(` isn't.
pub data StandsAs : List Lexeme → List Lexeme → Type 0 where
  same : (ts : List Lexeme) → StandsAs ts ts
  plain_name : (ts : List Lexeme) (l : Lexeme) → l.kind ≡ Call → StandsAs (ts ++ l ∷ []) (ts ++ plain l ∷ [])

-- with these tokens a text of the grammar begins in which no more than `depth` terms stand inside one another
pub record Begins (depth : ℕ) (before : List Lexeme) : Type 0 where
  pub standing : List Lexeme
  pub stands : StandsAs before standing
  pub others : List Lexeme
  pub tree : Surface
  pub text : IsTerm depth (standing ++ others) tree []

-- The limit of nesting is the cause: with these tokens no text of the grammar begins, but one would if terms could be nested one deeper.
-- That is so behind 512 `(`. It is also so before the token at which the limit is met, since the reading takes the tokens of the deepest
-- term: after 511 `(` it takes `(A :`, `fun (A :` or `A ->`, although no term may stand behind `(`, `fun` or `->`.
abbrev pub IsTooDeep : ℕ → List Lexeme → Type 0
IsTooDeep limit before = Begins (suc limit) before × (Begins limit before → ⊥)

-- before the tokens that are left stand some with which a text begins, unless the limit is the cause
abbrev pub BegunBefore : List Lexeme → Input → Type 0
BegunBefore tokens i = (before : List Lexeme) × (tokens ≡ before ++ i.ahead) × (Begins max_nesting before ⊎ IsTooDeep max_nesting before)

-- Where a text is refused, the tokens before the place begin a text of the grammar, unless the limit is the cause.
abbrev pub BeforeContinues : Type 0
BeforeContinues = (text : Text) (i : Input) → read text ≡ Err i → BegunBefore (lexemes 0 text) i

-- the next token is the first with which no text goes on: the tokens before begin one, unless the limit is the cause, and none goes on
abbrev pub IsFirst : List Lexeme → Input → Type 0
IsFirst tokens i = (x : BegunBefore tokens i) × NoneContinues x.0 i.ahead

-- A text is refused at the first token with which no text goes on.
abbrev pub RefusedAtTheFirst : Type 0
RefusedAtTheFirst = (text : Text) (i : Input) → read text ≡ Err i → IsFirst (lexemes 0 text) i

-- Where a text is refused at its end, it begins a text of the grammar, unless the limit is the cause, and is none.
abbrev pub EndsEarly : Type 0
EndsEarly = (text : Text) (i : Input) → read text ≡ Err i → i.ahead ≡ []
    → (Begins max_nesting (lexemes 0 text) ⊎ IsTooDeep max_nesting (lexemes 0 text)) × ((t : Surface) → IsText text t → ⊥)

-- The same from a place of a text on: where no whole term stands there, the refused token is the first with which none goes on.
abbrev pub RefusedAtTheFirstFrom : Type 0
RefusedAtTheFirstFrom = (text : Text) (at : ℕ) (i : Input) → read_at text at ≡ Err i → IsFirst (tokens_from text at) i
