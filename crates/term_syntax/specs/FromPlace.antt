-- What stands at a place of a text: a term with the place directly after its last token, or the refusal.
use Rattle.std.specs.Prelude.{◌≡◌, ◌+◌, ℕ, min, length, false, Bool, ◌||◌, List, [], ◌∷◌, ◌++◌}
use Rattle.term_syntax.specs.declared.surface.Surface.{Surface}
use Rattle.term_syntax.specs.declared.kind.Kind.TheVariants.{Arrow}
use Rattle.term_syntax.specs.Kinds.{is_kind}
use Rattle.term_syntax.specs.Lex.{Text, Lexeme}
use Rattle.term_syntax.specs.Input.{kind_of, place_of, input_at}
use Rattle.term_syntax.specs.Reading.{begins_atom}
use Rattle.term_syntax.specs.Grammar.{IsTerm, max_nesting}
use Rattle.term_syntax.specs.Laws.{NoneContinues}

-- The tokens of a text from a place on. A place behind the end counts as the end.
abbrev pub tokens_from : Text → ℕ → List Lexeme
tokens_from text at = (input_at text (min at (length text))).ahead

-- the place directly after the last of some tokens, or the start where there are none
abbrev pub end_of : ℕ → List Lexeme → ℕ
end_of start [] = start
end_of start (l ∷ ls) = end_of (l.at + length l.text) ls

-- From a place on stands a term with this tree, and the second place is directly after its last token. It has taken each next token
-- with which a term begun there continues.
pub record IsTermAt (text : Text) (at : ℕ) (t : Surface) (after : ℕ) : Type 0 where
  pub taken : List Lexeme
  pub rest : List Lexeme
  pub tokens : tokens_from text at ≡ taken ++ rest
  pub term : IsTerm max_nesting (taken ++ rest) t rest
  pub greatest : NoneContinues taken rest
  pub ends : after ≡ end_of (min at (length text)) taken

-- From a place on stands no whole term: no term begins with the tokens that were taken and goes on with the next one, of which the
-- second place is the place; or the text ends there, and what was taken is no term.
pub record IsRefusedAt (text : Text) (at place : ℕ) : Type 0 where
  pub taken : List Lexeme
  pub rest : List Lexeme
  pub tokens : tokens_from text at ≡ taken ++ rest
  pub none : NoneContinues taken rest
  pub ends_early : rest ≡ [] → (t : Surface) → IsTerm max_nesting taken t [] → ⊥
  pub at_next : place ≡ place_of (length text) rest

-- whether a term goes on with the next token: an arrow, or the first one of an atom
abbrev pub goes_on : List Lexeme → Bool
goes_on rest = begins_atom (kind_of rest) || is_kind (kind_of rest) Arrow

-- From a place on stands a term with this tree, which ends at the second place, and it doesn't go on with the next token.
pub record StandsAt (text : Text) (at : ℕ) (t : Surface) (after : ℕ) : Type 0 where
  pub taken : List Lexeme
  pub rest : List Lexeme
  pub tokens : tokens_from text at ≡ taken ++ rest
  pub term : IsTerm max_nesting (taken ++ rest) t rest
  pub over : goes_on rest ≡ false
  pub ends : after ≡ end_of (min at (length text)) taken
