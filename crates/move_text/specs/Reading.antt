-- The reading of a move from left to right: the move, or the place at which the text is refused.
--
-- Each form follows its part of the grammar in Grammar.antt and takes a token wherever one continues what was taken before, so that a
-- refusal stands at the first token that doesn't.
use Rattle.std.specs.Prelude.{if◌then◌else◌, List, [], ◌∷◌, codes}
use Rattle.std.specs.Str.{bytes_eq}
use Rattle.term_syntax.specs.declared.kind.Kind.{Kind}
use Rattle.term_syntax.specs.declared.kind.Kind.TheVariants.{Name, Call, Colon}
use Rattle.term_syntax.specs.declared.surface.Surface.{Surface}
use Rattle.term_syntax.specs.Lex.{Text}
use Rattle.term_syntax.specs.Input.{Input, kind, spelling, input_at}
use Rattle.term_syntax.specs.Reading.{Outcome, Parser, ◌>>=◌, ◌>>◌, pure, refuse, at_end, expect, take_token, term}
use Rattle.term_syntax.specs.Grammar.{max_nesting}
use Rattle.move_text.specs.declared.moves.Move.{Move}
use Rattle.move_text.specs.declared.moves.Move.TheVariants as m

-- the bytes of a word, by the kind of the token; none where it is no word
abbrev pub word_by : Kind → Text → Text
word_by Name z = z
word_by Call z = z
word_by _ z = []

-- the next word, whether `(` follows it directly or not
abbrev pub word : Input → Text
word i = word_by (kind i) (spelling i)

-- A plain name, by the kind of the next token. Where `(` follows a name directly, the name is fine and the `(` isn't.
abbrev pub name_by : Kind → Parser Text
name_by Name = take_token
name_by Call = take_token >> refuse
name_by _ = refuse

unfoldable pub name : Parser Text
name = λ i. name_by (kind i) i

-- a word, and what follows it: NAME
abbrev pub with_name : Text → (Text → Move) → Text × Parser Move
with_name word f = (word, name >>= (λ x. pure (f x)))

-- a word, and what follows it: TERM
abbrev pub with_term : Text → (Surface → Move) → Text × Parser Move
with_term word f = (word, term max_nesting >>= (λ t. pure (f t)))

-- what follows "have": NAME ":" TERM
abbrev pub having : Parser Move
having = do
  x ← name
  expect Colon
  t ← term max_nesting
  pure (m.Have x t)

-- the words, each with what follows it
abbrev pub forms : List (Text × Parser Move)
forms =
    with_name (codes "intro") m.Intro
    ∷ with_term (codes "apply") m.Apply
    ∷ with_term (codes "exact") m.Exact
    ∷ with_term (codes "refine") m.Refine
    ∷ (codes "have", having)
    ∷ (codes "assumption", pure m.Assumption)
    ∷ with_term (codes "change") m.Change
    ∷ with_name (codes "unfold") m.Unfold
    ∷ []

-- the form of a word, which is taken; a word that begins none is refused itself
abbrev pub form_of : Text → List (Text × Parser Move) → Parser Move
form_of w [] = refuse
form_of w (f ∷ fs) = if bytes_eq w f.0 then (take_token >> f.1) else form_of w fs

-- a move, by its first word
unfoldable pub form : Parser Move
form = λ i. form_of (word i) forms i

-- a move, and then the end of the text
unfoldable pub finish : Parser Move
finish = do
  found ← form
  over ← at_end
  if over then pure found else refuse

-- the move that the text is
unfoldable pub read : Text → Outcome Move
read text = finish (input_at text 0)
