-- The reading of a book from left to right: its items, or the place at which it is refused.
--
-- Each definition follows one line of the grammar in Grammar.antt and takes a token wherever one continues what was taken before, so
-- that a refusal stands at the first token that doesn't.
use Rattle.std.specs.Prelude.{ℕ, zero, suc, if◌then◌else◌, List, [], ◌∷◌, ◌++◌, length, Some, None}
use Rattle.term_syntax.specs.declared.kind.Kind.{Kind}
use Rattle.term_syntax.specs.declared.kind.Kind.TheVariants.{Name, Call, Def, Prim, Open, Assign, Colon, Semi}
use Rattle.term_syntax.specs.Kinds.{is_kind}
use Rattle.term_syntax.specs.Lex.{Text}
use Rattle.term_syntax.specs.Input.{kind, input_at}
use Rattle.term_syntax.specs.Reading.{Outcome, Parser, ◌>>=◌, ◌>>◌, pure, refuse, at_end, peek, expect, take_token, binder, term}
use Rattle.term_syntax.specs.Grammar.{max_nesting}
use Rattle.book_reader.specs.declared.source.Parameter.{Parameter}
use Rattle.book_reader.specs.declared.source.Source.{Source}
use Rattle.book_reader.specs.Grammar.{parameter_of}

-- The name after `def` or `prim`. It isn't read as a constant, even where `(` follows directly.
abbrev pub name_by : Kind → Parser Text
name_by Name = take_token
name_by Call = take_token
name_by _ = refuse

unfoldable pub item_name : Parser Text
item_name = λ i. name_by (kind i) i

-- "(" ( name | level ) ":" term ")"
unfoldable pub parameter : Parser Parameter
parameter = do
  b ← binder (term max_nesting)
  pure (parameter_of b.0 b.1)

-- { binder }, behind the parameters that were found. The number bounds the turns, and each turn takes a token.
unfoldable pub parameters_from : ℕ → List Parameter → Parser (List Parameter)
parameters_from zero found = pure found
parameters_from (suc n) found = do
  kind ← peek
  if is_kind kind Open then (do p ← parameter; parameters_from n (found ++ p ∷ [])) else pure found

unfoldable pub parameters : Parser (List Parameter)
parameters = λ i. parameters_from (suc (length i.ahead)) [] i

-- "def" name { binder } ":=" term ":" term ";"
unfoldable pub definition : Parser Source
definition = do
  expect Def
  name ← item_name
  params ← parameters
  expect Assign
  body ← term max_nesting
  expect Colon
  ty ← term max_nesting
  expect Semi
  pure (record { name = name; params = params; ty = ty; body = Some body })

-- "prim" name { binder } ":" term ";"
unfoldable pub primitive : Parser Source
primitive = do
  expect Prim
  name ← item_name
  params ← parameters
  expect Colon
  ty ← term max_nesting
  expect Semi
  pure (record { name = name; params = params; ty = ty; body = None })

-- an item, by its first token
unfoldable pub item : Parser Source
item = do
  kind ← peek
  if is_kind kind Def then definition else primitive

-- { item }, behind the items that were found. The number bounds the turns, and each turn takes a token.
unfoldable pub items_from : ℕ → List Source → Parser (List Source)
items_from zero found = refuse
items_from (suc n) found = do
  over ← at_end
  if over then pure found else (do s ← item; items_from n (found ++ s ∷ []))

unfoldable pub items : Parser (List Source)
items = λ i. items_from (suc (length i.ahead)) [] i

-- the items of a text
unfoldable pub read : Text → Outcome (List Source)
read text = items (input_at text 0)
