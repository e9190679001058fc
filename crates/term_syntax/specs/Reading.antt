-- The reading of a term from left to right: its tree, or the place at which it is refused.
--
-- Each definition follows one line of the grammar in Grammar.antt and takes a token wherever one continues what was taken before, so
-- that a refusal stands at the first token that doesn't. The laws in Laws.antt say that the trees are those of the grammar.
use Rattle.std.specs.Prelude.{◌≡◌, ℕ, zero, suc, min, Bool, true, false, if◌then◌else◌, List, [], ◌∷◌, ◌++◌, length, Some, None, Result, Ok, Err}
use Rattle.term_syntax.specs.declared.surface.Label.{Label}
use Rattle.term_syntax.specs.declared.surface.Label.TheVariants as label
use Rattle.term_syntax.specs.declared.surface.Surface.{Surface}
use Rattle.term_syntax.specs.declared.surface.Shape.TheVariants as shape
use Rattle.term_syntax.specs.declared.kind.Kind.{Kind}
use Rattle.term_syntax.specs.declared.kind.Kind.TheVariants.{Star, Wild, Asked, Open, Close, Comma, Colon, Arrow, FatArrow, Name, Call, Level, Fun}
use Rattle.term_syntax.specs.declared.fault.ReadFault.{ReadFault}
use Rattle.term_syntax.specs.declared.fault.ReadFault.TheVariants.{Syntax, Memory}
use Rattle.term_syntax.specs.Kinds.{is_kind}
use Rattle.term_syntax.specs.Lex.{Text}
use Rattle.term_syntax.specs.Input.{Input, kind, spelling, place, next, is_nil, begins_binder, input_at}
use Rattle.term_syntax.specs.Grammar.{node, level_of, max_nesting}

-- what was read and what is left, or what is left where it is refused
abbrev pub Outcome : Type 0 → Type 0
Outcome A = Result (A × Input) Input

abbrev pub Parser : Type 0 → Type 0
Parser A = Input → Outcome A

-- on from an answer, or the refusal
abbrev pub and_then : {A B : Type 0} → Outcome A → (A → Parser B) → Outcome B
and_then (Ok p) f = f p.0 p.1
and_then (Err e) f = Err e

infixl 10 ◌>>=◌
abbrev pub ◌>>=◌ : {A B : Type 0} → Parser A → (A → Parser B) → Parser B
p >>= f = λ i. and_then (p i) f

infixl 10 ◌>>◌
abbrev pub ◌>>◌ : {A B : Type 0} → Parser A → Parser B → Parser B
p >> q = p >>= (λ _. q)

-- an answer that takes nothing
abbrev pub pure : {A : Type 0} → A → Parser A
pure a = λ i. Ok (a, i)

-- a refusal at the next token
abbrev pub refuse : {A : Type 0} → Parser A
refuse = λ i. Err i

-- the place of the next token
abbrev pub here : Parser ℕ
here = λ i. Ok (place i, i)

-- whether no token is left
abbrev pub at_end : Parser Bool
at_end = λ i. Ok (is_nil i.ahead, i)

-- the kind of the next token, which is left there
abbrev pub peek : Parser Kind
peek = λ i. Ok (kind i, i)

-- whether the next token is of this kind
abbrev pub sees : Kind → Input → Bool
sees k i = is_kind (kind i) k

-- takes a token of this kind, and refuses any other
unfoldable pub expect : Kind → Parser (Unit {0})
expect k = λ i. if sees k i then Ok (tt, next i) else Err i

-- takes a token of this kind where one is next, and says whether
unfoldable pub eat : Kind → Parser Bool
eat k = λ i. if sees k i then Ok (true, next i) else Ok (false, i)

-- the bytes of the next token, which is taken
abbrev pub take_token : Parser Text
take_token = λ i. Ok (spelling i, next i)

-- name | level, by the kind of the next token. Where `(` follows a name directly, the name is fine and the `(` isn't.
abbrev pub label_by : Kind → Parser Label
label_by Name = take_token >>= (λ t. pure (label.Plain t))
label_by Level = take_token >>= (λ t. pure (label.Level (level_of t)))
label_by Call = take_token >> refuse
label_by _ = refuse

unfoldable pub label_at : Parser Label
label_at = λ i. label_by (kind i) i

-- whether an atom begins with a token of this kind
abbrev pub begins_atom : Kind → Bool
begins_atom Star = true
begins_atom Wild = true
begins_atom Asked = true
begins_atom Open = true
begins_atom Name = true
begins_atom Call = true
begins_atom Level = true
begins_atom _ = false

-- a head with the atoms that follow it, if there are any
unfoldable pub applied : ℕ → Surface → List Surface → Surface
applied at head [] = head
applied at head (x ∷ xs) = node at (shape.App head (x ∷ xs))

-- The terms inside are read by `inner`.
module _ (inner : Parser Surface) where
  -- "(" ( name | level ) ":" term ")"
  unfoldable pub binder : Parser (Label × Surface)
  binder = do
    expect Open
    name ← label_at
    expect Colon
    ty ← inner
    expect Close
    pure (name, ty)

  -- term { "," term } ")", behind the arguments that were found. The number bounds the turns, and each turn takes a token.
  unfoldable pub arguments_from : ℕ → List Surface → Parser (List Surface)
  arguments_from zero found = refuse
  arguments_from (suc n) found = do
    x ← inner
    more ← eat Comma
    if more then arguments_from n (found ++ x ∷ []) else expect Close >> pure (found ++ x ∷ [])

  -- [ term { "," term } ] ")"
  unfoldable pub arguments : Parser (List Surface)
  arguments = do
    none ← eat Close
    if none then pure [] else (λ i. arguments_from (suc (length i.ahead)) [] i)

  -- name directly followed by "(" [ term { "," term } ] ")"
  unfoldable pub constant : Parser Surface
  constant = do
    at ← here
    name ← take_token
    expect Open
    found ← arguments
    pure (node at (shape.Const name found))

  -- "(" term ")"
  unfoldable pub parenthesized : Parser Surface
  parenthesized = do
    expect Open
    t ← inner
    expect Close
    pure t

  -- an atom at a place, by the kind of the next token
  abbrev pub atom_by : ℕ → Kind → Parser Surface
  atom_by at Star = take_token >> pure (node at shape.Star)
  atom_by at Wild = take_token >> pure (node at shape.Wild)
  atom_by at Asked = take_token >> pure (node at shape.Asked)
  atom_by at Name = label_at >>= (λ l. pure (node at (shape.Named l)))
  atom_by at Level = label_at >>= (λ l. pure (node at (shape.Named l)))
  atom_by at Call = constant
  atom_by at Open = parenthesized
  atom_by at _ = refuse

  unfoldable pub atom : Parser Surface
  atom = λ i. atom_by (place i) (kind i) i

  -- { atom }, behind the atoms that were found. The number bounds the turns, and each turn takes a token.
  unfoldable pub atoms_from : ℕ → List Surface → Parser (List Surface)
  atoms_from zero found = pure found
  atoms_from (suc n) found = do
    kind ← peek
    if begins_atom kind then (do x ← atom; atoms_from n (found ++ x ∷ [])) else pure found

  unfoldable pub atoms : Parser (List Surface)
  atoms = λ i. atoms_from (suc (length i.ahead)) [] i

  -- app = atom { atom }
  unfoldable pub app : Parser Surface
  app = do
    at ← here
    head ← atom
    others ← atoms
    pure (applied at head others)

  -- "fun" binder "=>" term
  unfoldable pub abstraction : Parser Surface
  abstraction = do
    at ← here
    expect Fun
    b ← binder
    expect FatArrow
    body ← inner
    pure (node at (shape.Lam b.0 b.1 body))

  -- binder "->" term
  unfoldable pub product : Parser Surface
  product = do
    at ← here
    b ← binder
    expect Arrow
    body ← inner
    pure (node at (shape.Pi (Some b.0) b.1 body))

  -- app [ "->" term ]
  unfoldable pub arrows : Parser Surface
  arrows = do
    at ← here
    left ← app
    goes_on ← eat Arrow
    if goes_on then (do right ← inner; pure (node at (shape.Pi None left right))) else pure left

  -- term
  unfoldable pub whole : Parser Surface
  whole = λ i. if sees Fun i then abstraction i else (if begins_binder i.ahead then product i else arrows i)

-- A term in which so many terms may stand inside one another, it counted. At 0 it is refused at its first token.
unfoldable pub term : ℕ → Parser Surface
term zero = refuse
term (suc depth) = whole (term depth)

-- a term, and then the end of the text
unfoldable pub finish : Parser Surface
finish = do
  t ← term max_nesting
  over ← at_end
  if over then pure t else refuse

-- the term that the text is
unfoldable pub read : Text → Outcome Surface
read text = finish (input_at text 0)

-- the term that begins at a place, and the place directly after its last token
unfoldable pub read_at : Text → ℕ → Outcome Surface
read_at text at = term max_nesting (input_at text (min at (length text)))

-- ---- what a function that reads ensures: the outcome, unless memory runs out

abbrev pub Reads : {A : Type 0} → Outcome A → Result A ReadFault → Input → Type 0
Reads outcome (Ok a) new = outcome ≡ Ok (a, new)
Reads outcome (Err Memory) new = Unit {0}
Reads outcome (Err (Syntax at)) new = (outcome ≡ Err new) × (at ≡ place new)

-- what a function that reads a whole text ensures: what `show` makes of the answer, or the place of the refusal, unless memory runs out
abbrev pub IsRead : {A B : Type 0} → (A → Input → B) → Outcome A → B → Type 0
IsRead show (Ok p) b = b ≡ show p.0 p.1
IsRead show (Err e) b = ⊥

abbrev pub Gives : {A B : Type 0} → (A → Input → B) → Outcome A → Result B ReadFault → Type 0
Gives show outcome (Ok b) = IsRead show outcome b
Gives show outcome (Err Memory) = Unit {0}
Gives show outcome (Err (Syntax at)) = (k : Input) × (outcome ≡ Err k) × (at ≡ place k)
