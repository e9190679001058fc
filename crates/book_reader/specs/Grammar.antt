-- The grammar of books, as a relation between tokens and items. Tokens, terms and binders are those of the grammar of terms.
--
--   item = "def" name { binder } ":=" term ":" term ";"  |  "prim" name { binder } ":" term ";"
--
-- A book is a list of items, also an empty one. The name after `def` or `prim` isn't read as a constant, even where `(` follows
-- directly. A book isn't counted where terms stand inside one another.
use Rattle.std.specs.Prelude.{◌≡◌, ◌⊎◌, List, [], ◌∷◌, Option, Some, None}
use Rattle.term_syntax.specs.declared.kind.Kind.TheVariants as k
use Rattle.term_syntax.specs.declared.surface.Label.{Label}
use Rattle.term_syntax.specs.declared.surface.Label.TheVariants as label
use Rattle.term_syntax.specs.declared.surface.Surface.{Surface}
use Rattle.term_syntax.specs.Lex.{Text, Lexeme, lexemes}
use Rattle.term_syntax.specs.Grammar.{IsTerm, IsBinder, max_nesting}
use Rattle.book_reader.specs.declared.source.Parameter.{Parameter}
use Rattle.book_reader.specs.declared.source.Source.{Source}

-- a name, also one that `(` follows directly
abbrev pub IsItemName : Lexeme → Type 0
IsItemName l = (l.kind ≡ k.Name) ⊎ (l.kind ≡ k.Call)

-- a label that is a level name gives a parameter no name of its own
abbrev pub name_of_label : Label → Option Text
name_of_label (label.Plain x) = Some x
name_of_label (label.Level k) = None

-- the parameter of a binder
abbrev pub parameter_of : Label → Surface → Parameter
parameter_of x A = record { name = name_of_label x; ty = A }

-- `AreParameters ts ps rest`: from the tokens `ts` on stand binders with the parameters `ps`, and then come the tokens `rest`
pub data AreParameters : List Lexeme → List Parameter → List Lexeme → Type 0 where
  no_parameter : {ts : List Lexeme} → AreParameters ts [] ts
  more_parameters : {ts us rest : List Lexeme} {x : Label} {A : Surface} {ps : List Parameter}
      → IsBinder max_nesting ts x A us → AreParameters us ps rest → AreParameters ts (parameter_of x A ∷ ps) rest

pub data IsItem : List Lexeme → Source → List Lexeme → Type 0 where
  -- "def" name { binder } ":=" term ":" term ";"
  definition : {d n a c e : Lexeme} {ts us vs rest : List Lexeme} {ps : List Parameter} {M A : Surface}
      → d.kind ≡ k.Def → IsItemName n → AreParameters ts ps (a ∷ us) → a.kind ≡ k.Assign → IsTerm max_nesting us M (c ∷ vs) → c.kind ≡ k.Colon
      → IsTerm max_nesting vs A (e ∷ rest) → e.kind ≡ k.Semi → IsItem (d ∷ n ∷ ts) (record { name = n.text; params = ps; ty = A; body = Some M }) rest
  -- "prim" name { binder } ":" term ";"
  primitive : {d n c e : Lexeme} {ts us rest : List Lexeme} {ps : List Parameter} {A : Surface}
      → d.kind ≡ k.Prim → IsItemName n → AreParameters ts ps (c ∷ us) → c.kind ≡ k.Colon
      → IsTerm max_nesting us A (e ∷ rest) → e.kind ≡ k.Semi → IsItem (d ∷ n ∷ ts) (record { name = n.text; params = ps; ty = A; body = None }) rest

-- items, and then no further token
pub data AreItems : List Lexeme → List Source → Type 0 where
  no_item : AreItems [] []
  more_items : {ts us : List Lexeme} {s : Source} {ss : List Source} → IsItem ts s us → AreItems us ss → AreItems ts (s ∷ ss)

-- all of the text is a book with these items
abbrev pub IsBookText : Text → List Source → Type 0
IsBookText text ss = AreItems (lexemes 0 text) ss
