-- What a book is worth behind an environment: its text is read whole, and then its items enter one after another.
use Rattle.std.specs.Prelude.{◌≡◌, ℕ, suc, List, [], ◌∷◌, Result, Ok, Err}
use Rattle.term_syntax.specs.Lex.{Text}
use Rattle.term_syntax.specs.Input.{place}
use Rattle.book_reader.specs.declared.source.Source.{Source}
use Rattle.ld_trees.specs.Term.{Term}
use Rattle.ld_terms.specs.declared.globals.Item.{Item}
use Rattle.book_reader.specs.Items.{ItemRefusal, item}
use Rattle.term_syntax.specs.Reading.{Outcome}
use Rattle.book_reader.specs.Grammar.{IsBookText}
use Rattle.book_reader.specs.Reading.{read}

-- why a book isn't accepted; items count from 0 in its text
pub data BookRefusal : Type 0 where
  Syntax : ℕ → BookRefusal
  AtItem : ℕ → ItemRefusal → BookRefusal

-- on with an item, or the refusal of the item of that number
abbrev pub behind : {A : Type 0} → ℕ → Result (Item Term × ℕ) ItemRefusal → (Item Term → Result A BookRefusal) → Result A BookRefusal
behind k (Ok p) f = f p.0
behind k (Err r) f = Err (AtItem k r)

-- each item enters behind those before it, and has that many units of its own; the first one has the number k
abbrev pub enter : ℕ → ℕ → List (Item Term) → List Source → Result (List (Item Term)) BookRefusal
enter units k items [] = Ok items
enter units k items (s ∷ ss) = behind k (item items s units) (λ i. enter units (suc k) (i ∷ items) ss)

-- the items of a text that was read, or the place of its refusal
abbrev pub enter_all : ℕ → List (Item Term) → Outcome (List Source) → Result (List (Item Term)) BookRefusal
enter_all units items (Ok p) = enter units 0 items p.0
enter_all units items (Err i) = Err (Syntax (place i))

-- the environment of a book, or its refusal
abbrev pub book_value : List (Item Term) → ℕ → Text → Result (List (Item Term)) BookRefusal
book_value items units text = enter_all units items (read text)

-- the text is a book by the grammar, the items of which make this environment behind those
pub record IsEntered (items : List (Item Term)) (units : ℕ) (text : Text) (made : List (Item Term)) : Type 0 where
  pub sources : List Source
  pub book : IsBookText text sources
  pub enters : enter units 0 items sources ≡ Ok made
