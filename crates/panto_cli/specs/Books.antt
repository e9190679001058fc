-- The book that the words of a run name.
use Rattle.std.specs.Prelude.{◌≡◌, ◌≤◌, ◌⊎◌, ℕ, List, [], length, Option, Some, None, Result, Ok, Err, codes}
use Rattle.ld_trees.specs.Term.{Term}
use Rattle.ld_terms.specs.declared.globals.Item.{Item}
use Rattle.term_syntax.specs.Lex.{Text}
use Rattle.pan_io.specs.Books.{NamedBytes, RoseAtOpen}
use Rattle.pan_io.specs.Whole.{IsBook, IsLongBook}
use Rattle.book_reader.specs.Book.{BookRefusal, book_value}
use Rattle.reply_text.specs.Members.{object_text}
use Rattle.command_set.specs.Books.{book_refusal}
use Rattle.panto_cli.specs.declared.book.NoBook.{NoBook}
use Rattle.panto_cli.specs.declared.book.NoBook.TheVariants as no_book

-- the items of an environment, the one added last first
abbrev pub Items : Type 0
Items = List (Item Term)

-- what a text is worth as a book
abbrev pub Outcome : Type 0
Outcome = Result Items BookRefusal

-- the most bytes of a book
abbrev pub most_bytes : ℕ
most_bytes = 4194304

-- the environment that a text makes from the empty one, each item with 10,000,000 units of fuel, or its refusal
abbrev pub book_of : Text → Outcome
book_of text = book_value [] 10000000 text

-- The text of the book: the bytes that the shelf tells under the name of the file. Words without a book have the empty text.
abbrev pub IsText : Option (List NamedBytes) → Option Text → Text → Type 0
IsText books None text = text ≡ []
IsText books (Some file) text = IsBook books file text

-- the text is known: the shelf tells its books, or the words name none
abbrev pub IsTold : Option (List NamedBytes) → Option Text → Type 0
IsTold books None = Unit {0}
IsTold None (Some file) = ⊥
IsTold (Some books) (Some file) = Unit {0}

-- it has more bytes than a book may have
abbrev pub IsLongText : Option (List NamedBytes) → Option Text → Type 0
IsLongText books None = ⊥
IsLongText books (Some file) = IsLongBook books file most_bytes

-- the book is accepted with these items
pub record Accepts (books : Option (List NamedBytes)) (file : Option Text) (items : Items) : Type 0 where
  pub text : Text
  pub is : IsText books file text
  pub short : length text ≤ most_bytes
  pub value : book_of text ≡ Ok items

-- this object, without a number of entries, says why the book is refused
abbrev pub ShowsRefusal : Outcome → List ℕ → Type 0
ShowsRefusal outcome object = (refusal : BookRefusal) × (outcome ≡ Err refusal) × (object ≡ object_text (book_refusal refusal))

-- the text of the book is refused, with this object
pub record RefusesText (books : Option (List NamedBytes)) (file : Option Text) (object : List ℕ) : Type 0 where
  pub text : Text
  pub is : IsText books file text
  pub short : length text ≤ most_bytes
  pub shows : ShowsRefusal (book_of text) object

abbrev pub long_refusal : List ℕ
long_refusal = codes "{\"error\":\"bookTooLong\"}"

-- the book is refused, with this object
abbrev pub Refuses : Option (List NamedBytes) → Option Text → List ℕ → Type 0
Refuses books file object = ((object ≡ long_refusal) × IsLongText books file) ⊎ RefusesText books file object

-- the shelf's count rose, or it tells its books and none has the name of the file
abbrev pub IsOpenFault : Option (List NamedBytes) → Option Text → ℕ → ℕ → Type 0
IsOpenFault books None before now = ⊥
IsOpenFault books (Some file) before now = RoseAtOpen books file before now

-- why a text makes no environment
abbrev pub IsRefused : Outcome → NoBook → Type 0
IsRefused outcome no_book.Fault = ⊥
IsRefused outcome (no_book.Refused object) = ShowsRefusal outcome object.items
IsRefused outcome no_book.Memory = Unit {0}

-- why there is no book
abbrev pub IsNoBook : Option (List NamedBytes) → Option Text → ℕ → ℕ → NoBook → Type 0
IsNoBook books file before now no_book.Fault = IsOpenFault books file before now
IsNoBook books file before now (no_book.Refused object) = Refuses books file object.items
IsNoBook books file before now no_book.Memory = Unit {0}

-- the refusal of a book that has too many bytes
abbrev pub IsLongRefusal : NoBook → Type 0
IsLongRefusal no_book.Fault = ⊥
IsLongRefusal (no_book.Refused object) = object.items ≡ long_refusal
IsLongRefusal no_book.Memory = Unit {0}
