-- Reading a whole text, against the grammar.
use Rattle.std.proofs.Common.{◌≡◌, ℕ, List, length, Result, Ok, Err, refl, sym, ap, ◌∙◌, All, IfOk}
use Rattle.term_syntax.specs.declared.fault.ReadFault.{ReadFault}
use Rattle.term_syntax.specs.Lex.{Text}
use Rattle.term_syntax.specs.Input.{Input, input_at, place, place_of}
use Rattle.term_syntax.specs.Reading.{Outcome, IsRead, Gives}
use Rattle.term_syntax.proofs.NamedTokens.{lexemes_named}
use Rattle.term_syntax.proofs.Progress.{ok_inj}
use Rattle.book_reader.specs.declared.source.Source.{Source}
use Rattle.book_reader.specs.Grammar.{IsBookText}
use Rattle.book_reader.specs.Laws.{ItemsAreUnique, IsRefusedAt}
use Rattle.book_reader.specs.Named.{HasNames}
use Rattle.book_reader.specs.Reading.{read}
use Rattle.book_reader.proofs.Sound.{read_sound}
use Rattle.book_reader.proofs.Complete.{items_run}
use Rattle.book_reader.proofs.Refusals.{nothing_continues}
use Rattle.book_reader.proofs.Ends.{end_of, items_end}
use Rattle.book_reader.proofs.NamedItems.{items_named}

pub gives_ok : (o : Outcome (List Source)) (ss : List Source) → IsRead (λ ss _. ss) o ss → (j : Input) × (o ≡ Ok (ss, j))
gives_ok (Ok p) ss e = (p.1, ap (λ (us : List Source). Ok (us, p.1)) (sym e))
gives_ok (Err e) ss h = absurd h

pub named : (text : Text) (r : Result (List Source) ReadFault) → Gives (λ ss _. ss) (read text) r → IfOk r (All HasNames)
named text (Ok ss) h = let x = gives_ok (read text) ss h in items_named (read_sound text ss x.0 x.1) (lexemes_named text)
named text (Err e) h = tt

-- each source of a text that was read has names of the texts
pub named_sources : (text : Text) (ss : List Source) (j : Input) → read text ≡ Ok (ss, j) → All HasNames ss
named_sources text ss j e = items_named (read_sound text ss j e) (lexemes_named text)

pub read_complete : (text : Text) (ss : List Source) → IsBookText text ss → (j : Input) × (read text ≡ Ok (ss, j))
unfolding read
read_complete text ss h = let x = (items_run h).run (input_at text 0) refl in (x.0, x.1)

pub items_are_unique : ItemsAreUnique
items_are_unique text ss us h g =
    let x = read_complete text ss h in
    let y = read_complete text us g in
    ap (λ (p : List Source × Input). p.0) (ok_inj (ss, x.0) (us, y.0) (sym x.1 ∙ y.1))

-- the end of the text is kept
end_kept : (text : Text) (i : Input) → read text ≡ Err i → place i ≡ place_of (length text) i.ahead
unfolding read
end_kept text i e = ap (λ n. place_of n i.ahead) (ap (end_of {A = List Source}) (sym e) ∙ items_end (input_at text 0))

pub refused : (text : Text) (i : Input) (n : ℕ) → read text ≡ Err i → place i ≡ n → IsRefusedAt text n
refused text i n e at =
    let x = nothing_continues text i e in
    record {
      taken = x.0;
      rest = i.ahead;
      tokens = x.1;
      none = x.2;
      no_book = λ ss h. let y = read_complete text ss h in cc (sym y.1 ∙ e);
      at_next = sym at ∙ end_kept text i e;
    }
