-- How a reader's history begins, goes on, and what it says at its end.
use Rattle.std.proofs.Common.{◌≡◌, ℕ, ◌<◌, ◌^◌, List, [], ◌∷◌, ◌++◌, length, take, sym, ◌∙◌, ap, arith, append-nil, length-append, Option, None, Some, ◌⊎◌, inl, inr, subst}
use Rattle.std.proofs.KnownBytes.{Consumes-trans}
use Rattle.std.specs.Io.KnownBytes.{Consumes, IsAtEnd}
use Rattle.std.specs.Str.Lines.{strip_carriage_return}
use Rattle.std.proofs.lemmas.List.{take_at}
use Rattle.pan_io.specs.Ahead.{ahead}
use Rattle.pan_io.specs.Text.{lines_of, whole_lines_of}
use Rattle.pan_io.specs.Reader.{Reader, Takes, EndsLine, before_it}
use Rattle.pan_io.specs.History.{History, IsWhole, Gave, Continues}
use Rattle.pan_io.specs.declared.taken.Stop.{Stop}
use Rattle.pan_io.specs.declared.taken.Stop.TheVariants.{Open, Ended, Faulted, Exceeded}
use Rattle.pan_io.specs.declared.taken.Taken.{Taken}
use Rattle.pan_io.specs.declared.taken.Taken.TheVariants.{Line, TooLong, End, ReadFault, Long}
use Rattle.pan_io.proofs.TextLemmas.{nothing_is_whole, whole_more, lines_more, lines_behind, lines_of-last, lines_of-nil, open_end}

-- ---- how it goes on

nothing_used : (left : Option (List ℕ)) (pending : List ℕ) → pending ≡ [] → Consumes left (ahead pending left) []
nothing_used None pending e = tt
nothing_used (Some xs) pending e = sym (ap (λ l. l ++ xs) e)

pub history_start : (left : Option (List ℕ)) (reader : Reader) → reader.pending ≡ [] → reader.used ≡ 0 → reader.stop ≡ Open
    → History left left reader [] []
history_start left reader none zero open_now = record {
  consumed = nothing_used left reader.pending none;
  counted = zero;
  gave = subst (λ s. Gave s left reader [] []) (sym open_now) (sym lines_of-nil, nothing_is_whole);
}

-- the history after one more answer, with what it says of the lines
continued : (start left left' : Option (List ℕ)) (old new : Reader) (taken : Taken) (raw end seen : List ℕ) (lines lines' : List (List ℕ)) (stop : Stop)
    → History start left old seen lines → Takes left left' old new taken raw end → new.stop ≡ stop
    → Gave stop left' new (seen ++ (raw ++ end)) lines' → History start left' new (seen ++ (raw ++ end)) lines'
continued start left left' old new taken raw end seen lines lines' stop so_far takes stops gave = record {
  consumed = Consumes-trans _ _ _ _ _ so_far.consumed takes.consumed;
  counted = takes.counted ∙ omega (arith, so_far.counted, length-append seen (raw ++ end));
  gave = subst (λ s. Gave s left' new (seen ++ (raw ++ end)) lines') (sym stops) gave;
}

after_line : (start left left' : Option (List ℕ)) (old new : Reader) (taken : Taken) (raw end seen : List ℕ) (lines : List (List ℕ))
    → History start left old seen lines → Gave Open left old seen lines → Takes left left' old new taken raw end → EndsLine left' new raw end
    → History start left' new (seen ++ (raw ++ end)) (lines ++ strip_carriage_return raw ∷ [])
after_line start left left' old new taken raw end seen lines so_far gave takes (inl (byte, going)) =
    continued start left left' old new taken raw end seen lines (lines ++ strip_carriage_return raw ∷ []) Open so_far takes going (
      ap (λ l. l ++ strip_carriage_return raw ∷ []) gave.0 ∙ sym (ap (λ l. lines_of (seen ++ (raw ++ l))) byte ∙ lines_more seen raw gave.1 takes.open_line),
      subst (λ l. IsWhole (seen ++ (raw ++ l))) (sym byte) (whole_more seen raw),
    )
after_line start left left' old new taken raw end seen lines so_far gave takes (inr (none, some, ended, at_end)) =
    continued start left left' old new taken raw end seen lines (lines ++ strip_carriage_return raw ∷ []) Ended so_far takes ended (
      ap (λ l. l ++ strip_carriage_return raw ∷ []) gave.0
          ∙ sym (ap (λ l. lines_of (seen ++ (raw ++ l))) none ∙ ap (λ l. lines_of (seen ++ l)) (append-nil raw) ∙ lines_behind seen raw gave.1 ∙ ap (λ l. lines_of seen ++ l) (lines_of-last raw takes.open_line some)),
      at_end,
    )

going_on : (left : Option (List ℕ)) (now : Reader) (raw end : List ℕ) → EndsLine left now raw end → (now.stop ≡ Open) ⊎ (now.stop ≡ Ended)
going_on left now raw end (inl (byte, going)) = inl going
going_on left now raw end (inr (none, some, ended, at_end)) = inr ended

uses_one : (left : Option (List ℕ)) (now : Reader) (raw end : List ℕ) → EndsLine left now raw end → 0 < length (raw ++ end)
uses_one left now raw end (inl (byte, going)) = omega (arith, length-append raw end, ap length byte)
uses_one left now raw end (inr (none, some, ended, at_end)) = omega (arith, length-append raw end)

pub continues_open : (start left left' : Option (List ℕ)) (old new : Reader) (taken : Taken) (raw end seen : List ℕ) (lines : List (List ℕ))
    → History start left old seen lines → old.stop ≡ Open → Takes left left' old new taken raw end → Continues start left' old new lines taken
continues_open start left left' old new taken raw end seen lines so_far open_now takes =
    by_answer taken takes (subst (λ s. Gave s left old seen lines) open_now so_far.gave)
  where
    by_answer : (t : Taken) → Takes left left' old new t raw end → Gave Open left old seen lines → Continues start left' old new lines t
    by_answer Line took gave =
        let a = took.answers in (
          seen ++ (raw ++ end),
          subst (λ l. History start left' new (seen ++ (raw ++ end)) (lines ++ l ∷ [])) (sym a.1) (after_line start left left' old new Line raw end seen lines so_far gave took a.0),
          a.2,
          omega (arith, took.counted, uses_one left' new raw end a.0),
          going_on left' new raw end a.0,
        )
    by_answer (TooLong n) took gave =
        let a = took.answers in (
          seen ++ (raw ++ end),
          strip_carriage_return raw,
          after_line start left left' old new (TooLong n) raw end seen lines so_far gave took a.0,
          sym a.1,
          a.2,
          omega (arith, took.counted, uses_one left' new raw end a.0),
          going_on left' new raw end a.0,
        )
    by_answer End took gave =
        let a = took.answers in
        let none : raw ++ end ≡ [] = ap (λ l. l ++ end) a.0 ∙ a.1 in (
          seen ++ (raw ++ end),
          continued start left left' old new End raw end seen lines lines Ended so_far took a.2
              (gave.0 ∙ ap lines_of (sym (ap (λ l. seen ++ l) none ∙ append-nil seen)), a.3),
          a.2,
        )
    by_answer ReadFault took gave =
        let a = took.answers in (
          seen ++ (raw ++ end),
          continued start left left' old new ReadFault raw end seen lines lines Faulted so_far took a.1
              (sym (open_end seen raw end lines gave.1 gave.0 took.open_line a.0), a.2),
          a.1,
        )
    by_answer (Long n) took gave =
        let a = took.answers in (
          seen ++ (raw ++ end),
          continued start left left' old new (Long n) raw end seen lines lines Exceeded so_far took a.1
              (sym (open_end seen raw end lines gave.1 gave.0 took.open_line a.0), a.3, a.4),
          a.1,
          a.2,
        )

-- ---- what it says of an input b that was told

all_used : (b : List ℕ) (now : Option (List ℕ)) (seen : List ℕ) → Consumes (Some b) now seen → IsAtEnd now → b ≡ seen
all_used b None seen used at_end = absurd used
all_used b (Some ys) seen used at_end = used ∙ ap (λ l. seen ++ l) at_end ∙ append-nil seen

part_used : (b : List ℕ) (now : Option (List ℕ)) (seen : List ℕ) → Consumes (Some b) now seen → (ys : List ℕ) × (b ≡ seen ++ ys)
part_used b None seen used = absurd used
part_used b (Some ys) seen used = (ys, used)

none_waits : (b pending : List ℕ) (left : Option (List ℕ)) (t : List ℕ) → pending ≡ [] → Consumes (Some b) (ahead pending left) t → Consumes (Some b) left t
none_waits b pending None t e used = absurd used
none_waits b pending (Some ys) t e used = used ∙ ap (λ l. t ++ (l ++ ys)) e

some_wait : (b pending : List ℕ) (left : Option (List ℕ)) (t : List ℕ) → 0 < length pending → Consumes (Some b) (ahead pending left) t
    → (ys : List ℕ) × (b ≡ t ++ ys) × (0 < length ys)
some_wait b pending None t some used = absurd used
some_wait b pending (Some ys) t some used = (pending ++ ys, used, omega (arith, length-append pending ys))

-- where the input ended, each of its lines was given
pub history_end : (left : Option (List ℕ)) (b : List ℕ) (reader : Reader) (seen : List ℕ) (lines : List (List ℕ))
    → History (Some b) left reader seen lines → reader.stop ≡ Ended → (lines_of b ≡ lines) × (length b ≡ reader.used)
history_end left b reader seen lines so_far ended =
    let gave : Gave Ended left reader seen lines = subst (λ s. Gave s left reader seen lines) ended so_far.gave in
    let all : b ≡ seen = all_used b (before_it reader left) seen so_far.consumed gave.1 in
    (ap lines_of all ∙ sym gave.0, ap length all ∙ sym so_far.counted)

-- after a fault of the source, seen is all that it gave, and the lines that were whole in it were given
pub history_fault : (left : Option (List ℕ)) (b : List ℕ) (reader : Reader) (seen : List ℕ) (lines : List (List ℕ))
    → History (Some b) left reader seen lines → reader.stop ≡ Faulted → Consumes (Some b) left seen × (whole_lines_of seen ≡ lines)
history_fault left b reader seen lines so_far faulted =
    let gave : Gave Faulted left reader seen lines = subst (λ s. Gave s left reader seen lines) faulted so_far.gave in
    (none_waits b reader.pending left seen gave.1 so_far.consumed, sym gave.0)

-- where the session used all that it may, the lines that were whole in that were given
pub history_long : (left : Option (List ℕ)) (b : List ℕ) (reader : Reader) (seen : List ℕ) (lines : List (List ℕ))
    → History (Some b) left reader seen lines → reader.stop ≡ Exceeded → (2 ^ 40 < length b) × (whole_lines_of (take (2 ^ 40) b) ≡ lines)
history_long left b reader seen lines so_far exceeded =
    let gave : Gave Exceeded left reader seen lines = subst (λ s. Gave s left reader seen lines) exceeded so_far.gave in
    let long : length seen ≡ 2 ^ 40 = sym so_far.counted ∙ gave.1 in
    let more = some_wait b reader.pending left seen gave.2 so_far.consumed in (
      omega (arith, length-append seen more.0, ap length more.1),
      ap (λ l. whole_lines_of (take (2 ^ 40) l)) more.1 ∙ ap whole_lines_of (take_at seen more.0 (2 ^ 40) long) ∙ sym gave.0,
    )

-- until then, the lines given are the first ones
pub history_rest : (left : Option (List ℕ)) (b : List ℕ) (reader : Reader) (seen : List ℕ) (lines : List (List ℕ))
    → History (Some b) left reader seen lines → (reader.stop ≡ Open) ⊎ (reader.stop ≡ Ended)
    → (rest : List (List ℕ)) × (lines_of b ≡ lines ++ rest)
history_rest left b reader seen lines so_far (inl going) =
    let gave : Gave Open left reader seen lines = subst (λ s. Gave s left reader seen lines) going so_far.gave in
    let part = part_used b (before_it reader left) seen so_far.consumed in
    (lines_of part.0, ap lines_of part.1 ∙ lines_behind seen part.0 gave.1 ∙ ap (λ l. l ++ lines_of part.0) (sym gave.0))
history_rest left b reader seen lines so_far (inr ended) =
    ([], (history_end left b reader seen lines so_far ended).0 ∙ sym (append-nil lines))
