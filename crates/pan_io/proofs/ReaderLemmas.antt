-- From a line that was cut to what the reader answers.
use Rattle.std.proofs.Common.{◌≡◌, ℕ, ◌-◌, ◌<◌, ◌≤◌, ◌==◌, List, [], ◌++◌, length, take, Option, true, false, Bool, cond, ◌∙◌, ap, arith, slice_index, None, Some}
use Rattle.pan_io.specs.Ahead.{ahead}
use Rattle.std.proofs.lemmas.List.{take-take, length-take-le}
use Rattle.std.proofs.Math.Seq.{take-length}
use Rattle.std.specs.Io.KnownBytes.{IsAtEnd}
use Rattle.std.specs.Str.Lines.{strip_carriage_return}
use Rattle.pan_io.specs.Kept.{Kept, Holds}
use Rattle.pan_io.specs.Waiting.{Waiting}
use Rattle.pan_io.specs.Cut.{Cuts, end_of}
use Rattle.pan_io.specs.declared.cut.Cut.{Cut}
use Rattle.pan_io.specs.Reader.{Reader, Takes, Answers, EndsLine, IsKind}
use Rattle.pan_io.specs.declared.taken.Stop.{Stop}
use Rattle.pan_io.specs.declared.taken.Taken.{Taken}
use Rattle.pan_io.specs.declared.taken.Taken.TheVariants.{Line, TooLong, End, ReadFault, Long}

abbrev pub reader : Waiting → List ℕ → Stop → Reader
reader waiting line stop = record { pending = waiting.pending; used = waiting.used; line = line; stop = stop }

pub takes_cut : (left left' : Option (List ℕ)) (old new : Waiting) (line0 line1 : List ℕ) (stop0 stop1 : Stop) (taken : Taken) (cut : Cut) (raw : List ℕ)
    → Cuts left left' old new cut raw → Answers left' (reader new line1 stop1) raw (end_of cut) taken
    → Takes left left' (reader old line0 stop0) (reader new line1 stop1) taken raw (end_of cut)
takes_cut left left' old new line0 line1 stop0 stop1 taken cut raw cuts answers = record {
  open_line = cuts.open_line;
  consumed = cuts.consumed;
  counted = cuts.counted;
  answers = answers;
}

-- a line that is shown whole, or not at all
pub kind_answers : (left : Option (List ℕ)) (now : Reader) (raw end : List ℕ) (taken : Taken) → IsKind taken raw → EndsLine left now raw end
    → (length (strip_carriage_return raw) ≤ 65536 → now.line ≡ strip_carriage_return raw)
    → (65536 < length (strip_carriage_return raw) → now.line ≡ []) → Answers left now raw end taken
kind_answers left now raw end Line kind ends shows hides =
    let line = shows kind in (ends, line, omega (arith, ap length line))
kind_answers left now raw end (TooLong n) kind ends shows hides = (ends, kind.0, kind.1, hides (omega (arith, kind.0, kind.1)))
kind_answers left now raw end End kind ends shows hides = absurd kind
kind_answers left now raw end ReadFault kind ends shows hides = absurd kind
kind_answers left now raw end (Long n) kind ends shows hides = absurd kind

stripped : (b : Bool) (raw : List ℕ) → let s = cond b (take (length raw - 1) raw) raw in take (length s) raw ≡ s
stripped true raw = ap (λ n. take n raw) (length-take-le (length raw - 1) raw (omega arith))
stripped false raw = take-length raw

pub shows_line : (kept : Kept) (raw : List ℕ) (shown : ℕ) → Holds kept raw → length (strip_carriage_return raw) ≤ 65536
    → shown ≡ length (strip_carriage_return raw) → take shown kept.front ≡ strip_carriage_return raw
shows_line kept raw shown held fits e =
    ap (λ n. take n kept.front) e ∙ ap (take (length (strip_carriage_return raw))) held.kept_front
    ∙ take-take _ 65537 raw (omega arith)
    ∙ stripped (slice_index raw (length raw - 1) == 13) raw

pub shows_none : (front : List ℕ) (shown : ℕ) → shown ≡ 0 → take shown front ≡ []
shows_none front shown e = ap (λ n. take n front) e

pub at_end : (pending : List ℕ) (left : Option (List ℕ)) → pending ≡ [] → IsAtEnd left → IsAtEnd (ahead pending left)
at_end pending None e end = tt
at_end pending (Some xs) e end = ap (λ l. l ++ xs) e ∙ end
