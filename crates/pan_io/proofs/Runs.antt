-- Runs of bytes that wait.
use Rattle.std.proofs.Common.{◌≡◌, ℕ, ◌+◌, ◌-◌, ◌<◌, ◌≤◌, List, [], ◌∷◌, ◌++◌, length, take, drop, All, true, false, sym, ◌∙◌, ap, arith, append-nil, take-append-drop, slice_range, slice_index, add-one}
use Rattle.std.proofs.lemmas.List.{take-take, drop-take, drop-drop, length-take}
use Rattle.std.proofs.Math.Seq.{take-suc, take-length}
use Rattle.pan_io.specs.Text.{is_line_end}
use Rattle.pan_io.specs.Waiting.{Waiting, UsesRun}

-- what waits after the first bytes of a range were skipped
pub range_skip : (xs : List ℕ) (from n till : ℕ) → n + from ≤ till → slice_range xs (from + n) till ≡ drop n (slice_range xs from till)
range_skip xs from n till fits =
    let size : till - from ≡ n + (till - (from + n)) = omega arith in
    ap (take (till - (from + n))) (sym (drop-drop n from xs))
    ∙ sym (drop-take n (till - (from + n)) (drop from xs))
    ∙ ap (λ m. drop n (take m (drop from xs))) (sym size)

-- the first bytes of a run are the first ones that wait
front_of_run : (pending run : List ℕ) (m n : ℕ) → run ≡ take m pending → n ≤ length run → take n run ≡ take n pending
front_of_run pending run m n e fits =
    ap (take n) e ∙ take-take n m pending (omega (arith, ap length e, length-take m pending))

-- a line end was found in the run
pub uses_found : (old new : Waiting) (m at : ℕ) (run : List ℕ) → run ≡ take m old.pending → at < length run
    → All (λ byte. is_line_end byte ≡ false) (take at run) → slice_index run at ≡ 10
    → new.pending ≡ drop (at + 1) old.pending → new.used ≡ old.used + (at + 1) → UsesRun old new true (take at run)
uses_found old new m at run e within open_line found rest used =
    let more : take (at + 1) run ≡ take at run ++ 10 ∷ [] =
    ap (λ n. take n run) (add-one at) ∙ take-suc run at 0 within ∙ ap (λ byte. take at run ++ byte ∷ []) found in
    record {
      open_line = open_line;
      used_bytes = sym (take-append-drop (at + 1) old.pending)
          ∙ ap (λ l. l ++ drop (at + 1) old.pending) (sym (front_of_run old.pending run m (at + 1) e (omega arith)) ∙ more)
          ∙ ap (λ l. (take at run ++ 10 ∷ []) ++ l) (sym rest);
      counted = used ∙ ap (λ n. old.used + n) (omega (arith, ap length more, length-take (at + 1) run));
      some = omega (arith, ap length more, length-take (at + 1) run);
    }

-- the run has no line end
pub uses_none : (old new : Waiting) (m : ℕ) (run : List ℕ) → run ≡ take m old.pending → 0 < m → 0 < length old.pending
    → All (λ byte. is_line_end byte ≡ false) run
    → new.pending ≡ drop (length run) old.pending → new.used ≡ old.used + length run → UsesRun old new false run
uses_none old new m run e room waits open_line rest used =
    let none : run ++ [] ≡ run = append-nil run in
    record {
      open_line = open_line;
      used_bytes = sym (take-append-drop (length run) old.pending)
          ∙ ap (λ l. l ++ drop (length run) old.pending) (sym (front_of_run old.pending run m (length run) e (omega arith)) ∙ take-length run ∙ sym none)
          ∙ ap (λ l. (run ++ []) ++ l) (sym rest);
      counted = rw none used;
      some = rw none (omega (arith, ap length e, length-take m old.pending));
    }
