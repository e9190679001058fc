-- A line that is still open, run by run.
use Rattle.std.proofs.Common.{◌≡◌, ℕ, ◌+◌, List, [], ◌∷◌, ◌++◌, length, Option, None, Some, All, true, false, ◌∙◌, ap, arith, length-append, append-nil, append_assoc}
use Rattle.std.proofs.KnownBytes.{Consumes-trans, Consumes-kept, Consumes-nil}
use Rattle.std.specs.Io.KnownBytes.{Consumes, Keeps}
use Rattle.std.proofs.lemmas.List.Elements.{All-append, All-nil}
use Rattle.pan_io.specs.Ahead.{ahead}
use Rattle.pan_io.specs.Text.{is_line_end}
use Rattle.pan_io.specs.Waiting.{Waiting, UsesRun}
use Rattle.pan_io.specs.Cut.{Cuts, EndsAs, end_of}
use Rattle.pan_io.specs.declared.cut.Cut.{Cut}
use Rattle.pan_io.specs.declared.cut.Cut.TheVariants.{Whole}

-- raw was used since the line began, and it has no line end
pub record Reads (left left' : Option (List ℕ)) (old new : Waiting) (raw : List ℕ) : Type 0 where
  pub open_line : All (λ byte. is_line_end byte ≡ false) raw
  pub consumed : Consumes (ahead old.pending left) (ahead new.pending left') raw
  pub counted : new.used ≡ old.used + length raw

pub reads_none : (left : Option (List ℕ)) (old : Waiting) → Reads left left old old []
reads_none left old = record { open_line = All-nil _; consumed = Consumes-nil _; counted = omega arith }

-- what waits was seen to
pub reads_ready : (left mid new : Option (List ℕ)) (a b c : Waiting) (raw : List ℕ) → Reads left mid a b raw
    → Keeps (ahead b.pending mid) (ahead c.pending new) → c.used ≡ b.used → Reads left new a c raw
reads_ready left mid new a b c raw so_far same used = record {
  open_line = so_far.open_line;
  consumed = Consumes-kept _ _ _ _ so_far.consumed same;
  counted = used ∙ so_far.counted;
}

used_front : (left : Option (List ℕ)) (old run new : List ℕ) → old ≡ run ++ new → Consumes (ahead old left) (ahead new left) run
used_front None old run new e = tt
used_front (Some xs) old run new e = ap (λ l. l ++ xs) e ∙ append_assoc run new xs

-- a run without a line end
pub reads_run : (left new : Option (List ℕ)) (a b c : Waiting) (raw run : List ℕ) → Reads left new a b raw → UsesRun b c false run
    → Reads left new a c (raw ++ run)
reads_run left new a b c raw run so_far uses = record {
  open_line = All-append (λ byte. is_line_end byte ≡ false) raw run so_far.open_line uses.open_line;
  consumed = Consumes-trans _ _ _ _ _ so_far.consumed (used_front new b.pending run c.pending (uses.used_bytes ∙ ap (λ l. l ++ c.pending) (append-nil run)));
  counted = omega (arith, length-append raw run, so_far.counted, uses.counted, ap length (append-nil run));
}

-- a run with the line end
pub cut_whole : (left new : Option (List ℕ)) (a b c : Waiting) (raw run : List ℕ) → Reads left new a b raw → UsesRun b c true run
    → Cuts left new a c Whole (raw ++ run)
cut_whole left new a b c raw run so_far uses =
    let joined : (raw ++ run) ++ 10 ∷ [] ≡ raw ++ (run ++ 10 ∷ []) = append_assoc raw run (10 ∷ []) in
    record {
      open_line = All-append (λ byte. is_line_end byte ≡ false) raw run so_far.open_line uses.open_line;
      consumed = rw joined (Consumes-trans _ _ _ _ _ so_far.consumed (used_front new b.pending (run ++ 10 ∷ []) c.pending uses.used_bytes));
      counted = rw joined (omega (arith, length-append raw (run ++ 10 ∷ []), so_far.counted, uses.counted));
      ends = tt;
    }

-- the line is cut with no further byte
pub cut_here : (left new : Option (List ℕ)) (a c : Waiting) (cut : Cut) (raw : List ℕ) → end_of cut ≡ [] → Reads left new a c raw
    → EndsAs new c cut → Cuts left new a c cut raw
cut_here left new a c cut raw none so_far ends =
    let whole : raw ++ end_of cut ≡ raw = ap (λ l. raw ++ l) none ∙ append-nil raw in
    record {
      open_line = so_far.open_line;
      consumed = rw whole so_far.consumed;
      counted = rw whole so_far.counted;
      ends = ends;
    }
