-- Where an output says that memory ran out.
use Rattle.std.specs.Prelude.{◌≡◌, ◌≢◌, ◌+◌, ◌↔◌, ℕ, List, [], ◌∷◌, length, Option}
use Rattle.std.specs.Io.KnownBytes.{Appends}
use Rattle.pan_io.specs.Text.{parts}
use Rattle.repl_json.specs.OneLine.{memory_line}
use Rattle.state_tree.specs.declared.work.Entry.{Entry}
use Rattle.state_tree.specs.declared.work.Gave.TheVariants.{Memory}
use Rattle.session_server.specs.Own.{own, numbered}
use Rattle.session_server.specs.declared.run.End.{End}
use Rattle.session_server.specs.declared.run.End.TheVariants.{WriteFault}

-- Each line has its entry, in their order, the first entry having this number. An entry says Memory exactly where its line is the
-- memory line of its number. What stands between line ends is given; behind the last one stands no line.
abbrev pub MarksMemory : ℕ → List (List ℕ) → List Entry → Type 0
MarksMemory seq [] entries = Unit {0}
MarksMemory seq (rest ∷ []) entries = Unit {0}
MarksMemory seq (line ∷ next ∷ more) [] = ⊥
MarksMemory seq (line ∷ next ∷ more) (entry ∷ entries) = ((entry.gave ≡ Memory) ↔ (line ≡ memory_line seq)) × MarksMemory (seq + 1) (next ∷ more) entries

-- What was written says by its lines which of these entries say Memory, so that the requests and the output fix the entries. Only at
-- a write fault the last entries may be without lines.
pub record ShowsMemory (seq : ℕ) (entries : List Entry) (out out' : Option (List ℕ)) (end : End) : Type 0 where
  pub written : List ℕ
  pub taken : Appends out out' written
  pub marks : MarksMemory seq (parts written) entries
  pub all : end ≢ WriteFault → length (parts written) ≡ length entries + 1

-- ---- of a session beside which other passes enter

-- each line has its entry, and the entry is given with its number
abbrev pub MarksOwn : List (List ℕ) → List (ℕ × Entry) → Type 0
MarksOwn [] entries = Unit {0}
MarksOwn (rest ∷ []) entries = Unit {0}
MarksOwn (line ∷ next ∷ more) [] = ⊥
MarksOwn (line ∷ next ∷ more) (entry ∷ entries) = ((entry.1.gave ≡ Memory) ↔ (line ≡ memory_line entry.0)) × MarksOwn (next ∷ more) entries

-- What was written says by its lines which of the pass's own entries say Memory, where the first of these entries has this number. Only at a
-- write fault the last ones may be without lines.
pub record ShowsOwnMemory (pass seq : ℕ) (entries : List Entry) (out out' : Option (List ℕ)) (end : End) : Type 0 where
  pub written : List ℕ
  pub taken : Appends out out' written
  pub marks : MarksOwn (parts written) (numbered pass seq entries)
  pub all : end ≢ WriteFault → length (parts written) ≡ length (own pass entries) + 1
