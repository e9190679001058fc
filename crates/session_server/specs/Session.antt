-- What a session leaves, by its end.
use Rattle.std.specs.Prelude.{◌≡◌, ◌<◌, ◌≤◌, ◌^◌, ℕ, List, ◌∷◌, ◌++◌, length, take, Option, Some, IfSome}
use Rattle.std.specs.Io.KnownBytes.{Appends, Consumes}
use Rattle.pan_io.specs.Put.{AppendsPrefix}
use Rattle.pan_io.specs.Text.{lines_of, whole_lines_of}
use Rattle.repl_json.specs.declared.request.Ask.{Ask}
use Rattle.repl_json.specs.declared.request.Request.{Request}
use Rattle.state_tree.specs.declared.work.Found.{Found}
use Rattle.state_tree.specs.declared.work.Entry.{Entry}
use Rattle.state_tree.specs.Value.{Value}
use Rattle.state_tree.specs.TreeModel.{TreeModel}
use Rattle.state_tree.specs.Enters.{tree_of}
use Rattle.session_server.specs.Input.{requests_of_lines, requests_of_input}
use Rattle.session_server.specs.Entered.{requests_in, Adds, output_of}
use Rattle.session_server.specs.declared.run.End.{End}
use Rattle.session_server.specs.declared.run.End.TheVariants.{Done, ReadFault, WriteFault, Full, Worn, Long, Memory}

-- which requests of an input of these bytes were entered
abbrev pub EntersOf : List ℕ → Option (List ℕ) → List Request → End → Type 0
-- all of them, and the input was read to its end
EntersOf input left requests Done = (requests ≡ requests_of_input input) × Consumes (Some input) left input × (length input ≤ 2 ^ 40)
-- those of the lines that were whole in the bytes taken
EntersOf input left requests ReadFault = (taken : List ℕ) × Consumes (Some input) left taken × (requests ≡ requests_of_lines (whole_lines_of taken))
EntersOf input left requests (Long n) = (2 ^ 40 < length input) × (requests ≡ requests_of_lines (whole_lines_of (take (2 ^ 40) input)))
-- those before the first that had no room
EntersOf input left requests (Full n) = (next : Request) × (rest : List Request) × (requests_of_input input ≡ requests ++ next ∷ rest)
-- the first ones
EntersOf input left requests WriteFault = (rest : List Request) × (requests_of_input input ≡ requests ++ rest)
EntersOf input left requests (Worn n) = (rest : List Request) × (requests_of_input input ≡ requests ++ rest)
-- those of the first lines
EntersOf input left requests Memory = (first : List (List ℕ)) × (rest : List (List ℕ)) × (lines_of input ≡ first ++ rest) × (requests ≡ requests_of_lines first)

-- what was written: the replies, or at a write fault a prefix of them
abbrev pub Writes : Option (List ℕ) → Option (List ℕ) → List ℕ → End → Type 0
Writes out out' replies WriteFault = AppendsPrefix out out' replies
Writes out out' replies end = Appends out out' replies

-- the number that the end tells; a session that has the tree alone is never worn
abbrev pub Tells : {E : Type 0} → TreeModel E → End → Type 0
Tells new (Full n) = (length new.journal ≡ new.entries) × (n ≡ new.entries)
Tells new (Long n) = n ≡ 2 ^ 40
Tells new (Worn n) = ⊥
Tells new end = Unit {0}

-- a session over an input, which tells its bytes or doesn't
pub record Session {E S : Type 0} (V : Ask → Found E S → Value E S) (input left : Option (List ℕ)) (old new : TreeModel E) (out out' : Option (List ℕ)) (end : End) : Type 0 where
  pub entries : List Entry
  pub adds : Adds old new entries
  pub entered : IfSome input (λ bytes. EntersOf bytes left (requests_in entries) end)
  pub written : Writes out out' (output_of V (tree_of V old) entries) end
  pub tells : Tells new end
