-- Marks of the states of a history, as the text that a state comes from: each state that an entry makes gets the one that its request
-- gives it, which may depend on that of the state which the request names first.
use Rattle.std.specs.Prelude.{ℕ, List, [], ◌∷◌, map, Option, Some, None, slice_get, option_and_then}
use Rattle.repl_json.specs.Names.{one_named}
use Rattle.repl_json.specs.declared.request.Ask.{Ask}
use Rattle.state_tree.specs.declared.slot.Slot.{Slot}
use Rattle.state_tree.specs.declared.work.Found.{Found}
use Rattle.state_tree.specs.declared.work.Entry.{Entry}
use Rattle.state_tree.specs.Value.{Value, Says, MakesEnv, MakesState}
use Rattle.state_tree.specs.Server.{PlainTree, answer, step, opening}

-- the states ever made, live or not
abbrev pub states_in : {S : Type 0} → List (Slot S) → List S
states_in slots = map (λ slot. slot.state) slots

-- the marks, and this one for each state beyond them
abbrev pub marked : {S M : Type 0} → List S → List M → M → List M
marked [] ms m = []
marked (s ∷ ss) [] m = m ∷ marked ss [] m
marked (s ∷ ss) (n ∷ ms) m = n ∷ marked ss ms m

-- the mark of the state that is named
abbrev pub mark_named : {M : Type 0} → List M → Option ℕ → Option M
mark_named ms named = option_and_then (slice_get ms) named

module _ {E S M : Type 0} (V : Ask → Found E S → Value E S) (mark : Ask → Option M → M) where
  -- the marks behind an entry
  abbrev pub marks_after : PlainTree E S → List M → Entry → List M
  marks_after t ms entry = marked (states_in (answer V t entry).states) ms (mark entry.request.ask (mark_named ms (one_named entry.request.ask)))

  abbrev pub marks_in : PlainTree E S → List M → List Entry → List M
  marks_in t ms [] = ms
  marks_in t ms (entry ∷ entries) = marks_in (step V t entry) (marks_after t ms entry) entries

  -- the marks of the states of a history over a book, in the order of their ids
  unfoldable pub marks_of : E → List Entry → List M
  marks_of book history = marks_in (opening V book) [] history

-- ---- what environments, and states with their marks, inherit

module _ {E S M : Type 0} (P : E → Type 0) (Q : M → S → Type 0) where
  abbrev pub EachHas : List E → Type 0
  EachHas [] = Unit {0}
  EachHas (e ∷ es) = P e × EachHas es

  -- each state has a mark, with which the property holds
  abbrev pub EachIs : List S → List M → Type 0
  EachIs [] [] = Unit {0}
  EachIs [] (m ∷ ms) = ⊥
  EachIs (s ∷ ss) [] = ⊥
  EachIs (s ∷ ss) (m ∷ ms) = Q m s × EachIs ss ms

  abbrev pub HasIt : Option E → Type 0
  HasIt None = Unit {0}
  HasIt (Some e) = P e

  abbrev pub IsIt : Option S → Option M → Type 0
  IsIt None m = Unit {0}
  IsIt (Some s) None = ⊥
  IsIt (Some s) (Some m) = Q m s

  -- what a value makes has the property
  abbrev pub Makes : M → Value E S → Type 0
  Makes m (Says body) = Unit {0}
  Makes m (MakesEnv env body) = P env
  Makes m (MakesState state body) = Q m state

  -- what the value of a command makes has it, where what the command was done on has it: an environment, and a state with the mark that
  -- the new one's depends on, and a second state with a mark of its own
  abbrev pub IsInherited : (Ask → Found E S → Value E S) → (Ask → Option M → M) → Type 0
  IsInherited V mark = (ask : Ask) (found : Found E S) (m n : Option M) → HasIt found.env → IsIt found.one m → IsIt found.two n → Makes (mark ask m) (V ask found)
