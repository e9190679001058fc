-- The entries that one pass made, among those of other passes.
use Rattle.std.specs.Prelude.{ℕ, ◌+◌, nat_eq, Bool, List, [], ◌∷◌, filter, if◌then◌else◌}
use Rattle.std.specs.List.{flat_map}
use Rattle.repl_json.specs.Reply.{text}
use Rattle.repl_json.specs.declared.reply.Line.{Line}
use Rattle.repl_json.specs.declared.request.Ask.{Ask}
use Rattle.state_tree.specs.declared.work.Found.{Found}
use Rattle.state_tree.specs.declared.work.Entry.{Entry}
use Rattle.state_tree.specs.Value.{Value}
use Rattle.state_tree.specs.Server.{PlainTree, reply, step}

abbrev pub is_own : ℕ → Entry → Bool
is_own pass entry = nat_eq entry.pass pass

-- the entries of this pass, in order
abbrev pub own : ℕ → List Entry → List Entry
own pass entries = filter (is_own pass) entries

-- each with its number in the journal, where the first entry of all has this one
abbrev pub numbered : ℕ → ℕ → List Entry → List (ℕ × Entry)
numbered pass seq [] = []
numbered pass seq (entry ∷ entries) = if is_own pass entry then (seq, entry) ∷ numbered pass (seq + 1) entries else numbered pass (seq + 1) entries

module _ {E S : Type 0} (V : Ask → Found E S → Value E S) (pass : ℕ) where
  -- the replies to the entries of this pass: each is that of the one-thread server behind all entries before it, those of other passes too
  abbrev pub own_replies : PlainTree E S → List Entry → List Line
  own_replies t [] = []
  own_replies t (entry ∷ entries) = if is_own pass entry then reply V t entry ∷ own_replies (step V t entry) entries else own_replies (step V t entry) entries

  -- and their lines
  abbrev pub own_output : PlainTree E S → List Entry → List ℕ
  own_output t entries = flat_map text (own_replies t entries)
