-- Contexts in replies: the list of their entries, each with a name and a type.
use Rattle.std.specs.Prelude.{ℕ, zero, suc, ◌+◌, List, [], ◌∷◌, ◌++◌, take, length, slice_index_or, flat_map, codes}
use Rattle.ld_trees.specs.Term.{Term, Star}
use Rattle.term_syntax.specs.Printing.{Names, entry_text}
use Rattle.reply_text.specs.Members.{string, object_text}
use Rattle.reply_text.specs.Shown.{term_json}

-- texts with a comma between them
abbrev pub between_commas : List (List ℕ) → List ℕ
between_commas [] = []
between_commas (x ∷ xs) = x ++ flat_map (λ y. 44 ∷ y) xs

-- a JSON list of texts of values
abbrev pub array_text : List (List ℕ) → List ℕ
array_text xs = 91 ∷ (between_commas xs ++ 93 ∷ [])

-- what the variables of a context print as in the whole of it, from the entry of a level on
abbrev pub shown_from : ℕ → Names → Names
shown_from level [] = []
shown_from level (name ∷ later) = entry_text level name later ∷ shown_from (level + 1) later

unfoldable pub shown_names : Names → Names
shown_names names = shown_from 0 names

-- an entry below others, of which these are the names that they print as
abbrev pub entry_json : Names → List ℕ → Term → List ℕ
entry_json before name ty = object_text (record { before = string (codes "name") name ∷ record { key = codes "type"; value = term_json before ty } ∷ []; after = [] })

-- the first entries of a context with these shown names and types
abbrev pub first_entries : Names → List Term → ℕ → List (List ℕ)
first_entries names types zero = []
first_entries names types (suc k) = first_entries names types k ++ entry_json (take k names) (slice_index_or names k []) (slice_index_or types k Star) ∷ []

-- the entries of a context, each with the name that its variable prints as in the whole context, and its type in the entries before it
unfoldable pub context_json : Names → List Term → List ℕ
context_json names types = array_text (first_entries (shown_names names) types (length types))
