-- Terms in replies.
use Rattle.std.specs.Prelude.{ℕ, zero, suc, List, [], ◌∷◌, ◌++◌}
use Rattle.json.specs.Print.{quoted}
use Rattle.ld_trees.specs.Term.{Term}
use Rattle.ld_terms.specs.Names.{level_name}
use Rattle.term_syntax.specs.Printing.{Names}
use Rattle.term_text.specs.Printed.{printed_as}
use Rattle.term_text.specs.declared.print.Printed.{Printed}
use Rattle.term_text.specs.declared.print.Printed.TheVariants as printed
use Rattle.reply_text.specs.Members.{Members, number, object_text}
use Rattle.std.specs.Prelude.{codes}

-- the size of a term that is too large to print
abbrev pub size : ℕ → ℕ → Members
size depth nodes = record { before = number (codes "depth") depth ∷ number (codes "nodes") nodes ∷ []; after = [] }

abbrev pub size_json : ℕ → ℕ → List ℕ
size_json depth nodes = object_text (size depth nodes)

abbrev pub printed_json : Printed → List ℕ
printed_json (printed.Text text) = quoted text
printed_json (printed.Large depth nodes) = size_json depth nodes

-- the JSON text of a term in a context of named entries: its printed text, or its size where it is too large
unfoldable pub term_json : Names → Term → List ℕ
term_json names t = printed_json (printed_as names t)

-- the level names of so many entries
abbrev pub level_names : ℕ → Names
level_names zero = []
level_names (suc n) = level_names n ++ level_name n ∷ []
