-- What printing a term answers: its text, or its size where it is too large to print.
use Rattle.std.specs.Str.{IsAscii}
use Rattle.std.specs.Prelude.{◌≡◌, ℕ, ◌-◌, ◌^◌, min, nat_lt, Bool, ◌||◌, if◌then◌else◌, length, [], Ok}
use Rattle.ld_trees.specs.Term.{Term, nodes, depth}
use Rattle.term_syntax.specs.declared.surface.Surface.{Surface}
use Rattle.term_syntax.specs.Grammar.{IsText}
use Rattle.term_syntax.specs.Printing.{Names, text}
use Rattle.term_syntax.specs.Scoping.{Arities, scope}
use Rattle.term_syntax.specs.ReadsBack.{IsReadable}
use Rattle.term_text.specs.declared.print.Printed.{Printed}
use Rattle.term_text.specs.declared.print.Printed.TheVariants as printed

-- more than 65,536 nodes, or a depth above 512
abbrev pub is_large : Term → Bool
is_large t = nat_lt 65536 (nodes t) || nat_lt 512 (depth t)

abbrev pub shown : ℕ → ℕ
shown n = min n (2 ^ 64 - 1)

-- the answer for a term in a context of named entries
abbrev pub printed_as : Names → Term → Printed
printed_as names t = if is_large t then printed.Large (shown (depth t)) (shown (nodes t)) else printed.Text (text names (length names) t)

-- a printed text is read and scoped as the term, wherever its constants are known with as many parameters as they have arguments
abbrev pub PrintedReadsBack : Names → Term → Printed → Type 0
PrintedReadsBack names t (printed.Text bytes) = (arity : Arities) → IsReadable arity t → (s : Surface) × IsText bytes s × (scope arity names s [] ≡ Ok t)
PrintedReadsBack names t (printed.Large depth nodes) = Unit {0}

-- a printed text is ASCII
abbrev pub PrintedIsAscii : Printed → Type 0
PrintedIsAscii (printed.Text bytes) = IsAscii bytes
PrintedIsAscii (printed.Large depth nodes) = Unit {0}
