use Rattle.std.proofs.Common.{◌+◌, ◌*◌, length}
use Rattle.term_syntax.specs.Reading as spec
use Rattle.term_syntax.proofs.Turns.{Leads}
use Rattle.term_text.proofs.read.+term.Given as goal

abbrev pub decreases-term : goal.decreases-term
decreases-term l = 8 * l.depth

abbrev pub decreases-whole : goal.decreases-whole
decreases-whole l = 8 * l.depth + 7

abbrev pub decreases-abstraction : goal.decreases-abstraction
decreases-abstraction l = 8 * l.depth + 6

abbrev pub decreases-product : goal.decreases-product
decreases-product l = 8 * l.depth + 6

abbrev pub decreases-arrows : goal.decreases-arrows
decreases-arrows l = 8 * l.depth + 6

abbrev pub decreases-app : goal.decreases-app
decreases-app l = 8 * l.depth + 5

abbrev pub decreases-atoms : goal.decreases-atoms
decreases-atoms l = 8 * l.depth + 4

abbrev pub decreases-atom : goal.decreases-atom
decreases-atom l = 8 * l.depth + 3

abbrev pub decreases-constant : goal.decreases-constant
decreases-constant l = 8 * l.depth + 2

abbrev pub decreases-arguments : goal.decreases-arguments
decreases-arguments l = 8 * l.depth + 1

abbrev pub decreases-parenthesized : goal.decreases-parenthesized
decreases-parenthesized l = 8 * l.depth + 1

abbrev pub decreases-binder : goal.decreases-binder
decreases-binder l = 8 * l.depth + 1

abbrev pub invariant-atoms-more : goal.invariant-atoms-more
invariant-atoms-more l = Leads (spec.atoms (spec.term l.depth) l.fn.cursor) (spec.atoms_from (spec.term l.depth)) l.found.items l.cursor

abbrev pub decreases-atoms-more : goal.decreases-atoms-more
decreases-atoms-more l = length l.cursor.ahead

abbrev pub invariant-arguments-more : goal.invariant-arguments-more
invariant-arguments-more l = Leads (spec.arguments (spec.term l.depth) l.fn.cursor) (spec.arguments_from (spec.term l.depth)) l.found.items l.cursor

abbrev pub decreases-arguments-more : goal.decreases-arguments-more
decreases-arguments-more l = length l.cursor.ahead
