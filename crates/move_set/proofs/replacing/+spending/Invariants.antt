use Rattle.std.proofs.Common.{◌≡◌, ◌≤◌, ◌+◌, ◌*◌, map, take, true}
use Rattle.ld_trees.specs.Term.{nodes, nodes_all}
use Rattle.ld_terms.specs.Views.{terms_of}
use Rattle.pattern_unify.specs.Walks.{IsSpent}
use Rattle.move_set.specs.Replacing.{occurrences, occurrences_in}
use Rattle.move_set.proofs.replacing.+spending.Given as goal

abbrev pub decreases-spend_occurrences : goal.decreases-spend_occurrences
decreases-spend_occurrences g l = 3 * nodes (g.T.Terms.means l.terms.now l.h)

abbrev pub decreases-spend_in_two : goal.decreases-spend_in_two
decreases-spend_in_two g l = 3 * (nodes (g.T.Terms.means l.terms.now l.a) + nodes (g.T.Terms.means l.terms.now l.b)) + 1

abbrev pub decreases-spend_in_all : goal.decreases-spend_in_all
decreases-spend_in_all g l = 3 * nodes_all (terms_of (map (g.T.Terms.means l.terms.now) l.us.now)) + 1

-- what was spent, and what the head that is left takes
abbrev pub invariant-spend_in_two-loop-f : goal.invariant-spend_in_two-loop-f
invariant-spend_in_two-loop-f g l =
    let means = g.T.Terms.means l.terms in
    g.T.Terms.holds l.terms l.head
    × (nodes (means l.head) ≤ nodes (means l.fn.a))
    × (l.fn.fuel + occurrences l.name (means l.head) ≡ occurrences l.name (means l.fn.a) + occurrences l.name (means l.fn.b) + l.fuel)

abbrev pub decreases-spend_in_two-loop-f : goal.decreases-spend_in_two-loop-f
decreases-spend_in_two-loop-f g l = nodes (g.T.Terms.means l.terms l.head)

abbrev pub invariant-spend_in_all-loop-u : goal.invariant-spend_in_all-loop-u
invariant-spend_in_all-loop-u g l = IsSpent (occurrences_in l.name (terms_of (map (g.T.Terms.means l.terms) (take l.u-index l.us)))) l.fn.fuel l.fuel true
