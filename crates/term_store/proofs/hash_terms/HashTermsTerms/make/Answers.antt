use Rattle.std.proofs.Common.{◌≡◌, ap, sym, ◌∙◌, length}
use Rattle.ld_terms.specs.Nodes.{IsPlace, tree_of_place, trees_of}
use Rattle.ld_terms.proofs.NodeLaws.{keeps_push, tree_push}
use Rattle.term_store.specs.Hashed.{nodes_of}
use Rattle.term_store.proofs.Hash.{found, length-nodes, sizes_below}
use Rattle.term_store.proofs.Exact.{node_cmp}
use Rattle.term_store.proofs.hash_terms.HashTermsTerms.make.Goals as goal

pub returns-in-Some-clause-tree : goal.returns-in-Some-clause-tree
unfolding IsPlace tree_of_place
returns-in-Some-clause-tree c =
    rw c.self.view_is at (sym (found node_cmp c.self.inside.ids (nodes_of c.self.inside.ids c.self.inside.rows) c.in_ok-key.key c.in-Some.place.now c.self.invariant.places c.self.invariant.entries.ordered c.in-Some.ensures).1)
    ∙ c.in_ok-key.ensures.tree (trees_of c.args.self.now)

pub returns-in-Some-clause-held : goal.returns-in-Some-clause-held
unfolding IsPlace tree_of_place
returns-in-Some-clause-held c =
    rw c.self.view_is at (found node_cmp c.self.inside.ids (nodes_of c.self.inside.ids c.self.inside.rows) c.in_ok-key.key c.in-Some.place.now c.self.invariant.places c.self.invariant.entries.ordered c.in-Some.ensures).0

pub add-requires-clause-below : goal.add-requires-clause-below
unfolding IsPlace tree_of_place
add-requires-clause-below c = c.in_ok-key.ensures.below (length (nodes_of c.self.inside.ids c.self.inside.rows)) (rw c.self.view_is c.requires)

pub add-requires-clause-sized : goal.add-requires-clause-sized
unfolding IsPlace tree_of_place
add-requires-clause-sized c =
    let l : length (nodes_of c.self.inside.ids c.self.inside.rows) ≡ length c.self.inside.ids = length-nodes node_cmp c.self.inside.ids c.self.inside.rows c.self.invariant in
    rw (c.in_ok-key.ensures.tree (trees_of (nodes_of c.self.inside.ids c.self.inside.rows)))
    (c.size_of-size.ensures (trees_of (nodes_of c.self.inside.ids c.self.inside.rows)) (length c.self.inside.ids) (rw (← l, c.self.view_is) c.requires)
    (sizes_below node_cmp c.self.inside.ids c.self.inside.rows c.self.invariant))

pub returns-clause-tree : goal.returns-clause-tree
unfolding IsPlace tree_of_place
returns-clause-tree c =
    let at : c.len.result ≡ length c.args.self.now = c.len.ensures.counted ∙ sym (length-nodes node_cmp c.self.inside.ids c.self.inside.rows c.self.invariant) ∙ ap length c.self.view_is in
    rw (c.in_ok-add.ensures.added, c.self.view_is)
    (tree_push c.args.self.now c.in_ok-key.key c.len.result at ∙ c.in_ok-key.ensures.tree (trees_of c.args.self.now))

pub returns-clause-kept : goal.returns-clause-kept
unfolding IsPlace tree_of_place
returns-clause-kept c = rw (c.in_ok-add.ensures.added, c.self.view_is) (keeps_push c.args.self.now c.in_ok-key.key)
