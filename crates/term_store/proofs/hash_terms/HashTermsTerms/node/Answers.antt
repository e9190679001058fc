use Rattle.std.proofs.Common.{length, ap, ◌∙◌}
use Rattle.ld_terms.specs.Nodes.{IsPlace, tree_of_place, trees_of, tree_over}
use Rattle.term_store.proofs.Exact.{node_cmp}
use Rattle.term_store.proofs.Hash.{row_read}
use Rattle.term_store.proofs.hash_terms.HashTermsTerms.node.Goals as goal

pub returns-clause-tree : goal.returns-clause-tree
unfolding IsPlace tree_of_place
returns-clause-tree c =
    c.view.ensures.tree (trees_of c.args.self.now) ∙ ap (tree_over (trees_of c.args.self.now)) c.key.ensures
    ∙ (row_read node_cmp c.self.inside.ids c.self.inside.rows c.args.self.now c.args.h c.row_at.result.now c.self.invariant c.self.view_is c.requires c.row_at.ensures).0

pub returns-clause-held : goal.returns-clause-held
unfolding IsPlace tree_of_place
returns-clause-held c =
    c.view.ensures.below (length c.args.self.now)
    (rw c.key.ensures (row_read node_cmp c.self.inside.ids c.self.inside.rows c.args.self.now c.args.h c.row_at.result.now c.self.invariant c.self.view_is c.requires c.row_at.ensures).1)
