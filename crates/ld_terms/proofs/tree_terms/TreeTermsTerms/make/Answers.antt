use Rattle.std.proofs.Common.{◌≡◌, length, ap, ◌∙◌, rules}
use Rattle.ld_terms.specs.Nodes.{IsPlace, tree_of_place, trees_of}
use Rattle.ld_terms.specs.Entries.{nodes_in}
use Rattle.ld_terms.proofs.NodeLaws.{keeps_push, tree_push}
use Rattle.ld_terms.proofs.EntryLaws.{entries_push, nodes_in-push, length-nodes_in}
use Rattle.ld_terms.proofs.tree_terms.TreeTermsTerms.make.Goals as goal

pub invariant_of-self-2 : goal.invariant_of-self-2
unfolding IsPlace tree_of_place
invariant_of-self-2 c =
    rw c.in_ok-push.ensures.items (entries_push c.self.inside.made.items (record { node = c.in_ok-node.node; size = c.size_of-size.result }) c.self.invariant
    (c.in_ok-node.ensures.below (length (nodes_in c.self.inside.made.items)) (rw c.self.view_is c.requires))
    (rw (c.in_ok-node.ensures.tree (trees_of (nodes_in c.self.inside.made.items)))
    (c.size_of-size.ensures (trees_of (nodes_in c.self.inside.made.items)) (rw c.deref.ensures.value c.self.invariant.sizes))))

pub returns-clause-tree : goal.returns-clause-tree
unfolding IsPlace tree_of_place
returns-clause-tree c =
    let at : c.len-at.result ≡ length c.args.self.now = let e = ap length c.self.view_is in let l = length-nodes_in c.self.inside.made.items in search rules in
    rw (c.in_ok-push.ensures.items, nodes_in-push, c.self.view_is) (tree_push c.args.self.now c.in_ok-node.node c.len-at.result at ∙ c.in_ok-node.ensures.tree (trees_of c.args.self.now))

pub returns-clause-kept : goal.returns-clause-kept
unfolding IsPlace tree_of_place
returns-clause-kept c = rw (c.in_ok-push.ensures.items, nodes_in-push, c.self.view_is) (keeps_push c.args.self.now c.in_ok-node.node)
