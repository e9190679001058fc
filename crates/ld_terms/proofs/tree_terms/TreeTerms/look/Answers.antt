use Rattle.std.proofs.Common.{length, ◌∙◌}
use Rattle.ld_terms.specs.Nodes.{IsPlace, tree_of_place, trees_of}
use Rattle.ld_terms.proofs.EntryLaws.{entry_at}
use Rattle.ld_terms.proofs.tree_terms.TreeTerms.look.Goals as goal

pub returns-clause-tree : goal.returns-clause-tree
unfolding IsPlace tree_of_place
returns-clause-tree c =
    c.view.ensures.tree (trees_of c.args.self.now)
    ∙ (entry_at c.self.inside.made.items c.args.self.now c.args.h c.index.result.now c.self.view_is c.self.invariant c.requires c.index.ensures).0

pub returns-clause-held : goal.returns-clause-held
unfolding IsPlace tree_of_place
returns-clause-held c =
    c.view.ensures.below (length c.args.self.now)
    (entry_at c.self.inside.made.items c.args.self.now c.args.h c.index.result.now c.self.view_is c.self.invariant c.requires c.index.ensures).1
