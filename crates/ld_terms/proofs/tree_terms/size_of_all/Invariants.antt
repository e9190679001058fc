use Rattle.std.proofs.Common.{take, map, List}
use Rattle.ld_trees.specs.Term.{Term}
use Rattle.ld_terms.specs.Nodes.{tree_at}
use Rattle.ld_terms.specs.Views.{terms_of}
use Rattle.ld_terms.specs.Sizes.{IsSizeOfAll}
use Rattle.ld_terms.specs.Entries.{AreSizes}
use Rattle.ld_terms.proofs.tree_terms.size_of_all.Given as goal

abbrev pub invariant-loop-arg : goal.invariant-loop-arg
invariant-loop-arg l = (ts : List Term) → AreSizes ts l.made → IsSizeOfAll (terms_of (map (tree_at ts) (take l.arg-index l.args))) l.size
