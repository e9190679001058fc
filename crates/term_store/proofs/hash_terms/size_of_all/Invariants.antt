use Rattle.std.proofs.Common.{take, map, List, All, ℕ, ◌<◌}
use Rattle.ld_trees.specs.Term.{Term}
use Rattle.ld_terms.specs.Nodes.{tree_at}
use Rattle.ld_terms.specs.Views.{terms_of}
use Rattle.ld_terms.specs.Sizes.{IsSizeOfAll}
use Rattle.term_store.specs.Hashed.{AreSizesBelow}
use Rattle.term_store.proofs.hash_terms.size_of_all.Given as goal

abbrev pub invariant-loop-arg : goal.invariant-loop-arg
invariant-loop-arg l = (ts : List Term) (k : ℕ) → All (λ p. p.0 < k) l.args → AreSizesBelow k ts l.rows → IsSizeOfAll (terms_of (map (tree_at ts) (take l.arg-index l.args))) l.size
