-- Numbers of nodes and depths, as far as a u64 goes.
use Rattle.std.specs.Prelude.{◌≡◌, ℕ, ◌^◌, ◌-◌, min}
use Rattle.ld_trees.specs.Term.{Term, Terms, nodes, nodes_all, depth, depth_all}
use Rattle.ld_terms.specs.declared.size.Size.{Size}

-- a number, or the greatest of a u64 where it is above that
abbrev pub capped : ℕ → ℕ
capped n = min n (2 ^ 64 - 1)

pub record IsSize (t : Term) (z : Size) : Type 0 where
  pub nodes_are : z.nodes ≡ capped (nodes t)
  pub depth_is : z.depth ≡ capped (depth t)

-- of arguments together
pub record IsSizeOfAll (us : Terms) (z : Size) : Type 0 where
  pub nodes_are : z.nodes ≡ capped (nodes_all us)
  pub depth_is : z.depth ≡ capped (depth_all us)
