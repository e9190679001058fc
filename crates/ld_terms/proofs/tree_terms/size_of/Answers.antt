use Rattle.std.proofs.Common.{map}
use Rattle.ld_trees.specs.Term.{Named, Numbered}
use Rattle.ld_terms.specs.Nodes.{tree_at}
use Rattle.ld_terms.specs.Views.{terms_of}
use Rattle.ld_terms.proofs.tree_terms.size_of.Goals as goal

pub returns-in-Const : goal.returns-in-Const
returns-in-Const c = λ ts z.
    rw c.in-Const.is (c.over_all.ensures (Named c.in-Const.field-0.now) (terms_of (map (tree_at ts) c.in-Const.args.now)) (c.size_of_all.ensures ts z))

pub returns-in-Meta : goal.returns-in-Meta
returns-in-Meta c = λ ts z.
    rw c.in-Meta.is (c.over_all-in-Meta.ensures (Numbered c.in-Meta.field-0) (terms_of (map (tree_at ts) c.in-Meta.args.now)) (c.size_of_all-in-Meta.ensures ts z))
