use Rattle.std.proofs.Common.{map}
use Rattle.ld_trees.specs.Term.{Named, Numbered}
use Rattle.ld_terms.specs.Nodes.{tree_at}
use Rattle.ld_terms.specs.Views.{terms_of}
use Rattle.term_store.proofs.hash_terms.size_of.Goals as goal

pub returns-in-Const : goal.returns-in-Const
returns-in-Const c = λ ts k b z.
    rw c.in-Const.is (c.over_all.ensures (Named c.in-Const.field-0.now) (terms_of (map (tree_at ts) c.in-Const.args.now)) (c.size_of_all.ensures ts k (rw c.in-Const.is at b) z))

pub returns-in-Meta : goal.returns-in-Meta
returns-in-Meta c = λ ts k b z.
    rw c.in-Meta.is (c.over_all-in-Meta.ensures (Numbered c.in-Meta.field-0) (terms_of (map (tree_at ts) c.in-Meta.args.now)) (c.size_of_all-in-Meta.ensures ts k (rw c.in-Meta.is at b) z))
