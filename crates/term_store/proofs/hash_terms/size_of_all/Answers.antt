use Rattle.std.proofs.Common.{◌<◌, length, arith, get_or, take, map}
use Rattle.ld_terms.specs.Nodes.{tree_at}
use Rattle.ld_terms.specs.Views.{terms_of}
use Rattle.ld_terms.specs.declared.node.Place.{Place}
use Rattle.ld_terms.proofs.Arguments.{terms_of_more}
use Rattle.term_store.proofs.Rows.{size_at}
use Rattle.term_store.proofs.hash_terms.size_of_all.Goals as goal

pub loop-arg-preserved : goal.loop-arg-preserved
loop-arg-preserved c = λ ts k b z.
    let p : Place = record { 0 = 0 } in
    let i = c.loop-arg.arg-index in
    let lt : i < length c.args.args.now = omega arith in
    let place = get_or c.args.args.now i p in
    rw (terms_of_more (tree_at ts) c.args.args.now i p lt)
    (c.with-size.ensures (terms_of (map (tree_at ts) (take i c.args.args.now))) (tree_at ts place) (c.loop-arg.invariant ts k b z)
    (size_at k ts c.args.rows.now place c.row_at.result.now c.size.result z (b i p lt) c.row_at.ensures c.size.ensures))
