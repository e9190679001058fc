use Rattle.term_store.proofs.Rows.{there, read_row}
use Rattle.term_store.proofs.hash_terms.row_at.Goals as goal

pub unwrap-requires : goal.unwrap-requires
unwrap-requires c = there c.args.rows.now c.args.at c.get.result c.requires c.get.ensures

pub returns : goal.returns
returns c = read_row c.args.rows.now c.args.at c.get.result c.unwrap.result c.requires c.get.ensures c.unwrap.ensures
