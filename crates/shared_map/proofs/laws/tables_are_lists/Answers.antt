use Rattle.std.proofs.Common.{length, arith}
use Rattle.shared_map.proofs.Tables.{length-numbered, find-numbered, put_next, put_row}
use Rattle.shared_map.proofs.laws.tables_are_lists.Goals as goal

pub returns : goal.returns
returns g c = record {
  counted = length-numbered 0;
  read = λ xs i. find-numbered 0 i i xs (omega arith);
  added = λ xs x. put_next 0 (length xs) x xs (omega arith);
  changed = λ xs i x l. put_row 0 i i x xs (omega arith) l;
}
