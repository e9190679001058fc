use Rattle.std.proofs.Common.{◌≡◌, drop}
use Rattle.serde_json.specs.View.{view}
use Rattle.repl_json.specs.Field.{each, whole_number, greatest_number}
use Rattle.repl_json.proofs.EachLemmas.{reads_on}
use Rattle.repl_json.proofs.lists.numbers_of.Given as goal

abbrev pub invariant-loop-value : goal.invariant-loop-value
invariant-loop-value l =
    reads_on (λ v. whole_number greatest_number (view v)) l.numbers.items (drop l.value-index l.values) ≡ each (λ v. whole_number greatest_number (view v)) l.values
