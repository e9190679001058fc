use Rattle.std.proofs.Common.{◌≡◌, drop, option_map}
use Rattle.serde_json.specs.View.{view}
use Rattle.repl_json.specs.Field.{each}
use Rattle.repl_json.specs.Fields.{try_of}
use Rattle.repl_json.specs.Table.{with_after}
use Rattle.repl_json.proofs.EachLemmas.{reads_on}
use Rattle.repl_json.proofs.lists.tries_of.Given as goal

abbrev pub invariant-loop-value : goal.invariant-loop-value
invariant-loop-value l =
    reads_on (λ v. option_map (with_after l.after) (try_of l.state (view v))) l.requests.items (drop l.value-index l.values) ≡ each (λ v. option_map (with_after l.after) (try_of l.state (view v))) l.values
