use Rattle.std.proofs.Common.{◌≡◌, drop}
use Rattle.term_syntax.specs.Scoping.{index_named, or_else}
use Rattle.term_text.proofs.scope.last_named.Given as goal

abbrev pub invariant-loop-i : goal.invariant-loop-i
invariant-loop-i l = or_else (index_named l.name (drop l.i l.names)) l.found ≡ index_named l.name l.names
