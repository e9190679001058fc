use Rattle.std.proofs.Common.{◌≡◌, ◌+◌, ◌++◌, length, map}
use Rattle.term_syntax.specs.ReadsBack.{NamedFrom}
use Rattle.reply_text.specs.Context.{shown_from}
use Rattle.reply_text.proofs.context.shown_names.Given as goal

abbrev pub invariant-entries : goal.invariant-entries
invariant-entries g l = record {
  counted : l.level + length l.rest ≡ length l.ctx;
  named : NamedFrom l.level (map (λ e. e.name) l.rest);
  shown : l.names.items ++ shown_from l.level (map (λ e. e.name) l.rest) ≡ shown_from 0 (map (λ e. e.name) l.ctx);
}

abbrev pub decreases-entries : goal.decreases-entries
decreases-entries g l = length l.rest
