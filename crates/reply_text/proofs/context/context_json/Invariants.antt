use Rattle.std.proofs.Common.{◌≡◌, map}
use Rattle.reply_text.specs.Context.{first_entries, shown_names}
use Rattle.reply_text.proofs.context.context_json.Given as goal

abbrev pub invariant-loop-place : goal.invariant-loop-place
invariant-loop-place g l = map (λ e. e.items) l.entries.items ≡ first_entries (shown_names (map (λ e. e.name) l.ctx)) (map (λ e. g.T.Terms.means l.terms e.ty) l.ctx) l.place
