use Rattle.std.proofs.Common.{map, length, sym, ap, ◌∙◌, subst}
use Rattle.term_syntax.specs.ReadsBack.{IsContext}
use Rattle.reply_text.specs.Context.{shown_from}
use Rattle.reply_text.proofs.ContextNames.{all_shown, shown_context, shown_length}
use Rattle.reply_text.proofs.context.shown_names.Goals as goal

pub returns-clause-context : goal.returns-clause-context
returns-clause-context g c =
    let e = all_shown c.entries.names.items c.entries.level c.entries.rest.now (shown_from 0 (map (λ l. l.name) c.args.ctx.now)) c.in_default.len_below c.entries.invariant.shown in
    subst IsContext (sym e) (shown_context (map (λ l. l.name) c.args.ctx.now) c.requires)

pub returns-clause-counted : goal.returns-clause-counted
returns-clause-counted g c =
    let e = all_shown c.entries.names.items c.entries.level c.entries.rest.now (shown_from 0 (map (λ l. l.name) c.args.ctx.now)) c.in_default.len_below c.entries.invariant.shown in
    ap (λ ns. length ns) e ∙ shown_length c.args.ctx.now
