use Rattle.std.proofs.Common.{◌≡◌, cond, map, sym, ap, ◌∙◌, subst, IfOk}
use Rattle.std.specs.List.{list_any}
use Rattle.std.specs.Str.{bytes_eq}
use Rattle.ld_terms.specs.Names.{level_name}
use Rattle.reply_text.proofs.ContextNames.{by_name}
use Rattle.reply_text.proofs.Lists.{named_among}
use Rattle.reply_text.proofs.context.shown_name.Goals as goal

pub returns-then-has_name : goal.returns-then-has_name
returns-then-has_name g c =
    let e = by_name c.args.level c.args.name.now (list_any (bytes_eq c.args.name.now) (map (λ l. l.name) c.args.later.now)) c.requires
    ∙ ap (λ b. cond b (level_name c.args.level) c.args.name.now) (sym (named_among c.args.name.now c.args.later.now) ∙ sym c.has_name.ensures ∙ c.if-has_name.true) in
    subst (λ t. IfOk c.level_name.result (λ n. n ≡ t)) (sym e) c.level_name.ensures

pub returns-else-has_name : goal.returns-else-has_name
returns-else-has_name g c =
    let e = by_name c.args.level c.args.name.now (list_any (bytes_eq c.args.name.now) (map (λ l. l.name) c.args.later.now)) c.requires
    ∙ ap (λ b. cond b (level_name c.args.level) c.args.name.now) (sym (named_among c.args.name.now c.args.later.now) ∙ sym c.has_name.ensures ∙ c.if-has_name.false) in
    subst (λ t. IfOk c.copy.result (λ n. n ≡ t)) (sym e) c.copy.ensures
