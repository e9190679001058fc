use Rattle.std.proofs.Common.{◌≡◌, ◌<◌, map, take, length, get_or, sym, ◌∙◌, arith, subst, IfOk, []}
use Rattle.ld_trees.specs.Term.{Star}
use Rattle.reply_text.specs.Context.{entry_json}
use Rattle.reply_text.proofs.ContextNames.{context_taken}
use Rattle.reply_text.proofs.Places.{default_free, type_at}
use Rattle.reply_text.proofs.context.entry_at.Goals as goal

pub entry_json-requires-clause-context : goal.entry_json-requires-clause-context
entry_json-requires-clause-context g c = context_taken c.args.place c.args.names.now c.requires.context

pub entry_json-requires-clause-held : goal.entry_json-requires-clause-held
entry_json-requires-clause-held g c = c.requires.held c.args.place c.index-ctx-place.result c.requires.within

pub returns : goal.returns
returns g c =
    let within : c.args.place < length c.args.names.now = omega (arith, c.requires.within, c.requires.counted) in
    let name : c.index-names-place.result ≡ get_or c.args.names.now c.args.place [] = c.index-names-place.is ∙ default_free c.args.names.now c.args.place c.index-names-place.result [] within in
    let ty = sym (type_at (g.T.Terms.means c.args.terms.now) c.args.place c.args.ctx.now c.index-ctx-place.result Star c.requires.within) in
    subst (λ n. IfOk c.entry_json.result (λ v. v.items ≡ entry_json (take c.args.place c.args.names.now) n (get_or (map (λ l. g.T.Terms.means c.args.terms.now l.ty) c.args.ctx.now) c.args.place Star))) name
    (subst (λ t. IfOk c.entry_json.result (λ v. v.items ≡ entry_json (take c.args.place c.args.names.now) c.index-names-place.result t)) ty c.entry_json.ensures)
