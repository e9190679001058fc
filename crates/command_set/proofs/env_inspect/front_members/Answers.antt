use Rattle.std.proofs.Common.{◌∙◌, ap, ap₂, codes, [], ◌∷◌, map}
use Rattle.reply_text.specs.Members.{string}
use Rattle.reply_text.specs.Context.{context_json}
use Rattle.command_set.proofs.Shown.{front_is}
use Rattle.command_set.proofs.env_inspect.front_members.Goals as goal

pub returns : goal.returns
returns g c =
    let means = g.T.Terms.means c.args.terms.now in
    let kind = c.in_ok-kind.ensures ∙ ap (string (codes "kind")) (c.as_bytes.ensures.value ∙ c.kind_of.ensures) in
    let params = c.in_ok-params.ensures ∙ ap (λ ls. context_json (map (λ l. l.name) ls) (map (λ l. means l.ty) ls)) c.as_slice.ensures in
    c.in_ok-vec.ensures.items
    ∙ ap₂ (λ k m. k ∷ m ∷ []) kind (c.new.ensures ∙ ap (λ v. record { key = codes "params"; value = v }) params)
    ∙ front_is means c.args.item.now
