use Rattle.std.proofs.Common.{◌≡◌, ◌∙◌, sym, ap, subst, IfOk}
use Rattle.reply_text.specs.Members.{body_text}
use Rattle.ld_terms.specs.Items.{item_named}
use Rattle.conversion.proofs.Lookups.{item_found_held}
use Rattle.command_set.proofs.Shown.{found_entered, shown_item, shown_none}
use Rattle.command_set.proofs.env_inspect.inspect.Goals as goal

pub item_members-requires : goal.item_members-requires
item_members-requires g c =
    let items = c.stored-stored.result.now.items in
    let stored = c.stored-stored.ensures.stored in
    record {
      names = (found_entered items c.in_ok-wanted.wanted c.in-Some.item.now stored.entered (sym c.in-Some.ensures)).1;
      held = item_found_held (g.T.Terms.holds c.stored-stored.result.now.terms) items c.in_ok-wanted.wanted c.in-Some.item.now stored.held (sym c.in-Some.ensures);
    }

pub returns-in-Some : goal.returns-in-Some
returns-in-Some g c =
    let named = ap (item_named c.stored-stored.result.now.items) (sym c.in_ok-wanted.ensures) ∙ sym c.in-Some.ensures in
    subst (λ t. IfOk c.to_body.result (λ b. b ≡ body_text t)) (c.in_ok-item_members-in-Some.ensures ∙ shown_item (g.T.Terms.means c.stored-stored.result.now.terms) c.stored-stored.result.now.items c.args.env.now c.args.name.now c.in-Some.item.now c.stored-stored.ensures.plain named) c.to_body.ensures

pub returns : goal.returns
returns g c =
    let named = ap (item_named c.stored-stored.result.now.items) (sym c.in_ok-wanted.ensures) ∙ sym c.in-None.ensures in
    subst (λ t. IfOk c.to_body-in-None.result (λ b. b ≡ body_text t)) (c.in_ok-no_item_members-in-None.ensures ∙ shown_none (g.T.Terms.means c.stored-stored.result.now.terms) c.stored-stored.result.now.items c.args.env.now c.args.name.now c.stored-stored.ensures.plain named) c.to_body-in-None.ensures
