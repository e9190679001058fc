use Rattle.std.proofs.Common.{◌≡◌, ◌≢◌, ◌∙◌, ap, sym, rules, length, option_map}
use Rattle.ld_terms.specs.Items.{item_named}
use Rattle.meta_context.specs.Plain.{plain_item}
use Rattle.unification.specs.Steps.{Refused}
use Rattle.elaboration.specs.Refusals.{UnknownName, WrongCount}
use Rattle.elaborate.specs.Steps.{known}
use Rattle.elaborate.proofs.AroundParts.{fits, named_again, unfit}
use Rattle.pattern_unify.proofs.Meanings.{length_again}
use Rattle.elaborate.proofs.nodes.known.Goals as goal

pub returns-then-given-wanted-clause-value : goal.returns-then-given-wanted-clause-value
returns-then-given-wanted-clause-value g c Δ n e =
    let m = g.T.Terms.means c.args.terms.now in
    let a = c.args.a.now in
    let item = c.in-Some.item.now in
    let count : c.args.given ≡ length item.params = search rules in
    ap (λ o. known c.args.at a c.args.given o n) (ap (λ is. item_named is a) (sym e) ∙ named_again m c.args.env.now a ∙ ap (option_map (plain_item m)) (sym c.in-Some.ensures))
    ∙ fits c.args.at a c.args.given (plain_item m item) n (count ∙ sym (length_again m item.params))

pub returns-in_ok-name-in-None-clause-value : goal.returns-in_ok-name-in-None-clause-value
returns-in_ok-name-in-None-clause-value g c Δ n e =
    let m = g.T.Terms.means c.args.terms.now in
    let a = c.args.a.now in
    ap (λ o. known c.args.at a c.args.given o n) (ap (λ is. item_named is a) (sym e) ∙ named_again m c.args.env.now a ∙ ap (option_map (plain_item m)) (sym c.in-None.ensures))
    ∙ ap (λ x. Refused (UnknownName c.args.at x) n) (sym c.in_ok-name-in-None.ensures)

pub returns-in_ok-name-in-Some-clause-value : goal.returns-in_ok-name-in-Some-clause-value
returns-in_ok-name-in-Some-clause-value g c Δ n e =
    let m = g.T.Terms.means c.args.terms.now in
    let a = c.args.a.now in
    let item = c.in-Some.item.now in
    let len : length c.as_slice-wanted.result.now ≡ length item.params = ap (λ ps. length ps) c.as_slice-wanted.ensures in
    let no : c.args.given ≢ length (plain_item m item).params = λ q. c.if-given-wanted.false (q ∙ length_again m item.params ∙ sym len) in
    ap (λ o. known c.args.at a c.args.given o n) (ap (λ is. item_named is a) (sym e) ∙ named_again m c.args.env.now a ∙ ap (option_map (plain_item m)) (sym c.in-Some.ensures))
    ∙ unfit c.args.at a c.args.given (plain_item m item) n no
    ∙ ap (λ x. Refused (WrongCount c.args.at a c.args.given x) n) (length_again m item.params ∙ sym len ∙ sym c.in_ok-wanted-in-Some.ensures)
    ∙ ap (λ x. Refused (WrongCount c.args.at a x c.in_ok-wanted-in-Some.wanted) n) (sym c.in_ok-given-in-Some.ensures)
    ∙ ap (λ x. Refused (WrongCount c.args.at x c.in_ok-given-in-Some.given c.in_ok-wanted-in-Some.wanted) n) (sym c.in_ok-name-in-Some.ensures)
