use Rattle.book_reader.specs.Items.{body}
use Rattle.book_reader.proofs.Follow.{residual, shows_more, after}
use Rattle.book_reader.proofs.items.check_optional.Goals as goal

pub returns-in_err-body-in-Some-clause-value : goal.returns-in_err-body-in-Some-clause-value
returns-in_err-body-in-Some-clause-value g c Δ Γ A r e =
    let h = g.T.Terms.holds c.check_body.new.terms in
    let m = g.T.Terms.means c.check_body.new.terms in
    rw c.in-Some.is
    (residual h m _ _ _ c.from_residual.result c.in_err-body-in-Some.field-0.0 c.from_residual.ensures.1
    (shows_more h m (body Δ Γ A c.in-Some.text c.args.fuel.now) _ c.in_err-body-in-Some.field-0.0 (c.in_err-body-in-Some.ensures.value Δ Γ A r e)))

pub returns-in_ok-body-in-Some-clause-value : goal.returns-in_ok-body-in-Some-clause-value
returns-in_ok-body-in-Some-clause-value g c Δ Γ A r e =
    rw c.in-Some.is (after (body Δ Γ A c.in-Some.text c.args.fuel.now) (g.T.Terms.means c.check_body.new.terms c.in_ok-body-in-Some.body) c.check_body.new.fuel _ (c.in_ok-body-in-Some.ensures.value Δ Γ A r e))
