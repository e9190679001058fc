use Rattle.std.proofs.Common.{◌∙◌, ap, sym, refl, subst}
use Rattle.ld_trees.specs.Term.{Star}
use Rattle.elaboration.specs.Elaboration.{hole}
use Rattle.elaborate.specs.Standing.{IsWantIn, plain_want}
use Rattle.elaborate.specs.Steps.{noted_of}
use Rattle.elaborate.proofs.Follow.{answers}
use Rattle.elaborate.proofs.Meanings.{held_kept, read_kept}
use Rattle.elaborate.proofs.leaves.hole.Goals as goal

pub returns-in-Any-clause-value : goal.returns-in-Any-clause-value
returns-in-Any-clause-value g c Δ W w s r e =
    let h0 = g.T.Terms.holds c.args.terms.now in
    let m0 = g.T.Terms.means c.args.terms.now in
    ap (λ W. hole Δ c.args.at (noted_of c.args.hole) W w s c.args.fuel.now) (sym (ap (plain_want m0) (sym c.in-Any.is) ∙ e))

pub returns-in-Of-clause-value : goal.returns-in-Of-clause-value
returns-in-Of-clause-value g c Δ W w s r e =
    let h0 = g.T.Terms.holds c.args.terms.now in
    let m0 = g.T.Terms.means c.args.terms.now in
    let h = g.T.Terms.holds c.opened.new.terms in
    let m = g.T.Terms.means c.opened.new.terms in
    answers h m _ _ _ c.opened.new.fuel c.opened.result (ap (λ W. hole Δ c.args.at (noted_of c.args.hole) W w s c.args.fuel.now) (sym (ap (plain_want m0) (sym c.in-Of.is) ∙ e))) (c.opened.ensures.value Δ w s (m0 c.in-Of.ty) r refl)

pub opened-requires-clause-ty : goal.opened-requires-clause-ty
opened-requires-clause-ty g c =
    let h0 = g.T.Terms.holds c.args.terms.now in
    let m0 = g.T.Terms.means c.args.terms.now in
    subst (IsWantIn h0) c.in-Of.is c.requires.want

pub opened-requires-in-AsType-clause-held : goal.opened-requires-in-AsType-clause-held
opened-requires-in-AsType-clause-held g c =
    let h0 = g.T.Terms.holds c.args.terms.now in
    let m0 = g.T.Terms.means c.args.terms.now in
    let h1 = g.T.Terms.holds c.make.new.self in
    let m1 = g.T.Terms.means c.make.new.self in
    held_kept h0 m0 h1 m1 c.in_ok-ty-in-AsType.ensures.kept c.requires.held

pub returns-in_ok-ty-in-AsType-clause-value : goal.returns-in_ok-ty-in-AsType-clause-value
returns-in_ok-ty-in-AsType-clause-value g c Δ W w s r e =
    let h0 = g.T.Terms.holds c.args.terms.now in
    let m0 = g.T.Terms.means c.args.terms.now in
    let h1 = g.T.Terms.holds c.make.new.self in
    let m1 = g.T.Terms.means c.make.new.self in
    let h = g.T.Terms.holds c.opened-in-AsType.new.terms in
    let m = g.T.Terms.means c.opened-in-AsType.new.terms in
    answers h m _ _ _ c.opened-in-AsType.new.fuel c.opened-in-AsType.result (ap (λ W. hole Δ c.args.at (noted_of c.args.hole) W w s c.args.fuel.now) (sym (ap (plain_want m0) (sym c.in-AsType.is) ∙ e)))
    (c.opened-in-AsType.ensures.value Δ w s Star (read_kept h0 m0 h1 m1 c.in_ok-ty-in-AsType.ensures.kept c.requires.held r) c.in_ok-ty-in-AsType.ensures.tree)
