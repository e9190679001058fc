use Rattle.std.proofs.Common.{◌∙◌, ap₂}
use Rattle.ld_trees.specs.Term.{Pi, Term}
use Rattle.elaborate.proofs.Meanings.{held_kept, read_kept, want_held, want_kept}
use Rattle.elaborate.proofs.nodes.product.Goals as goal

pub meet-requires-clause-held : goal.meet-requires-clause-held
meet-requires-clause-held g c =
    let h0 = g.T.Terms.holds c.args.terms.now in
    let m0 = g.T.Terms.means c.args.terms.now in
    let h1 = g.T.Terms.holds c.make.new.self in
    let m1 = g.T.Terms.means c.make.new.self in
    held_kept h0 m0 h1 m1 c.in_ok-term.ensures.kept c.requires.held

pub meet-requires-clause-want : goal.meet-requires-clause-want
meet-requires-clause-want g c =
    let h0 = g.T.Terms.holds c.args.terms.now in
    let m0 = g.T.Terms.means c.args.terms.now in
    let h1 = g.T.Terms.holds c.make.new.self in
    let m1 = g.T.Terms.means c.make.new.self in
    want_held h0 m0 h1 m1 c.in_ok-term.ensures.kept c.args.want c.requires.want

pub meet-requires-clause-ty : goal.meet-requires-clause-ty
meet-requires-clause-ty g c =
    (c.in_ok-term.ensures.kept c.args.codomain.ty c.requires.ty).0

pub returns-clause-value : goal.returns-clause-value
returns-clause-value g c Δ W A b s r e p q x =
    let h0 = g.T.Terms.holds c.args.terms.now in
    let m0 = g.T.Terms.means c.args.terms.now in
    let h1 = g.T.Terms.holds c.make.new.self in
    let m1 = g.T.Terms.means c.make.new.self in
    let k = c.in_ok-term.ensures.kept in
    c.meet.ensures.value Δ W b.work s (Pi A b.term) b.ty (read_kept h0 m0 h1 m1 k c.requires.held r) (want_kept h0 m0 h1 m1 k c.args.want c.requires.want ∙ e)
    (c.in_ok-term.ensures.tree ∙ ap₂ (λ (A B : Term). Pi A B) p q) ((k c.args.codomain.ty c.requires.ty).1 ∙ x)
