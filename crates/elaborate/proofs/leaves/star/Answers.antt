use Rattle.std.proofs.Common.{◌∙◌}
use Rattle.ld_trees.specs.Term.{Star, Square}
use Rattle.ld_terms.proofs.Turns.{keeps_both}
use Rattle.elaborate.proofs.Meanings.{held_kept, read_kept, want_held, want_kept}
use Rattle.elaborate.proofs.leaves.star.Goals as goal

pub meet-requires-clause-held : goal.meet-requires-clause-held
meet-requires-clause-held g c =
    let h0 = g.T.Terms.holds c.args.terms.now in
    let m0 = g.T.Terms.means c.args.terms.now in
    let h1 = g.T.Terms.holds c.make.new.self in
    let m1 = g.T.Terms.means c.make.new.self in
    let h2 = g.T.Terms.holds c.make-2.new.self in
    let m2 = g.T.Terms.means c.make-2.new.self in
    let k = keeps_both h0 m0 h1 m1 h2 m2 c.make.ensures.kept c.make-2.ensures.kept in
    held_kept h0 m0 h2 m2 k c.requires.held

pub meet-requires-clause-want : goal.meet-requires-clause-want
meet-requires-clause-want g c =
    let h0 = g.T.Terms.holds c.args.terms.now in
    let m0 = g.T.Terms.means c.args.terms.now in
    let h1 = g.T.Terms.holds c.make.new.self in
    let m1 = g.T.Terms.means c.make.new.self in
    let h2 = g.T.Terms.holds c.make-2.new.self in
    let m2 = g.T.Terms.means c.make-2.new.self in
    let k = keeps_both h0 m0 h1 m1 h2 m2 c.make.ensures.kept c.make-2.ensures.kept in
    want_held h0 m0 h2 m2 k c.args.want c.requires.want

pub meet-requires-clause-term : goal.meet-requires-clause-term
meet-requires-clause-term g c = (c.make-2.ensures.kept c.in_ok-term.term c.in_ok-term.ensures.held).0

pub returns-clause-value : goal.returns-clause-value
returns-clause-value g c Δ W w s r e =
    let h0 = g.T.Terms.holds c.args.terms.now in
    let m0 = g.T.Terms.means c.args.terms.now in
    let h1 = g.T.Terms.holds c.make.new.self in
    let m1 = g.T.Terms.means c.make.new.self in
    let h2 = g.T.Terms.holds c.make-2.new.self in
    let m2 = g.T.Terms.means c.make-2.new.self in
    let k = keeps_both h0 m0 h1 m1 h2 m2 c.make.ensures.kept c.make-2.ensures.kept in
    c.meet.ensures.value Δ W w s Star Square (read_kept h0 m0 h2 m2 k c.requires.held r) (want_kept h0 m0 h2 m2 k c.args.want c.requires.want ∙ e)
    ((c.make-2.ensures.kept c.in_ok-term.term c.in_ok-term.ensures.held).1 ∙ c.in_ok-term.ensures.tree) c.in_ok-ty.ensures.tree
