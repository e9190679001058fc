use Rattle.std.proofs.Common.{◌≡◌, ◌∙◌, ap, ap₂, map}
use Rattle.ld_trees.specs.Term.{Const}
use Rattle.ld_trees.specs.Substitution.{subst_all}
use Rattle.ld_terms.specs.Views.{terms_of}
use Rattle.ld_terms.proofs.Turns.{keeps_all, keeps_both, keeps_map}
use Rattle.elaborate.proofs.Meanings.{held_kept, read_kept, want_held, want_kept}
use Rattle.elaborate.proofs.nodes.instance.Goals as goal

pub make-requires : goal.make-requires
make-requires g c =
    let h0 = g.T.Terms.holds c.args.terms.now in
    let m0 = g.T.Terms.means c.args.terms.now in
    let h1 = g.T.Terms.holds c.subst_all.new.terms in
    let m1 = g.T.Terms.means c.subst_all.new.terms in
    keeps_all h0 m0 h1 m1 c.args.args.now c.in_ok-ty.ensures.kept c.requires.args

pub meet-requires-clause-held : goal.meet-requires-clause-held
meet-requires-clause-held g c =
    let h0 = g.T.Terms.holds c.args.terms.now in
    let m0 = g.T.Terms.means c.args.terms.now in
    let h1 = g.T.Terms.holds c.subst_all.new.terms in
    let m1 = g.T.Terms.means c.subst_all.new.terms in
    let h2 = g.T.Terms.holds c.make.new.self in
    let m2 = g.T.Terms.means c.make.new.self in
    let k = keeps_both h0 m0 h1 m1 h2 m2 c.in_ok-ty.ensures.kept c.in_ok-term.ensures.kept in
    held_kept h0 m0 h2 m2 k c.requires.held

pub meet-requires-clause-want : goal.meet-requires-clause-want
meet-requires-clause-want g c =
    let h0 = g.T.Terms.holds c.args.terms.now in
    let m0 = g.T.Terms.means c.args.terms.now in
    let h1 = g.T.Terms.holds c.subst_all.new.terms in
    let m1 = g.T.Terms.means c.subst_all.new.terms in
    let h2 = g.T.Terms.holds c.make.new.self in
    let m2 = g.T.Terms.means c.make.new.self in
    let k = keeps_both h0 m0 h1 m1 h2 m2 c.in_ok-ty.ensures.kept c.in_ok-term.ensures.kept in
    want_held h0 m0 h2 m2 k c.args.want c.requires.want

pub meet-requires-clause-ty : goal.meet-requires-clause-ty
meet-requires-clause-ty g c =
    (c.in_ok-term.ensures.kept c.in_ok-ty.ty c.in_ok-ty.ensures.held).0

pub returns-clause-value : goal.returns-clause-value
returns-clause-value g c Δ W w s F vs r e p q =
    let h0 = g.T.Terms.holds c.args.terms.now in
    let m0 = g.T.Terms.means c.args.terms.now in
    let h1 = g.T.Terms.holds c.subst_all.new.terms in
    let m1 = g.T.Terms.means c.subst_all.new.terms in
    let h2 = g.T.Terms.holds c.make.new.self in
    let m2 = g.T.Terms.means c.make.new.self in
    let k = keeps_both h0 m0 h1 m1 h2 m2 c.in_ok-ty.ensures.kept c.in_ok-term.ensures.kept in
    let args : terms_of (map m1 c.args.args.now) ≡ vs = ap terms_of (keeps_map h0 m0 h1 m1 c.args.args.now c.in_ok-ty.ensures.kept c.requires.args) ∙ q in
    c.meet.ensures.value Δ W w s (Const c.args.a.now vs) (subst_all vs F) (read_kept h0 m0 h2 m2 k c.requires.held r) (want_kept h0 m0 h2 m2 k c.args.want c.requires.want ∙ e)
    (c.in_ok-term.ensures.tree ∙ ap (λ us. Const c.args.a.now us) args)
    ((c.in_ok-term.ensures.kept c.in_ok-ty.ty c.in_ok-ty.ensures.held).1 ∙ c.in_ok-ty.ensures.tree ∙ ap₂ subst_all q p)
