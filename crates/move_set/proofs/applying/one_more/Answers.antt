use Rattle.std.proofs.Common.{◌≡◌, ◌∙◌, [], ◌∷◌, ◌++◌, map, ap, ap₂}
use Rattle.ld_trees.specs.Term.{Term, Terms, App, none, ◌▹◌}
use Rattle.ld_trees.specs.Substitution.{subst_all}
use Rattle.ld_terms.specs.Views.{Keeps, terms_of}
use Rattle.unification.specs.Patterns.{over_all}
use Rattle.ld_terms.proofs.Turns.{keeps_both}
use Rattle.goal_state.proofs.Means.{plain_metas_kept}
use Rattle.move_set.proofs.Turning.{same_application}
use Rattle.move_set.proofs.applying.one_more.Goals as goal

pub returns-clause-value : goal.returns-clause-value
returns-clause-value g c =
    let h0 = g.T.Terms.holds c.args.terms.now in
    let m0 = g.T.Terms.means c.args.terms.now in
    let h1 = g.T.Terms.holds c.over_all.new.terms in
    let m1 = g.T.Terms.means c.over_all.new.terms in
    let h2 = g.T.Terms.holds c.make.new.self in
    let m2 = g.T.Terms.means c.make.new.self in
    let h3 = g.T.Terms.holds c.subst_all.new.terms in
    let m3 = g.T.Terms.means c.subst_all.new.terms in
    let k02 : Keeps h0 m0 h2 m2 = keeps_both h0 m0 h1 m1 h2 m2 c.over_all.ensures.kept c.make.ensures.kept in
    let k03 : Keeps h0 m0 h3 m3 = keeps_both h0 m0 h2 m2 h3 m3 k02 c.subst_all.ensures.kept in
    let u = c.in_ok-u.u in
    let var : m2 u ≡ over_all c.args.m c.args.count = (c.make.ensures.kept u c.in_ok-u.ensures.held).1 ∙ c.in_ok-u.ensures.value in
    let made : m2 c.in_ok-term.term ≡ App (m0 c.args.term) (over_all c.args.m c.args.count) =
    c.in_ok-term.ensures.tree ∙ ap₂ App (c.over_all.ensures.kept c.args.term c.requires.term).1 c.in_ok-u.ensures.value in
    let items : c.deref.result.now ≡ u ∷ [] = c.deref.ensures.value ∙ c.in_ok-push.ensures.items ∙ ap (λ xs. xs ++ u ∷ []) c.new-put_in.ensures.items in
    let arguments : terms_of (map m2 c.deref.result.now) ≡ none ▹ over_all c.args.m c.args.count = ap (λ xs. terms_of (map m2 xs)) items ∙ ap (λ t. none ▹ t) var in
    same_application _ _ _ _ _ _ _ _ (plain_metas_kept h0 m0 h3 m3 k03 c.args.metas c.requires.held) c.in_ok-args.ensures
    ((c.subst_all.ensures.kept c.in_ok-term.term c.in_ok-term.ensures.held).1 ∙ made)
    (c.in_ok-ty.ensures.tree ∙ ap₂ (λ (us : Terms) (t : Term). subst_all us t) arguments (k02 c.args.codomain c.requires.codomain).1)
