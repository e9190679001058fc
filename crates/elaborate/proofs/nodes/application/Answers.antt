use Rattle.std.proofs.Common.{◌≡◌, ◌∙◌, ◌++◌, ◌∷◌, [], ap, ap₂, map}
use Rattle.ld_trees.specs.Term.{App, Term}
use Rattle.ld_trees.specs.Substitution.{subst_all}
use Rattle.ld_terms.specs.Views.{terms_of}
use Rattle.ld_terms.proofs.Turns.{keeps_both}
use Rattle.goal_state.proofs.Means.{decls_held}
use Rattle.elaboration.specs.Elaboration.{made}
use Rattle.elaborate.specs.Standing.{plain_work}
use Rattle.elaborate.proofs.Meanings.{work_kept}
use Rattle.elaborate.proofs.nodes.application.Goals as goal

pub returns-clause-value : goal.returns-clause-value
returns-clause-value g c =
    let h0 = g.T.Terms.holds c.args.terms.now in
    let m0 = g.T.Terms.means c.args.terms.now in
    let h1 = g.T.Terms.holds c.subst_all.new.terms in
    let m1 = g.T.Terms.means c.subst_all.new.terms in
    let h2 = g.T.Terms.holds c.make.new.self in
    let m2 = g.T.Terms.means c.make.new.self in
    let k1 = c.in_ok-ty.ensures.kept in
    let k2 = c.in_ok-term.ensures.kept in
    let k = keeps_both h0 m0 h1 m1 h2 m2 k1 k2 in
    let work = c.args.argument.work in
    let held = c.requires.argument in
    let term : m2 c.in_ok-term.term ≡ App (m0 c.args.function) (m0 c.args.argument.term) = c.in_ok-term.ensures.tree ∙ ap₂ (λ (f a : Term). App f a) (k1 c.args.function c.requires.function).1 (k1 c.args.argument.term held.term).1 in
    let one = c.deref.ensures.value ∙ c.in_ok-push.ensures.items ∙ ap (λ xs. xs ++ c.args.argument.term ∷ []) c.new-arguments.ensures.items in
    let ty = (k2 c.in_ok-ty.ty c.in_ok-ty.ensures.held).1 ∙ c.in_ok-ty.ensures.tree ∙ ap (λ xs. subst_all (terms_of (map m0 xs)) (m0 c.args.codomain)) one in
    ap (λ v. made v (m2 c.in_ok-term.term) (m2 c.in_ok-ty.ty)) (work_kept h0 m0 h2 m2 k work held.metas)
    ∙ ap₂ (λ (t T : Term). made (plain_work m0 work) t T) term ty

pub returns-clause-held : goal.returns-clause-held
returns-clause-held g c =
    let h0 = g.T.Terms.holds c.args.terms.now in
    let m0 = g.T.Terms.means c.args.terms.now in
    let h1 = g.T.Terms.holds c.subst_all.new.terms in
    let m1 = g.T.Terms.means c.subst_all.new.terms in
    let h2 = g.T.Terms.holds c.make.new.self in
    let m2 = g.T.Terms.means c.make.new.self in
    let k1 = c.in_ok-ty.ensures.kept in
    let k2 = c.in_ok-term.ensures.kept in
    let k = keeps_both h0 m0 h1 m1 h2 m2 k1 k2 in
    record {
      metas = decls_held h0 m0 h2 m2 k c.args.argument.work.metas c.requires.argument.metas;
      term = c.in_ok-term.ensures.held;
      ty = (k2 c.in_ok-ty.ty c.in_ok-ty.ensures.held).0;
    }
