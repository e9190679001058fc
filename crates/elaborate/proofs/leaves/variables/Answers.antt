use Rattle.std.proofs.Common.{All, map, ◌∙◌, ap, ap₂, sym, subst, arith}
use Rattle.ld_trees.specs.Term.{◌▹◌, Term, Terms}
use Rattle.ld_terms.specs.Views.{terms_of}
use Rattle.ld_terms.proofs.Arguments.{terms_of_end}
use Rattle.ld_terms.proofs.Turns.{keeps_all, keeps_both, keeps_map}
use Rattle.std.proofs.lemmas.List.Elements.{All-push}
use Rattle.elaborate.proofs.Units.{one_more_variable}
use Rattle.elaborate.proofs.leaves.variables.Goals as goal

pub loop-left-preserved : goal.loop-left-preserved
loop-left-preserved g c =
    let h1 = g.T.Terms.holds c.loop-left.terms in
    let m1 = g.T.Terms.means c.loop-left.terms in
    let h = g.T.Terms.holds c.make.new.self in
    let m = g.T.Terms.means c.make.new.self in
    let i = c.loop-left.invariant in
    let x = c.in_ok-make.field-0 in
    record {
      within = omega arith;
      kept = keeps_both _ _ _ m1 _ _ i.kept c.make.ensures.kept;
      held = subst (All h) (sym c.in_ok-push.ensures.items) (All-push h c.loop-left.made.items x (keeps_all h1 m1 h m c.loop-left.made.items c.make.ensures.kept i.held) c.in_ok-make.ensures.held);
      value =
          ap (λ xs. terms_of (map m xs)) c.in_ok-push.ensures.items ∙ terms_of_end m c.loop-left.made.items x
          ∙ ap₂ (λ (us : Terms) (t : Term). us ▹ t) (ap terms_of (keeps_map h1 m1 h m c.loop-left.made.items c.make.ensures.kept i.held) ∙ i.value) c.in_ok-make.ensures.tree
          ∙ one_more_variable c.loop-left.left c.args.count c.loop-left-test.true i.within;
    }
