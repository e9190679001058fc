use Rattle.std.proofs.Common.{◌≡◌, ◌<◌, ◌≤◌, ◌++◌, length, get_or, map, arith, rules, ap, sym, ◌∙◌, subst}
use Rattle.ld_trees.specs.Term.{depth, depth_all}
use Rattle.ld_terms.specs.Views.{terms_of}
use Rattle.term_syntax.specs.Printing as spec
use Rattle.term_text.proofs.Arguments.{depth_of_argument, put_first, put_next}
use Rattle.term_text.proofs.print.+print.Goals as goal
use Rattle.term_text.proofs.print.+print.Goals.{print_each-then-i-gt0+in_ok-put, print_each-else-i-gt0}

pub print_each-print_node-requires : goal.print_each-print_node-requires
print_each-print_node-requires g t c κs within =
    let means = g.T.Terms.means c.args.terms.now in
    let lt : c.loop-i.i < length c.args.us.now = c.loop-i-test.true in
    let held : g.T.Terms.holds c.args.terms.now c.index-us-i.result = rw c.index-us-i.is (c.requires.held _ _ lt) in
    let small : depth (g.T.Terms.means c.args.terms.now c.index-us-i.result) ≤ depth_all (terms_of (map (g.T.Terms.means c.args.terms.now) c.args.us.now)) =
    subst (λ x. depth (g.T.Terms.means c.args.terms.now x) ≤ depth_all (terms_of (map (g.T.Terms.means c.args.terms.now) c.args.us.now))) (sym c.index-us-i.is) (depth_of_argument means c.args.us.now c.loop-i.i c.index-us-i.result lt) in
    search rules

pub print_each-loop-i-preserved : goal.print_each-loop-i-preserved
print_each-loop-i-preserved g t c =
    let means = g.T.Terms.means c.args.terms.now in
    let shown : spec.text c.args.names.now c.args.k (g.T.Terms.means c.args.terms.now c.index-us-i.result) ≡ spec.text c.args.names.now c.args.k (g.T.Terms.means c.args.terms.now (get_or c.args.us.now c.loop-i.i c.index-us-i.result)) =
    ap (λ x. spec.text c.args.names.now c.args.k (g.T.Terms.means c.args.terms.now x)) c.index-us-i.is in
    let put : c.print_node.new.out.items ≡ c.if-i-gt0.out.items ++ spec.text c.args.names.now c.args.k (g.T.Terms.means c.args.terms.now (get_or c.args.us.now c.loop-i.i c.index-us-i.result)) =
    c.in_ok-print_node.ensures ∙ ap (λ z. c.if-i-gt0.out.items ++ z) shown in
    elim c.if-i-gt0.branch [
      | print_each-then-i-gt0+in_ok-put w ↦
          put_next means c.args.names.now c.args.k c.args.us.now c.loop-i.i c.index-us-i.result c.args.out.now.items c.loop-i.out.items c.if-i-gt0.out.items c.print_node.new.out.items
          (omega (arith, w.if-i-gt0.true)) c.loop-i-test.true c.loop-i.invariant (ap (λ v. v.items) w.out-is ∙ w.in_ok-put.ensures) put
      | print_each-else-i-gt0 w ↦
          put_first means c.args.names.now c.args.k c.args.us.now c.loop-i.i c.index-us-i.result c.args.out.now.items c.if-i-gt0.out.items c.print_node.new.out.items
          (omega (arith, w.if-i-gt0.false)) c.loop-i-test.true (ap (λ v. v.items) w.out-is ∙ c.loop-i.invariant) put
    ]
