use Rattle.std.proofs.Common.{◌≡◌, ◌-◌, map, length, arith, ◌∙◌}
use Rattle.std.proofs.lemmas.Result.{IfOk-weaker}
use Rattle.ld_trees.specs.Term.{Var}
use Rattle.ld_trees.specs.Substitution.{subst_at}
use Rattle.ld_terms.specs.Views.{terms_of}
use Rattle.ld_terms.proofs.Instantiation.{lowered_variable}
use Rattle.ld_terms.proofs.substitution.subst_variable.Goals as goal

pub returns-clause-tree : goal.returns-clause-tree
returns-clause-tree g c =
    let means = g.T.Terms.means c.args.terms.now in
    let hs = c.args.args.now in
    IfOk-weaker c.make-2.result _ (λ r. g.T.Terms.means c.make-2.new.self r ≡ subst_at c.args.under (terms_of (map means hs)) (Var c.args.i))
    (λ r e. e ∙ lowered_variable means hs c.args.under c.args.i (c.args.i - length hs) (omega arith) (omega arith)) c.make-2.ensures.tree
