use Rattle.std.proofs.lemmas.Result.{IfOk-weaker}
use Rattle.state_print.proofs.States.{root_held, theorem_there, root_there}
use Rattle.state_print.proofs.printing.theorem_json.Goals as goal

pub term_json-requires-clause-held : goal.term_json-requires-clause-held
term_json-requires-clause-held g c =
    root_held g.T.Terms.holds g.T.Terms.means c.args.state.now c.terms-terms.ensures.legal c.metas.result.now c.terms-terms.result.now c.in-Some.root.now c.metas.ensures c.terms-terms.ensures.value c.in-Some.ensures

pub unreachable-requires : goal.unreachable-requires
unreachable-requires g c = root_there g.T.Terms.holds g.T.Terms.means c.args.state.now c.terms-terms.ensures.legal c.metas.result.now c.metas.ensures c.in-None.ensures

pub returns : goal.returns
returns g c =
    IfOk-weaker c.term_json.result _ _
    (λ v e. theorem_there g.T.Terms.holds g.T.Terms.means c.args.state.now c.terms-terms.ensures.legal c.metas.result.now c.terms-terms.result.now c.in-Some.root.now v.items c.metas.ensures c.terms-terms.ensures.value c.in-Some.ensures e)
    c.term_json.ensures
