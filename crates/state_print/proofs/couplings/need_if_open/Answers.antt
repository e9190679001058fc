use Rattle.std.proofs.Common.{sym, ◌∙◌}
use Rattle.std.proofs.lemmas.Result.{IfOk-weaker}
use Rattle.state_print.proofs.Needs.{open_there, need_there, none_there}
use Rattle.state_print.proofs.couplings.need_if_open.Goals as goal

pub need-requires : goal.need-requires
need-requires g c =
    let s = c.args.state.now in
    open_there (g.T.Terms.means s.terms) s.metas c.metas.result.now c.metas.ensures c.args.m (sym c.is_open.ensures ∙ c.if-is_open.true)

pub returns-then-is_open : goal.returns-then-is_open
returns-then-is_open g c =
    let s = c.args.state.now in
    IfOk-weaker c.need.result _ _
    (λ v e. e ∙ need_there (g.T.Terms.means s.terms) s.metas c.metas.result.now c.metas.ensures c.args.m (sym c.is_open.ensures ∙ c.if-is_open.true))
    c.need.ensures

pub returns : goal.returns
returns g c =
    let s = c.args.state.now in
    c.of.ensures ∙ c.new.ensures.items ∙ none_there (g.T.Terms.means s.terms) s.metas c.metas.result.now c.metas.ensures c.args.m (sym c.is_open.ensures ∙ c.if-is_open.false)
