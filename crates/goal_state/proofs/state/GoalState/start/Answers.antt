use Rattle.std.proofs.Common.{◌∙◌, [], ap, subst}
use Rattle.ld_trees.specs.Term.{none}
use Rattle.conversion.specs.Globals.{context_of, env_of}
use Rattle.kernel_check.specs.Answers.{Shows, Answers, sort_term}
use Rattle.std.specs.Prelude.{Ok}
use Rattle.goal_state.specs.Answers.{start_fault}
use Rattle.goal_state.proofs.Starts.{sort_refused, refusal_answers, start_value, start_kept}
use Rattle.goal_state.proofs.state.GoalState.start.Goals as goal

pub returns-in_err-infer_sort-clause-value : goal.returns-in_err-infer_sort-clause-value
returns-in_err-infer_sort-clause-value g c =
    let holds = g.T.Terms.holds in
    let means = g.T.Terms.means in
    let old = c.args.terms.now in
    let new = c.infer_sort.new.terms in
    let e = c.in_err-infer_sort.field-0.0 in
    let closed = ap (context_of (means old)) (c.deref.ensures.value ∙ c.new-closed.ensures.items) in
    let shown = subst (λ Γ. Shows (holds new) (means new) (sort_term (env_of (means old) c.args.env.now []) Γ (means old c.args.ty) c.args.fuel.now) c.infer_sort.new.fuel e) closed c.in_err-infer_sort.ensures.value in
    refusal_answers holds means new _ c.args.fuel.now c.infer_sort.new.fuel c.from_residual-in_err-infer_sort.result (start_fault e) c.from_residual-in_err-infer_sort.ensures.1
    (sort_refused holds means old new c.args.env.now c.args.ty c.args.fuel.now c.in_err-infer_sort.ensures.kept c.infer_sort.new.fuel e c.in_ok-metas.ensures.0 shown)

pub invariant_of-result : goal.invariant_of-result
invariant_of-result g c =
    let holds = g.T.Terms.holds in
    let means = g.T.Terms.means in
    let old = c.args.terms.now in
    let new = c.infer_sort.new.terms in
    let closed = ap (context_of (means old)) (c.deref.ensures.value ∙ c.new-closed.ensures.items) in
    let found = subst (λ Γ. Answers (holds new) (means new) (means new) (sort_term (env_of (means old) c.args.env.now []) Γ (means old c.args.ty) c.args.fuel.now) c.infer_sort.new.fuel (Ok c.in_ok-infer_sort.field-0)) closed c.in_ok-infer_sort.ensures.value in
    start_kept holds means old new c.args.env.now c.args.ty c.args.fuel.now c.in_ok-infer_sort.ensures.kept c.in_ok-terms.terms c.in_ok-terms.ensures c.requires.items c.requires.term
    c.in_ok-env.env c.in_ok-metas.metas c.in_ok-goals.goals c.in_ok-env.ensures c.in_ok-metas.ensures c.in_ok-goals.ensures c.infer_sort.new.fuel c.in_ok-infer_sort.field-0 found
    c.requires.legal c.len-length.ensures.facts c.next-next.ensures.facts c.next-next.ensures.few

pub returns-clause-value : goal.returns-clause-value
returns-clause-value g c =
    let holds = g.T.Terms.holds in
    let means = g.T.Terms.means in
    let old = c.args.terms.now in
    let new = c.infer_sort.new.terms in
    let closed = ap (context_of (means old)) (c.deref.ensures.value ∙ c.new-closed.ensures.items) in
    let found = subst (λ Γ. Answers (holds new) (means new) (means new) (sort_term (env_of (means old) c.args.env.now []) Γ (means old c.args.ty) c.args.fuel.now) c.infer_sort.new.fuel (Ok c.in_ok-infer_sort.field-0)) closed c.in_ok-infer_sort.ensures.value in
    start_value holds means old new c.args.env.now c.args.ty c.args.fuel.now c.in_ok-infer_sort.ensures.kept c.in_ok-terms.terms c.in_ok-terms.ensures c.requires.items c.requires.term
    c.in_ok-env.env c.in_ok-metas.metas c.in_ok-goals.goals c.in_ok-env.ensures c.in_ok-metas.ensures c.in_ok-goals.ensures c.infer_sort.new.fuel c.in_ok-infer_sort.field-0 found
