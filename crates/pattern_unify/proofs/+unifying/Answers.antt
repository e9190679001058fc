use Rattle.std.proofs.Common.{rules, arith, ◌≡◌, ◌≢◌, ap, ap₂, ◌∙◌, sym, refl, true, false, ℕ, ◌<◌, ◌≤◌, Some, None, Ok, Err, Bool, List, [], ◌∷◌, ◌++◌, length, reverse, subst as transport}
use Rattle.ld_trees.specs.Term.{Term}
use Rattle.ld_terms.proofs.Turns.{keeps_both}
use Rattle.conversion.specs.Globals.{AreLocals}
use Rattle.conversion.specs.Answers.{IsAnswer}
use Rattle.conversion.specs.Conversion.{alike}
use Rattle.conversion.specs.WeakHead.{whnf}
use Rattle.conversion.proofs.Lookups.{globals_kept, decl_found_held}
use Rattle.conversion.proofs.Spines.{all_popped}
use Rattle.kernel_check.specs.Inference.{infer}
use Rattle.term_syntax.specs.ReadsBack.{IsContext}
use Rattle.meta_context.specs.Entered.{names_of}
use Rattle.meta_context.specs.Plain.{plain_locals, rules_ctx, rules_env}
use Rattle.meta_context.proofs.Numbers.{declared_at}
use Rattle.goal_state.specs.State.{plain_decl, plain_metas}
use Rattle.goal_state.proofs.Means.{plain_metas_kept, decls_held}
use Rattle.unification.specs.Steps.{Gave, Refused, go_on, ran, ◌>>◌, spend_each}
use Rattle.unification.specs.Refusals.{Kernel, Mismatch, Scope, Plain, kernel_step}
use Rattle.unification.specs.Metavariables.{reach, assigned}
use Rattle.unification.specs.Patterns.{side, holds_only}
use Rattle.unification.specs.Unification.{unify, unify_each, unify_forms, unify_reduced, unify_parts, part_pairs, settle}
use Rattle.unification.specs.Pruning.{Nowhere, Outside, Inside, pruned, kept_entries, is_kept, occurrences, replace}
use Rattle.pattern_unify.specs.Answers.{Shows, Answers}
use Rattle.pattern_unify.specs.Faults.{halt_fault}
use Rattle.pattern_unify.specs.Pairs.{pairs_back, IsPairHeld}
use Rattle.pattern_unify.specs.Plans.{plan, planned, plain_plan}
use Rattle.pattern_unify.specs.Tries.{tried, IsTried, shrunk}
use Rattle.pattern_unify.specs.Walks.{variables_of, inverse, IsSpent, plain_spot}
use Rattle.pattern_unify.specs.declared.spots.Spot.TheVariants as stored
use Rattle.pattern_unify.proofs.Cases.{defined_read, tried_shows, equal_trees, no_unit, spent, not_defined, not_alike, given_up, alike_parts, other_heads}
use Rattle.pattern_unify.proofs.Follow.{after, shows_more, answers_as, fails, fails_last, halt_shows}
use Rattle.pattern_unify.proofs.Meanings.{read_reach, read_kept, read_next, read_length, decl_read, decl_missed, room}
use Rattle.pattern_unify.proofs.PlanCases.{forms_planned}
use Rattle.pattern_unify.proofs.Rounds.{spot, on, prunes, goes_out, goes_wrong, outright, outside, inside, occurs_inside, itself, another, no_goal, type_holds, prunes_on, prune_on, spent_each, too_few, settle_missing, settle_found, settle_on}
use Rattle.pattern_unify.proofs.Turns.{each_turn, each_ends, at_some, at_none}
use Rattle.pattern_unify.proofs.+unifying.Goals as goal

-- ---- unify_in

pub engine::unify_in-returns-then-same-clause-value : goal.engine::unify_in-returns-then-same-clause-value
engine::unify_in-returns-then-same-clause-value g t c Δ Σ A B r p q =
    let m = g.T.Terms.means c.args.terms.now in
    let n = c.args.fuel.now in
    equal_trees (rules_env Δ) Σ c.args.depth A B n (sym p ∙ c.if-same.ensures.0 refl ∙ q) ∙ ap (λ (S : Plain). Gave S n) (sym (ap (plain_metas m) c.in_ok-fork.ensures ∙ r.metas_are))

pub engine::unify_in-returns-then-not-spend-clause-value : goal.engine::unify_in-returns-then-not-spend-clause-value
engine::unify_in-returns-then-not-spend-clause-value g t c Δ Σ A B r p q =
    let no : A ≢ B = λ e. let z = c.if-same.ensures.1 (p ∙ e ∙ sym q) in cc in
    let none : c.args.fuel.now ≡ 0 = search (rules, arith) in
    (no_unit (rules_env Δ) Σ c.args.depth A B c.args.fuel.now no none, omega (arith, none, c.spend.ensures.rest))

pub engine::unify_in-returns-in_err-after-clause-value : goal.engine::unify_in-returns-in_err-after-clause-value
engine::unify_in-returns-in_err-after-clause-value g t c Δ Σ A B r p q =
    let h = g.T.Terms.holds c.unify_twins.new.terms in
    let m = g.T.Terms.means c.unify_twins.new.terms in
    let n = c.args.fuel.now in
    let k = c.spend.new.self in
    let d = c.args.depth in
    let no : A ≢ B = λ e. let z = c.if-same.ensures.1 (p ∙ e ∙ sym q) in cc in
    let some : 0 < n = search rules in
    let x = c.in_err-after.field-0.0 in
    let next = unify_reduced (rules_env Δ) (unify (rules_env Δ)) Σ d A B in
    fails_last h m (plain_metas m) (unify (rules_env Δ) Σ d A B n) (tried (rules_env Δ) Σ d A B next k) c.unify_twins.new.fuel c.from_residual-in_err-after.result (halt_fault x)
    (spent (rules_env Δ) Σ d A B n k no some c.if-not-spend.ensures.rest) c.from_residual-in_err-after.ensures.1
    (tried_shows (rules_env Δ) Σ d A B h m (plain_metas m) k c.unify_twins.new.fuel x (c.in_err-after.ensures.value Δ Σ A B r p q) next)

pub engine::unify_in-returns-in-Some-clause-value : goal.engine::unify_in-returns-in-Some-clause-value
engine::unify_in-returns-in-Some-clause-value g t c Δ Σ A B r p q =
    let m = g.T.Terms.means c.unify_twins.new.terms in
    let n = c.args.fuel.now in
    let k = c.spend.new.self in
    let d = c.args.depth in
    let no : A ≢ B = λ e. let z = c.if-same.ensures.1 (p ∙ e ∙ sym q) in cc in
    let some : 0 < n = search rules in
    let at : c.in_ok-after.field-0 ≡ Some c.in-Some.after = search rules in
    let next = unify_reduced (rules_env Δ) (unify (rules_env Δ)) Σ d A B in
    spent (rules_env Δ) Σ d A B n k no some c.if-not-spend.ensures.rest
    ∙ transport (λ o. IsTried (plain_metas m) (rules_env Δ) Σ d A B k c.unify_twins.new.fuel (Ok o)) at (c.in_ok-after.ensures.value Δ Σ A B r p q) next

pub engine::unify_in-returns-in-None-clause-value : goal.engine::unify_in-returns-in-None-clause-value
engine::unify_in-returns-in-None-clause-value g t c Δ Σ A B r p q =
    let h0 = g.T.Terms.holds c.args.terms.now in
    let m0 = g.T.Terms.means c.args.terms.now in
    let h1 = g.T.Terms.holds c.unify_twins.new.terms in
    let m1 = g.T.Terms.means c.unify_twins.new.terms in
    let h = g.T.Terms.holds c.unify_reduced.new.terms in
    let m = g.T.Terms.means c.unify_reduced.new.terms in
    let n = c.args.fuel.now in
    let k = c.spend.new.self in
    let d = c.args.depth in
    let no : A ≢ B = λ e. let z = c.if-same.ensures.1 (p ∙ e ∙ sym q) in cc in
    let some : 0 < n = search rules in
    let at : c.in_ok-after.field-0 ≡ None = search rules in
    let next = unify_reduced (rules_env Δ) (unify (rules_env Δ)) Σ d A B in
    let k1 = c.in_ok-after.ensures.kept in
    let r1 = read_kept h0 m0 h1 m1 k1 c.args.env.now c.args.metas.now Δ Σ c.requires.globals r in
    let p1 = (k1 c.args.a c.requires.a).1 ∙ p in
    let q1 = (k1 c.args.b c.requires.b).1 ∙ q in
    answers_as h m (plain_metas m) (unify (rules_env Δ) Σ d A B n) (next c.unify_twins.new.fuel) c.unify_reduced.new.fuel c.unify_reduced.result
    (spent (rules_env Δ) Σ d A B n k no some c.if-not-spend.ensures.rest
    ∙ transport (λ o. IsTried (plain_metas m1) (rules_env Δ) Σ d A B k c.unify_twins.new.fuel (Ok o)) at (c.in_ok-after.ensures.value Δ Σ A B r p q) next)
    (c.unify_reduced.ensures.value Δ Σ A B r1 p1 q1)

-- ---- unify_twins

pub engine::unify_twins-returns-then-not-is_defined-clause-value : goal.engine::unify_twins-returns-then-not-is_defined-clause-value
engine::unify_twins-returns-then-not-is_defined-clause-value g t c Δ Σ A B r p q next =
    let m0 = g.T.Terms.means c.args.terms.now in
    let no : c.is_defined.result ≡ false = search rules in
    not_defined (rules_env Δ) Σ c.args.depth A B (defined_read m0 c.args.env.now c.args.metas.now Δ Σ c.args.a A c.is_defined.result r p c.is_defined.ensures ∙ no) c.args.fuel.now next

pub engine::unify_twins-returns-in-Some-clause-value : goal.engine::unify_twins-returns-in-Some-clause-value
engine::unify_twins-returns-in-Some-clause-value g t c Δ Σ A B r p q =
    let m0 = g.T.Terms.means c.args.terms.now in
    let h = g.T.Terms.holds c.unify_each.new.terms in
    let m = g.T.Terms.means c.unify_each.new.terms in
    let d = c.args.depth in
    let n = c.args.fuel.now in
    let left = c.unify_each.new.fuel in
    let yes : c.is_defined.result ≡ true = search rules in
    let defined = defined_read m0 c.args.env.now c.args.metas.now Δ Σ c.args.a A c.is_defined.result r p c.is_defined.ensures ∙ yes in
    let at : c.in_ok-pairs.field-0 ≡ Some c.in-Some.pairs = search rules in
    let both = at_some m0 d (m0 c.args.a) (m0 c.args.b) _ c.in_ok-pairs.field-0 c.in-Some.pairs at c.in_ok-pairs.ensures.pairs in
    let like : alike A B ≡ true = ap₂ alike (sym p) (sym q) ∙ both.0 in
    let pairs : pairs_back m0 c.in-Some.pairs.items ≡ part_pairs d A B = both.1 ∙ ap₂ (part_pairs d) p q in
    given_up (rules_env Δ) Σ d A B h m (plain_metas m) n left c.unify_each.result c.given_up.result defined like
    (transport (λ ps. Answers h m (plain_metas m) (unify_each (unify (rules_env Δ)) Σ ps n) left c.unify_each.result) pairs (c.unify_each.ensures.value Δ Σ r))
    c.given_up.ensures

pub engine::unify_twins-returns-in-None-clause-value : goal.engine::unify_twins-returns-in-None-clause-value
engine::unify_twins-returns-in-None-clause-value g t c Δ Σ A B r p q next =
    let m0 = g.T.Terms.means c.args.terms.now in
    let yes : c.is_defined.result ≡ true = search rules in
    let defined = defined_read m0 c.args.env.now c.args.metas.now Δ Σ c.args.a A c.is_defined.result r p c.is_defined.ensures ∙ yes in
    let at : c.in_ok-pairs.field-0 ≡ None = search rules in
    not_alike (rules_env Δ) Σ c.args.depth A B defined (ap₂ alike (sym p) (sym q) ∙ at_none m0 c.args.depth (m0 c.args.a) (m0 c.args.b) _ c.in_ok-pairs.field-0 at c.in_ok-pairs.ensures.pairs) c.args.fuel.now next

-- ---- unify_reduced

pub engine::unify_reduced-returns-in_err-a-clause-value : goal.engine::unify_reduced-returns-in_err-a-clause-value
engine::unify_reduced-returns-in_err-a-clause-value g t c Δ Σ A B r p q =
    let m0 = g.T.Terms.means c.args.terms.now in
    let h = g.T.Terms.holds c.whnf.new.terms in
    let m = g.T.Terms.means c.whnf.new.terms in
    let env = read_reach m0 c.args.env.now c.args.metas.now Δ Σ r in
    let x = c.in_err-a.field-0.0 in
    fails h m (plain_metas m) (unify_reduced (rules_env Δ) (unify (rules_env Δ)) Σ c.args.depth A B c.args.fuel.now) (kernel_step (whnf (reach (rules_env Δ) Σ) A) c.args.fuel.now) _ c.whnf.new.fuel c.from_residual.result (halt_fault x) refl c.from_residual.ensures.1
    (halt_shows h m m (whnf (reach (rules_env Δ) Σ) A c.args.fuel.now) c.whnf.new.fuel x
    (transport (λ o. IsAnswer m o c.whnf.new.fuel (Err x)) (ap₂ (λ E u. whnf E u c.args.fuel.now) env p) c.in_err-a.ensures.value))

pub engine::unify_reduced-returns-in_err-b-clause-value : goal.engine::unify_reduced-returns-in_err-b-clause-value
engine::unify_reduced-returns-in_err-b-clause-value g t c Δ Σ A B r p q =
    let h0 = g.T.Terms.holds c.args.terms.now in
    let m0 = g.T.Terms.means c.args.terms.now in
    let h1 = g.T.Terms.holds c.whnf.new.terms in
    let m1 = g.T.Terms.means c.whnf.new.terms in
    let h = g.T.Terms.holds c.whnf-2.new.terms in
    let m = g.T.Terms.means c.whnf-2.new.terms in
    let d = c.args.depth in
    let n = c.args.fuel.now in
    let k = c.whnf.new.fuel in
    let k1 = c.in_ok-a.ensures.kept in
    let r1 = read_kept h0 m0 h1 m1 k1 c.args.env.now c.args.metas.now Δ Σ c.requires.globals r in
    let q1 = (k1 c.args.b c.requires.b).1 ∙ q in
    let env = read_reach m0 c.args.env.now c.args.metas.now Δ Σ r in
    let env1 = read_reach m1 c.args.env.now c.args.metas.now Δ Σ r1 in
    let R = reach (rules_env Δ) Σ in
    let F = m1 c.in_ok-a.a in
    let first : kernel_step (whnf R A) n ≡ Gave F k = ap (λ o. ran Kernel o) (sym (ap₂ (λ E u. whnf E u n) env p) ∙ c.in_ok-a.ensures.value) in
    let x = c.in_err-b.field-0.0 in
    fails h m (plain_metas m) (unify_reduced (rules_env Δ) (unify (rules_env Δ)) Σ d A B n) (kernel_step (whnf R B) k) (λ b'. unify_forms (rules_env Δ) (unify (rules_env Δ)) Σ d F b') c.whnf-2.new.fuel c.from_residual-in_err-b.result (halt_fault x)
    (after (kernel_step (whnf R A) n) F k _ first) c.from_residual-in_err-b.ensures.1
    (halt_shows h m m (whnf R B k) c.whnf-2.new.fuel x (transport (λ o. IsAnswer m o c.whnf-2.new.fuel (Err x)) (ap₂ (λ E u. whnf E u k) env1 q1) c.in_err-b.ensures.value))

pub engine::unify_reduced-returns-clause-value : goal.engine::unify_reduced-returns-clause-value
engine::unify_reduced-returns-clause-value g t c Δ Σ A B r p q =
    let h0 = g.T.Terms.holds c.args.terms.now in
    let m0 = g.T.Terms.means c.args.terms.now in
    let h1 = g.T.Terms.holds c.whnf.new.terms in
    let m1 = g.T.Terms.means c.whnf.new.terms in
    let h2 = g.T.Terms.holds c.whnf-2.new.terms in
    let m2 = g.T.Terms.means c.whnf-2.new.terms in
    let h = g.T.Terms.holds c.unify_forms.new.terms in
    let m = g.T.Terms.means c.unify_forms.new.terms in
    let d = c.args.depth in
    let n = c.args.fuel.now in
    let k = c.whnf.new.fuel in
    let j = c.whnf-2.new.fuel in
    let k1 = c.in_ok-a.ensures.kept in
    let k2 = c.in_ok-b.ensures.kept in
    let r1 = read_kept h0 m0 h1 m1 k1 c.args.env.now c.args.metas.now Δ Σ c.requires.globals r in
    let r2 = read_kept h1 m1 h2 m2 k2 c.args.env.now c.args.metas.now Δ Σ (globals_kept h0 m0 h1 m1 k1 c.args.env.now c.args.metas.now c.requires.globals) r1 in
    let q1 = (k1 c.args.b c.requires.b).1 ∙ q in
    let env = read_reach m0 c.args.env.now c.args.metas.now Δ Σ r in
    let env1 = read_reach m1 c.args.env.now c.args.metas.now Δ Σ r1 in
    let R = reach (rules_env Δ) Σ in
    let F = m1 c.in_ok-a.a in
    let G = m2 c.in_ok-b.b in
    let first : kernel_step (whnf R A) n ≡ Gave F k = ap (λ o. ran Kernel o) (sym (ap₂ (λ E u. whnf E u n) env p) ∙ c.in_ok-a.ensures.value) in
    let second : kernel_step (whnf R B) k ≡ Gave G j = ap (λ o. ran Kernel o) (sym (ap₂ (λ E u. whnf E u k) env1 q1) ∙ c.in_ok-b.ensures.value) in
    answers_as h m (plain_metas m) (unify_reduced (rules_env Δ) (unify (rules_env Δ)) Σ d A B n) (unify_forms (rules_env Δ) (unify (rules_env Δ)) Σ d F G j) c.unify_forms.new.fuel c.unify_forms.result
    (after (kernel_step (whnf R A) n) F k _ first ∙ after (kernel_step (whnf R B) k) G j (λ b'. unify_forms (rules_env Δ) (unify (rules_env Δ)) Σ d F b') second)
    (c.unify_forms.ensures.value Δ Σ F G r2 (k2 c.in_ok-a.a c.in_ok-a.ensures.held).1 refl)

-- ---- unify_forms

pub engine::unify_forms-returns-clause-value : goal.engine::unify_forms-returns-clause-value
engine::unify_forms-returns-clause-value g t c Δ Σ A B r p q =
    let m0 = g.T.Terms.means c.args.terms.now in
    let h = g.T.Terms.holds c.unify_planned.new.terms in
    let m = g.T.Terms.means c.unify_planned.new.terms in
    let d = c.args.depth in
    let n = c.args.fuel.now in
    let first = c.in_ok-first.ensures ∙ ap₂ side r.metas_are p in
    let second = c.in_ok-second.ensures ∙ ap₂ side r.metas_are q in
    let planned_as = c.plan_for.ensures ∙ ap₂ plan first second in
    answers_as h m (plain_metas m) (unify_forms (rules_env Δ) (unify (rules_env Δ)) Σ d A B n) (planned (rules_env Δ) Σ d A B (plain_plan c.plan_for.result) n) c.unify_planned.new.fuel c.unify_planned.result
    (forms_planned (rules_env Δ) Σ d A B n ∙ ap (λ x. planned (rules_env Δ) Σ d A B x n) (sym planned_as))
    (c.unify_planned.ensures.value Δ Σ A B r p q)

-- ---- unify_planned

pub engine::unify_planned-returns-in-Parts-clause-value : goal.engine::unify_planned-returns-in-Parts-clause-value
engine::unify_planned-returns-in-Parts-clause-value g t c Δ Σ A B r p q =
    let h = g.T.Terms.holds c.unify_parts.new.terms in
    let m = g.T.Terms.means c.unify_parts.new.terms in
    transport (λ x. Answers h m (plain_metas m) (planned (rules_env Δ) Σ c.args.depth A B (plain_plan x) c.args.fuel.now) c.unify_parts.new.fuel c.unify_parts.result) (sym c.in-Parts.is) (c.unify_parts.ensures.value Δ Σ A B r p q)

pub engine::unify_planned-returns-in-SolveFirst-clause-value : goal.engine::unify_planned-returns-in-SolveFirst-clause-value
engine::unify_planned-returns-in-SolveFirst-clause-value g t c Δ Σ A B r p q =
    let h = g.T.Terms.holds c.solve.new.terms in
    let m = g.T.Terms.means c.solve.new.terms in
    transport (λ x. Answers h m (plain_metas m) (planned (rules_env Δ) Σ c.args.depth A B (plain_plan x) c.args.fuel.now) c.solve.new.fuel c.solve.result) (sym c.in-SolveFirst.is) (c.solve.ensures.value Δ Σ B r q)

pub engine::unify_planned-returns-in-SolveSecond-clause-value : goal.engine::unify_planned-returns-in-SolveSecond-clause-value
engine::unify_planned-returns-in-SolveSecond-clause-value g t c Δ Σ A B r p q =
    let h = g.T.Terms.holds c.solve-in-SolveSecond.new.terms in
    let m = g.T.Terms.means c.solve-in-SolveSecond.new.terms in
    transport (λ x. Answers h m (plain_metas m) (planned (rules_env Δ) Σ c.args.depth A B (plain_plan x) c.args.fuel.now) c.solve-in-SolveSecond.new.fuel c.solve-in-SolveSecond.result) (sym c.in-SolveSecond.is) (c.solve-in-SolveSecond.ensures.value Δ Σ A r p)

-- ---- unify_parts

pub engine::unify_parts-returns-in-Some-clause-value : goal.engine::unify_parts-returns-in-Some-clause-value
engine::unify_parts-returns-in-Some-clause-value g t c Δ Σ A B r p q =
    let m0 = g.T.Terms.means c.args.terms.now in
    let h = g.T.Terms.holds c.unify_each.new.terms in
    let m = g.T.Terms.means c.unify_each.new.terms in
    let d = c.args.depth in
    let n = c.args.fuel.now in
    let at : c.in_ok-pairs.field-0 ≡ Some c.in-Some.pairs = search rules in
    let both = at_some m0 d (m0 c.args.a) (m0 c.args.b) _ c.in_ok-pairs.field-0 c.in-Some.pairs at c.in_ok-pairs.ensures.pairs in
    let like : alike A B ≡ true = ap₂ alike (sym p) (sym q) ∙ both.0 in
    let pairs : pairs_back m0 c.in-Some.pairs.items ≡ part_pairs d A B = both.1 ∙ ap₂ (part_pairs d) p q in
    answers_as h m (plain_metas m) (unify_parts (unify (rules_env Δ)) Σ d A B n) (unify_each (unify (rules_env Δ)) Σ (pairs_back m0 c.in-Some.pairs.items) n) c.unify_each.new.fuel c.unify_each.result
    (alike_parts (rules_env Δ) Σ d A B n like ∙ ap (λ ps. unify_each (unify (rules_env Δ)) Σ ps n) (sym pairs))
    (c.unify_each.ensures.value Δ Σ r)

pub engine::unify_parts-returns-in-None-clause-value : goal.engine::unify_parts-returns-in-None-clause-value
engine::unify_parts-returns-in-None-clause-value g t c Δ Σ A B r p q =
    let m0 = g.T.Terms.means c.args.terms.now in
    let d = c.args.depth in
    let n = c.args.fuel.now in
    let at : c.in_ok-pairs.field-0 ≡ None = search rules in
    (other_heads (rules_env Δ) Σ d A B n (ap₂ alike (sym p) (sym q) ∙ at_none m0 d (m0 c.args.a) (m0 c.args.b) _ c.in_ok-pairs.field-0 at c.in_ok-pairs.ensures.pairs) ∙ ap₂ (λ x y. Refused (Mismatch d x y) n) (sym p) (sym q), c.requires.a, c.requires.b)

-- ---- unify_each

pub engine::unify_each-returns-in_err-after-2-clause-value : goal.engine::unify_each-returns-in_err-after-2-clause-value
engine::unify_each-returns-in_err-after-2-clause-value g t c Δ Σ r =
    let h0 = g.T.Terms.holds c.args.terms.now in
    let m0 = g.T.Terms.means c.args.terms.now in
    let hl = g.T.Terms.holds c.loop-pair.terms in
    let ml = g.T.Terms.means c.loop-pair.terms in
    let h = g.T.Terms.holds c.unify_in.new.terms in
    let m = g.T.Terms.means c.unify_in.new.terms in
    let inv = c.loop-pair.invariant in
    let pair = c.in-Some.pair in
    let rest = c.pop.new.self.items in
    let items : c.loop-pair.pairs.items ≡ rest ++ pair ∷ [] = c.in-Some.ensures.items in
    let held = all_popped (IsPairHeld h0) c.loop-pair.pairs.items rest pair items inv.pairs_held in
    let rl = read_next h0 m0 hl ml inv.kept c.loop-pair.after c.requires.globals r in
    let U = plain_metas ml c.loop-pair.after in
    let n = c.loop-pair.fuel in
    let x = c.in_err-after-2.field-0.0 in
    fails h m (plain_metas m) (unify_each (unify (rules_env Δ)) Σ (pairs_back m0 c.args.pairs.items) c.args.fuel.now) (unify (rules_env Δ) U pair.depth (m0 pair.found) (m0 pair.wanted) n) (λ more. unify_each (unify (rules_env Δ)) more (pairs_back m0 rest)) c.unify_in.new.fuel c.from_residual-in_err-after-2.result x
    (inv.goes Δ Σ r ∙ each_turn m0 (rules_env Δ) U c.loop-pair.pairs.items rest pair n items) c.from_residual-in_err-after-2.ensures.1
    (c.in_err-after-2.ensures.value Δ U (m0 pair.found) (m0 pair.wanted) rl (inv.kept pair.found held.1.0).1 (inv.kept pair.wanted held.1.1).1)

pub engine::unify_each-loop-pair-preserved : goal.engine::unify_each-loop-pair-preserved
engine::unify_each-loop-pair-preserved g t c =
    let h0 = g.T.Terms.holds c.args.terms.now in
    let m0 = g.T.Terms.means c.args.terms.now in
    let hl = g.T.Terms.holds c.loop-pair.terms in
    let ml = g.T.Terms.means c.loop-pair.terms in
    let h = g.T.Terms.holds c.unify_in.new.terms in
    let m = g.T.Terms.means c.unify_in.new.terms in
    let inv = c.loop-pair.invariant in
    let pair = c.in-Some.pair in
    let rest = c.pop.new.self.items in
    let items : c.loop-pair.pairs.items ≡ rest ++ pair ∷ [] = c.in-Some.ensures.items in
    let held = all_popped (IsPairHeld h0) c.loop-pair.pairs.items rest pair items inv.pairs_held in
    record {
      kept = keeps_both h0 m0 hl ml h m inv.kept c.in_ok-after-2.ensures.kept;
      less = omega (arith, inv.less, c.in_ok-after-2.ensures.less);
      metas_held = c.in_ok-after-2.ensures.held;
      pairs_held = held.0;
      goes = λ Δ Σ r.
          let rl = read_next h0 m0 hl ml inv.kept c.loop-pair.after c.requires.globals r in
          let U = plain_metas ml c.loop-pair.after in
          let n = c.loop-pair.fuel in
          inv.goes Δ Σ r ∙ each_turn m0 (rules_env Δ) U c.loop-pair.pairs.items rest pair n items
          ∙ after (unify (rules_env Δ) U pair.depth (m0 pair.found) (m0 pair.wanted) n) _ c.unify_in.new.fuel (λ more. unify_each (unify (rules_env Δ)) more (pairs_back m0 rest))
          (c.in_ok-after-2.ensures.value Δ U (m0 pair.found) (m0 pair.wanted) rl (inv.kept pair.found held.1.0).1 (inv.kept pair.wanted held.1.1).1);
    }

pub engine::unify_each-returns-clause-value : goal.engine::unify_each-returns-clause-value
engine::unify_each-returns-clause-value g t c Δ Σ r =
    let m0 = g.T.Terms.means c.args.terms.now in
    let ml = g.T.Terms.means c.loop-pair.terms in
    let inv = c.loop-pair.invariant in
    let ends : c.loop-pair.pairs.items ≡ [] = search rules in
    inv.goes Δ Σ r ∙ each_ends m0 (rules_env Δ) (plain_metas ml c.loop-pair.after) c.loop-pair.pairs.items c.loop-pair.fuel ends

-- ---- solve

pub solving::solve-returns-in-Nowhere-clause-value : goal.solving::solve-returns-in-Nowhere-clause-value
solving::solve-returns-in-Nowhere-clause-value g t c Δ Σ x r f =
    let m0 = g.T.Terms.means c.args.terms.now in
    let h = g.T.Terms.holds c.solve_outright.new.terms in
    let m = g.T.Terms.means c.solve_outright.new.terms in
    let vs = variables_of c.args.args.now.variables.items in
    let at : c.in_ok-first_bad.field-0 ≡ stored.Nowhere = search rules in
    let here : spot (rules_env Δ) c.args.depth c.args.m vs Σ x ≡ Nowhere = sym (sym (ap plain_spot at) ∙ c.in_ok-first_bad.ensures ∙ ap₂ (λ (S : Plain) (u : Term). spot (rules_env Δ) c.args.depth c.args.m vs S u) r.metas_are f) in
    answers_as h m (plain_metas m) _ _ c.solve_outright.new.fuel c.solve_outright.result
    (outright (rules_env Δ) c.args.depth c.args.m vs Σ x c.args.fuel.now here) (c.solve_outright.ensures.value Δ Σ x r f)

pub solving::solve-returns-in-Outside-clause-value : goal.solving::solve-returns-in-Outside-clause-value
solving::solve-returns-in-Outside-clause-value g t c Δ Σ x r f =
    let vs = variables_of c.args.args.now.variables.items in
    let n = c.args.fuel.now in
    let at : c.in_ok-first_bad.field-0 ≡ stored.Outside c.in-Outside.i = search rules in
    let here : spot (rules_env Δ) c.args.depth c.args.m vs Σ x ≡ Outside c.in-Outside.i = sym (sym (ap plain_spot at) ∙ c.in_ok-first_bad.ensures ∙ ap₂ (λ (S : Plain) (u : Term). spot (rules_env Δ) c.args.depth c.args.m vs S u) r.metas_are f) in
    outside (rules_env Δ) c.args.depth c.args.m vs Σ x n c.in-Outside.i here ∙ ap (λ (k : ℕ). Refused (Scope c.args.m k) n) (sym c.level_of.ensures)

pub solving::solve-solve_pruned-requires : goal.solving::solve-solve_pruned-requires
solving::solve-solve_pruned-requires g t c κs within =
    let m0 = g.T.Terms.means c.args.terms.now in
    let vs = variables_of c.args.args.now.variables.items in
    let at : c.in_ok-first_bad.field-0 ≡ stored.Inside c.in-Inside.i c.in-Inside.p c.in-Inside.marks = search rules in
    let occurs : 1 ≤ occurrences c.in-Inside.p (m0 c.args.h) =
    occurs_inside [] c.args.depth c.args.m vs (plain_metas m0 c.args.metas.now) (m0 c.args.h) c.in-Inside.i c.in-Inside.p c.in-Inside.marks.items (sym (sym (ap plain_spot at) ∙ c.in_ok-first_bad.ensures)) in
    search rules

pub solving::solve-returns-in-Inside-clause-value : goal.solving::solve-returns-in-Inside-clause-value
solving::solve-returns-in-Inside-clause-value g t c Δ Σ x r f =
    let h = g.T.Terms.holds c.solve_pruned.new.terms in
    let m = g.T.Terms.means c.solve_pruned.new.terms in
    let vs = variables_of c.args.args.now.variables.items in
    let n = c.args.fuel.now in
    let marks : c.deref.result.now ≡ c.in-Inside.marks.items = search rules in
    let at : c.in_ok-first_bad.field-0 ≡ stored.Inside c.in-Inside.i c.in-Inside.p c.in-Inside.marks = search rules in
    let here : spot (rules_env Δ) c.args.depth c.args.m vs Σ x ≡ Inside c.in-Inside.i c.in-Inside.p c.deref.result.now =
    sym (sym (ap plain_spot at) ∙ c.in_ok-first_bad.ensures ∙ ap₂ (λ (S : Plain) (u : Term). spot (rules_env Δ) c.args.depth c.args.m vs S u) r.metas_are f) ∙ ap (λ (bs : List Bool). Inside c.in-Inside.i c.in-Inside.p bs) (sym marks) in
    answers_as h m (plain_metas m) _ _ c.solve_pruned.new.fuel c.solve_pruned.result
    (inside (rules_env Δ) c.args.depth c.args.m vs Σ x n c.in-Inside.i c.in-Inside.p c.deref.result.now here) (c.solve_pruned.ensures.value Δ Σ x r f)

-- ---- solve_outright

pub solving::solve_outright-returns-clause-value : goal.solving::solve_outright-returns-clause-value
solving::solve_outright-returns-clause-value g t c Δ Σ x r f =
    let h0 = g.T.Terms.holds c.args.terms.now in
    let m0 = g.T.Terms.means c.args.terms.now in
    let h1 = g.T.Terms.holds c.rename.new.terms in
    let m1 = g.T.Terms.means c.rename.new.terms in
    let vs = variables_of c.args.args.now.variables.items in
    let r1 = read_kept h0 m0 h1 m1 c.in_ok-value.ensures.kept c.args.env.now c.args.metas.now Δ Σ c.requires.globals r in
    c.settle_in.ensures.value Δ Σ (inverse vs x) r1 (c.in_ok-value.ensures.tree ∙ ap (inverse vs) f)

-- ---- solve_pruned

pub solving::solve_pruned-returns-then-p-m-clause-value : goal.solving::solve_pruned-returns-then-p-m-clause-value
solving::solve_pruned-returns-then-p-m-clause-value g t c Δ Σ x r f =
    let vs = variables_of c.args.args.now.variables.items in
    let n = c.args.fuel.now in
    let same : c.args.p ≡ c.args.m = search rules in
    itself (rules_env Δ) c.args.depth c.args.m vs Σ x n c.args.i c.args.p c.args.marks.now same ∙ ap (λ (k : ℕ). Refused (Scope c.args.m k) n) (sym c.level_of-level.ensures)

pub solving::solve_pruned-returns-in_err-after-clause-value : goal.solving::solve_pruned-returns-in_err-after-clause-value
solving::solve_pruned-returns-in_err-after-clause-value g t c Δ Σ x r f =
    let h = g.T.Terms.holds c.prune.new.terms in
    let m = g.T.Terms.means c.prune.new.terms in
    let vs = variables_of c.args.args.now.variables.items in
    let n = c.args.fuel.now in
    let d = c.args.depth in
    let k = c.args.m in
    let go = on (rules_env Δ) d k vs Σ x in
    let other : ¬ (c.args.p ≡ k) = λ e. search rules in
    fails_last h m (plain_metas m) _ (pruned (rules_env Δ) (unify (rules_env Δ)) Σ (Scope k c.level_of-level.result) c.args.p c.args.marks.now x go n) c.prune.new.fuel c.from_residual.result c.in_err-after.field-0.0
    (another (rules_env Δ) d k vs Σ x n c.args.i c.args.p c.args.marks.now other ∙ ap (λ (l : ℕ). pruned (rules_env Δ) (unify (rules_env Δ)) Σ (Scope k l) c.args.p c.args.marks.now x go n) (sym c.level_of-level.ensures))
    c.from_residual.ensures.1 (c.in_err-after.ensures.value Δ Σ x r f go)

pub solving::solve_pruned-returns-clause-value : goal.solving::solve_pruned-returns-clause-value
solving::solve_pruned-returns-clause-value g t c Δ Σ x r f =
    let h0 = g.T.Terms.holds c.args.terms.now in
    let m0 = g.T.Terms.means c.args.terms.now in
    let h1 = g.T.Terms.holds c.prune.new.terms in
    let m1 = g.T.Terms.means c.prune.new.terms in
    let h = g.T.Terms.holds c.solve.new.terms in
    let m = g.T.Terms.means c.solve.new.terms in
    let vs = variables_of c.args.args.now.variables.items in
    let n = c.args.fuel.now in
    let d = c.args.depth in
    let k = c.args.m in
    let go = on (rules_env Δ) d k vs Σ x in
    let other : ¬ (c.args.p ≡ k) = λ e. search rules in
    let after = c.in_ok-after.after in
    let next = c.in_ok-after.pruned in
    let r1 = read_next h0 m0 h1 m1 c.in_ok-after.ensures.kept after c.requires.globals r in
    answers_as h m (plain_metas m) _ (go (plain_metas m1 after) (m1 next) c.prune.new.fuel) c.solve.new.fuel c.solve.result
    (another (rules_env Δ) d k vs Σ x n c.args.i c.args.p c.args.marks.now other ∙ ap (λ (l : ℕ). pruned (rules_env Δ) (unify (rules_env Δ)) Σ (Scope k l) c.args.p c.args.marks.now x go n) (sym c.level_of-level.ensures)
    ∙ c.in_ok-after.ensures.value Δ Σ x r f go)
    (c.solve.ensures.value Δ (plain_metas m1 after) (m1 next) r1 refl)

-- ---- prune

pub solving::prune-returns-in_err-flags-in-Some-clause-value : goal.solving::prune-returns-in_err-flags-in-Some-clause-value
solving::prune-returns-in_err-flags-in-Some-clause-value g t c Δ Σ x r f =
    let h = g.T.Terms.holds c.args.terms.now in
    let m = g.T.Terms.means c.args.terms.now in
    goes_out h m (λ again. prunes (rules_env Δ) Σ (Scope c.args.m c.args.level) c.args.p c.args.marks.now x again c.args.fuel.now) c.args.fuel.now c.from_residual.result c.from_residual.ensures.1

pub solving::prune-returns-in_err-holds_only_kept-in-Some-clause-value : goal.solving::prune-returns-in_err-holds_only_kept-in-Some-clause-value
solving::prune-returns-in_err-holds_only_kept-in-Some-clause-value g t c Δ Σ x r f =
    let h = g.T.Terms.holds c.args.terms.now in
    let m = g.T.Terms.means c.args.terms.now in
    goes_out h m (λ again. prunes (rules_env Δ) Σ (Scope c.args.m c.args.level) c.args.p c.args.marks.now x again c.args.fuel.now) c.args.fuel.now c.from_residual-in_err-holds_only_kept-in-Some.result c.from_residual-in_err-holds_only_kept-in-Some.ensures.1

pub solving::prune-returns-then-not-branch-clause-value : goal.solving::prune-returns-then-not-branch-clause-value
solving::prune-returns-then-not-branch-clause-value g t c Δ Σ x r f again =
    let m0 = g.T.Terms.means c.args.terms.now in
    let y = c.in-Some.decl.now in
    let d = plain_decl m0 y in
    let there = decl_read m0 c.args.metas.now Σ c.args.p y r.metas_are (sym c.in-Some.ensures) in
    let flags = kept_entries c.args.marks.now d.ctx [] in
    let first : c.deref.result.now ≡ flags = search rules in
    let no : c.in_ok-holds_only_kept-in-Some.field-0 ≡ false = search rules in
    type_holds (rules_env Δ) Σ (Scope c.args.m c.args.level) c.args.p c.args.marks.now x c.args.fuel.now d there again
    (ap (λ (bs : List Bool). holds_only (is_kept (reverse bs)) 0 d.ty) (sym first) ∙ sym c.in_ok-holds_only_kept-in-Some.ensures ∙ no)

pub solving::prune-shrink-requires-clause-names : goal.solving::prune-shrink-requires-clause-names
solving::prune-shrink-requires-clause-names g t c =
    transport (λ ls. IsContext (names_of ls)) (sym c.as_slice-ctx.ensures) (declared_at c.args.metas.now c.args.p c.in-Some.decl.now c.next-count.ensures.facts (sym c.in-Some.ensures))

pub solving::prune-shrink-requires-clause-ty : goal.solving::prune-shrink-requires-clause-ty
solving::prune-shrink-requires-clause-ty g t c =
    let h0 = g.T.Terms.holds c.args.terms.now in
    let d = decl_found_held h0 c.args.metas.now c.args.p c.in-Some.decl.now c.requires.globals.metas_held (sym c.in-Some.ensures) in
    d.ty

pub solving::prune-returns-in_err-more-in-Some-clause-value : goal.solving::prune-returns-in_err-more-in-Some-clause-value
solving::prune-returns-in_err-more-in-Some-clause-value g t c Δ Σ x r f =
    let h0 = g.T.Terms.holds c.args.terms.now in
    let m0 = g.T.Terms.means c.args.terms.now in
    let h1 = g.T.Terms.holds c.shrink.new.terms in
    let m1 = g.T.Terms.means c.shrink.new.terms in
    let n = c.args.fuel.now in
    let k = c.shrink.new.fuel in
    let y = c.in-Some.decl.now in
    let d = plain_decl m0 y in
    let there = decl_read m0 c.args.metas.now Σ c.args.p y r.metas_are (sym c.in-Some.ensures) in
    let flags = kept_entries c.args.marks.now d.ctx [] in
    let ctx = ap (plain_locals m0) c.as_slice-ctx.ensures in
    let first : c.deref.result.now ≡ flags = search rules in
    let second : c.deref-in-Some.result.now ≡ flags = search rules in
    let yes : c.in_ok-holds_only_kept-in-Some.field-0 ≡ true = search rules in
    let q = Scope c.args.m c.args.level in
    let kept = ap (λ (bs : List Bool). holds_only (is_kept (reverse bs)) 0 d.ty) (sym first) ∙ sym c.in_ok-holds_only_kept-in-Some.ensures ∙ yes in
    let e = c.in_err-more-in-Some.field-0.0 in
    goes_wrong h1 m1 (λ again. prunes (rules_env Δ) Σ q c.args.p c.args.marks.now x again n) k c.from_residual-in_err-more-in-Some.result e c.from_residual-in_err-more-in-Some.ensures.1
    (λ again. transport (λ o. Shows h1 m1 o k e) (sym (prunes_on (rules_env Δ) Σ q c.args.p c.args.marks.now x n d there again kept))
    (shows_more h1 m1 (shrunk (rules_env Δ) Σ flags d.ctx d.ty n) (prune_on (rules_env Δ) Σ q c.args.p c.args.marks.now x n d there again) k e
    (transport (λ (bs : List Bool). Shows h1 m1 (shrunk (rules_env Δ) Σ bs d.ctx d.ty n) k e) second (c.in_err-more-in-Some.ensures.value Δ Σ d.ctx d.ty r ctx refl))))

pub solving::prune-returns-in_err-after-in-Some-clause-value : goal.solving::prune-returns-in_err-after-in-Some-clause-value
solving::prune-returns-in_err-after-in-Some-clause-value g t c Δ Σ x r f =
    let h0 = g.T.Terms.holds c.args.terms.now in
    let m0 = g.T.Terms.means c.args.terms.now in
    let h1 = g.T.Terms.holds c.shrink.new.terms in
    let m1 = g.T.Terms.means c.shrink.new.terms in
    let n = c.args.fuel.now in
    let k = c.shrink.new.fuel in
    let y = c.in-Some.decl.now in
    let d = plain_decl m0 y in
    let there = decl_read m0 c.args.metas.now Σ c.args.p y r.metas_are (sym c.in-Some.ensures) in
    let flags = kept_entries c.args.marks.now d.ctx [] in
    let ctx = ap (plain_locals m0) c.as_slice-ctx.ensures in
    let first : c.deref.result.now ≡ flags = search rules in
    let second : c.deref-in-Some.result.now ≡ flags = search rules in
    let yes : c.in_ok-holds_only_kept-in-Some.field-0 ≡ true = search rules in
    let q = Scope c.args.m c.args.level in
    let kept = ap (λ (bs : List Bool). holds_only (is_kept (reverse bs)) 0 d.ty) (sym first) ∙ sym c.in_ok-holds_only_kept-in-Some.ensures ∙ yes in
    let more = c.in_ok-more-in-Some.more in
    let value = c.in_ok-more-in-Some.value in
    let W : Plain × Term = (plain_metas m1 more, m1 value) in
    let made : shrunk (rules_env Δ) Σ flags d.ctx d.ty n ≡ Gave W k = transport (λ (bs : List Bool). shrunk (rules_env Δ) Σ bs d.ctx d.ty n ≡ Gave W k) second (c.in_ok-more-in-Some.ensures.value Δ Σ d.ctx d.ty r ctx refl) in
    let r1 = read_next h0 m0 h1 m1 c.in_ok-more-in-Some.ensures.kept more c.requires.globals r in
    let h = g.T.Terms.holds c.settle_in.new.terms in
    let m = g.T.Terms.means c.settle_in.new.terms in
    let e = c.in_err-after-in-Some.field-0.0 in
    goes_wrong h m (λ again. prunes (rules_env Δ) Σ q c.args.p c.args.marks.now x again n) c.settle_in.new.fuel c.from_residual-in_err-after-in-Some.result e c.from_residual-in_err-after-in-Some.ensures.1
    (λ again. transport (λ o. Shows h m o c.settle_in.new.fuel e)
    (sym (prunes_on (rules_env Δ) Σ q c.args.p c.args.marks.now x n d there again kept ∙ after (shrunk (rules_env Δ) Σ flags d.ctx d.ty n) W k (prune_on (rules_env Δ) Σ q c.args.p c.args.marks.now x n d there again) made))
    (shows_more h m (settle (rules_env Δ) (plain_metas m1 more) c.args.p (m1 value) k) (λ after. spend_each (occurrences c.args.p x) >> again after (replace c.args.p (m1 value) x)) c.settle_in.new.fuel e
    (c.in_err-after-in-Some.ensures.value Δ (plain_metas m1 more) (m1 value) r1 refl)))

pub solving::prune-returns-then-not-spend_occurrences-clause-value : goal.solving::prune-returns-then-not-spend_occurrences-clause-value
solving::prune-returns-then-not-spend_occurrences-clause-value g t c Δ Σ x r f again =
    let h0 = g.T.Terms.holds c.args.terms.now in
    let m0 = g.T.Terms.means c.args.terms.now in
    let h1 = g.T.Terms.holds c.shrink.new.terms in
    let m1 = g.T.Terms.means c.shrink.new.terms in
    let n = c.args.fuel.now in
    let k = c.shrink.new.fuel in
    let y = c.in-Some.decl.now in
    let d = plain_decl m0 y in
    let there = decl_read m0 c.args.metas.now Σ c.args.p y r.metas_are (sym c.in-Some.ensures) in
    let flags = kept_entries c.args.marks.now d.ctx [] in
    let ctx = ap (plain_locals m0) c.as_slice-ctx.ensures in
    let first : c.deref.result.now ≡ flags = search rules in
    let second : c.deref-in-Some.result.now ≡ flags = search rules in
    let yes : c.in_ok-holds_only_kept-in-Some.field-0 ≡ true = search rules in
    let q = Scope c.args.m c.args.level in
    let kept = ap (λ (bs : List Bool). holds_only (is_kept (reverse bs)) 0 d.ty) (sym first) ∙ sym c.in_ok-holds_only_kept-in-Some.ensures ∙ yes in
    let more = c.in_ok-more-in-Some.more in
    let value = c.in_ok-more-in-Some.value in
    let W : Plain × Term = (plain_metas m1 more, m1 value) in
    let made : shrunk (rules_env Δ) Σ flags d.ctx d.ty n ≡ Gave W k = transport (λ (bs : List Bool). shrunk (rules_env Δ) Σ bs d.ctx d.ty n ≡ Gave W k) second (c.in_ok-more-in-Some.ensures.value Δ Σ d.ctx d.ty r ctx refl) in
    let r1 = read_next h0 m0 h1 m1 c.in_ok-more-in-Some.ensures.kept more c.requires.globals r in
    let h2 = g.T.Terms.holds c.settle_in.new.terms in
    let m2 = g.T.Terms.means c.settle_in.new.terms in
    let j = c.settle_in.new.fuel in
    let U = plain_metas m2 c.in_ok-after-in-Some.after in
    let done : settle (rules_env Δ) (plain_metas m1 more) c.args.p (m1 value) k ≡ Gave U j = c.in_ok-after-in-Some.ensures.value Δ (plain_metas m1 more) (m1 value) r1 refl in
    let k2 = keeps_both h0 m0 h1 m1 h2 m2 c.in_ok-more-in-Some.ensures.kept c.in_ok-after-in-Some.ensures.kept in
    let term : m2 c.args.h ≡ x = (k2 c.args.h c.requires.term).1 ∙ f in
    let so = prunes_on (rules_env Δ) Σ q c.args.p c.args.marks.now x n d there again kept
    ∙ after (shrunk (rules_env Δ) Σ flags d.ctx d.ty n) W k (prune_on (rules_env Δ) Σ q c.args.p c.args.marks.now x n d there again) made
    ∙ after (settle (rules_env Δ) (plain_metas m1 more) c.args.p (m1 value) k) U j (λ after. spend_each (occurrences c.args.p x) >> again after (replace c.args.p (m1 value) x)) done in
    let no : c.spend_occurrences.result ≡ false = search rules in
    let few : IsSpent (occurrences c.args.p x) j c.spend_occurrences.new.fuel false = transport (λ (b : Bool). IsSpent (occurrences c.args.p x) j c.spend_occurrences.new.fuel b) no
    (transport (λ (u : Term). IsSpent (occurrences c.args.p u) j c.spend_occurrences.new.fuel c.spend_occurrences.result) term c.spend_occurrences.ensures) in
    (so ∙ ap (λ o. go_on o (λ _. again U (replace c.args.p (m1 value) x))) (too_few (occurrences c.args.p x) j c.spend_occurrences.new.fuel few), few.1)

pub solving::prune-returns-in_ok-pruned-in-Some-clause-value : goal.solving::prune-returns-in_ok-pruned-in-Some-clause-value
solving::prune-returns-in_ok-pruned-in-Some-clause-value g t c Δ Σ x r f again =
    let h0 = g.T.Terms.holds c.args.terms.now in
    let m0 = g.T.Terms.means c.args.terms.now in
    let h1 = g.T.Terms.holds c.shrink.new.terms in
    let m1 = g.T.Terms.means c.shrink.new.terms in
    let n = c.args.fuel.now in
    let k = c.shrink.new.fuel in
    let y = c.in-Some.decl.now in
    let d = plain_decl m0 y in
    let there = decl_read m0 c.args.metas.now Σ c.args.p y r.metas_are (sym c.in-Some.ensures) in
    let flags = kept_entries c.args.marks.now d.ctx [] in
    let ctx = ap (plain_locals m0) c.as_slice-ctx.ensures in
    let first : c.deref.result.now ≡ flags = search rules in
    let second : c.deref-in-Some.result.now ≡ flags = search rules in
    let yes : c.in_ok-holds_only_kept-in-Some.field-0 ≡ true = search rules in
    let q = Scope c.args.m c.args.level in
    let kept = ap (λ (bs : List Bool). holds_only (is_kept (reverse bs)) 0 d.ty) (sym first) ∙ sym c.in_ok-holds_only_kept-in-Some.ensures ∙ yes in
    let more = c.in_ok-more-in-Some.more in
    let value = c.in_ok-more-in-Some.value in
    let W : Plain × Term = (plain_metas m1 more, m1 value) in
    let made : shrunk (rules_env Δ) Σ flags d.ctx d.ty n ≡ Gave W k = transport (λ (bs : List Bool). shrunk (rules_env Δ) Σ bs d.ctx d.ty n ≡ Gave W k) second (c.in_ok-more-in-Some.ensures.value Δ Σ d.ctx d.ty r ctx refl) in
    let r1 = read_next h0 m0 h1 m1 c.in_ok-more-in-Some.ensures.kept more c.requires.globals r in
    let h2 = g.T.Terms.holds c.settle_in.new.terms in
    let m2 = g.T.Terms.means c.settle_in.new.terms in
    let j = c.settle_in.new.fuel in
    let U = plain_metas m2 c.in_ok-after-in-Some.after in
    let done : settle (rules_env Δ) (plain_metas m1 more) c.args.p (m1 value) k ≡ Gave U j = c.in_ok-after-in-Some.ensures.value Δ (plain_metas m1 more) (m1 value) r1 refl in
    let k2 = keeps_both h0 m0 h1 m1 h2 m2 c.in_ok-more-in-Some.ensures.kept c.in_ok-after-in-Some.ensures.kept in
    let term : m2 c.args.h ≡ x = (k2 c.args.h c.requires.term).1 ∙ f in
    let so = prunes_on (rules_env Δ) Σ q c.args.p c.args.marks.now x n d there again kept
    ∙ after (shrunk (rules_env Δ) Σ flags d.ctx d.ty n) W k (prune_on (rules_env Δ) Σ q c.args.p c.args.marks.now x n d there again) made
    ∙ after (settle (rules_env Δ) (plain_metas m1 more) c.args.p (m1 value) k) U j (λ after. spend_each (occurrences c.args.p x) >> again after (replace c.args.p (m1 value) x)) done in
    let h = g.T.Terms.holds c.replace.new.terms in
    let m = g.T.Terms.means c.replace.new.terms in
    let i = c.spend_occurrences.new.fuel in
    let enough : c.spend_occurrences.result ≡ true = search rules in
    let spent : IsSpent (occurrences c.args.p x) j i true = transport (λ (b : Bool). IsSpent (occurrences c.args.p x) j i b) enough
    (transport (λ (u : Term). IsSpent (occurrences c.args.p u) j i c.spend_occurrences.result) term c.spend_occurrences.ensures) in
    let k3 = c.in_ok-pruned-in-Some.ensures.kept in
    let metas : plain_metas m c.in_ok-after-in-Some.after ≡ U = plain_metas_kept h2 m2 h m k3 c.in_ok-after-in-Some.after c.in_ok-after-in-Some.ensures.held in
    let same = (c.in_ok-after-in-Some.ensures.kept value c.in_ok-more-in-Some.ensures.term).1 in
    let tree : m c.in_ok-pruned-in-Some.pruned ≡ replace c.args.p (m1 value) x = c.in_ok-pruned-in-Some.ensures.tree ∙ ap₂ (replace c.args.p) same term in
    so ∙ ap (λ o. go_on o (λ _. again U (replace c.args.p (m1 value) x))) (spent_each (occurrences c.args.p x) j i spent)
    ∙ ap₂ (λ (S : Plain) (u : Term). again S u i) (sym metas) (sym tree)

pub solving::prune-returns-in_ok-pruned-in-Some-clause-held : goal.solving::prune-returns-in_ok-pruned-in-Some-clause-held
solving::prune-returns-in_ok-pruned-in-Some-clause-held g t c =
    let h2 = g.T.Terms.holds c.settle_in.new.terms in
    let m2 = g.T.Terms.means c.settle_in.new.terms in
    let h = g.T.Terms.holds c.replace.new.terms in
    let m = g.T.Terms.means c.replace.new.terms in
    decls_held h2 m2 h m c.in_ok-pruned-in-Some.ensures.kept c.in_ok-after-in-Some.after c.in_ok-after-in-Some.ensures.held

pub solving::prune-returns-in-None-clause-value : goal.solving::prune-returns-in-None-clause-value
solving::prune-returns-in-None-clause-value g t c Δ Σ x r f again =
    let m0 = g.T.Terms.means c.args.terms.now in
    no_goal (rules_env Δ) Σ (Scope c.args.m c.args.level) c.args.p c.args.marks.now x c.args.fuel.now again (decl_missed m0 c.args.metas.now Σ c.args.p r.metas_are (sym c.in-None.ensures))

-- ---- settle_in

pub solving::settle_in-find_type-requires-clause-context : goal.solving::settle_in-find_type-requires-clause-context
solving::settle_in-find_type-requires-clause-context g t c =
    let h0 = g.T.Terms.holds c.args.terms.now in
    let d = decl_found_held h0 c.args.metas.now c.args.m c.in-Some.decl.now c.requires.globals.metas_held (sym c.in-Some.ensures) in
    transport (AreLocals h0) (sym c.as_slice-ctx.ensures) d.ctx

pub solving::settle_in-find_type-requires-clause-room : goal.solving::settle_in-find_type-requires-clause-room
solving::settle_in-find_type-requires-clause-room g t c =
    transport (λ ls. length ls < 999999000) (sym c.as_slice-ctx.ensures) (room c.in-Some.decl.now.ctx (declared_at c.args.metas.now c.args.m c.in-Some.decl.now c.next-count.ensures.facts (sym c.in-Some.ensures)))

pub solving::settle_in-returns-in_err-found-in-Some-clause-value : goal.solving::settle_in-returns-in_err-found-in-Some-clause-value
solving::settle_in-returns-in_err-found-in-Some-clause-value g t c Δ Σ v r f =
    let m0 = g.T.Terms.means c.args.terms.now in
    let h = g.T.Terms.holds c.find_type.new.terms in
    let m = g.T.Terms.means c.find_type.new.terms in
    let n = c.args.fuel.now in
    let d = plain_decl m0 c.in-Some.decl.now in
    let there = decl_read m0 c.args.metas.now Σ c.args.m c.in-Some.decl.now r.metas_are (sym c.in-Some.ensures) in
    let ctx = ap (plain_locals m0) c.as_slice-ctx.ensures in
    let x = c.in_err-found-in-Some.field-0.0 in
    fails h m (plain_metas m) (settle (rules_env Δ) Σ c.args.m v n) (kernel_step (infer (reach (rules_env Δ) Σ) (rules_ctx d.ctx) v) n) (settle_on (rules_env Δ) Σ c.args.m v n d) c.find_type.new.fuel c.from_residual.result x
    (settle_found (rules_env Δ) Σ c.args.m v n d there) c.from_residual.ensures.1
    (c.in_err-found-in-Some.ensures.value Δ Σ d.ctx v r ctx f)

pub solving::settle_in-overflow_cast-depth : goal.solving::settle_in-overflow_cast-depth
solving::settle_in-overflow_cast-depth g t c =
    let few : length c.as_slice-ctx.result.now < 999999000 = transport (λ ls. length ls < 999999000) (sym c.as_slice-ctx.ensures) (room c.in-Some.decl.now.ctx (declared_at c.args.metas.now c.args.m c.in-Some.decl.now c.next-count.ensures.facts (sym c.in-Some.ensures))) in
    search (rules, arith)

pub solving::settle_in-unify_in-requires : goal.solving::settle_in-unify_in-requires
solving::settle_in-unify_in-requires g t c κs within =
    let h0 = g.T.Terms.holds c.args.terms.now in
    let m0 = g.T.Terms.means c.args.terms.now in
    let h1 = g.T.Terms.holds c.find_type.new.terms in
    let m1 = g.T.Terms.means c.find_type.new.terms in
    let d = decl_found_held h0 c.args.metas.now c.args.m c.in-Some.decl.now c.requires.globals.metas_held (sym c.in-Some.ensures) in
    let kept = c.in_ok-found-in-Some.ensures.kept in
    let wanted = (kept c.in-Some.decl.now.ty d.ty).0 in
    let globals = globals_kept h0 m0 h1 m1 kept c.args.env.now c.args.metas.now c.requires.globals in
    search rules

pub solving::settle_in-returns-in_err-after-in-Some-clause-value : goal.solving::settle_in-returns-in_err-after-in-Some-clause-value
solving::settle_in-returns-in_err-after-in-Some-clause-value g t c Δ Σ v r f =
    let h0 = g.T.Terms.holds c.args.terms.now in
    let m0 = g.T.Terms.means c.args.terms.now in
    let h1 = g.T.Terms.holds c.find_type.new.terms in
    let m1 = g.T.Terms.means c.find_type.new.terms in
    let h = g.T.Terms.holds c.unify_in.new.terms in
    let m = g.T.Terms.means c.unify_in.new.terms in
    let n = c.args.fuel.now in
    let k = c.find_type.new.fuel in
    let y = c.in-Some.decl.now in
    let d = plain_decl m0 y in
    let held = decl_found_held h0 c.args.metas.now c.args.m y c.requires.globals.metas_held (sym c.in-Some.ensures) in
    let there = decl_read m0 c.args.metas.now Σ c.args.m y r.metas_are (sym c.in-Some.ensures) in
    let ctx = ap (plain_locals m0) c.as_slice-ctx.ensures in
    let k1 = c.in_ok-found-in-Some.ensures.kept in
    let r1 = read_kept h0 m0 h1 m1 k1 c.args.env.now c.args.metas.now Δ Σ c.requires.globals r in
    let F = m1 c.in_ok-found-in-Some.found in
    let depth : length c.as_slice-ctx.result.now ≡ length d.ctx = read_length m0 c.as_slice-ctx.result.now d.ctx ctx in
    let x = c.in_err-after-in-Some.field-0.0 in
    fails h m (plain_metas m) (settle (rules_env Δ) Σ c.args.m v n) (unify (rules_env Δ) Σ (length d.ctx) F d.ty k) (λ after. assigned after c.args.m v) c.unify_in.new.fuel c.from_residual-in_err-after-in-Some.result x
    (settle_found (rules_env Δ) Σ c.args.m v n d there ∙ after (kernel_step (infer (reach (rules_env Δ) Σ) (rules_ctx d.ctx) v) n) F k (settle_on (rules_env Δ) Σ c.args.m v n d) (c.in_ok-found-in-Some.ensures.value Δ Σ d.ctx v r ctx f))
    c.from_residual-in_err-after-in-Some.ensures.1
    (transport (λ l. Shows h m (unify (rules_env Δ) Σ l F d.ty k) c.unify_in.new.fuel x) depth (c.in_err-after-in-Some.ensures.value Δ Σ F d.ty r1 refl (k1 y.ty held.ty).1))

pub solving::settle_in-returns-in_ok-after-in-Some-clause-value : goal.solving::settle_in-returns-in_ok-after-in-Some-clause-value
solving::settle_in-returns-in_ok-after-in-Some-clause-value g t c Δ Σ v r f =
    let h0 = g.T.Terms.holds c.args.terms.now in
    let m0 = g.T.Terms.means c.args.terms.now in
    let h1 = g.T.Terms.holds c.find_type.new.terms in
    let m1 = g.T.Terms.means c.find_type.new.terms in
    let h = g.T.Terms.holds c.unify_in.new.terms in
    let m = g.T.Terms.means c.unify_in.new.terms in
    let n = c.args.fuel.now in
    let k = c.find_type.new.fuel in
    let y = c.in-Some.decl.now in
    let d = plain_decl m0 y in
    let held = decl_found_held h0 c.args.metas.now c.args.m y c.requires.globals.metas_held (sym c.in-Some.ensures) in
    let there = decl_read m0 c.args.metas.now Σ c.args.m y r.metas_are (sym c.in-Some.ensures) in
    let ctx = ap (plain_locals m0) c.as_slice-ctx.ensures in
    let k1 = c.in_ok-found-in-Some.ensures.kept in
    let r1 = read_kept h0 m0 h1 m1 k1 c.args.env.now c.args.metas.now Δ Σ c.requires.globals r in
    let F = m1 c.in_ok-found-in-Some.found in
    let depth : length c.as_slice-ctx.result.now ≡ length d.ctx = read_length m0 c.as_slice-ctx.result.now d.ctx ctx in
    let U = plain_metas m c.in_ok-after-in-Some.after in
    let v1 = k1 c.args.value c.requires.value in
    let v2 = (c.in_ok-after-in-Some.ensures.kept c.args.value v1.0).1 ∙ v1.1 ∙ f in
    answers_as h m (plain_metas m) (settle (rules_env Δ) Σ c.args.m v n) (assigned U c.args.m v c.unify_in.new.fuel) c.unify_in.new.fuel c.give_value.result
    (settle_found (rules_env Δ) Σ c.args.m v n d there ∙ after (kernel_step (infer (reach (rules_env Δ) Σ) (rules_ctx d.ctx) v) n) F k (settle_on (rules_env Δ) Σ c.args.m v n d) (c.in_ok-found-in-Some.ensures.value Δ Σ d.ctx v r ctx f)
    ∙ after (unify (rules_env Δ) Σ (length d.ctx) F d.ty k) U c.unify_in.new.fuel (λ after. assigned after c.args.m v) (transport (λ l. unify (rules_env Δ) Σ l F d.ty k ≡ Gave U c.unify_in.new.fuel) depth (c.in_ok-after-in-Some.ensures.value Δ Σ F d.ty r1 refl (k1 y.ty held.ty).1)))
    (c.give_value.ensures.value U v c.unify_in.new.fuel refl v2)

pub solving::settle_in-returns-in-None-clause-value : goal.solving::settle_in-returns-in-None-clause-value
solving::settle_in-returns-in-None-clause-value g t c Δ Σ v r f =
    let m0 = g.T.Terms.means c.args.terms.now in
    settle_missing (rules_env Δ) Σ c.args.m v c.args.fuel.now (decl_missed m0 c.args.metas.now Σ c.args.m r.metas_are (sym c.in-None.ensures))
