use Rattle.std.proofs.Common.{◌≡◌, ◌∙◌, ◌+◌, ◌-◌, suc, length, Ok, ap, sym, subst, arith}
use Rattle.ld_trees.specs.Term.{Term}
use Rattle.ld_terms.specs.declared.globals.Decl.{Decl}
use Rattle.ld_terms.proofs.Turns.{keeps_both}
use Rattle.conversion.proofs.Lookups.{globals_kept}
use Rattle.goal_state.specs.State.{plain_decl}
use Rattle.pattern_unify.proofs.Meanings.{read_kept, read_length}
use Rattle.move_set.specs.Answers.{IsTried, Shows}
use Rattle.move_set.specs.Moves.{first_fitting}
use Rattle.move_set.proofs.Follow.{residual}
use Rattle.move_set.proofs.Meanings.{decl_kept, decl_held}
use Rattle.move_set.proofs.assuming.first_fitting.Goals as goal

pub fitting-requires-clause-globals : goal.fitting-requires-clause-globals
fitting-requires-clause-globals g c =
    let h0 = g.T.Terms.holds c.args.terms.now in
    let m0 = g.T.Terms.means c.args.terms.now in
    let h1 = g.T.Terms.holds c.loop-i.terms in
    let m1 = g.T.Terms.means c.loop-i.terms in
    let kept = c.loop-i.invariant.kept in
    globals_kept h0 m0 h1 m1 kept c.args.env.now c.args.metas.now c.requires.globals

pub fitting-requires-clause-goal : goal.fitting-requires-clause-goal
fitting-requires-clause-goal g c =
    let h0 = g.T.Terms.holds c.args.terms.now in
    let m0 = g.T.Terms.means c.args.terms.now in
    let h1 = g.T.Terms.holds c.loop-i.terms in
    let m1 = g.T.Terms.means c.loop-i.terms in
    let kept = c.loop-i.invariant.kept in
    decl_held h0 m0 h1 m1 kept c.args.decl.now c.requires.goal

pub fitting-requires-clause-there : goal.fitting-requires-clause-there
fitting-requires-clause-there g c =
    let l = c.loop-i-test.true in
    let count = c.count_of-count.ensures ∙ ap (λ ls. length ls) c.as_slice.ensures in
    omega arith

pub returns-in_err-more-clause-value : goal.returns-in_err-more-clause-value
returns-in_err-more-clause-value g c Δ Σ d root read same =
    let h0 = g.T.Terms.holds c.args.terms.now in
    let m0 = g.T.Terms.means c.args.terms.now in
    let h1 = g.T.Terms.holds c.loop-i.terms in
    let m1 = g.T.Terms.means c.loop-i.terms in
    let kept = c.loop-i.invariant.kept in
    let h2 = g.T.Terms.holds c.fitting.new.terms in
    let m2 = g.T.Terms.means c.fitting.new.terms in
    let i = c.loop-i.i in
    let n = c.count_of-count.result - (i + 1) in
    let left = c.fitting.new.fuel in
    let r1 = read_kept h0 m0 h1 m1 kept c.args.env.now c.args.metas.now Δ Σ c.requires.globals read in
    let same1 : plain_decl m1 c.args.decl.now ≡ d = decl_kept h0 m0 h1 m1 kept c.args.decl.now c.requires.goal ∙ same in
    let count : c.count_of-count.result ≡ length d.ctx = c.count_of-count.ensures ∙ ap (λ ls. length ls) c.as_slice.ensures ∙ read_length m0 c.args.decl.now.ctx d.ctx (ap (λ (y : Decl Term). y.ctx) same) in
    let one_more : c.count_of-count.result - i ≡ suc n = (let l = c.loop-i-test.true in omega arith) in
    let whole : first_fitting Δ Σ root d 0 (length d.ctx) c.args.fuel.now ≡ first_fitting Δ Σ root d i (suc n) c.loop-i.fuel =
    (ap (λ k. first_fitting Δ Σ root d 0 k c.args.fuel.now) (sym count) ∙ c.loop-i.invariant.value Δ Σ d root read same ∙ ap (λ k. first_fitting Δ Σ root d i k c.loop-i.fuel) one_more) in
    let f = c.in_err-more.field-0.0 in
    residual h2 m2 _ _ left c.from_residual.result f c.from_residual.ensures.1 (subst (λ o. Shows h2 m2 o left f) (sym whole) (c.in_err-more.ensures.value Δ Σ d root n r1 same1))

pub returns-in-Some-clause-value : goal.returns-in-Some-clause-value
returns-in-Some-clause-value g c Δ Σ d root read same =
    let h0 = g.T.Terms.holds c.args.terms.now in
    let m0 = g.T.Terms.means c.args.terms.now in
    let h1 = g.T.Terms.holds c.loop-i.terms in
    let m1 = g.T.Terms.means c.loop-i.terms in
    let kept = c.loop-i.invariant.kept in
    let h2 = g.T.Terms.holds c.fitting.new.terms in
    let m2 = g.T.Terms.means c.fitting.new.terms in
    let i = c.loop-i.i in
    let n = c.count_of-count.result - (i + 1) in
    let left = c.fitting.new.fuel in
    let r1 = read_kept h0 m0 h1 m1 kept c.args.env.now c.args.metas.now Δ Σ c.requires.globals read in
    let same1 : plain_decl m1 c.args.decl.now ≡ d = decl_kept h0 m0 h1 m1 kept c.args.decl.now c.requires.goal ∙ same in
    let count : c.count_of-count.result ≡ length d.ctx = c.count_of-count.ensures ∙ ap (λ ls. length ls) c.as_slice.ensures ∙ read_length m0 c.args.decl.now.ctx d.ctx (ap (λ (y : Decl Term). y.ctx) same) in
    let one_more : c.count_of-count.result - i ≡ suc n = (let l = c.loop-i-test.true in omega arith) in
    let whole : first_fitting Δ Σ root d 0 (length d.ctx) c.args.fuel.now ≡ first_fitting Δ Σ root d i (suc n) c.loop-i.fuel =
    (ap (λ k. first_fitting Δ Σ root d 0 k c.args.fuel.now) (sym count) ∙ c.loop-i.invariant.value Δ Σ d root read same ∙ ap (λ k. first_fitting Δ Σ root d i k c.loop-i.fuel) one_more) in
    whole ∙ subst (λ x. IsTried h2 m2 (first_fitting Δ Σ root d) i n c.loop-i.fuel left (Ok x)) c.in-Some.is (c.in_ok-more.ensures.value Δ Σ d root n r1 same1)

pub loop-i-preserved : goal.loop-i-preserved
loop-i-preserved g c =
    let h0 = g.T.Terms.holds c.args.terms.now in
    let m0 = g.T.Terms.means c.args.terms.now in
    let h1 = g.T.Terms.holds c.loop-i.terms in
    let m1 = g.T.Terms.means c.loop-i.terms in
    let kept = c.loop-i.invariant.kept in
    let h2 = g.T.Terms.holds c.fitting.new.terms in
    let m2 = g.T.Terms.means c.fitting.new.terms in
    let i = c.loop-i.i in
    let n = c.count_of-count.result - (i + 1) in
    let left = c.fitting.new.fuel in
    let l = c.loop-i-test.true in
    record {
      within = omega arith;
      kept = keeps_both h0 m0 h1 m1 h2 m2 kept c.fitting.ensures.kept;
      value = λ Δ Σ d root read same.
          let r1 = read_kept h0 m0 h1 m1 kept c.args.env.now c.args.metas.now Δ Σ c.requires.globals read in
          let same1 : plain_decl m1 c.args.decl.now ≡ d = decl_kept h0 m0 h1 m1 kept c.args.decl.now c.requires.goal ∙ same in
          let one_more : c.count_of-count.result - i ≡ suc n = omega arith in
          let next : suc i ≡ i + 1 = omega arith in
          c.loop-i.invariant.value Δ Σ d root read same ∙ ap (λ k. first_fitting Δ Σ root d i k c.loop-i.fuel) one_more
          ∙ subst (λ x. IsTried h2 m2 (first_fitting Δ Σ root d) i n c.loop-i.fuel left (Ok x)) c.in-None.is (c.in_ok-more.ensures.value Δ Σ d root n r1 same1)
          ∙ ap (λ j. first_fitting Δ Σ root d j n left) next;
    }

pub returns-clause-value : goal.returns-clause-value
returns-clause-value g c Δ Σ d root read same =
    let m0 = g.T.Terms.means c.args.terms.now in
    let i = c.loop-i.i in
    let count : c.count_of-count.result ≡ length d.ctx = c.count_of-count.ensures ∙ ap (λ ls. length ls) c.as_slice.ensures ∙ read_length m0 c.args.decl.now.ctx d.ctx (ap (λ (y : Decl Term). y.ctx) same) in
    let none : c.count_of-count.result - i ≡ 0 = (let l = c.loop-i-test.false in omega arith) in
    ap (λ k. first_fitting Δ Σ root d 0 k c.args.fuel.now) (sym count) ∙ c.loop-i.invariant.value Δ Σ d root read same ∙ ap (λ k. first_fitting Δ Σ root d i k c.loop-i.fuel) none
