use Rattle.std.proofs.Common.{◌≡◌, ◌∙◌, ◌<◌, length, ap, sym, subst, arith}
use Rattle.ld_trees.specs.Term.{Term}
use Rattle.ld_terms.specs.declared.globals.Decl.{Decl}
use Rattle.meta_context.specs.Plain.{plain_locals, rules_env}
use Rattle.goal_state.specs.State.{plain_metas}
use Rattle.unification.specs.Steps.{Gave, renamed}
use Rattle.unification.specs.Unification.{unify}
use Rattle.pattern_unify.specs.Answers.{AreRead, ShowsUnify}
use Rattle.ld_terms.proofs.Turns.{keeps_both}
use Rattle.pattern_unify.proofs.Meanings.{read_kept, locals_kept, read_length}
use Rattle.pattern_unify.proofs.Follow.{after}
use Rattle.move_set.specs.Answers.{Shows, ShowsRefusal, plain_application}
use Rattle.move_set.specs.Applying.{Application, applied, apply}
use Rattle.move_set.specs.Faults.{unify_fault}
use Rattle.move_set.specs.Refusals.{from_unification}
use Rattle.move_set.proofs.Follow.{shows_more, unify_shows, no_halt, IsNoHalt}
use Rattle.move_set.proofs.Turning.{same_application, fitting, refusing, spending, short, turn_fails, no_value, refused_turn, application_kept, in_metas}
use Rattle.move_set.proofs.applying.take_turn.Goals as goal

pub returns-in_err-more-in_default : goal.returns-in_err-more-in_default
returns-in_err-more-in_default g c =
    let h0 = g.T.Terms.holds c.args.terms.now in
    let m0 = g.T.Terms.means c.args.terms.now in
    let h1 = g.T.Terms.holds c.unify.new.terms in
    let m1 = g.T.Terms.means c.unify.new.terms in
    let k1 = c.unify.ensures.kept in
    let h2 = g.T.Terms.holds c.longer.new.terms in
    let m2 = g.T.Terms.means c.longer.new.terms in
    record {
      value = λ Δ a d e is same.
          let read : AreRead m0 c.args.env.now c.args.here.metas Δ a.metas = record { items_are = e; metas_are = ap (λ (a : Application). a.metas) is } in
          let n = c.args.fuel.now in
          let u1 = c.unify.new.fuel in
          let depth : c.count_of-depth.result ≡ length d.ctx = c.count_of-depth.ensures ∙ ap (λ ls. length ls) c.as_slice-ctx.ensures ∙ read_length m0 c.args.decl.now.ctx d.ctx (ap (λ (d : Decl Term). d.ctx) same) in
          let o = unify (rules_env Δ) a.metas (length d.ctx) a.ty d.ty n in
          let refused : ShowsUnify (λ r. r) h1 m1 o u1 c.in-Err.fault =
          subst (λ k. ShowsUnify (λ r. r) h1 m1 (unify (rules_env Δ) a.metas k a.ty d.ty n) u1 c.in-Err.fault) depth (c.in-Err.ensures.value Δ a.metas a.ty d.ty read (ap (λ (a : Application). a.ty) is) (ap (λ (d : Decl Term). d.ty) same)) in
          let real : IsNoHalt (unify_fault c.in-Err.fault) = subst IsNoHalt c.from.ensures (no_halt c.from.result c.in_default.not-Fuel c.in_default.not-Memory) in
          let x = refused_turn h1 m1 o u1 c.in-Err.fault real refused in
          let r1 = read_kept h0 m0 h1 m1 k1 c.args.env.now c.args.here.metas Δ a.metas c.requires.globals read in
          let is1 : plain_application m1 c.args.here ≡ a = application_kept h0 h1 m0 m1 k1 c.args.here (record { metas = c.requires.globals.metas_held; term = c.requires.term; ty = c.requires.ty }) ∙ is in
          let ctx1 : plain_locals m1 c.as_slice-ctx.result.now ≡ d.ctx = ap (plain_locals m1) c.as_slice-ctx.ensures ∙ locals_kept h0 m0 h1 m1 k1 c.args.decl.now.ctx c.requires.goal.ctx ∙ ap (λ (d : Decl Term). d.ctx) same in
          let shown : ShowsRefusal h1 m1 x.0 c.from.result = subst (ShowsRefusal h1 m1 x.0) (sym c.from.ensures) x.2 in
          let l = c.longer.new.fuel in
          let f = c.in_err-more-in_default.field-0.0 in
          turn_fails h2 m2 (apply (rules_env Δ) d) a n l c.from_residual.result f c.from_residual.ensures.1
          (subst (λ o. Shows h2 m2 o l f) (sym (refusing (rules_env Δ) d a n x.0 u1 x.1))
          (shows_more h2 m2 (applied (rules_env Δ) d x.0 a u1) (apply (rules_env Δ) d) l f (c.in_err-more-in_default.ensures.value Δ a d x.0 r1.items_are is1 ctx1 shown)));
      held = no_value _ c.from_residual.result c.in_err-more-in_default.field-0.0 c.from_residual.ensures.1;
      kept = keeps_both h0 m0 h1 m1 h2 m2 k1 c.longer.ensures.kept;
    }

pub returns-in-Ok-clause-value : goal.returns-in-Ok-clause-value
returns-in-Ok-clause-value g c Δ a d e is same =
    let h0 = g.T.Terms.holds c.args.terms.now in
    let m0 = g.T.Terms.means c.args.terms.now in
    let m1 = g.T.Terms.means c.unify.new.terms in
    let k1 = c.unify.ensures.kept in
    let read : AreRead m0 c.args.env.now c.args.here.metas Δ a.metas = record { items_are = e; metas_are = ap (λ (a : Application). a.metas) is } in
    let n = c.args.fuel.now in
    let u1 = c.unify.new.fuel in
    let depth : c.count_of-depth.result ≡ length d.ctx = c.count_of-depth.ensures ∙ ap (λ ls. length ls) c.as_slice-ctx.ensures ∙ read_length m0 c.args.decl.now.ctx d.ctx (ap (λ (d : Decl Term). d.ctx) same) in
    let S = plain_metas m1 c.in-Ok.metas in
    let gave : unify (rules_env Δ) a.metas (length d.ctx) a.ty d.ty n ≡ Gave S u1 =
    subst (λ k. unify (rules_env Δ) a.metas k a.ty d.ty n ≡ Gave S u1) depth (c.in-Ok.ensures.value Δ a.metas a.ty d.ty read (ap (λ (a : Application). a.ty) is) (ap (λ (d : Decl Term). d.ty) same)) in
    let made : plain_application m1 c.fitted.result ≡ in_metas (rules_env Δ) d a S =
    same_application _ _ _ _ _ _ _ _ (ap (plain_metas m1) c.fitted.ensures.metas) (c.fitted.ensures.args ∙ ap (λ (a : Application). a.args) is)
    (ap m1 c.fitted.ensures.term ∙ (k1 c.args.here.term c.requires.term).1 ∙ ap (λ (a : Application). a.term) is)
    (ap m1 c.fitted.ensures.ty ∙ (k1 c.args.here.ty c.requires.ty).1 ∙ ap (λ (a : Application). a.ty) is) in
    fitting (rules_env Δ) d a n S u1 gave ∙ ap (λ (x : Application). Gave x u1) (sym made)

pub returns-in-Fuel-clause-value : goal.returns-in-Fuel-clause-value
returns-in-Fuel-clause-value g c Δ a d e is same =
    let m0 = g.T.Terms.means c.args.terms.now in
    let h1 = g.T.Terms.holds c.unify.new.terms in
    let m1 = g.T.Terms.means c.unify.new.terms in
    let read : AreRead m0 c.args.env.now c.args.here.metas Δ a.metas = record { items_are = e; metas_are = ap (λ (a : Application). a.metas) is } in
    let n = c.args.fuel.now in
    let u1 = c.unify.new.fuel in
    let depth : c.count_of-depth.result ≡ length d.ctx = c.count_of-depth.ensures ∙ ap (λ ls. length ls) c.as_slice-ctx.ensures ∙ read_length m0 c.args.decl.now.ctx d.ctx (ap (λ (d : Decl Term). d.ctx) same) in
    let o = unify (rules_env Δ) a.metas (length d.ctx) a.ty d.ty n in
    let refused : ShowsUnify (λ r. r) h1 m1 o u1 c.in-Err.fault =
    subst (λ k. ShowsUnify (λ r. r) h1 m1 (unify (rules_env Δ) a.metas k a.ty d.ty n) u1 c.in-Err.fault) depth (c.in-Err.ensures.value Δ a.metas a.ty d.ty read (ap (λ (a : Application). a.ty) is) (ap (λ (d : Decl Term). d.ty) same)) in
    let shown = subst (λ f. Shows h1 m1 (renamed from_unification o) u1 f) (sym c.from.ensures ∙ c.in-Fuel.is) (unify_shows h1 m1 o u1 c.in-Err.fault refused) in
    (short (rules_env Δ) d a n shown.0, shown.1)

pub returns-in_ok-more-in_default : goal.returns-in_ok-more-in_default
returns-in_ok-more-in_default g c =
    let h0 = g.T.Terms.holds c.args.terms.now in
    let m0 = g.T.Terms.means c.args.terms.now in
    let h1 = g.T.Terms.holds c.unify.new.terms in
    let m1 = g.T.Terms.means c.unify.new.terms in
    let k1 = c.unify.ensures.kept in
    let h2 = g.T.Terms.holds c.longer.new.terms in
    let m2 = g.T.Terms.means c.longer.new.terms in
    record {
      value = λ Δ a d e is same.
          let read : AreRead m0 c.args.env.now c.args.here.metas Δ a.metas = record { items_are = e; metas_are = ap (λ (a : Application). a.metas) is } in
          let n = c.args.fuel.now in
          let u1 = c.unify.new.fuel in
          let depth : c.count_of-depth.result ≡ length d.ctx = c.count_of-depth.ensures ∙ ap (λ ls. length ls) c.as_slice-ctx.ensures ∙ read_length m0 c.args.decl.now.ctx d.ctx (ap (λ (d : Decl Term). d.ctx) same) in
          let o = unify (rules_env Δ) a.metas (length d.ctx) a.ty d.ty n in
          let refused : ShowsUnify (λ r. r) h1 m1 o u1 c.in-Err.fault =
          subst (λ k. ShowsUnify (λ r. r) h1 m1 (unify (rules_env Δ) a.metas k a.ty d.ty n) u1 c.in-Err.fault) depth (c.in-Err.ensures.value Δ a.metas a.ty d.ty read (ap (λ (a : Application). a.ty) is) (ap (λ (d : Decl Term). d.ty) same)) in
          let real : IsNoHalt (unify_fault c.in-Err.fault) = subst IsNoHalt c.from.ensures (no_halt c.from.result c.in_default.not-Fuel c.in_default.not-Memory) in
          let x = refused_turn h1 m1 o u1 c.in-Err.fault real refused in
          let r1 = read_kept h0 m0 h1 m1 k1 c.args.env.now c.args.here.metas Δ a.metas c.requires.globals read in
          let is1 : plain_application m1 c.args.here ≡ a = application_kept h0 h1 m0 m1 k1 c.args.here (record { metas = c.requires.globals.metas_held; term = c.requires.term; ty = c.requires.ty }) ∙ is in
          let ctx1 : plain_locals m1 c.as_slice-ctx.result.now ≡ d.ctx = ap (plain_locals m1) c.as_slice-ctx.ensures ∙ locals_kept h0 m0 h1 m1 k1 c.args.decl.now.ctx c.requires.goal.ctx ∙ ap (λ (d : Decl Term). d.ctx) same in
          let shown : ShowsRefusal h1 m1 x.0 c.from.result = subst (ShowsRefusal h1 m1 x.0) (sym c.from.ensures) x.2 in
          let l = c.longer.new.fuel in
          let b = plain_application m2 c.in_ok-more-in_default.more in
          let less : u1 < n = spending (rules_env Δ) d a n x.0 u1 x.1 in
          let left = c.in_ok-more-in_default.ensures.less in
          (refusing (rules_env Δ) d a n x.0 u1 x.1 ∙ after (applied (rules_env Δ) d x.0 a u1) b l (apply (rules_env Δ) d) (c.in_ok-more-in_default.ensures.value Δ a d x.0 r1.items_are is1 ctx1 shown), omega arith);
      held = c.in_ok-more-in_default.ensures.held;
      kept = keeps_both h0 m0 h1 m1 h2 m2 k1 c.longer.ensures.kept;
    }
