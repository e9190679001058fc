use Rattle.std.proofs.Common.{◌≡◌, ◌∙◌, ap, sym, subst, All}
use Rattle.ld_terms.proofs.Turns.{keeps_both}
use Rattle.conversion.specs.Globals.{IsDeclOf}
use Rattle.goal_state.specs.State.{plain_metas}
use Rattle.goal_state.proofs.Means.{plain_metas_kept, decls_held}
use Rattle.elaboration.specs.Elaboration.{Work, with_metas}
use Rattle.elaborate.specs.Faults.{unify_fault}
use Rattle.elaborate.specs.Standing.{plain_work}
use Rattle.elaborate.specs.Steps.{noted_of}
use Rattle.elaborate.proofs.Follow.{residual}
use Rattle.elaborate.proofs.HolesAndVariables.{opened_fails, opened_gives}
use Rattle.elaborate.proofs.Meanings.{room, globals_read, entries_read, depth_read, count_read}
use Rattle.elaborate.proofs.leaves.opened.Goals as goal

pub declare_in-requires-clause-globals : goal.declare_in-requires-clause-globals
declare_in-requires-clause-globals g c = c.requires.held.globals

pub declare_in-requires-clause-context : goal.declare_in-requires-clause-context
declare_in-requires-clause-context g c = c.requires.held.entries

pub declare_in-requires-clause-names : goal.declare_in-requires-clause-names
declare_in-requires-clause-names g c = c.requires.held.names

pub returns-in_err-metas-clause-value : goal.returns-in_err-metas-clause-value
returns-in_err-metas-clause-value g c Δ w s F r p =
    let m0 = g.T.Terms.means c.args.terms.now in
    let h = g.T.Terms.holds c.declare_in.new.terms in
    let m = g.T.Terms.means c.declare_in.new.terms in
    residual h m _ _ _ c.from_residual.result (unify_fault c.in_err-metas.field-0.0) c.from_residual.ensures.1
    (opened_fails Δ c.args.hole F w s c.args.fuel.now c.declare_in.new.fuel h m c.in_err-metas.field-0.0 (c.in_err-metas.ensures.value Δ w.metas s.entries F (globals_read m0 r) (entries_read m0 r) p))

pub depth_of-requires : goal.depth_of-requires
depth_of-requires g c = room c.requires.held

pub returns-clause-value : goal.returns-clause-value
returns-clause-value g c Δ w s F r p =
    let h0 = g.T.Terms.holds c.args.terms.now in
    let m0 = g.T.Terms.means c.args.terms.now in
    let h1 = g.T.Terms.holds c.declare_in.new.terms in
    let m1 = g.T.Terms.means c.declare_in.new.terms in
    let h2 = g.T.Terms.holds c.over_all.new.terms in
    let m2 = g.T.Terms.means c.over_all.new.terms in
    let metas = c.in_ok-metas.metas in
    let number = c.in_ok-metas.m in
    let k1 = c.in_ok-metas.ensures.kept in
    let k2 = c.in_ok-term.ensures.kept in
    let same : plain_metas m2 metas ≡ plain_metas m1 metas = plain_metas_kept h1 m1 h2 m2 k2 metas c.in_ok-metas.ensures.held in
    let noted : plain_work m2 c.in_ok-work.work ≡ noted_of c.args.hole number (with_metas (plain_metas m1 metas) w) =
    c.in_ok-work.ensures.value m2
    ∙ ap (λ M. noted_of c.args.hole number (with_metas M (plain_work m0 c.args.work))) same
    ∙ ap (λ (v : Work). noted_of c.args.hole number (with_metas (plain_metas m1 metas) v)) r.work_is in
    opened_gives Δ c.args.hole F w s c.args.fuel.now c.declare_in.new.fuel (plain_metas m1 metas) (plain_work m2 c.in_ok-work.work) (m2 c.in_ok-term.term) (m2 c.args.ty) number c.depth_of.result
    (c.in_ok-metas.ensures.value Δ w.metas s.entries F (globals_read m0 r) (entries_read m0 r) p)
    (c.in_ok-metas.ensures.number ∙ count_read m0 r)
    (c.depth_of.ensures ∙ depth_read m0 r)
    noted c.in_ok-term.ensures.value ((keeps_both h0 m0 h1 m1 h2 m2 k1 k2 c.args.ty c.requires.ty).1 ∙ p)

pub returns-clause-held : goal.returns-clause-held
returns-clause-held g c =
    let h0 = g.T.Terms.holds c.args.terms.now in
    let m0 = g.T.Terms.means c.args.terms.now in
    let h1 = g.T.Terms.holds c.declare_in.new.terms in
    let m1 = g.T.Terms.means c.declare_in.new.terms in
    let h2 = g.T.Terms.holds c.over_all.new.terms in
    let m2 = g.T.Terms.means c.over_all.new.terms in
    let k1 = c.in_ok-metas.ensures.kept in
    let k2 = c.in_ok-term.ensures.kept in
    record {
      metas = subst (All (IsDeclOf h2)) (sym c.in_ok-work.ensures.metas) (decls_held h1 m1 h2 m2 k2 c.in_ok-metas.metas c.in_ok-metas.ensures.held);
      term = c.in_ok-term.ensures.held;
      ty = (keeps_both h0 m0 h1 m1 h2 m2 k1 k2 c.args.ty c.requires.ty).0;
    }
