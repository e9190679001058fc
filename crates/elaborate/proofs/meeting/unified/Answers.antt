use Rattle.std.proofs.Common.{◌≡◌, ◌∙◌, ap, sym, length}
use Rattle.goal_state.specs.State.{plain_metas}
use Rattle.unification.specs.Steps.{Gave}
use Rattle.elaboration.specs.Elaboration.{Work, with_metas}
use Rattle.elaborate.specs.Faults.{unify_fault}
use Rattle.elaborate.proofs.Follow.{residual}
use Rattle.elaborate.proofs.Meanings.{room, globals_read, depth_read}
use Rattle.elaborate.proofs.Forms.{unified_fails, unified_gives}
use Rattle.elaborate.proofs.meeting.unified.Goals as goal

pub depth_of-depth-requires : goal.depth_of-depth-requires
depth_of-depth-requires g c = room c.requires.held

pub unify-requires-clause-globals : goal.unify-requires-clause-globals
unify-requires-clause-globals g c = c.requires.held.globals

pub returns-in_err-metas-clause-value : goal.returns-in_err-metas-clause-value
returns-in_err-metas-clause-value g c Δ w s F W r p q =
    let h = g.T.Terms.holds c.unify.new.terms in
    let m = g.T.Terms.means c.unify.new.terms in
    let d : c.depth_of-depth.result ≡ length s.entries = c.depth_of-depth.ensures ∙ depth_read (g.T.Terms.means c.args.terms.now) r in
    residual h m _ _ _ c.from_residual.result (unify_fault c.in_err-metas.field-0.0) c.from_residual.ensures.1
    (unified_fails Δ w s F W c.args.fuel.now c.unify.new.fuel c.depth_of-depth.result d h m c.in_err-metas.field-0.0 (c.in_err-metas.ensures.value Δ w.metas F W (globals_read (g.T.Terms.means c.args.terms.now) r) p q))

pub returns-clause-value : goal.returns-clause-value
returns-clause-value g c Δ w s F W r p q =
    let m = g.T.Terms.means c.unify.new.terms in
    let d : c.depth_of-depth.result ≡ length s.entries = c.depth_of-depth.ensures ∙ depth_read (g.T.Terms.means c.args.terms.now) r in
    let metas = plain_metas m c.in_ok-metas.metas in
    unified_gives Δ w s F W c.args.fuel.now c.unify.new.fuel c.depth_of-depth.result d metas (c.in_ok-metas.ensures.value Δ w.metas F W (globals_read (g.T.Terms.means c.args.terms.now) r) p q)
    ∙ ap (λ (v : Work). Gave (with_metas metas v) c.unify.new.fuel) (sym r.work_is)
