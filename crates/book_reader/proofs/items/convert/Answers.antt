use Rattle.std.proofs.Common.{◌∙◌, ap, ap₂, sym}
use Rattle.ld_trees.specs.Term.{Term}
use Rattle.conversion.specs.Runs.{Mismatch}
use Rattle.meta_context.specs.Plain.{rules_env}
use Rattle.meta_context.proofs.PlainItems.{env_again}
use Rattle.book_reader.specs.Items.{Kernel}
use Rattle.book_reader.specs.Faults.{halt_fault}
use Rattle.book_reader.proofs.Follow.{residual, shows_more, halt_shows, fits_yes, fits_no}
use Rattle.book_reader.proofs.items.convert.Goals as goal

pub returns-in_err-conv-clause-value : goal.returns-in_err-conv-clause-value
returns-in_err-conv-clause-value g c Δ F W d f w =
    let h = g.T.Terms.holds c.conv.new.terms in
    let m = g.T.Terms.means c.conv.new.terms in
    let env = env_again (g.T.Terms.means c.args.terms.now) c.args.env.now ∙ ap rules_env d in
    residual h m _ _ _ c.from_residual.result (halt_fault c.in_err-conv.field-0.0) c.from_residual.ensures.1
    (rw (← env, ← f, ← w) (shows_more h m _ _ _ (halt_shows h m (λ b. b) _ _ c.in_err-conv.field-0.0 c.in_err-conv.ensures.value)))

pub returns-then-branch-clause-value : goal.returns-then-branch-clause-value
returns-then-branch-clause-value g c Δ F W d f w =
    let env = env_again (g.T.Terms.means c.args.terms.now) c.args.env.now ∙ ap rules_env d in
    fits_yes Δ c.args.depth F W c.args.fuel.now c.conv.new.fuel _ (rw (← env, ← f, ← w) c.in_ok-conv.ensures.value) c.if-branch.true

pub returns-clause-value : goal.returns-clause-value
returns-clause-value g c Δ F W d f w =
    let env = env_again (g.T.Terms.means c.args.terms.now) c.args.env.now ∙ ap rules_env d in
    let kept = c.conv.ensures.kept in
    let found = kept c.args.found c.requires.found in
    let wanted = kept c.args.wanted c.requires.wanted in (
      _,
      fits_no Δ c.args.depth F W c.args.fuel.now c.conv.new.fuel _ (rw (← env, ← f, ← w) c.in_ok-conv.ensures.value) c.if-branch.false,
      (ap₂ (λ (f w : Term). Kernel (Mismatch c.args.depth f w)) (sym f ∙ sym found.1) (sym w ∙ sym wanted.1), found.0, wanted.0),
    )
