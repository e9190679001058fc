use Rattle.std.proofs.Common.{◌≡◌, ◌≤◌, All}
use Rattle.ld_trees.specs.Term.{App, nodes}
use Rattle.ld_rules.specs.Environment.{Ctx, Env}
use Rattle.conversion.specs.Spines.{BothHeld}
use Rattle.kernel_check.specs.Inference.{infer, infer_case}
use Rattle.kernel_check.specs.Steps.{along, pair_trees}
use Rattle.kernel_check.proofs.spines.spine_of.Given as goal

abbrev pub invariant-loop-g : goal.invariant-loop-g
invariant-loop-g g l =
    let means = g.T.Terms.means l.terms in
    ((Δ : Env) (Γ : Ctx) → infer_case Δ (infer Δ) Γ (App (means l.fn.f) (means l.fn.a)) l.fn.fuel ≡ along Δ Γ (pair_trees means l.waiting.items) (infer Δ Γ (means l.head) l.fuel))
    × g.T.Terms.holds l.terms l.head
    × All (BothHeld (g.T.Terms.holds l.terms)) l.waiting.items
    × (l.fuel ≤ l.fn.fuel)

abbrev pub decreases-loop-g : goal.decreases-loop-g
decreases-loop-g g l = nodes (g.T.Terms.means l.terms l.head)
