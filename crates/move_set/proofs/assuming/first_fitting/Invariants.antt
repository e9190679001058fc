use Rattle.std.proofs.Common.{◌≡◌, ◌-◌, ◌≤◌, ℕ, List}
use Rattle.ld_trees.specs.Term.{Term}
use Rattle.ld_terms.specs.Views.{Keeps}
use Rattle.ld_terms.specs.declared.globals.Decl.{Decl}
use Rattle.ld_terms.specs.declared.globals.Item.{Item}
use Rattle.goal_state.specs.State.{plain_decl}
use Rattle.pattern_unify.specs.Answers.{AreRead}
use Rattle.move_set.specs.Moves.{first_fitting}
use Rattle.move_set.proofs.assuming.first_fitting.Given as goal

abbrev pub invariant-loop-i : goal.invariant-loop-i
invariant-loop-i g l = record {
  within : l.i ≤ l.count;
  kept : Keeps (g.T.Terms.holds l.fn.terms) (g.T.Terms.means l.fn.terms) (g.T.Terms.holds l.terms) (g.T.Terms.means l.terms);
  value : (Δ : List (Item Term)) (Σ : List (Decl Term)) (d : Decl Term) (root : ℕ) → AreRead (g.T.Terms.means l.fn.terms) l.env l.metas Δ Σ → plain_decl (g.T.Terms.means l.fn.terms) l.decl ≡ d
      → first_fitting Δ Σ root d 0 l.count l.fn.fuel ≡ first_fitting Δ Σ root d l.i (l.count - l.i) l.fuel;
}

abbrev pub decreases-loop-i : goal.decreases-loop-i
decreases-loop-i g l = l.count - l.i
