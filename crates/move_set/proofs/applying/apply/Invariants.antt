use Rattle.std.proofs.Common.{◌≡◌, List}
use Rattle.ld_trees.specs.Term.{Term}
use Rattle.ld_terms.specs.Views.{Keeps}
use Rattle.ld_terms.specs.declared.globals.Item.{Item}
use Rattle.ld_terms.specs.declared.globals.Decl.{Decl}
use Rattle.meta_context.specs.Plain.{plain_items, rules_env}
use Rattle.goal_state.specs.State.{plain_decl}
use Rattle.move_set.specs.Answers.{IsApplicationIn, plain_application}
use Rattle.move_set.specs.Applying.{Application, apply}
use Rattle.move_set.proofs.applying.apply.Given as goal

abbrev pub invariant-loop-fitted : goal.invariant-loop-fitted
invariant-loop-fitted g l = record {
  kept : Keeps (g.T.Terms.holds l.fn.terms) (g.T.Terms.means l.fn.terms) (g.T.Terms.holds l.terms) (g.T.Terms.means l.terms);
  held : IsApplicationIn (g.T.Terms.holds l.terms) l.here;
  value : (Δ : List (Item Term)) (a : Application) (d : Decl Term) → plain_items (g.T.Terms.means l.fn.terms) l.env ≡ Δ → plain_application (g.T.Terms.means l.fn.terms) l.fn.start ≡ a → plain_decl (g.T.Terms.means l.fn.terms) l.decl ≡ d
      → apply (rules_env Δ) d a l.fn.fuel ≡ apply (rules_env Δ) d (plain_application (g.T.Terms.means l.terms) l.here) l.fuel;
}

abbrev pub decreases-loop-fitted : goal.decreases-loop-fitted
decreases-loop-fitted g l = l.fuel
