use Rattle.std.proofs.Common.{reverse, is_none, sym, ap, ◌∙◌}
use Rattle.unification.specs.Pruning.{is_kept}
use Rattle.pattern_unify.proofs.BadVariables.{none_bad, none_is}
use Rattle.pattern_unify.proofs.entries.holds_only_kept.Goals as goal

pub returns : goal.returns
returns g c =
    none_is c.in_ok-bad_variable.field-0 c.is_none.result c.is_none.ensures ∙ ap is_none c.in_ok-bad_variable.ensures
    ∙ sym (none_bad (is_kept (reverse c.args.flags.now)) 0 (g.T.Terms.means c.args.terms.now c.args.h))
