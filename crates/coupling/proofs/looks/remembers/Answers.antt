use Rattle.std.proofs.Common.{sym, ◌∙◌, subst}
use Rattle.std.specs.Prelude.{Contains}
use Rattle.coupling.specs.Looks.{remembered}
use Rattle.coupling.proofs.Looking.{found_in}
use Rattle.coupling.proofs.looks.remembers.Goals as goal

pub returns-in-Kept : goal.returns-in-Kept
returns-in-Kept g c t = subst (λ s. Contains (remembered s) c.args.h) (sym c.in-Kept.is) (found_in _ g.met.T.Terms.exact c.args.h c.in-Kept.handles.keys (sym c.contains.ensures ∙ t))
