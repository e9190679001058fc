use Rattle.std.proofs.Common.{◌∙◌, ◌+◌, ◌<◌, ap, sym, refl, arith, Some, length}
use Rattle.ld_trees.specs.Term.{Var, count}
use Rattle.conversion.specs.Runs.{Refused, NotType}
use Rattle.kernel_check.specs.Inference.{or_not_type}
use Rattle.kernel_check.proofs.Calls.{count_of}
use Rattle.kernel_check.proofs.EntryTypes.{entry_at, no_entry}
use Rattle.kernel_check.proofs.types.entry_type.Goals as goal

pub returns-in_ok-shift-clause-value : goal.returns-in_ok-shift-clause-value
returns-in_ok-shift-clause-value g c Γ n r e =
    let means = g.T.Terms.means c.args.terms.now in
    let m = ap count (sym r) ∙ count_of means c.args.types.now in
    let l : c.args.i < count Γ = omega (arith, m, c.if-from_last-types.true) in
    let at = entry_at means c.args.types.now c.index-types-types.result Γ c.args.i _ (c.args.i + 1) r l (let q = c.if-from_last-types.true in omega arith) refl c.index-types-types.is in
    ap (λ o. or_not_type Γ (Var c.args.i) o n) (at ∙ ap Some (sym c.in_ok-shift.ensures.tree))

pub returns-else-from_last-types-clause-value : goal.returns-else-from_last-types-clause-value
returns-else-from_last-types-clause-value g c Γ n r e =
    let means = g.T.Terms.means c.args.terms.now in
    let m = ap count (sym r) ∙ count_of means c.args.types.now in (
      ap (λ o. or_not_type Γ (Var c.args.i) o n) (no_entry Γ c.args.i (omega (arith, m, c.if-from_last-types.false)))
          ∙ ap (λ k. Refused (NotType k (Var c.args.i)) n) m
          ∙ ap (λ t. Refused (NotType (length c.args.types.now) t) n) (sym e),
      c.requires.term,
    )
