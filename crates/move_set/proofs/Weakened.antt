-- A term behind one more entry.
use Rattle.std.proofs.Common.{◌≡◌, suc, ◌+◌, sym, ap, ◌∙◌, arith}
use mathlib.Core.Path.{fun_ext}
use Rattle.ld_trees.specs.Term.{Term}
use Rattle.ld_trees.specs.Substitution.{rename, weaken, shift}
use Rattle.ld_trees.proofs.Recursions.{shift_is}

pub weakened : (t : Term) → shift 0 1 t ≡ weaken t
weakened t = sym (ap (λ r. rename r t) (fun_ext (λ i. let q : suc i ≡ i + 1 = omega arith in q)) ∙ sym (shift_is t 0 1))
