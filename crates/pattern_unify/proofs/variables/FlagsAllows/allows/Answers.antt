use Rattle.std.proofs.Common.{◌≡◌, ◌≤◌, nat_lt, false, length, ◌∙◌, arith}
use Rattle.pattern_unify.proofs.Places.{kept_inside, kept_outside}
use Rattle.pattern_unify.proofs.variables.FlagsAllows.allows.Goals as goal

pub returns-then-from_last-self : goal.returns-then-from_last-self
returns-then-from_last-self c = kept_inside c.args.self.now.flags.now c.args.i (omega (arith, c.if-from_last-self.true))

pub returns-else-from_last-self : goal.returns-else-from_last-self
returns-else-from_last-self c =
    let out : length c.args.self.now.flags.now ≤ c.args.i = omega (arith, c.if-from_last-self.false) in
    let no : nat_lt c.args.i (length c.args.self.now.flags.now) ≡ false = grind (arith, out) in
    no ∙ kept_outside c.args.self.now.flags.now c.args.i out
