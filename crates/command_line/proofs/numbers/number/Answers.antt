use Rattle.std.proofs.Common.{◌∙◌, sym}
use Rattle.command_line.proofs.Digits.{too_long, no_digits, parsed}
use Rattle.command_line.proofs.numbers.number.Goals as goal
use Rattle.command_line.proofs.numbers.number.Goals.{then-text-digits-via-then-text-digits, then-text-digits-via-else-text-digits+then-not-is_digits}

pub returns-then-text-digits : goal.returns-then-text-digits
returns-then-text-digits c = elim c.then-text-digits.branch [
  | then-text-digits-via-then-text-digits w ↦ too_long c.args.digits c.args.text.now w.if-text-digits.true
  | then-text-digits-via-else-text-digits+then-not-is_digits w ↦ no_digits c.args.digits c.args.text.now (sym w.is_digits.ensures ∙ w.if-not-is_digits.true)
]

pub returns : goal.returns
returns c = c.ok.ensures.value ∙ parsed c.args.digits c.args.text.now c.parse.result c.requires c.if-text-digits.false (sym c.is_digits.ensures ∙ c.if-not-is_digits.false) c.parse.ensures.value.0
