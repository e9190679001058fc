use Rattle.std.proofs.Common.{◌≡◌, ◌++◌, take}
use Rattle.std.specs.Prelude.{flat_map}
use Rattle.reply_text.specs.Members.{behind_comma}
use Rattle.reply_text.proofs.members.push_behind_commas.Given as goal

abbrev pub invariant-loop-member : goal.invariant-loop-member
invariant-loop-member l = l.out.items ≡ l.fn.out.items ++ flat_map behind_comma (take l.member-index l.members)
