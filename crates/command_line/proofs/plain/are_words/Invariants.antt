use Rattle.std.proofs.Common.{◌≡◌, true, take, string_bytes}
use Rattle.std.specs.List.{list_all}
use Rattle.command_line.specs.Given.{is_word}
use Rattle.command_line.proofs.plain.are_words.Given as goal

abbrev pub invariant-loop-word : goal.invariant-loop-word
invariant-loop-word l = list_all (λ w. is_word (string_bytes w)) (take l.word-index l.words) ≡ true
