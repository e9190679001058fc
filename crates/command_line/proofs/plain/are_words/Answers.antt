use Rattle.std.proofs.Common.{◌≡◌, ◌∙◌, ap, sym, false, string_bytes, arith}
use Rattle.std.specs.List.{list_all}
use Rattle.std.proofs.lemmas.List.Folds.{list_all-map, list_all_at}
use Rattle.std.proofs.lemmas.List.{take_all}
use Rattle.command_line.specs.Given.{is_word}
use Rattle.command_line.proofs.plain.are_words.Goals as goal

pub returns-then-not-is_word : goal.returns-then-not-is_word
returns-then-not-is_word c =
    let ws = c.args.words.now in
    let item = c.word-item.result in
    let bad : is_word (string_bytes item) ≡ false = ap is_word (sym c.as_str.ensures.value) ∙ sym c.is_word.ensures ∙ c.if-not-is_word.true in
    sym (list_all-map is_word string_bytes ws ∙ list_all_at (λ w. is_word (string_bytes w)) ws c.loop-word.word-index item (omega arith) (ap (λ w. is_word (string_bytes w)) (sym c.word-item.is) ∙ bad))

pub returns : goal.returns
returns c =
    let ws = c.args.words.now in
    sym (list_all-map is_word string_bytes ws ∙ ap (list_all (λ w. is_word (string_bytes w))) (sym (take_all c.loop-word.word-index ws (omega arith))) ∙ c.loop-word.invariant)
