-- A word, by its first byte and the others.
use Rattle.std.proofs.Common.{◌≡◌, ℕ, ◌<◌, List, [], ◌∷◌, length, drop, Bool, false, ◌&&◌, refl, ap, arith}
use Rattle.std.specs.Prelude.{slice_index}
use Rattle.std.specs.Char.{is_ascii_alphabetic}
use Rattle.std.specs.List.{list_all}
use Rattle.ld_terms.specs.Names.{is_name_byte, is_word}

pub empty_word : (bytes : List ℕ) → length bytes ≡ 0 → is_word bytes ≡ false
empty_word [] e = refl
empty_word (b ∷ bs) e = absurd (omega arith)

pub word_by : (bytes : List ℕ) (a : Bool) → 0 < length bytes → is_ascii_alphabetic (slice_index bytes 0) ≡ a → is_word bytes ≡ a && list_all is_name_byte (drop 1 bytes)
word_by [] a l e = absurd (omega arith)
word_by (b ∷ bs) a l e = ap (λ x. x && list_all is_name_byte bs) e
