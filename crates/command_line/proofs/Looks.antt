-- What a word of the command line is to `clap`.
use Rattle.std.proofs.Common.{◌≡◌, ℕ, List, [], ◌∷◌, refl, sym, ap, ◌∙◌, true, false, Bool, codes, Option, Some, None, ◌&&◌, not, slice_get, subst, ◌==◌, map, String, string_bytes}
use Rattle.std.specs.Str.{bytes_eq, chars, IsUtf8, encode_utf8_all}
use Rattle.std.specs.Char.{encode_utf8}
use Rattle.std.proofs.lemmas.Str.{encodes-chars, IsUtf8-string_bytes}
use Rattle.std.proofs.lemmas.Bool.{eqb-true}
use Rattle.clap.specs.Lexer.{long_of, short_of}
use Rattle.command_line.specs.Given.{Text, Known, is_word, are_words, is_value, option_of, cut_at_equals, kind_of_option}

pub data Looks (known : Known) (word : Text) : Type 0 where
  attached : (name v : Text) (takes : Bool) → long_of word ≡ Some (name, Some v) → option_of word ≡ Some (name, Some v) → is_value word ≡ false → kind_of_option known name ≡ Some takes → Looks known word
  bare : (name : Text) (takes : Bool) → long_of word ≡ Some (name, None) → option_of word ≡ Some (name, None) → is_value word ≡ false → kind_of_option known name ≡ Some takes → Looks known word
  unknown : (name : Text) (v : Option Text) → long_of word ≡ Some (name, v) → option_of word ≡ Some (name, v) → is_value word ≡ false → kind_of_option known name ≡ None → Looks known word
  bundle : (x : ℕ) (flags : Text) (c : ℕ) → long_of word ≡ None → short_of word ≡ Some (x ∷ flags) → slice_get (chars (x ∷ flags)) 0 ≡ Some c → option_of word ≡ None → is_value word ≡ false → Looks known word
  plain_value : long_of word ≡ None → short_of word ≡ None → option_of word ≡ None → is_value word ≡ true → Looks known word

of_long : (known : Known) (word name : Text) (v : Option Text) (k : Option Bool) → long_of word ≡ Some (name, v) → option_of word ≡ Some (name, v) → is_value word ≡ false → kind_of_option known name ≡ k → Looks known word
of_long known word name (Some v) (Some takes) l o i k = attached name v takes l o i k
of_long known word name None (Some takes) l o i k = bare name takes l o i k
of_long known word name v None l o i k = unknown name v l o i k

-- the first character behind a hyphen
first_char : (x : ℕ) (flags : Text) (cs : List ℕ) → encode_utf8_all (45 ∷ cs) ≡ 45 ∷ x ∷ flags → (c : ℕ) × (slice_get cs 0 ≡ Some c)
unfolding encode_utf8
first_char x flags [] h = let no : [] ≡ x ∷ flags = cc in absurd (let k : ⊥ = cc in k)
first_char x flags (c ∷ cs) h = (c, refl)

behind_hyphen : (x : ℕ) (flags : Text) → chars (45 ∷ x ∷ flags) ≡ 45 ∷ chars (x ∷ flags)
unfolding chars
behind_hyphen x flags = refl

some_char : (w : ℕ) (x : ℕ) (flags : Text) → (w == 45) ≡ true → IsUtf8 (w ∷ x ∷ flags) → (c : ℕ) × (slice_get (chars (x ∷ flags)) 0 ≡ Some c)
some_char w x flags e utf8 =
    let is_hyphen : w ≡ 45 = eqb-true w 45 e in
    let here : IsUtf8 (45 ∷ x ∷ flags) = subst (λ (n : ℕ). IsUtf8 (n ∷ x ∷ flags)) is_hyphen utf8 in
    first_char x flags (chars (x ∷ flags)) (sym (ap encode_utf8_all (behind_hyphen x flags)) ∙ encodes-chars (45 ∷ x ∷ flags) here)

looks_two : (known : Known) (x y : ℕ) (rest : Text) (b1 b2 : Bool) → (x == 45) ≡ b1 → (y == 45) ≡ b2 → is_word (x ∷ y ∷ rest) ≡ true → IsUtf8 (x ∷ y ∷ rest) → Looks known (x ∷ y ∷ rest)
looks_two known x y [] true true e f is utf8 = let no = rw (e, f) at is in cc
looks_two known x y (z ∷ rest) true true e f is utf8 = of_long known (x ∷ y ∷ z ∷ rest) (cut_at_equals (z ∷ rest)).0 (cut_at_equals (z ∷ rest)).1 (kind_of_option known (cut_at_equals (z ∷ rest)).0) (rw (e, f) refl) (rw (e, f) refl) (rw e refl) refl
looks_two known x y rest true false e f is utf8 = let char = some_char x y rest e utf8 in bundle y rest char.0 (rw (e, f) refl) (rw (e, f) refl) char.1 (rw (e, f) refl) (rw e refl)
looks_two known x y rest false b2 e f is utf8 = plain_value (rw e refl) (rw e refl) (rw e refl) (rw e refl)

looks_one : (known : Known) (x : ℕ) (b : Bool) → (x == 45) ≡ b → is_word (x ∷ []) ≡ true → Looks known (x ∷ [])
looks_one known x true e is = let no = rw e at is in cc
looks_one known x false e is = plain_value (rw e refl) (rw e refl) refl (rw e refl)

pub looks : (known : Known) (word : Text) → is_word word ≡ true → IsUtf8 word → Looks known word
looks known [] is utf8 = cc
looks known (x ∷ []) is utf8 = looks_one known x (x == 45) refl is
looks known (x ∷ y ∷ rest) is utf8 = looks_two known x y rest (x == 45) (y == 45) refl refl is utf8

-- `--` is no word
pub not_dashes : (word : Text) → is_word word ≡ true → bytes_eq word (45 ∷ 45 ∷ []) ≡ false
not_dashes word is = not_dashes_by (bytes_eq word []) (bytes_eq word (codes "-")) (bytes_eq word (codes "--")) _ refl is
  where
    not_dashes_by : (a b c d : Bool) → bytes_eq word (codes "--") ≡ c → (not a && (not b && (not c && d))) ≡ true → bytes_eq word (45 ∷ 45 ∷ []) ≡ false
    not_dashes_by false false false d e is = e
    not_dashes_by true b c d e is = cc
    not_dashes_by false true c d e is = cc
    not_dashes_by false false true d e is = cc

-- each word passes the first look, and is text
abbrev pub AreWords : List Text → Type 0
AreWords [] = Unit {0}
AreWords (w ∷ ws) = (is_word w ≡ true) × IsUtf8 w × AreWords ws

-- what the caller knows of its strings
pub words_are : {Z : Type 0} (ws : List (String Z)) → are_words (map string_bytes ws) ≡ true → AreWords (map string_bytes ws)
words_are [] e = tt
words_are (w ∷ ws) e = both_by (is_word (string_bytes w)) (are_words (map string_bytes ws)) e (words_are ws)
  where
    both_by : (a b : Bool) → (a && b) ≡ true → (b ≡ true → AreWords (map string_bytes ws)) → (a ≡ true) × IsUtf8 (string_bytes w) × AreWords (map string_bytes ws)
    both_by true true e ih = (refl, IsUtf8-string_bytes w, ih refl)
    both_by true false e ih = cc
    both_by false b e ih = cc
