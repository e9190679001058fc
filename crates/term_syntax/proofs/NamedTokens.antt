-- A token of a text that is a name is a name of the texts.
use Rattle.std.proofs.Common.{◌≡◌, ℕ, zero, suc, ◌+◌, ◌-◌, Bool, true, false, cond, if◌then◌else◌, ◌||◌, [], ◌∷◌, length, take, drop, slice_index, All, refl, arith}
use Rattle.std.specs.Prelude.{◌==◌, nat_lt, nat_le, codes}
use Rattle.std.specs.Char.{is_ascii_alphabetic, is_ascii_digit}
use Rattle.std.specs.Int.{is_in_range}
use Rattle.std.specs.List.{prefix_len, list_all}
use Rattle.std.specs.Str.{bytes_eq}
use Rattle.std.proofs.lemmas.Bool.Decides.{nat_tests}
use Rattle.std.proofs.lemmas.List.{length-take}
use Rattle.std.proofs.lemmas.List.Elements.{All-cons, All-nil}
use Rattle.ld_terms.specs.Names.{IsTextName, is_name_byte, is_word, is_reserved}
use Rattle.term_syntax.specs.declared.kind.Kind.{Kind}
use Rattle.term_syntax.specs.declared.kind.Kind.TheVariants as k
use Rattle.term_syntax.specs.Lex.{Text, Cut, Lexeme, lexeme, lexemes_from, lexemes, token, word, word_kind, level, punctuation, is_blank}

-- a token of this kind is a name
abbrev pub IsWord : Kind → Type 0
IsWord k.Name = Unit {0}
IsWord k.Call = Unit {0}
IsWord _ = ⊥

abbrev Names : Text → Cut → Type 0
Names z c = IsWord c.0 → IsTextName (take c.1 z)

either : (Q : Cut → Type 0) (b : Bool) (x y : Cut) → Q x → Q y → Q (if b then x else y)
either Q true x y p q = p
either Q false x y p q = q

a_letter : (digit upper lower other : Bool) → (upper || lower) ≡ true → (((digit || upper) || lower) || other) ≡ true
a_letter true upper lower other e = refl
a_letter false upper lower other e = rw e refl

all_of_prefix : (z : Text) → list_all is_name_byte (take (prefix_len is_name_byte z) z) ≡ true
all_of_prefix [] = refl
all_of_prefix (b ∷ z) = by (is_name_byte b) refl (all_of_prefix z) where
  by : (c : Bool) → is_name_byte b ≡ c → list_all is_name_byte (take (prefix_len is_name_byte z) z) ≡ true → list_all is_name_byte (take (cond c (1 + prefix_len is_name_byte z) 0) (b ∷ z)) ≡ true
  by false e h = refl
  by true e h =
      let s : 1 + prefix_len is_name_byte z ≡ suc (prefix_len is_name_byte z) = omega arith in
      rw (s, e) h

free_word : (word : Text) (next : ℕ) → IsWord (word_kind word next) → is_reserved word ≡ false
free_word word next h = by (bytes_eq word (codes "fun")) (bytes_eq word (codes "def")) (bytes_eq word (codes "prim")) h where
  by : (f d p : Bool) → IsWord (if f then k.Fun else (if d then k.Def else (if p then k.Prim else (if next == 40 then k.Call else k.Name)))) → (f || (d || (p || false))) ≡ false
  by true d p h = absurd h
  by false true p h = absurd h
  by false false true h = absurd h
  by false false false h = refl

word_is_text : (b : ℕ) (z : Text) → is_ascii_alphabetic b ≡ true → Names (b ∷ z) (word (b ∷ z))
word_is_text b z e = by (nat_lt 64 (prefix_len is_name_byte (b ∷ z))) refl where
  begins : is_word (take (prefix_len is_name_byte (b ∷ z)) (b ∷ z)) ≡ true
  begins =
      let t : is_name_byte b ≡ true = a_letter (is_in_range 48 57 b) (is_in_range 65 90 b) (is_in_range 97 122 b) (b == 95) e in
      let s : 1 + prefix_len is_name_byte z ≡ suc (prefix_len is_name_byte z) = omega arith in
      rw (t, s, e) (all_of_prefix z)

  by : (c : Bool) → nat_lt 64 (prefix_len is_name_byte (b ∷ z)) ≡ c → Names (b ∷ z) (if c then (k.Bad, 1) else (word_kind (take (prefix_len is_name_byte (b ∷ z)) (b ∷ z)) (slice_index (b ∷ z) (prefix_len is_name_byte (b ∷ z))), prefix_len is_name_byte (b ∷ z)))
  by true l h = absurd h
  by false l h =
      let n = take (prefix_len is_name_byte (b ∷ z)) (b ∷ z) in
      let m = length-take (prefix_len is_name_byte (b ∷ z)) (b ∷ z) in
      let short : nat_le (length n) 64 ≡ true = grind (arith, nat_tests, l, m) in
      let free = free_word n (slice_index (b ∷ z) (prefix_len is_name_byte (b ∷ z))) h in
      rw (begins, short, free) refl

level_is_none : (b : ℕ) (z : Text) → Names (b ∷ z) (level (b ∷ z))
level_is_none b z = either (Names (b ∷ z)) (slice_index (b ∷ z) 1 == 48) _ _ (λ h. absurd h)
    (either (Names (b ∷ z)) (1 + prefix_len is_ascii_digit (drop 1 (b ∷ z)) == 1 || nat_lt 10 (1 + prefix_len is_ascii_digit (drop 1 (b ∷ z)))) _ _ (λ h. absurd h) (λ h. absurd h))

marks_none : (z : Text) (b next : ℕ) → Names z (punctuation b next)
marks_none z b next =
    either (Names z) (b == 42) _ _ (λ h. absurd h)
    (either (Names z) (b == 95) _ _ (λ h. absurd h)
    (either (Names z) (b == 63) _ _ (λ h. absurd h)
    (either (Names z) (b == 40) _ _ (λ h. absurd h)
    (either (Names z) (b == 41) _ _ (λ h. absurd h)
    (either (Names z) (b == 44) _ _ (λ h. absurd h)
    (either (Names z) (b == 59) _ _ (λ h. absurd h)
    (either (Names z) (b == 58) _ _ (either (Names z) (next == 61) _ _ (λ h. absurd h) (λ h. absurd h))
    (either (Names z) (b == 45) _ _ (either (Names z) (next == 62) _ _ (λ h. absurd h) (λ h. absurd h))
    (either (Names z) (b == 61) _ _ (either (Names z) (next == 62) _ _ (λ h. absurd h) (λ h. absurd h))
    (λ h. absurd h))))))))))

token_is_text : (b : ℕ) (z : Text) → Names (b ∷ z) (token (b ∷ z))
unfolding token
token_is_text b z = by (is_ascii_alphabetic b) refl where
  by : (c : Bool) → is_ascii_alphabetic b ≡ c → Names (b ∷ z) (if c then word (b ∷ z) else (if b == 37 then level (b ∷ z) else punctuation b (slice_index (b ∷ z) 1)))
  by true e = word_is_text b z e
  by false e = either (Names (b ∷ z)) (b == 37) _ _ (level_is_none b z) (marks_none (b ∷ z) b (slice_index (b ∷ z) 1))

-- of the tokens, those that are names are names of the texts
abbrev pub IsNamedToken : Lexeme → Type 0
IsNamedToken l = IsWord l.kind → IsTextName l.text

tokens_named : (z : Text) (left at : ℕ) → All IsNamedToken (lexemes_from left at z)
tokens_named [] left at = All-nil IsNamedToken
tokens_named (b ∷ z) (suc left) at = tokens_named z left (at + 1)
tokens_named (b ∷ z) zero at = by (is_blank b) (tokens_named z zero (at + 1)) (tokens_named z ((token (b ∷ z)).1 - 1) (at + 1)) where
  by : (c : Bool) → All IsNamedToken (lexemes_from zero (at + 1) z) → All IsNamedToken (lexemes_from ((token (b ∷ z)).1 - 1) (at + 1) z) → All IsNamedToken (if c then lexemes_from zero (at + 1) z else lexeme at (b ∷ z) ∷ lexemes_from ((token (b ∷ z)).1 - 1) (at + 1) z)
  by true blank others = blank
  by false blank others = All-cons IsNamedToken (lexeme at (b ∷ z)) (lexemes_from ((token (b ∷ z)).1 - 1) (at + 1) z) (token_is_text b z) others

pub lexemes_named : (text : Text) → All IsNamedToken (lexemes 0 text)
unfolding lexemes
lexemes_named text = tokens_named text 0 0
