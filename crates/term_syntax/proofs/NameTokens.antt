-- A name is one token: a variable's, or a constant's where a parenthesis follows directly.
use Rattle.std.proofs.Common.{◌≡◌, ℕ, ◌+◌, Bool, true, false, cond, ◌&&◌, ◌||◌, [], ◌∷◌, ◌++◌, length, slice_index, refl, ap, sym, ◌∙◌, arith}
use Rattle.std.specs.Prelude.{◌==◌, not, nat_le, nat_lt, codes}
use Rattle.std.specs.List.{prefix_len, list_all}
use Rattle.std.specs.Str.{bytes_eq}
use Rattle.std.proofs.lemmas.Bool.{false≢true}
use Rattle.std.proofs.lemmas.Bool.Decides.{nat_tests}
use Rattle.ld_terms.specs.Names.{IsTextName, is_name_byte, is_word, is_reserved}
use Rattle.term_syntax.specs.declared.kind.Kind.{Kind}
use Rattle.term_syntax.specs.declared.kind.Kind.TheVariants as k
use Rattle.std.specs.Char.{is_ascii_alphabetic, is_ascii_digit, is_ascii_uppercase, is_ascii_lowercase}
use Rattle.term_syntax.specs.Lex.{Text, token, word, word_kind, level, punctuation, lexemes, is_blank}
use Rattle.term_syntax.proofs.LexLemmas.{lexemes_token}
use Rattle.term_syntax.proofs.PrintedTokens.{tok, or_false}
use Rattle.term_syntax.proofs.Levels.{take_front, drop_front}

and_true : (a b : Bool) → (a && b) ≡ true → (a ≡ true) × (b ≡ true)
and_true true b e = (refl, e)
and_true false b e = absurd (false≢true e)

not_false : (b : Bool) → not b ≡ true → b ≡ false
not_false true e = absurd (false≢true e)
not_false false e = refl

stops : (more : Text) → is_name_byte (slice_index more 0) ≡ false → prefix_len is_name_byte more ≡ 0
stops [] e = refl
stops (b ∷ more) e = rw e refl

passes : (bs more : Text) → list_all is_name_byte bs ≡ true → is_name_byte (slice_index more 0) ≡ false → prefix_len is_name_byte (bs ++ more) ≡ length bs
passes [] more h e = stops more e
passes (b ∷ bs) more h e =
    let p = and_true (is_name_byte b) (list_all is_name_byte bs) h in
    rw (p.0, passes bs more p.1 e) (omega arith)

byte_behind : (bs more : Text) → slice_index (bs ++ more) (length bs) ≡ slice_index more 0
byte_behind [] more = refl
byte_behind (b ∷ bs) more = byte_behind bs more

letter_tail : (b : ℕ) → is_ascii_alphabetic b ≡ true → is_name_byte b ≡ true
letter_tail b e = among (is_ascii_digit b) (is_ascii_uppercase b) (is_ascii_lowercase b) (b == 95) e where
  among : (d u l x : Bool) → (u || l) ≡ true → (((d || u) || l) || x) ≡ true
  among true u l x e = refl
  among false true l x e = refl
  among false false true x e = refl
  among false false false x e = absurd (false≢true e)

letter_no_blank : (b : ℕ) → is_ascii_alphabetic b ≡ true → is_blank b ≡ false
letter_no_blank b e = grind (arith, nat_tests, e)

-- what a name's kind is by the byte behind it
abbrev pub name_kind : ℕ → Kind
name_kind next = cond (next == 40) k.Call k.Name

unreserved : (name : Text) (next : ℕ) → is_reserved name ≡ false → word_kind name next ≡ name_kind next
unreserved name next e =
    let p = or_false (bytes_eq name (codes "fun")) _ e in
    let q = or_false (bytes_eq name (codes "def")) _ p.1 in
    let r = or_false (bytes_eq name (codes "prim")) _ q.1 in
    rw (p.0, q.0, r.0) refl

word_cut : (name more : Text) (end : ℕ) → prefix_len is_name_byte (name ++ more) ≡ end → end ≡ length name → nat_lt 64 end ≡ false → is_reserved name ≡ false → word (name ++ more) ≡ (name_kind (slice_index more 0), length name)
word_cut name more end e is short free =
    let whole : prefix_len is_name_byte (name ++ more) ≡ length name = e ∙ is in
    let small : nat_lt 64 (length name) ≡ false = ap (λ n. nat_lt 64 n) (sym is) ∙ short in
    rw (whole, small, take_front name more, byte_behind name more, unreserved name (slice_index more 0) free) refl

by_letter : (b : ℕ) (z : Text) → is_ascii_alphabetic b ≡ true → token (b ∷ z) ≡ word (b ∷ z)
unfolding token
by_letter b z e = ap (λ t. cond t (word (b ∷ z)) (cond (b == 37) (level (b ∷ z)) (punctuation b (slice_index z 0)))) e

pub name_token : (b : ℕ) (bs more : Text) → IsTextName (b ∷ bs) → is_name_byte (slice_index more 0) ≡ false → token (b ∷ (bs ++ more)) ≡ (name_kind (slice_index more 0), length (b ∷ bs))
name_token b bs more h e =
    let p = and_true (is_word (b ∷ bs) && nat_le (length (b ∷ bs)) 64) (not (is_reserved (b ∷ bs))) h in
    let q = and_true (is_word (b ∷ bs)) (nat_le (length (b ∷ bs)) 64) p.0 in
    let r = and_true (is_ascii_alphabetic b) (list_all is_name_byte bs) q.0 in
    let end : prefix_len is_name_byte ((b ∷ bs) ++ more) ≡ length (b ∷ bs) = rw (letter_tail b r.0, passes bs more r.1 e) (omega arith) in
    let short : nat_lt 64 (length (b ∷ bs)) ≡ false = grind (arith, nat_tests, q.1) in
    by_letter b (bs ++ more) r.0 ∙ (word_cut (b ∷ bs) more _ end refl short (not_false (is_reserved (b ∷ bs)) p.1))

pub lex_name : (at : ℕ) (name more : Text) → IsTextName name → is_name_byte (slice_index more 0) ≡ false
    → lexemes at (name ++ more) ≡ tok (name_kind (slice_index more 0)) at name ∷ lexemes (at + length name) more
lex_name at [] more h e = absurd (false≢true h)
lex_name at (b ∷ bs) more h e =
    let t = name_token b bs more h e in
    let p = and_true (is_word (b ∷ bs) && nat_le (length (b ∷ bs)) 64) (not (is_reserved (b ∷ bs))) h in
    let q = and_true (is_word (b ∷ bs)) (nat_le (length (b ∷ bs)) 64) p.0 in
    let r = and_true (is_ascii_alphabetic b) (list_all is_name_byte bs) q.0 in
    lexemes_token at b (bs ++ more) (letter_no_blank b r.0) (rw t (omega arith)) ∙ rw (t, take_front bs more, drop_front bs more) refl
