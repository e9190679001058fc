-- What each printed piece is as tokens, whatever follows.
use Rattle.std.proofs.Common.{◌≡◌, ℕ, ◌+◌, Bool, true, false, ◌||◌, [], ◌∷◌, slice_index, refl, sym, arith}
use Rattle.std.specs.Prelude.{◌==◌}
use Rattle.std.proofs.lemmas.Bool.{false≢true}
use Rattle.term_syntax.specs.declared.kind.Kind.{Kind}
use Rattle.term_syntax.specs.declared.kind.Kind.TheVariants as k
use Rattle.std.specs.Char.{is_ascii_alphanumeric, is_ascii_digit, is_ascii_uppercase, is_ascii_lowercase}
use Rattle.ld_terms.specs.Names.{is_name_byte}
use Rattle.term_syntax.specs.Lex.{Text, Lexeme, token, lexemes}
use Rattle.term_syntax.proofs.LexLemmas.{lexemes_token, lexemes_blank}

-- a token of this kind with this text
abbrev pub tok : Kind → ℕ → Text → Lexeme
tok t at text = record { kind = t; at = at; text = text }

-- The next byte, if there is one, neither goes on with a name nor makes it a constant's.
abbrev pub Ends : Text → Type 0
Ends more = (is_name_byte (slice_index more 0) || slice_index more 0 == 40) ≡ false

pub or_false : (a b : Bool) → (a || b) ≡ false → (a ≡ false) × (b ≡ false)
or_false true b e = absurd (false≢true (sym e))
or_false false b e = (refl, e)

pub no_tail : (more : Text) → Ends more → is_name_byte (slice_index more 0) ≡ false
no_tail more e = (or_false (is_name_byte (slice_index more 0)) (slice_index more 0 == 40) e).0

pub no_digit : (more : Text) → Ends more → is_ascii_digit (slice_index more 0) ≡ false
no_digit more e =
    let b = slice_index more 0 in
    let p = or_false (is_ascii_alphanumeric b) (b == 95) (no_tail more e) in
    let q = or_false (is_ascii_digit b || is_ascii_uppercase b) (is_ascii_lowercase b) p.0 in
    (or_false (is_ascii_digit b) (is_ascii_uppercase b) q.0).0

pub lex_blank : (at : ℕ) (more : Text) → lexemes at (32 ∷ more) ≡ lexemes (at + 1) more
lex_blank at more = lexemes_blank at 32 more refl

pub lex_open : (at : ℕ) (more : Text) → lexemes at (40 ∷ more) ≡ tok k.Open at (40 ∷ []) ∷ lexemes (at + 1) more
unfolding token
lex_open at more = lexemes_token at 40 more refl (omega arith)

pub lex_close : (at : ℕ) (more : Text) → lexemes at (41 ∷ more) ≡ tok k.Close at (41 ∷ []) ∷ lexemes (at + 1) more
unfolding token
lex_close at more = lexemes_token at 41 more refl (omega arith)

pub lex_comma : (at : ℕ) (more : Text) → lexemes at (44 ∷ more) ≡ tok k.Comma at (44 ∷ []) ∷ lexemes (at + 1) more
unfolding token
lex_comma at more = lexemes_token at 44 more refl (omega arith)

pub lex_star : (at : ℕ) (more : Text) → lexemes at (42 ∷ more) ≡ tok k.Star at (42 ∷ []) ∷ lexemes (at + 1) more
unfolding token
lex_star at more = lexemes_token at 42 more refl (omega arith)

pub lex_colon : (at : ℕ) (more : Text) → lexemes at (58 ∷ 32 ∷ more) ≡ tok k.Colon at (58 ∷ []) ∷ lexemes (at + 1) (32 ∷ more)
unfolding token
lex_colon at more = lexemes_token at 58 (32 ∷ more) refl (omega arith)

pub lex_arrow : (at : ℕ) (more : Text) → lexemes at (45 ∷ 62 ∷ more) ≡ tok k.Arrow at (45 ∷ 62 ∷ []) ∷ lexemes (at + 2) more
unfolding token
lex_arrow at more = lexemes_token at 45 (62 ∷ more) refl (omega arith)

pub lex_fat_arrow : (at : ℕ) (more : Text) → lexemes at (61 ∷ 62 ∷ more) ≡ tok k.FatArrow at (61 ∷ 62 ∷ []) ∷ lexemes (at + 2) more
unfolding token
lex_fat_arrow at more = lexemes_token at 61 (62 ∷ more) refl (omega arith)

pub lex_fun : (at : ℕ) (more : Text) → lexemes at (102 ∷ 117 ∷ 110 ∷ 32 ∷ more) ≡ tok k.Fun at (102 ∷ 117 ∷ 110 ∷ []) ∷ lexemes (at + 3) (32 ∷ more)
unfolding token
lex_fun at more = lexemes_token at 102 (117 ∷ 110 ∷ 32 ∷ more) refl (omega arith)
