use Rattle.std.proofs.Common.{◌≡◌, ℕ, zero, suc, ◌+◌, ◌-◌, ◌≤◌, ◌<◌, true, false, cond, [], ◌∷◌, length, drop, get_or, refl, ap, ◌∙◌, arith, add-zero, add-one, drop-cons}
use Rattle.std.proofs.lemmas.List.{drop-drop, drop_all}
use Rattle.term_syntax.specs.declared.kind.Kind.TheVariants.{End}
use Rattle.term_syntax.specs.Lex.{Text, Cut, token, lexeme, is_blank, lexemes_from, lexemes}
use Rattle.std.proofs.Common.{eqb}
use Rattle.std.proofs.lemmas.Bool.Decides.{nat_tests}
use Rattle.term_syntax.specs.Input.{IsNext}

pub lexemes_from-drop : (n at : ℕ) (z : Text) → lexemes_from n at z ≡ lexemes (at + n) (drop n z)
unfolding lexemes
lexemes_from-drop zero at z = rw add-zero
lexemes_from-drop (suc n) at [] = refl
lexemes_from-drop (suc n) at (b ∷ z) = let e : at + 1 + n ≡ at + suc n = omega arith in rw (← e) (lexemes_from-drop n (at + 1) z)

drop-pred : (n b : ℕ) (z : Text) → 1 ≤ n → drop (n - 1) z ≡ drop n (b ∷ z)
drop-pred zero b z h = absurd (omega arith)
drop-pred (suc n) b z h = let e : suc n - 1 ≡ n = omega arith in ap (λ k. drop k z) e

pub lexemes_blank : (at b : ℕ) (z : Text) → is_blank b ≡ true → lexemes at (b ∷ z) ≡ lexemes (at + 1) z
unfolding lexemes
lexemes_blank at b z h = ap (λ t. cond t (lexemes_from zero (at + 1) z) (lexeme at (b ∷ z) ∷ lexemes_from ((token (b ∷ z)).1 - 1) (at + 1) z)) h

pub lexemes_none : (at : ℕ) → lexemes at [] ≡ []
unfolding lexemes
lexemes_none at = refl

lexemes_cut : (at b : ℕ) (z : Text) → is_blank b ≡ false → lexemes at (b ∷ z) ≡ lexeme at (b ∷ z) ∷ lexemes_from ((token (b ∷ z)).1 - 1) (at + 1) z
unfolding lexemes
lexemes_cut at b z h = ap (λ t. cond t (lexemes_from zero (at + 1) z) (lexeme at (b ∷ z) ∷ lexemes_from ((token (b ∷ z)).1 - 1) (at + 1) z)) h

past : (n at b : ℕ) (z : Text) → 1 ≤ n → lexemes_from (n - 1) (at + 1) z ≡ lexemes (at + n) (drop n (b ∷ z))
past n at b z moves =
    let e : at + 1 + (n - 1) ≡ at + n = omega arith in
    lexemes_from-drop (n - 1) (at + 1) z ∙ rw (e, drop-pred n b z moves)

pub lexemes_token : (at b : ℕ) (z : Text) → is_blank b ≡ false → 1 ≤ (token (b ∷ z)).1
    → lexemes at (b ∷ z) ≡ lexeme at (b ∷ z) ∷ lexemes (at + (token (b ∷ z)).1) (drop (token (b ∷ z)).1 (b ∷ z))
lexemes_token at b z h moves = lexemes_cut at b z h ∙ ap (λ ls. lexeme at (b ∷ z) ∷ ls) (past (token (b ∷ z)).1 at b z moves)

-- a text that is not over begins with a byte
pub split : (text : Text) (i : ℕ) → i < length text → drop i text ≡ get_or text i 0 ∷ drop (i + 1) text
split text i h = rw (add-one) (drop-cons text i 0 h)

pub skips_blank : (text : Text) (i : ℕ) → i < length text → is_blank (get_or text i 0) ≡ true → lexemes i (drop i text) ≡ lexemes (i + 1) (drop (i + 1) text)
skips_blank text i h blank = rw (split text i h) (lexemes_blank i (get_or text i 0) (drop (i + 1) text) blank)

drop_more : (text : Text) (i n : ℕ) → drop n (drop i text) ≡ drop (i + n) text
drop_more text i n = drop-drop n i text

-- what stands at a place, by what the text is from there on
at_token : (text : Text) (from i b : ℕ) (z : Text) (cut : Cut) → drop i text ≡ b ∷ z → from ≤ i → is_blank b ≡ false
    → lexemes from (drop from text) ≡ lexemes i (drop i text) → cut ≡ token (b ∷ z) → 1 ≤ cut.1 → i + cut.1 ≤ length text → IsNext text from i cut
at_token text from i b z cut here after word same is moves within =
    let moves' : 1 ≤ (token (b ∷ z)).1 = rw (← is) moves in
    let shown : lexemes i (drop i text) ≡ lexeme i (b ∷ z) ∷ lexemes (i + cut.1) (drop (i + cut.1) text) =
    rw (here, is, ← drop_more text i (token (b ∷ z)).1, here) (lexemes_token i b z word moves') in
    record {
      after = after;
      within = within;
      same = same;
      kind = rw (shown, is) refl;
      spelling = rw (shown, here, is) refl;
      rest = rw shown refl;
      place = rw shown refl;
      over = rw shown (let e : eqb i (length text) ≡ false = grind (arith, nat_tests) in e);
    }

pub next_token : (text : Text) (from i : ℕ) (cut : Cut) → from ≤ i → i < length text → is_blank (get_or text i 0) ≡ false
    → lexemes from (drop from text) ≡ lexemes i (drop i text) → cut ≡ token (drop i text) → 1 ≤ cut.1 → i + cut.1 ≤ length text → IsNext text from i cut
next_token text from i cut after below word same is moves within =
    at_token text from i (get_or text i 0) (drop (i + 1) text) cut (split text i below) after word same (rw (← split text i below) is) moves within

pub no_token : (text : Text) (from i : ℕ) → from ≤ i → i ≡ length text → lexemes from (drop from text) ≡ lexemes i (drop i text) → IsNext text from i (End, 0)
no_token text from i after is same =
    let over : drop i text ≡ [] = drop_all i text (omega arith) in
    let shown : lexemes i (drop i text) ≡ [] = rw over (lexemes_none i) in
    record {
      after = after;
      within = omega arith;
      same = same;
      kind = rw shown refl;
      spelling = rw shown refl;
      rest = rw (add-zero, shown) refl;
      place = rw shown is;
      over = rw shown (let e : eqb i (length text) ≡ true = grind (arith, nat_tests) in e);
    }
