-- A level name is one token, and its number is read back.
use Rattle.std.proofs.Common.{◌≡◌, ℕ, zero, suc, ◌+◌, ◌-◌, ◌*◌, ◌^◌, ◌<◌, ◌≤◌, Bool, true, false, cond, ◌||◌, eqb, eqb-true, inl, inr, ◌⊎◌, List, [], ◌∷◌, ◌++◌, length, take, drop, get_or, fold, refl, ap, ◌∙◌, arith, rules}
use Rattle.std.specs.Prelude.{decimal, nat_lt, map}
use Rattle.std.specs.Fmt.{digits}
use Rattle.std.specs.Int.{IsInRange}
use Rattle.std.specs.Int.Digits.{digits_of}
use Rattle.std.specs.List.{prefix_len}
use Rattle.std.proofs.lemmas.Bool.Decides.{nat_tests}
use Rattle.std.proofs.lemmas.Fmt.{digits_decimal, digits_value-decimal, decimal-digits_of, length-decimal-le, decimal_nonempty}
use Rattle.std.proofs.lemmas.Int.Digits.{first_digits_of}
use Rattle.std.proofs.lemmas.Str.Parse.{IsNumeralModel, numerals_by_fold}
use Rattle.term_syntax.specs.declared.kind.Kind.TheVariants as k
use Rattle.std.specs.Char.{is_ascii_digit}
use Rattle.term_syntax.specs.Lex.{Text, Cut, token, level, lexemes}
use Rattle.term_syntax.specs.Grammar.{level_of}
use Rattle.term_syntax.proofs.LexLemmas.{lexemes_token}
use Rattle.ld_terms.specs.Names.{level_name}
use Rattle.term_syntax.proofs.PrintedTokens.{tok, Ends, no_digit}

two : (b : Bool) → (b ≡ true) ⊎ (b ≡ false)
two true = inl refl
two false = inr refl

abbrev pub AllDigits : List ℕ → Type 0
AllDigits [] = Unit {0}
AllDigits (c ∷ cs) = IsInRange 48 57 c × AllDigits cs

abbrev read_on : ℕ → List ℕ → ℕ
read_on n [] = n
read_on n (c ∷ cs) = read_on (10 * n + (c - 48)) cs

own : IsNumeralModel AllDigits (read_on 0)
own = numerals_by_fold _ (search rules) read_on (search rules)

is_digit_in : (c : ℕ) → IsInRange 48 57 c → is_ascii_digit c ≡ true
is_digit_in c h = grind (arith, nat_tests)

pass_none : (more : Text) → Ends more → prefix_len is_ascii_digit more ≡ 0
pass_none [] e = refl
pass_none (b ∷ more) e = rw (no_digit (b ∷ more) e) refl

pass_all : (ds more : List ℕ) → AllDigits ds → Ends more → prefix_len is_ascii_digit (ds ++ more) ≡ length ds
pass_all [] more h e = pass_none more e
pass_all (c ∷ cs) more h e = rw (is_digit_in c h.0, pass_all cs more h.1 e) (omega arith)

level_by : (c len : ℕ) → (c ≡ 48 → len ≡ 0) → len ≤ 8 → ◌≡◌ {A = Cut} (cond (eqb c 48) (k.Level, 2) (cond (eqb (1 + suc len) 1 || nat_lt 10 (1 + suc len)) (k.Bad, 1) (k.Level, 1 + suc len))) (k.Level, suc (suc len))
level_by c len h short = elim (two (eqb c 48)) [
  | inl e ↦ (let z : len ≡ 0 = h (eqb-true c 48 e) in rw (e, z) refl)
  | inr e ↦ (let a : eqb (1 + suc len) 1 ≡ false = grind (arith, nat_tests) in let b : nat_lt 10 (1 + suc len) ≡ false = grind (arith, nat_tests) in let f : 1 + suc len ≡ suc (suc len) = omega arith in rw (e, a, b, f) refl)
]

level_at : (c : ℕ) (cs more : List ℕ) → AllDigits (c ∷ cs) → Ends more → length cs ≤ 8 → (c ≡ 48 → cs ≡ []) → level (37 ∷ c ∷ (cs ++ more)) ≡ (k.Level, suc (suc (length cs)))
level_at c cs more h e short zero_alone = rw (pass_all (c ∷ cs) more h e) (level_by c (length cs) (λ z. ap length (zero_alone z)) short)

folded : (ds : List ℕ) (n : ℕ) → fold (λ n b. 10 * n + (b - 48)) n ds ≡ read_on n ds
folded [] n = refl
folded (c ∷ cs) n = folded cs (10 * n + (c - 48))

pub level_of_name : (n : ℕ) → n < 2 ^ 32 → level_of (level_name n) ≡ n
unfolding level_of
level_of_name n h = folded (decimal n) 0 ∙ digits_value-decimal own n (omega arith)

not_zero_first : (ds ls : List ℕ) → 0 < get_or ls 0 0 → ds ≡ map (λ d. 48 + d) ls → get_or ds 0 0 ≡ 48 → ⊥
not_zero_first ds [] some e z = omega arith
not_zero_first ds (d ∷ ls) some e z = omega (arith, ap (λ xs. get_or xs 0 0) e)

first_of_decimal : (n : ℕ) → n < 2 ^ 64 → get_or (decimal n) 0 0 ≡ 48 → decimal n ≡ 48 ∷ []
unfolding digits
first_of_decimal zero h z = refl
first_of_decimal (suc n) h z = absurd (not_zero_first (decimal (suc n)) (digits_of 10 (suc n)) (first_digits_of 10 (suc n) (omega arith) (omega arith)) (decimal-digits_of (suc n) (omega arith) h) z)

level_text : (ds more : List ℕ) → AllDigits ds → Ends more → 0 < length ds → length ds ≤ 9 → (get_or ds 0 0 ≡ 48 → ds ≡ 48 ∷ []) → level (37 ∷ (ds ++ more)) ≡ (k.Level, suc (length ds))
level_text [] more h e some short zero_alone = absurd (omega arith)
level_text (c ∷ cs) more h e some short zero_alone = level_at c cs more h e (omega arith) (λ z. ap (λ ls. drop 1 ls) (zero_alone z))

-- the whole token
pub level_token : (n : ℕ) (more : Text) → n < 10 ^ 9 → Ends more → token (level_name n ++ more) ≡ (k.Level, length (level_name n))
unfolding token
level_token n more h e =
    level_text (decimal n) more (digits_decimal own n (omega arith)) e (decimal_nonempty n (omega arith)) (length-decimal-le 9 n (omega arith) h (omega arith)) (first_of_decimal n (omega arith))

pub take_front : (ds more : List ℕ) → take (length ds) (ds ++ more) ≡ ds
take_front [] more = refl
take_front (c ∷ cs) more = ap (λ xs. c ∷ xs) (take_front cs more)

pub drop_front : (ds more : List ℕ) → drop (length ds) (ds ++ more) ≡ more
drop_front [] more = refl
drop_front (c ∷ cs) more = drop_front cs more

pub lex_level : (n at : ℕ) (more : Text) → n < 10 ^ 9 → Ends more → lexemes at (level_name n ++ more) ≡ tok k.Level at (level_name n) ∷ lexemes (at + length (level_name n)) more
lex_level n at more h e =
    let t = level_token n more h e in
    lexemes_token at 37 (decimal n ++ more) refl (rw t (omega arith)) ∙ rw (t, take_front (decimal n) more, drop_front (decimal n) more) refl
