-- A number of so many digits, and what `parse` reads.
use Rattle.std.proofs.Common.{rules, ◌≡◌, ◌∙◌, sym, ap, ℕ, [], ◌∷◌, length, ◌<◌, ◌≤◌, arith, true, false, Bool, Result, Ok, Err, Some, None, refl, le-leb, cond, ◌&&◌, nat_le}
use Rattle.std.specs.List.{list_all}
use Rattle.std.specs.Char.{is_ascii_digit}
use Rattle.std.specs.Result.{result_ok}
use Rattle.std.specs.Str.Parse.{ParsesUnsigned, digits_value}
use Rattle.std.proofs.lemmas.Bool.{lt-leb}
use Rattle.std.proofs.lemmas.Str.Parse.{IsNumeralModel, numerals_by_value, parse_digits, parse_gives, digits_value_short}
use Rattle.command_line.specs.Given.{Text, number}

abbrev AreDigits : Text → Type 0
AreDigits ds = list_all is_ascii_digit ds ≡ true

own : IsNumeralModel AreDigits (digits_value 10)
own = numerals_by_value AreDigits (search rules)

pub too_long : (digits : ℕ) (t : Text) → digits < length t → None ≡ number digits t
too_long digits t h = by (list_all is_ascii_digit t) (nat_le 1 (length t)) (nat_le (length t) digits) (lt-leb (length t) digits h)
  where
    by : (a b c : Bool) → c ≡ false → None ≡ cond (a && (b && c)) (Some (digits_value 10 t)) None
    by true true c e = rw e refl
    by true false c e = refl
    by false b c e = refl

pub no_digits : (digits : ℕ) (t : Text) → list_all is_ascii_digit t ≡ false → None ≡ number digits t
no_digits digits t e = rw e refl

pub parsed : {E : Type 0} (digits : ℕ) (t : Text) (r : Result ℕ E) → digits ≤ 19 → length t ≤ digits → list_all is_ascii_digit t ≡ true → ParsesUnsigned 64 10 t r → result_ok r ≡ number digits t
parsed {E} digits [] (Ok x) most fits are h = let g = (parse_digits own {E = E} 64 [] (Ok x) h are).0 in absurd (omega (arith, g.0))
parsed {E} digits [] (Err e) most fits are h = refl
parsed {E} digits (b ∷ bs) r most fits are h =
    let gives : r ≡ Ok (digits_value 10 (b ∷ bs)) = parse_gives own 64 (b ∷ bs) r h are (omega arith) (omega (arith, digits_value_short own (b ∷ bs) 19 are (omega arith))) in
    let some : nat_le 1 (length (b ∷ bs)) ≡ true = le-leb 1 (length (b ∷ bs)) (omega arith) in
    let few : nat_le (length (b ∷ bs)) digits ≡ true = le-leb (length (b ∷ bs)) digits fits in
    ap result_ok gives ∙ sym (rw (are, some, few) refl)
