-- The commands with words at their places, `check` and `demo`, on any words.
use Rattle.std.proofs.Common.{◌≡◌, ℕ, List, [], ◌∷◌, refl, true, false, codes, Option, Some, None, Result, IfOk, slice_get}
use Rattle.std.specs.Str.{bytes_eq, chars, IsUtf8}
use Rattle.clap.specs.Lexer.{long_of, short_of}
use Rattle.clap.specs.Words.{App, Text, fault_of, matches_of, is_simple, is_simple_and_free, FailsBy, HasMatchesOf}
use Rattle.clap.proofs.OnLiterals.{clap_on_literals}
use Rattle.clap.specs.declared.ArgMatches.{ArgMatches}
use Rattle.clap.specs.declared.error.Error.{Error}
use Rattle.command_line.specs.Given.{Known, is_value, is_word, places}
use Rattle.command_line.specs.Form.{check_places, demo_places}
use Rattle.command_line.specs.Parsed.{place_rule, Parses}
use Rattle.command_line.proofs.Looks.{Looks, attached, bare, unknown, bundle, plain_value, looks, not_dashes, AreWords}
use Rattle.command_line.proofs.Rows.{is_nil, Agree}
use Rattle.command_line.proofs.Ends.{Comes, parses}
use Rattle.command_line.proofs.Commands.{command}

abbrev pub check_command : App
check_command = command (codes "check") (place_rule (codes "file") ∷ [])

abbrev pub demo_command : App
demo_command = command (codes "demo") (place_rule (codes "seed") ∷ place_rule (codes "count") ∷ [])

pub demo_simple : is_simple_and_free demo_command ≡ true
unfolding clap_on_literals
demo_simple = refl

pub check_simple : is_simple_and_free check_command ≡ true
unfolding clap_on_literals
check_simple = refl

-- a value is a word that is no flag
pub record IsPlain (w : Text) : Type 0 where
  pub dashes : bytes_eq w (45 ∷ 45 ∷ []) ≡ false
  pub long : long_of w ≡ None
  pub short : short_of w ≡ None

pub data Sort (w : Text) : Type 0 where
  plain : IsPlain w → is_value w ≡ true → Sort w
  long_flag : (n : Text) (v : Option Text) → bytes_eq w (45 ∷ 45 ∷ []) ≡ false → long_of w ≡ Some (n, v) → is_value w ≡ false → Sort w
  short_flag : (x : ℕ) (flags : Text) (c : ℕ) → bytes_eq w (45 ∷ 45 ∷ []) ≡ false → long_of w ≡ None → short_of w ≡ Some (x ∷ flags) → slice_get (chars (x ∷ flags)) 0 ≡ Some c → is_value w ≡ false → Sort w

sort_by : (w : Text) → bytes_eq w (45 ∷ 45 ∷ []) ≡ false → Looks [] w → Sort w
sort_by w d (attached n v takes e o i k) = cc
sort_by w d (bare n takes e o i k) = cc
sort_by w d (unknown n v e o i k) = long_flag n v d e i
sort_by w d (bundle x flags c e f char o i) = short_flag x flags c d e f char i
sort_by w d (plain_value e f o i) = plain (record { dashes = d; long = e; short = f }) i

sort : (w : Text) → is_word w ≡ true → IsUtf8 w → Sort w
sort w is utf8 = sort_by w (not_dashes w is) (looks [] w is utf8)

check_none : is_nil (fault_of check_command []) ≡ false
unfolding clap_on_literals
check_none = refl

check_agree : Agree check_places check_places
check_agree = (refl, tt)

check_one : (a : Text) → IsPlain a → Comes check_places check_agree (fault_of check_command (a ∷ [])) (matches_of check_command (a ∷ [])) (Some ((codes "file", a) ∷ []))
unfolding clap_on_literals
check_one a p = (rw (p.dashes, p.long, p.short) refl, rw (p.dashes, p.long, p.short) refl)

check_flag : (w : Text) (ws : List Text) → Sort w → is_value w ≡ false → is_nil (fault_of check_command (w ∷ ws)) ≡ false
unfolding clap_on_literals
check_flag w ws (plain p i) bad = cc
check_flag w ws (long_flag n v d l i) bad = rw (d, l) refl
check_flag w ws (short_flag x flags c d l s h i) bad = rw (d, l, s, h) refl

check_second : (a w : Text) (ws : List Text) → IsPlain a → Sort w → is_nil (fault_of check_command (a ∷ w ∷ ws)) ≡ false
unfolding clap_on_literals
check_second a w ws p (plain q i) = rw (p.dashes, p.long, p.short, q.dashes, q.long, q.short) refl
check_second a w ws p (long_flag n v d l i) = rw (p.dashes, p.long, p.short, d, l) refl
check_second a w ws p (short_flag x flags c d l s h i) = rw (p.dashes, p.long, p.short, d, l, s, h) refl

check_by : (w : Text) (ws : List Text) → Sort w → AreWords ws → Comes check_places check_agree (fault_of check_command (w ∷ ws)) (matches_of check_command (w ∷ ws)) (places (codes "file" ∷ []) (w ∷ ws))
check_by w [] (plain p i) are = rw i (check_one w p)
check_by w (v ∷ vs) (plain p i) are = rw i (check_second w v vs p (sort v are.0 are.1))
check_by w ws (long_flag n v d l i) are = rw i (check_flag w ws (long_flag n v d l i) i)
check_by w ws (short_flag x flags c d l s h i) are = rw i (check_flag w ws (short_flag x flags c d l s h i) i)

check_comes : (words : List Text) → AreWords words → Comes check_places check_agree (fault_of check_command words) (matches_of check_command words) (places (codes "file" ∷ []) words)
check_comes [] are = check_none
check_comes (w ∷ ws) are = check_by w ws (sort w are.0 are.1) are.2

check_parses : is_simple check_command ≡ true
unfolding clap_on_literals
check_parses = refl

pub as_check : (r : Result ArgMatches Error) (words : List Text) → AreWords words → FailsBy (fault_of check_command words) r → IfOk r (HasMatchesOf check_command words) → Parses check_places (places (codes "file" ∷ []) words) r
as_check r words are fails matches = parses check_places check_agree r check_command words (places (codes "file" ∷ []) words) (check_comes words are) check_parses fails matches

-- a command of two words
module _ (title n1 n2 : Text) (same1 : bytes_eq n1 n1 ≡ true) (other : bytes_eq n1 n2 ≡ false) (back : bytes_eq n2 n1 ≡ false) (same2 : bytes_eq n2 n2 ≡ true) where
  abbrev pub two_known : Known
  two_known = (n1, true) ∷ (n2, true) ∷ []

  abbrev pub two_command : App
  two_command = command title (place_rule n1 ∷ place_rule n2 ∷ [])

  pub two_simple : is_simple_and_free two_command ≡ true
  unfolding clap_on_literals
  two_simple = refl

  two_agree : Agree two_known two_known
  two_agree = (rw same1 refl, (rw (other, same2) refl, tt))

  two_none : is_nil (fault_of two_command []) ≡ false
  unfolding clap_on_literals
  two_none = refl

  two_one : (a : Text) → IsPlain a → is_nil (fault_of two_command (a ∷ [])) ≡ false
  unfolding clap_on_literals
  two_one a p = simp (p.dashes, p.long, p.short, same1, other, back)

  two_two : (a b : Text) → IsPlain a → IsPlain b → Comes two_known two_agree (fault_of two_command (a ∷ b ∷ [])) (matches_of two_command (a ∷ b ∷ [])) (Some ((n1, a) ∷ (n2, b) ∷ []))
  unfolding clap_on_literals
  two_two a b p q = (simp (p.dashes, p.long, p.short, q.dashes, q.long, q.short, same1, other, back, same2), simp (p.dashes, p.long, p.short, q.dashes, q.long, q.short, same1, other, back, same2))

  two_flag : (w : Text) (ws : List Text) → Sort w → is_value w ≡ false → is_nil (fault_of two_command (w ∷ ws)) ≡ false
  unfolding clap_on_literals
  two_flag w ws (plain p i) bad = cc
  two_flag w ws (long_flag n v d l i) bad = rw (d, l) refl
  two_flag w ws (short_flag x flags c d l s h i) bad = rw (d, l, s, h) refl

  two_second : (a w : Text) (ws : List Text) → IsPlain a → Sort w → is_value w ≡ false → is_nil (fault_of two_command (a ∷ w ∷ ws)) ≡ false
  unfolding clap_on_literals
  two_second a w ws p (plain q i) bad = cc
  two_second a w ws p (long_flag n v d l i) bad = simp (p.dashes, p.long, p.short, d, l)
  two_second a w ws p (short_flag x flags c d l s h i) bad = simp (p.dashes, p.long, p.short, d, l, s, h)

  two_third : (a b w : Text) (ws : List Text) → IsPlain a → IsPlain b → Sort w → is_nil (fault_of two_command (a ∷ b ∷ w ∷ ws)) ≡ false
  unfolding clap_on_literals
  two_third a b w ws p q (plain r i) = simp (p.dashes, p.long, p.short, q.dashes, q.long, q.short, r.dashes, r.long, r.short, same1, other, back)
  two_third a b w ws p q (long_flag n v d l i) = simp (p.dashes, p.long, p.short, q.dashes, q.long, q.short, d, l, same1, other, back)
  two_third a b w ws p q (short_flag x flags c d l s h i) = simp (p.dashes, p.long, p.short, q.dashes, q.long, q.short, d, l, s, h, same1, other, back)

  abbrev two_names : List Text
  two_names = n1 ∷ n2 ∷ []

  two_by2 : (a w : Text) (ws : List Text) → IsPlain a → is_value a ≡ true → Sort w → AreWords ws → Comes two_known two_agree (fault_of two_command (a ∷ w ∷ ws)) (matches_of two_command (a ∷ w ∷ ws)) (places two_names (a ∷ w ∷ ws))
  two_by2 a w [] p i (plain q j) are = rw (i, j) (two_two a w p q)
  two_by2 a w (v ∷ vs) p i (plain q j) are = rw (i, j) (two_third a w v vs p q (sort v are.0 are.1))
  two_by2 a w ws p i (long_flag n v d l j) are = rw (i, j) (two_second a w ws p (long_flag n v d l j) j)
  two_by2 a w ws p i (short_flag x flags c d l s h j) are = rw (i, j) (two_second a w ws p (short_flag x flags c d l s h j) j)

  two_by : (w : Text) (ws : List Text) → Sort w → AreWords ws → Comes two_known two_agree (fault_of two_command (w ∷ ws)) (matches_of two_command (w ∷ ws)) (places two_names (w ∷ ws))
  two_by w [] (plain p i) are = rw i (two_one w p)
  two_by w (v ∷ vs) (plain p i) are = two_by2 w v vs p i (sort v are.0 are.1) are.2
  two_by w ws (long_flag n v d l i) are = rw i (two_flag w ws (long_flag n v d l i) i)
  two_by w ws (short_flag x flags c d l s h i) are = rw i (two_flag w ws (short_flag x flags c d l s h i) i)

  two_comes : (words : List Text) → AreWords words → Comes two_known two_agree (fault_of two_command words) (matches_of two_command words) (places two_names words)
  two_comes [] are = two_none
  two_comes (w ∷ ws) are = two_by w ws (sort w are.0 are.1) are.2

  two_parses : is_simple two_command ≡ true
  unfolding clap_on_literals
  two_parses = refl

  pub as_two : (r : Result ArgMatches Error) (words : List Text) → AreWords words → FailsBy (fault_of two_command words) r → IfOk r (HasMatchesOf two_command words) → Parses two_known (places two_names words) r
  as_two r words are fails matches = parses two_known two_agree r two_command words (places two_names words) (two_comes words are) two_parses fails matches

pub as_demo : (r : Result ArgMatches Error) (words : List Text) → AreWords words → FailsBy (fault_of demo_command words) r → IfOk r (HasMatchesOf demo_command words) → Parses demo_places (places (codes "seed" ∷ codes "count" ∷ []) words) r
as_demo = as_two (codes "demo") (codes "seed") (codes "count") refl refl refl refl
