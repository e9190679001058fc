-- What is printed is ASCII.
use Rattle.std.proofs.Common.{◌≡◌, ℕ, zero, suc, ◌+◌, ◌-◌, ◌<◌, ◌/◌, ◌%◌, List, [], ◌∷◌, ◌++◌, Bool, true, false, cond, ◌&&◌, ◌||◌, not, refl, arith, codes, decimal, nat_lt, nat_le, length, ◌==◌}
use Rattle.std.specs.List.{list_all, list_any}
use Rattle.std.specs.Str.{IsAscii, bytes_eq}
use Rattle.std.specs.Char.{is_ascii_alphabetic}
use Rattle.std.specs.Fmt.{digits, digits_onto, digit_glyph}
use Rattle.std.proofs.lemmas.Bool.Decides.{nat_tests}
use Rattle.std.proofs.lemmas.Str.{IsAscii-append}
use Rattle.std.proofs.lemmas.Str.Ascii.{IsAscii-nil}
use Rattle.ld_trees.proofs.Equality.{and_left, and_right}
use Rattle.ld_trees.specs.Term.{Term, Srt, star, square, Var, App, Lam, Pi, Con, Named, Numbered, Terms, none, ◌▹◌}
use Rattle.ld_terms.specs.Names.{is_text_name, is_word, is_name_byte, is_reserved, level_name}
use Rattle.term_syntax.specs.Lex.{Text}
use Rattle.term_syntax.specs.Printing.{Names, occurs, is_binder, is_application, level_text, in_parentheses, binder_text, joined, text, texts}
use Rattle.term_syntax.specs.ReadsBack.{IsReadable, AreReadable, HasTextNames, HaveTextNames, PrintedIsAscii}
use Rattle.term_syntax.specs.Scoping.{Arities}

-- each byte is ASCII
record Ascii (bs : List ℕ) : Type 0 where
  pub bytes : IsAscii bs

nothing : Ascii []
nothing = record { bytes = IsAscii-nil }

append : (xs ys : List ℕ) → Ascii xs → Ascii ys → Ascii (xs ++ ys)
append xs ys p q = record { bytes = IsAscii-append xs ys p.bytes q.bytes }

cons : (b : ℕ) (bs : List ℕ) → b < 128 → Ascii bs → Ascii (b ∷ bs)
cons b bs h hs = record { bytes = elim [ zero ↦ h | suc i ↦ hs.bytes i ] }

below_128 : (b : ℕ) → nat_lt b 128 ≡ true → b < 128
below_128 b e = grind (arith, nat_tests)

-- decimal digits, of whatever number
glyph : (d : ℕ) → d < 10 → digit_glyph false d < 128
glyph d h = let t : nat_lt d 10 ≡ true = grind (arith, nat_tests) in rw t (omega arith)

chosen : (b : Bool) (x y : List ℕ) → Ascii x → Ascii y → Ascii (cond b x y)
chosen true x y p q = p
chosen false x y p q = q

digits_before : (k n : ℕ) (more : List ℕ) → Ascii more → Ascii (digits_onto k 10 false n more)
digits_before zero n more h = h
digits_before (suc k) n more h =
    let one : Ascii (digit_glyph false (n % 10) ∷ more) = cons (digit_glyph false (n % 10)) more (glyph (n % 10) (omega arith)) h in
    chosen (n / 10 == 0) (digit_glyph false (n % 10) ∷ more) (digits_onto k 10 false (n / 10) (digit_glyph false (n % 10) ∷ more)) one (digits_before k (n / 10) (digit_glyph false (n % 10) ∷ more) one)

number : (n : ℕ) → Ascii (decimal n)
unfolding digits
number n = digits_before 64 n [] nothing

known : (bs : List ℕ) → list_all (λ b. nat_lt b 128) bs ≡ true → Ascii bs
known [] e = nothing
known (b ∷ bs) e = cons b bs (below_128 b (and_left (nat_lt b 128) _ e)) (known bs (and_right (nat_lt b 128) _ e))

-- ---- names

letter_below : (b : ℕ) → is_ascii_alphabetic b ≡ true → b < 128
letter_below b e = grind (arith, nat_tests)

name_byte_below : (b : ℕ) → is_name_byte b ≡ true → b < 128
name_byte_below b e = grind (arith, nat_tests)

name_bytes : (bs : List ℕ) → list_all is_name_byte bs ≡ true → Ascii bs
name_bytes [] e = nothing
name_bytes (b ∷ bs) e = cons b bs (name_byte_below b (and_left (is_name_byte b) _ e)) (name_bytes bs (and_right (is_name_byte b) _ e))

word : (bs : List ℕ) → is_word bs ≡ true → Ascii bs
word [] e = nothing
word (b ∷ bs) e = cons b bs (letter_below b (and_left (is_ascii_alphabetic b) _ e)) (name_bytes bs (and_right (is_ascii_alphabetic b) _ e))

text_name : (a : List ℕ) → is_text_name a ≡ true → Ascii a
text_name a e = word a (and_left (is_word a) (nat_le (length a) 64) (and_left (is_word a && nat_le (length a) 64) (not (is_reserved a)) e))

level : (k : ℕ) → Ascii (level_name k)
level k = cons 37 (decimal k) (omega arith) (number k)

entry_by : (k : ℕ) (name : Text) (a b : Bool) → is_text_name name ≡ a → Ascii (cond (a && b) name (level_name k))
entry_by k name true true e = text_name name e
entry_by k name true false e = level k
entry_by k name false b e = level k

levels : (first : ℕ) (names : Names) (k : ℕ) → Ascii (level_text first names k)
levels first [] k = level k
levels first (name ∷ names) k = chosen (k == first) _ _ (entry_by k name (is_text_name name) (not (list_any (bytes_eq name) names)) refl) (levels (first + 1) names k)

-- ---- terms

wrapped : (b : Bool) (bs : List ℕ) → Ascii bs → Ascii (in_parentheses b bs)
wrapped true bs h = cons 40 _ (omega arith) (append bs (41 ∷ []) h (known (41 ∷ []) refl))
wrapped false bs h = h

binder : (k : ℕ) (bs : List ℕ) → Ascii bs → Ascii (binder_text k bs)
binder k bs h =
    cons 40 _ (omega arith) (append (level_name k) _ (level k) (append (codes " : ") _ (known (codes " : ") refl) (append bs (41 ∷ []) h (known (41 ∷ []) refl))))

joining : (us : Terms) (before after : List ℕ) → Ascii before → Ascii after → Ascii (joined us before after)
joining none before after p q = q
joining (us ▹ u) before after p q = append before _ p (cons 44 _ (omega arith) (cons 32 after (omega arith) q))

between : (a b : ℕ) (bs : List ℕ) → a < 128 → b < 128 → Ascii bs → Ascii (a ∷ (bs ++ b ∷ []))
between a b bs small low h = cons a _ small (append bs (b ∷ []) h (cons b [] low nothing))

mutual
  ascii : (names : Names) (k : ℕ) (t : Term) → HasTextNames t → Ascii (text names k t)
  ascii names k (Srt star) h = known (42 ∷ []) refl
  ascii names k (Srt square) h = known (35 ∷ []) refl
  ascii names k (Var i) h = levels 0 names (k - (i + 1))
  ascii names k (App f a) h =
      append _ _ (wrapped (is_binder f) _ (ascii names k f h.0)) (cons 32 _ (omega arith) (wrapped (is_binder a || is_application a) _ (ascii names k a h.1)))
  ascii names k (Lam A M) h =
      append (codes "fun ") _ (known (codes "fun ") refl) (append _ _ (binder k _ (ascii names k A h.0))
      (append (codes " => ") _ (known (codes " => ") refl) (ascii names (k + 1) M h.1)))
  ascii names k (Pi A B) h =
      let a = ascii names k A h.0 in
      append _ _ (chosen (occurs 0 B) _ _ (binder k _ a) (wrapped (is_binder A) _ a)) (append (codes " -> ") _ (known (codes " -> ") refl) (ascii names (k + 1) B h.1))
  ascii names k (Con (Named a) us) h = append a _ (text_name a h.0) (between 40 41 _ (omega arith) (omega arith) (all_ascii names k us h.1))
  ascii names k (Con (Numbered m) us) h = cons 63 _ (omega arith) (append (decimal m) _ (number m) (between 91 93 _ (omega arith) (omega arith) (all_ascii names k us h)))

  all_ascii : (names : Names) (k : ℕ) (us : Terms) → HaveTextNames us → Ascii (texts names k us)
  all_ascii names k none h = nothing
  all_ascii names k (us ▹ u) h = joining us _ _ (all_ascii names k us h.0) (ascii names k u h.1)

pub printed_is_ascii : PrintedIsAscii
printed_is_ascii names k t h = (ascii names k t h).bytes

-- a readable term has names of the texts
mutual
  pub readable_has_text_names : (arity : Arities) (t : Term) → IsReadable arity t → HasTextNames t
  readable_has_text_names arity (Srt star) r = tt
  readable_has_text_names arity (Srt square) r = absurd r
  readable_has_text_names arity (Var i) r = tt
  readable_has_text_names arity (App f a) r = (readable_has_text_names arity f r.0, readable_has_text_names arity a r.1)
  readable_has_text_names arity (Lam A M) r = (readable_has_text_names arity A r.0, readable_has_text_names arity M r.1)
  readable_has_text_names arity (Pi A B) r = (readable_has_text_names arity A r.0, readable_has_text_names arity B r.1)
  readable_has_text_names arity (Con (Named a) us) r = (r.0, readable_have_text_names arity us r.2)
  readable_has_text_names arity (Con (Numbered m) us) r = absurd r

  readable_have_text_names : (arity : Arities) (us : Terms) → AreReadable arity us → HaveTextNames us
  readable_have_text_names arity none r = tt
  readable_have_text_names arity (us ▹ u) r = (readable_have_text_names arity us r.0, readable_has_text_names arity u r.1)
