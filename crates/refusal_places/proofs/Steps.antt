-- The steps of the reading: an answer takes a part of a text; a refusal stands behind tokens with which such a part begins, or behind
-- some with which, whatever follows them, none is read.
use Rattle.std.proofs.Common.{◌≡◌, ◌≢◌, ℕ, suc, ◌+◌, ◌≤◌, Bool, true, false, if◌then◌else◌, inl, inr, ◌⊎◌, List, [], ◌∷◌, ◌++◌, length, Ok, Err, refl, ap, sym, ◌∙◌, append_assoc, subst, arith, length-append}
use Rattle.term_syntax.specs.declared.kind.Kind.{Kind}
use Rattle.term_syntax.specs.declared.kind.Kind.TheVariants as k
use Rattle.term_syntax.specs.Kinds.{is_kind}
use Rattle.term_syntax.specs.Lex.{Lexeme, Text}
use Rattle.term_syntax.specs.Input.{Input, kind, kind_of, tail_of, next, place, place_of, spelling}
use Rattle.term_syntax.specs.Reading.{Outcome, Parser, and_then, ◌>>=◌, pure, refuse, here, peek, sees, expect, eat, take_token}
use Rattle.term_syntax.proofs.Progress.{bind_ok, chosen, ok_inj, Shorter}
use Rattle.term_syntax.proofs.Sound.{same_kind, takes, expect_took}
use Rattle.term_syntax.proofs.Local.{Head, head_after, head_kind, err_inj, Local}
use Rattle.term_syntax.proofs.Loops.{cancel}
use Rattle.refusal_places.proofs.Parts.{Part, Fits, Exists, Begun, Then, Token, Nothing, Either, Within, fits_within, begun_within, fits_then, begun_first, begun_second, begun_nothing, token_fits, token_exists, nothing_fits, nothing_exists, left_of, right_of}

pub record Took (R : Part) (i j : Input) : Type 0 where
  pub taken : List Lexeme
  pub ahead : i.ahead ≡ taken ++ j.ahead
  pub fits : Fits R taken

-- the tokens behind which a term stands that counts one more
abbrev pub deepens : Kind → Bool
deepens k.Fun = true
deepens k.Open = true
deepens k.Arrow = true
deepens _ = false

-- Whatever stands behind the tokens up to one of those, it is refused. At least `n` stand before that one. `M` says whether this can be.
pub record Doomed (M : Type 0) (n : ℕ) {A : Type 0} (p : Parser A) (taken : List Lexeme) : Type 0 where
  pub may : M
  pub front : List Lexeme
  pub last : Lexeme
  pub behind : List Lexeme
  pub deep : deepens last.kind ≡ true
  pub long : n ≤ length front
  pub tokens : taken ≡ front ++ last ∷ behind
  pub fails : (j : Input) (others : List Lexeme) → j.ahead ≡ front ++ last ∷ others → (r : Input) × (p j ≡ Err r)

pub record Stopped (M : Type 0) (n : ℕ) {A : Type 0} (p : Parser A) (R : Part) (i j : Input) : Type 0 where
  pub taken : List Lexeme
  pub ahead : i.ahead ≡ taken ++ j.ahead
  pub why : Begun R taken ⊎ Doomed M n p taken

pub record TracksAt (M : Type 0) (n : ℕ) {A : Type 0} (p : Parser A) (R : Part) (i : Input) : Type 0 where
  pub ok : (a : A) (j : Input) → p i ≡ Ok (a, j) → Took R i j
  pub err : (j : Input) → p i ≡ Err j → Stopped M n p R i j

pub record Tracks (M : Type 0) (n : ℕ) {A : Type 0} (p : Parser A) (R : Part) : Type 0 where
  pub at : (i : Input) → TracksAt M n p R i

-- ---- what is doomed

pub doomed_if : {M : Type 0} {n : ℕ} {A B : Type 0} {p : Parser A} (q : Parser B) {taken : List Lexeme} (m : Doomed M n p taken)
    → ((j : Input) (others : List Lexeme) → j.ahead ≡ m.front ++ m.last ∷ others → (r : Input) → p j ≡ Err r → (s : Input) × (q j ≡ Err s)) → Doomed M n q taken
doomed_if q m f = record {
  may = m.may;
  front = m.front;
  last = m.last;
  behind = m.behind;
  deep = m.deep;
  long = m.long;
  tokens = m.tokens;
  fails = λ j others e. let x = m.fails j others e in f j others e x.0 x.1;
}

doomed_behind : {M : Type 0} (n l : ℕ) {A B : Type 0} {p : Parser A} (q : Parser B) (xs : List Lexeme) {ys : List Lexeme} (m : Doomed M n p ys) → l ≤ length xs + n
    → ((j : Input) (others : List Lexeme) → j.ahead ≡ xs ++ (m.front ++ m.last ∷ others) → (k : Input) × (k.ahead ≡ m.front ++ m.last ∷ others) × ((r : Input) → p k ≡ Err r → q j ≡ Err r))
    → Doomed M l q (xs ++ ys)
doomed_behind n l q xs m room f = record {
  may = m.may;
  front = xs ++ m.front;
  last = m.last;
  behind = m.behind;
  deep = m.deep;
  long = omega (arith, room, m.long, length-append xs m.front);
  tokens = ap (λ ls. xs ++ ls) m.tokens ∙ sym (append_assoc xs m.front (m.last ∷ m.behind));
  fails = λ j others e.
      let x = f j others (e ∙ append_assoc xs m.front (m.last ∷ others)) in
      let y = m.fails x.0 others x.1 in
      (y.0, x.2 y.0 y.1);
}

-- the first tokens are the same
head_of : (front : List Lexeme) (last : Lexeme) (behind others rest ls : List Lexeme) → ls ≡ (front ++ last ∷ behind) ++ rest → Head (front ++ last ∷ others) ls
head_of front last behind others rest ls e =
    subst (λ ls. Head (front ++ last ∷ others) ls) (sym (e ∙ append_assoc front (last ∷ behind) rest))
    (head_after front (last ∷ others) (last ∷ behind ++ rest) (last, others, behind ++ rest, refl, refl))

head_place : (s t : List Lexeme) (m n : ℕ) → Head s t → place_of m s ≡ place_of n t
head_place s t m n (l, s', t', e, f) = ap (place_of m) e ∙ sym (ap (place_of n) f)

pub doomed_head : {M : Type 0} {n : ℕ} {A : Type 0} {p : Parser A} {taken : List Lexeme} (m : Doomed M n p taken) (i r j : Input) (others : List Lexeme) → i.ahead ≡ taken ++ r.ahead → j.ahead ≡ m.front ++ m.last ∷ others → Head j.ahead i.ahead
doomed_head m i r j others e f = subst (λ ls. Head ls i.ahead) (sym f) (head_of m.front m.last m.behind others r.ahead i.ahead (e ∙ ap (λ ls. ls ++ r.ahead) m.tokens))

-- the same as another parser wherever the first token has the same place and kind
pub stopped_as : {M : Type 0} {n : ℕ} {A : Type 0} (p q : Parser A) {R : Part} (i r : Input) → ((j : Input) → place j ≡ place i → kind j ≡ kind i → q j ≡ p j) → Stopped M n p R i r → Stopped M n q R i r
stopped_as p q i r same m = record {
  taken = m.taken;
  ahead = m.ahead;
  why = elim m.why [
    | inl b ↦ inl b
    | inr d ↦ inr (doomed_if q d (λ j others e s bad.
        let h = doomed_head d i r j others m.ahead e in
        (s, same j (head_place j.ahead i.ahead j.end i.end h) (head_kind j.ahead i.ahead h) ∙ bad)))
  ];
}

pub at_as : {M : Type 0} {n : ℕ} {A : Type 0} (p q : Parser A) {R : Part} (i : Input) → ((j : Input) → place j ≡ place i → kind j ≡ kind i → q j ≡ p j) → TracksAt M n p R i → TracksAt M n q R i
at_as p q i same m = record { ok = λ a j e. m.ok a j (sym (same i refl refl) ∙ e); err = λ j e. stopped_as p q i j same (m.err j (sym (same i refl refl) ∙ e)) }

pub shorten_at : {M : Type 0} {A : Type 0} {p : Parser A} {R : Part} {i : Input} (n l : ℕ) → l ≤ n → TracksAt M n p R i → TracksAt M l p R i
shorten_at n l less m = record {
  ok = m.ok;
  err = λ j e.
      let x = m.err j e in
      record {
        taken = x.taken;
        ahead = x.ahead;
        why = elim x.why [ inl b ↦ inl b | inr d ↦ inr (record { may = d.may; front = d.front; last = d.last; behind = d.behind; deep = d.deep; long = omega (arith, less, d.long); tokens = d.tokens; fails = d.fails }) ];
      };
}

pub shorten : {M : Type 0} {A : Type 0} {p : Parser A} {R : Part} (n l : ℕ) → l ≤ n → Tracks M n p R → Tracks M l p R
shorten n l less m = record { at = λ i. shorten_at n l less (m.at i) }

-- ---- parts within parts

pub took_within : {R S : Part} {i j : Input} → Within R S → Took R i j → Took S i j
took_within w m = record { taken = m.taken; ahead = m.ahead; fits = fits_within w m.fits }

pub stopped_within : {M : Type 0} {n : ℕ} {A : Type 0} {p : Parser A} {R S : Part} {i j : Input} → Within R S → Stopped M n p R i j → Stopped M n p S i j
stopped_within w m = record { taken = m.taken; ahead = m.ahead; why = elim m.why [ inl b ↦ inl (begun_within w b) | inr d ↦ inr d ] }

pub at_within : {M : Type 0} {n : ℕ} {A : Type 0} {p : Parser A} {R S : Part} {i : Input} → Within R S → TracksAt M n p R i → TracksAt M n p S i
at_within w m = record { ok = λ a j e. took_within w (m.ok a j e); err = λ j e. stopped_within w (m.err j e) }

pub tracks_within : {M : Type 0} {n : ℕ} {A : Type 0} {p : Parser A} {R S : Part} → Within R S → Tracks M n p R → Tracks M n p S
tracks_within w m = record { at = λ i. at_within w (m.at i) }

-- ---- one step behind another

pub bind_err : {A B : Type 0} (o : Outcome A) (f : A → Parser B) (j : Input) → and_then o f ≡ Err j → ((x : A × Input) × (o ≡ Ok x) × (f x.0 x.1 ≡ Err j)) ⊎ (o ≡ Err j)
bind_err (Ok x) f j e = inl (x, refl, e)
bind_err {A = A} {B = B} (Err r) f j e = inr (ap (λ (q : Input). Err q) (err_inj {A = B} r j e))

joined : (i r j : Input) (xs ys : List Lexeme) → i.ahead ≡ xs ++ r.ahead → r.ahead ≡ ys ++ j.ahead → i.ahead ≡ (xs ++ ys) ++ j.ahead
joined i r j xs ys e f = e ∙ ap (λ ls. xs ++ ls) f ∙ sym (append_assoc xs ys j.ahead)

took_then : {R S : Part} (i r j : Input) → Took R i r → Took S r j → Took (Then R S) i j
took_then i r j m n = record { taken = m.taken ++ n.taken; ahead = joined i r j m.taken n.taken m.ahead n.ahead; fits = fits_then m.taken n.taken m.fits n.fits }

-- a refusal behind what was taken, where a parser goes on with another one behind the same tokens
stopped_second : {M : Type 0} (n l : ℕ) {B : Type 0} {p : Parser B} (q : Parser B) {R S : Part} (i r j : Input) (m : Took R i r) → Stopped M n p S r j → ((xs : List Lexeme) → i.ahead ≡ xs ++ r.ahead → l ≤ length xs + n)
    → ((h : Input) (tail : List Lexeme) → Head tail r.ahead → h.ahead ≡ m.taken ++ tail → (k : Input) × (k.ahead ≡ tail) × (q h ≡ p k)) → Stopped M l q (Then R S) i j
stopped_second n l q i r j m x room goes = record {
  taken = m.taken ++ x.taken;
  ahead = joined i r j m.taken x.taken m.ahead x.ahead;
  why = elim x.why [
    | inl b ↦ inl (begun_second m.taken x.taken m.fits b)
    | inr d ↦ inr (doomed_behind n l q m.taken d (room m.taken m.ahead) (λ h others e.
        let y = goes h (d.front ++ d.last ∷ others) (head_of d.front d.last d.behind others j.ahead r.ahead (x.ahead ∙ ap (λ ls. ls ++ j.ahead) d.tokens)) e in
        (y.0, y.1, λ s bad. y.2 ∙ bad)))
  ];
}

stopped_first : {M : Type 0} {n : ℕ} {A B : Type 0} {p : Parser A} (f : A → Parser B) {R S : Part} (i j : Input) → Stopped M n p R i j → Exists S → Stopped M n (p >>= f) (Then R S) i j
stopped_first {p = p} f i j m s = record {
  taken = m.taken;
  ahead = m.ahead;
  why = elim m.why [ inl b ↦ inl (begun_first m.taken b s) | inr d ↦ inr (doomed_if (p >>= f) d (λ h others e r bad. (r, ap (λ o. and_then o f) bad))) ];
}

goes_on : {A B : Type 0} (p : Parser A) (f : A → Parser B) {R : Part} (i r : Input) (a : A) → Local p → p i ≡ Ok (a, r) → (m : Took R i r) (h : Input) (tail : List Lexeme) → Head tail r.ahead → h.ahead ≡ m.taken ++ tail → (k : Input) × (k.ahead ≡ tail) × ((p >>= f) h ≡ f a k)
goes_on p f i r a l e m h tail head eh =
    let x = l.ok i a r e in
    let same : m.taken ≡ x.0 = cancel m.taken x.0 r.ahead (sym m.ahead ∙ x.1) in
    let y = x.2 h tail head (eh ∙ ap (λ ls. ls ++ tail) same) in
    (y.0, y.2, ap (λ o. and_then o f) y.1)

-- `l` tokens at least before the last one where `n` are behind the first part
pub then_core : {M : Type 0} (n l : ℕ) {A B : Type 0} {p : Parser A} {f : A → Parser B} {R S : Part} (i : Input) → ((a : A) (r : Input) → p i ≡ Ok (a, r) → (xs : List Lexeme) → i.ahead ≡ xs ++ r.ahead → l ≤ length xs + n)
    → Local p → Exists S → TracksAt M l p R i → ((a : A) (r : Input) → p i ≡ Ok (a, r) → TracksAt M n (f a) S r) → TracksAt M l (p >>= f) (Then R S) i
then_core n l {p = p} {f = f} i room loc s m t = record {
  ok = λ b j e.
      let x = bind_ok (p i) f (b, j) e in
      took_then i x.0.1 j (m.ok x.0.0 x.0.1 x.1) ((t x.0.0 x.0.1 x.1).ok b j x.2);
  err = λ j e. elim (bind_err (p i) f j e) [
    | inl x ↦ let w = m.ok x.0.0 x.0.1 x.1 in stopped_second n l (p >>= f) i x.0.1 j w ((t x.0.0 x.0.1 x.1).err j x.2) (room x.0.0 x.0.1 x.1) (goes_on p f i x.0.1 x.0.0 loc x.1 w)
    | inr bad ↦ stopped_first f i j (m.err j bad) s
  ];
}

pub then_at : {M : Type 0} (n : ℕ) {A B : Type 0} {p : Parser A} {f : A → Parser B} {R S : Part} (i : Input) → Local p → Exists S → TracksAt M n p R i → ((a : A) → Tracks M n (f a) S) → TracksAt M n (p >>= f) (Then R S) i
then_at n i loc s m t = then_core n n i (λ a r e xs is. omega arith) loc s m (λ a r e. (t a).at r)

pub then_tracks : {M : Type 0} (n : ℕ) {A B : Type 0} {p : Parser A} {f : A → Parser B} {R S : Part} → Local p → Exists S → Tracks M n p R → ((a : A) → Tracks M n (f a) S) → Tracks M n (p >>= f) (Then R S)
then_tracks n loc s m t = record { at = λ i. then_at n i loc s (m.at i) t }

-- the same where the first part has a token at least
pub then_more : {M : Type 0} (n : ℕ) {A B : Type 0} {p : Parser A} {f : A → Parser B} {R S : Part} → Shorter p → Local p → Exists S → Tracks M (suc n) p R → ((a : A) → Tracks M n (f a) S) → Tracks M (suc n) (p >>= f) (Then R S)
then_more n sh loc s m t = record { at = λ i. then_core n (suc n) i (λ a r e xs is. omega (arith, sh i a r e, ap (λ ls. length ls) is, length-append xs r.ahead)) loc s (m.at i) (λ a r e. (t a).at r) }

nothing_took : (i : Input) → Took Nothing i i
nothing_took i = record { taken = []; ahead = refl; fits = nothing_fits }

pub nothing_stopped : {M : Type 0} {n : ℕ} {A : Type 0} {p : Parser A} {R : Part} (i : Input) → Exists R → Stopped M n p R i i
nothing_stopped i m = record { taken = []; ahead = refl; why = inl (begun_nothing m) }

pub pure_tracks : {M : Type 0} {n : ℕ} {A : Type 0} (a : A) → Tracks M n (pure a) Nothing
pure_tracks {A = A} a = record {
  at = λ i. record { ok = λ b j e. subst (Took Nothing i) (ap (λ (p : A × Input). p.1) (ok_inj (a, i) (b, j) e)) (nothing_took i); err = λ j e. cc };
}

-- a step at the end, with its answer
pub last_at : {M : Type 0} {n : ℕ} {A B : Type 0} {p : Parser A} (g : A → B) {R : Part} (i : Input) → TracksAt M n p R i → TracksAt M n (p >>= (λ a. pure (g a))) (Then R Nothing) i
last_at {p = p} g i m = record {
  ok = λ b j e.
      let x = bind_ok (p i) (λ a. pure (g a)) (b, j) e in
      took_then i x.0.1 j (m.ok x.0.0 x.0.1 x.1) (((pure_tracks {M = Unit {0}} {n = 0} (g x.0.0)).at x.0.1).ok b j x.2);
  err = λ j e. elim (bind_err (p i) (λ a. pure (g a)) j e) [ inl x ↦ cc x.2 | inr bad ↦ stopped_first (λ a. pure (g a)) i j (m.err j bad) nothing_exists ];
}

pub last_tracks : {M : Type 0} {n : ℕ} {A B : Type 0} {p : Parser A} (g : A → B) {R : Part} → Tracks M n p R → Tracks M n (p >>= (λ a. pure (g a))) (Then R Nothing)
last_tracks g m = record { at = λ i. last_at g i (m.at i) }

pub refuse_tracks : {M : Type 0} {n : ℕ} {A : Type 0} {R : Part} → Exists R → Tracks M n (refuse {A = A}) R
refuse_tracks {M = M} {n = n} {A = A} {R = R} m = record {
  at = λ i. record { ok = λ b j e. cc; err = λ j e. subst (Stopped M n (refuse {A = A}) R i) (err_inj {A = A} i j e) (nothing_stopped i m) };
}

pub here_tracks : {M : Type 0} {n : ℕ} {B : Type 0} {f : ℕ → Parser B} {R : Part} → ((at : ℕ) → Tracks M n (f at) R) → Tracks M n (here >>= f) R
here_tracks {f = f} m = record { at = λ i. at_as (f (place i)) (here >>= f) i (λ j same _. ap (λ at. f at j) same) ((m (place i)).at i) }

token_took : (i : Input) (t : Kind) → t ≢ k.End → kind i ≡ t → Took (Token t) i (next i)
token_took i t some e = let got = takes i t some e in record { taken = got.0 ∷ []; ahead = got.1.ahead; fits = token_fits got.0 got.1.kind }

pub take_at : {M : Type 0} {n : ℕ} (i : Input) (t : Kind) → t ≢ k.End → kind i ≡ t → TracksAt M n take_token (Token t) i
take_at i t some is = record {
  ok = λ z j e. subst (Took (Token t) i) (ap (λ (p : Text × Input). p.1) (ok_inj (spelling i, next i) (z, j) e)) (token_took i t some is);
  err = λ j e. cc;
}

pub expect_tracks : {M : Type 0} {n : ℕ} (t : Kind) → t ≢ k.End → Tracks M n (expect t) (Token t)
unfolding expect
expect_tracks {M = M} {n = n} t some = record {
  at = λ i. record {
    ok = λ u j e. let got = expect_took t some i u j e in record { taken = got.0 ∷ []; ahead = got.1.ahead; fits = token_fits got.0 got.1.kind };
    err = λ j e. elim (chosen (sees t i) (Ok (tt, next i)) (Err i) (Err j) e) [
      | inl h ↦ cc h.1
      | inr h ↦ subst (Stopped M n (expect t) (Token t) i) (err_inj {A = Unit {0}} i j h.1) (nothing_stopped i (token_exists t))
    ];
  };
}

pub eat_yes : (t : Kind) (i : Input) → sees t i ≡ true → eat t i ≡ Ok (true, next i)
unfolding eat
eat_yes t i e = rw e refl

pub eat_no : (t : Kind) (i : Input) → sees t i ≡ false → eat t i ≡ Ok (false, i)
unfolding eat
eat_no t i e = rw e refl

-- a token of this kind and then the first, or else the second
module _ {A : Type 0} (t : Kind) (some : t ≢ k.End) (p q : Parser A) (R S : Part) (i : Input) where
  abbrev either : Parser A
  either = eat t >>= (λ b. if b then p else q)

  either_yes : (j : Input) → sees t j ≡ true → either j ≡ p (next j)
  either_yes j e = ap (λ o. and_then o (λ b. if b then p else q)) (eat_yes t j e)

  either_no : (j : Input) → sees t j ≡ false → either j ≡ q j
  either_no j e = ap (λ o. and_then o (λ b. if b then p else q)) (eat_no t j e)

  eat_at : {M : Type 0} (n l : ℕ) → l ≤ suc n → (b : Bool) → sees t i ≡ b → TracksAt M n p R (next i) → TracksAt M l q S i → TracksAt M l either (Either (Then (Token t) R) S) i
  eat_at n l less true is m o =
      let tok = takes i t some (same_kind (kind i) t is) in
      let got : Took (Token t) i (next i) = record { taken = tok.0 ∷ []; ahead = tok.1.ahead; fits = token_fits tok.0 tok.1.kind } in
      record {
        ok = λ a j e. took_within left_of (took_then i (next i) j got (m.ok a j (sym (either_yes i is) ∙ e)));
        err = λ j e. stopped_within left_of (stopped_second n l either i (next i) j got (m.err j (sym (either_yes i is) ∙ e))
            (λ xs e. omega (arith, less, ap (λ ls. length ls) tok.1.ahead, ap (λ ls. length ls) e, length-append xs (next i).ahead))
            (λ h tail head eh. (next h, ap tail_of eh, either_yes h (ap (λ ls. is_kind (kind_of ls) t) eh ∙ sym (ap (λ ls. is_kind (kind_of ls) t) tok.1.ahead) ∙ is))));
      }
  eat_at n l less false is m o = at_within right_of (at_as q either i (λ j _ same. either_no j (ap (λ c. is_kind c t) same ∙ is)) o)

pub eat_core : {M : Type 0} (n l : ℕ) → l ≤ suc n → {A : Type 0} (t : Kind) {p q : Parser A} {R S : Part} → t ≢ k.End → (i : Input) → TracksAt M n p R (next i) → TracksAt M l q S i → TracksAt M l (eat t >>= (λ b. if b then p else q)) (Either (Then (Token t) R) S) i
eat_core n l less t {p = p} {q = q} {R = R} {S = S} some i m o = eat_at t some p q R S i n l less (sees t i) refl m o

pub eat_tracks : {M : Type 0} (n l : ℕ) → l ≤ suc n → {A : Type 0} (t : Kind) {p q : Parser A} {R S : Part} → t ≢ k.End → Tracks M n p R → Tracks M l q S → Tracks M l (eat t >>= (λ b. if b then p else q)) (Either (Then (Token t) R) S)
eat_tracks n l less t some m o = record { at = λ i. eat_core n l less t some i (m.at (next i)) (o.at i) }

-- one or the other, by the kind of the next token
pub peek_core : {M : Type 0} {n : ℕ} {A : Type 0} (test : Kind → Bool) {p q : Parser A} {R : Part} (i : Input) (b : Bool) → test (kind i) ≡ b → TracksAt M n p R i → TracksAt M n q R i → TracksAt M n (peek >>= (λ kind. if test kind then p else q)) R i
peek_core test {p = p} {q = q} i true is m o = at_as p (peek >>= (λ kind. if test kind then p else q)) i (λ j _ same. ap (λ b. (if b then p else q) j) (ap test same ∙ is)) m
peek_core test {p = p} {q = q} i false is m o = at_as q (peek >>= (λ kind. if test kind then p else q)) i (λ j _ same. ap (λ b. (if b then p else q) j) (ap test same ∙ is)) o
