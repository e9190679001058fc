-- Parts of one length, read and ended at a place.
use Rattle.std.proofs.Common.{◌≡◌, ℕ, ◌<◌, ◌≤◌, ◌+◌, ◌*◌, ◌/◌, ◌%◌, List, [], ◌∷◌, ◌++◌, length, refl, ap, sym, ◌∙◌, get_or, set, take, map, arith, zero, suc, zero-add, length-append, append_assoc, append-nil, inl, inr, ◌⊎◌}
use Rattle.std.specs.Prelude.{slice_get, None, Result, Ok, Err, OnOk, IfErr}
use Rattle.std.proofs.lemmas.Grind.{take-set_at}
use Rattle.std.proofs.lemmas.List.Concat.{flat_map-append}
use Rattle.std.proofs.lemmas.List.{take-append-le, get_or_append_left, get_or-take, get_or_at, length-take-le, take_all, get_or-map, length-map, map-append, map-set}
use Rattle.std.proofs.lemmas.Option.{slice_get_past}
use Rattle.std.proofs.lemmas.Nat.{div-add-mod'}
use Rattle.std.proofs.Math.Seq.{take-append-add, take-nil, map-set_same}
use Rattle.std.proofs.Math.Nat.{mod-lt}
use Rattle.std.specs.List.{take-map}
use Rattle.shared_list.specs.Blocks.{joined, IsFilled}

get_left : {A : Type 0} (xs ys : List A) (i : ℕ) → i < length xs → slice_get (xs ++ ys) i ≡ slice_get xs i
get_left [] ys i lt = absurd (omega arith)
get_left (x ∷ xs) ys zero lt = refl
get_left (x ∷ xs) ys (suc i) lt = get_left xs ys i (omega arith)

get_right : {A : Type 0} (xs ys : List A) (i : ℕ) → slice_get (xs ++ ys) (length xs + i) ≡ slice_get ys i
get_right [] ys i = ap (slice_get ys) (zero-add i)
get_right (x ∷ xs) ys i =
    let n : suc (length xs) + i ≡ suc (length xs + i) = omega arith in
    rw n (get_right xs ys i)

get_past : {A : Type 0} (xs : List A) (i : ℕ) (d : A) → length xs ≤ i → get_or xs i d ≡ d
get_past [] i d le = refl
get_past (x ∷ xs) zero d le = absurd (omega arith)
get_past (x ∷ xs) (suc i) d le = get_past xs i d (omega arith)

within_or : (i n : ℕ) → (i < n) ⊎ (n ≤ i)
within_or i n = grind arith

behind_first : {A : Type 0} {w : ℕ} {p : List A} {ps : List (List A)} → IsFilled w (p ∷ ps) → IsFilled w ps
behind_first f = record {
  full = λ i h. f.full (suc i) (omega arith);
  some = λ i h. f.some (suc i) (omega arith);
  few = λ i h. f.few (suc i) (omega arith);
}

first_full : {A : Type 0} (w : ℕ) (p q : List A) (ps : List (List A)) → IsFilled w (p ∷ q ∷ ps) → length p ≡ w
first_full w p q ps f = f.full 0 (omega arith)

first_few : {A : Type 0} (w : ℕ) (p : List A) (ps : List (List A)) → IsFilled w (p ∷ ps) → length p ≤ w
first_few w p ps f = f.few 0 (omega arith)

-- where the place `rest` of the part at `place` is that at `place * w + rest` of the whole
get_first : {A : Type 0} (w : ℕ) (p : List A) (ps : List (List A)) (r : ℕ) → IsFilled w (p ∷ ps) → r < w → slice_get (p ++ joined ps) r ≡ slice_get p r
get_first w p [] r f lt = ap (λ l. slice_get l r) (append-nil p)
get_first w p (q ∷ ps) r f lt = let e = first_full w p q ps f in get_left p (joined (q ∷ ps)) r (omega (arith, e))

pub get_part : {A : Type 0} (w : ℕ) (ps : List (List A)) (i r : ℕ) → IsFilled w ps → r < w → slice_get (joined ps) (i * w + r) ≡ slice_get (get_or ps i []) r
get_part w [] i r f lt = refl
get_part w (p ∷ ps) zero r f lt =
    let n : zero * w + r ≡ r = omega arith in
    rw n (get_first w p ps r f lt)
get_part w (p ∷ []) (suc i) r f lt =
    let e = first_few w p [] f in
    slice_get_past (p ++ []) (suc i * w + r) (omega (arith, e, length-append p []))
get_part w (p ∷ q ∷ ps) (suc i) r f lt =
    let e = first_full w p q ps f in
    let n : suc i * w + r ≡ length p + (i * w + r) = omega (arith, e) in
    rw n (get_right p (joined (q ∷ ps)) (i * w + r) ∙ get_part w (q ∷ ps) i r (behind_first f) lt)

take_first : {A : Type 0} (w : ℕ) (p : List A) (ps : List (List A)) (r : ℕ) → IsFilled w (p ∷ ps) → r < w → take r (p ++ joined ps) ≡ take r p
take_first w p [] r f lt = ap (take r) (append-nil p)
take_first w p (q ∷ ps) r f lt = let e = first_full w p q ps f in take-append-le r p (joined (q ∷ ps)) (omega (arith, e))

pub take_part : {A : Type 0} (w : ℕ) (ps : List (List A)) (i r : ℕ) → IsFilled w ps → r < w → take (i * w + r) (joined ps) ≡ joined (take i ps) ++ take r (get_or ps i [])
take_part {A = A} w [] i r f lt = take-nil (i * w + r) ∙ rw (take-nil {A = List A} i, take-nil {A = A} r) refl
take_part w (p ∷ ps) zero r f lt =
    let n : zero * w + r ≡ r = omega arith in
    rw n (take_first w p ps r f lt)
take_part {A = A} w (p ∷ []) (suc i) r f lt =
    let e = first_few w p [] f in
    take_all (suc i * w + r) (p ++ []) (omega (arith, e, length-append p []))
    ∙ rw (take-nil {A = List A} i, take-nil {A = A} r) (sym (append-nil (p ++ [])))
take_part w (p ∷ q ∷ ps) (suc i) r f lt =
    let e = first_full w p q ps f in
    let n : suc i * w + r ≡ length p + (i * w + r) = omega (arith, e) in
    rw n (take-append-add p (joined (q ∷ ps)) (i * w + r) ∙ ap (λ l. p ++ l) (take_part w (q ∷ ps) i r (behind_first f) lt) ∙ sym (append_assoc p (joined (take i (q ∷ ps))) (take r (get_or (q ∷ ps) i []))))

-- the parts before a place are full, and the place is in the part or right behind it
pub record IsCut {A : Type 0} (w : ℕ) (ps : List (List A)) (i r : ℕ) : Type 0 where
  pub place : i ≤ length ps
  pub rest : r ≤ length (get_or ps i [])
  pub full : (k : ℕ) → k < i → length (get_or ps k []) ≡ w

rest_first : {A : Type 0} (w : ℕ) (p : List A) (ps : List (List A)) (r : ℕ) → IsFilled w (p ∷ ps) → r < w → r ≤ length (p ++ joined ps) → r ≤ length p
rest_first w p [] r f lt le = omega (arith, length-append p [])
rest_first w p (q ∷ ps) r f lt le = let e = first_full w p q ps f in omega (arith, e)

full_more : {A : Type 0} (w : ℕ) (p : List A) (ps : List (List A)) (i : ℕ) → length p ≡ w → ((k : ℕ) → k < i → length (get_or ps k []) ≡ w) → (k : ℕ) → k < suc i → length (get_or (p ∷ ps) k []) ≡ w
full_more w p ps i e f zero lt = e
full_more w p ps i e f (suc k) lt = f k (omega arith)

cut_part : {A : Type 0} (w : ℕ) (ps : List (List A)) (i r : ℕ) → IsFilled w ps → r < w → i * w + r ≤ length (joined ps) → IsCut w ps i r
cut_part w [] zero r f lt le = record { place = omega arith; rest = omega arith; full = λ k h. absurd (omega arith) }
cut_part w [] (suc i) r f lt le = absurd (omega arith)
cut_part w (p ∷ ps) zero r f lt le = record { place = omega arith; rest = rest_first w p ps r f lt (omega arith); full = λ k h. absurd (omega arith) }
cut_part w (p ∷ []) (suc zero) r f lt le =
    let e = first_few w p [] f in
    let n : length p ≡ w = omega (arith, e, length-append p []) in
    record { place = omega arith; rest = omega (arith, e, length-append p []); full = full_more w p [] zero n (λ k h. absurd (omega arith)) }
cut_part w (p ∷ []) (suc (suc i)) r f lt le = let e = first_few w p [] f in absurd (omega (arith, e, length-append p []))
cut_part w (p ∷ q ∷ ps) (suc i) r f lt le =
    let e = first_full w p q ps f in
    let c = cut_part w (q ∷ ps) i r (behind_first f) lt (omega (arith, e, length-append p (joined (q ∷ ps)))) in
    record { place = omega (arith, c.place); rest = c.rest; full = full_more w p (q ∷ ps) i e c.full }

module _ {A : Type 0} (w : ℕ) (ps : List (List A)) (i : ℕ) (x : List A) (wide : 0 < w) (few : length x ≤ w) (some : 0 < length x) (le : i ≤ length ps) (full : (k : ℕ) → k < i → length (get_or ps k []) ≡ w) where
  before : (k : ℕ) → k < i → get_or (take i ps ++ x ∷ []) k [] ≡ get_or ps k []
  before k lt = let n = length-take-le i ps le in get_or_append_left (take i ps) (x ∷ []) [] k (omega (arith, n)) ∙ get_or-take i ps k [] lt

  last : (k : ℕ) → i ≤ k → k < length (take i ps ++ x ∷ []) → get_or (take i ps ++ x ∷ []) k [] ≡ x
  last k ge lt =
      let n = length-take-le i ps le in
      let m = length-append (take i ps) (x ∷ []) in
      get_or_at (take i ps) x [] [] k (omega (arith, n, m))

  pub filled_end : IsFilled w (take i ps ++ x ∷ [])
  filled_end = record {
    full = λ k h.
        let n = length-take-le i ps le in
        let m = length-append (take i ps) (x ∷ []) in
        let lt : k < i = omega (arith, n, m) in
        rw (before k lt) (full k lt);
    some = λ k h. elim (within_or k i) [
      | inl lt ↦ let e = full k lt in rw (before k lt) (omega (arith, e))
      | inr ge ↦ rw (last k ge h) some
    ];
    few = λ k h. elim (within_or k i) [
      | inl lt ↦ let e = full k lt in rw (before k lt) (omega (arith, e))
      | inr ge ↦ rw (last k ge h) few
    ];
  }

-- the place `at` of the whole is at % w in the part at / w
module _ {A : Type 0} (w at : ℕ) (ps : List (List A)) (wide : 0 < w) (f : IsFilled w ps) where
  pub get_at : slice_get (joined ps) at ≡ slice_get (get_or ps (at / w) []) (at % w)
  get_at = ap (slice_get (joined ps)) (sym (div-add-mod' at w)) ∙ get_part w ps (at / w) (at % w) f (mod-lt at wide)

  pub get_behind : length ps ≤ at / w → None ≡ slice_get (joined ps) at
  get_behind le = sym (get_at ∙ ap (λ p. slice_get p (at % w)) (get_past ps (at / w) [] le))

  pub cut_at : at ≤ length (joined ps) → IsCut w ps (at / w) (at % w)
  cut_at le = cut_part w ps (at / w) (at % w) f (mod-lt at wide) (rw div-add-mod' le)

  -- the part that ends with a further item at that place
  abbrev pub ended_part : A → List A
  ended_part x = take (at % w) (get_or ps (at / w) []) ++ x ∷ []

  pub put_whole : (x : A) (qs : List (List A)) → qs ≡ take (at / w) ps ++ ended_part x ∷ [] → joined qs ≡ take at (joined ps) ++ x ∷ []
  put_whole x qs e =
      ap joined e ∙ flat_map-append (λ p. p) (take (at / w) ps) (ended_part x ∷ [])
      ∙ ap (λ l. joined (take (at / w) ps) ++ l) (append-nil (ended_part x))
      ∙ sym (append_assoc (joined (take (at / w) ps)) (take (at % w) (get_or ps (at / w) [])) (x ∷ []))
      ∙ ap (λ l. l ++ x ∷ []) (sym (take_part w ps (at / w) (at % w) f (mod-lt at wide)) ∙ ap (λ n. take n (joined ps)) (div-add-mod' at w))

  put_filled : (x : A) → at ≤ length (joined ps) → IsFilled w (take (at / w) ps ++ ended_part x ∷ [])
  put_filled x le =
      let c = cut_at le in
      let n : length (ended_part x) ≡ at % w + 1 = omega (arith, length-append (take (at % w) (get_or ps (at / w) [])) (x ∷ []), length-take-le (at % w) (get_or ps (at / w) []) c.rest) in
      let m : at % w < w = mod-lt at wide in
      filled_end w ps (at / w) (ended_part x) wide (omega (arith, n, m)) (omega (arith, n)) c.place c.full

  pub filled_after : {T E : Type 0} (x : A) (qs : List (List A)) (t : Result T E) → at ≤ length (joined ps) → OnOk t (qs ≡ take (at / w) ps ++ ended_part x ∷ []) → IfErr t (λ e. qs ≡ ps) → IsFilled w qs
  filled_after x qs (Ok u) le e k = rw e (put_filled x le)
  filled_after x qs (Err u) le e k = rw k f

pub value_at : {P A : Type 0} (f : P → List A) (ps : List P) (i : ℕ) (p : P) → i < length ps → p ≡ get_or ps i p → get_or (map f ps) i [] ≡ f p
value_at f ps i p lt e = get_or-map f ps i p [] lt ∙ ap f (sym e)

pub there : {A : Type 0} (ps : List (List A)) (i r : ℕ) → r ≤ length (get_or ps i []) → 0 < r → i < length ps
there [] i r le some = absurd (omega arith)
there (p ∷ ps) zero r le some = omega arith
there (p ∷ ps) (suc i) r le some = omega (arith, there ps i r le some)

-- a new part behind those before a place
pub new_part : {P A : Type 0} (f : P → List A) (ps qs : List P) (i r : ℕ) (p : P) (x : A) → r ≡ 0 → f p ≡ x ∷ [] → qs ≡ take i ps ++ p ∷ [] →
    map f qs ≡ take i (map f ps) ++ (take r (get_or (map f ps) i []) ++ x ∷ []) ∷ []
new_part f ps qs i r p x z h e = rw (e, map-append, h, z, take-map) refl

-- a part was ended at a place
pub set_part : {P A : Type 0} (f : P → List A) (ps : List P) (i r : ℕ) (p q : P) (x : A) → i < length ps → p ≡ get_or ps i p → f q ≡ take r (f p) ++ x ∷ [] →
    map f (set ps i q) ≡ set (map f ps) i (take r (get_or (map f ps) i []) ++ x ∷ [])
set_part f ps i r p q x lt is e = rw (map-set, e, value_at f ps i p lt is) refl

-- a part was changed, and those behind it were given up
pub changed_part : {P A : Type 0} (f : P → List A) (ps qs rs : List P) (i : ℕ) (x : List A) → i < length ps → map f qs ≡ set (map f ps) i x → rs ≡ take (i + 1) qs →
    map f rs ≡ take i (map f ps) ++ x ∷ []
changed_part f ps qs rs i x lt e t =
    rw (t, ← take-map f (i + 1) qs, e) (take-set_at (map f ps) i (i + 1) x refl (rw length-map lt))

pub same_part : {P A : Type 0} (f : P → List A) (ps : List P) (i : ℕ) (p q : P) → p ≡ get_or ps i p → f q ≡ f p → map f (set ps i q) ≡ map f ps
same_part f ps i p q is e = map-set_same f ps i q p (e ∙ ap f is)
