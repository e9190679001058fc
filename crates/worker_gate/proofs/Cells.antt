-- Results that are written at their places.
use Rattle.std.proofs.Common.{◌≡◌, ℕ, zero, suc, ◌<◌, ◌≤◌, ◌⊎◌, inl, inr, ⊎_elim, List, [], ◌∷◌, ◌++◌, map, set, take, length, get_or, slice_get, Option, Some, None, refl, sym, ap, ◌∙◌, subst, arith}
use Rattle.std.specs.List.{AllZip, Contains}
use Rattle.std.proofs.lemmas.List.Elements.{Contains-push_cases}
use Rattle.std.proofs.lemmas.Option.{slice_get_within}
use Rattle.std.proofs.lemmas.Bool.{cases_lt}
use Rattle.std.proofs.lemmas.List.{length_push, length-map, map-append}
use Rattle.std.proofs.Math.ListN.{get_or-append}
use Rattle.std.proofs.Math.Seq.{get_or-append_seam}
use Rattle.worker_gate.specs.declared.task.Answer.{Answer}
use Rattle.worker_gate.specs.Results.{Gave, Right, Written, places}

set_get : {X : Type 0} (xs : List X) (i p : ℕ) (y z : X) → slice_get (set xs i y) p ≡ Some z → ((p ≡ i) × (y ≡ z)) ⊎ (slice_get xs p ≡ Some z)
set_get [] i p y z e = inr e
set_get (x ∷ xs) zero zero y z e = let same : y ≡ z = cc in inl (refl, same)
set_get (x ∷ xs) zero (suc p) y z e = inr e
set_get (x ∷ xs) (suc i) zero y z e = inr e
set_get (x ∷ xs) (suc i) (suc p) y z e = ⊎_elim (λ t. inl (ap suc t.0, t.1)) (λ t. inr t) (set_get xs i p y z e)

push_get : {X : Type 0} (xs : List X) (p : ℕ) (y z : X) → slice_get (xs ++ y ∷ []) p ≡ Some z → (slice_get xs p ≡ Some z) ⊎ (y ≡ z)
push_get [] zero y z e = let same : y ≡ z = cc in inr same
push_get [] (suc p) y z e = inl e
push_get (x ∷ xs) zero y z e = inl e
push_get (x ∷ xs) (suc p) y z e = push_get xs p y z e

module _ {D : Type 0} where
  pub written_keep : (table : List (Option D)) (i p : ℕ) (d : D) → Written table p → Written (set table i (Some d)) p
  written_keep [] i p d w = w
  written_keep (x ∷ xs) zero zero d w = (d, refl)
  written_keep (x ∷ xs) zero (suc p) d w = w
  written_keep (x ∷ xs) (suc i) zero d w = w
  written_keep (x ∷ xs) (suc i) (suc p) d w = written_keep xs i p d w

  written_here : (table : List (Option D)) (i : ℕ) (d : D) → i < length table → Written (set table i (Some d)) i
  written_here [] i d within = absurd (omega arith)
  written_here (x ∷ xs) zero d within = (d, refl)
  written_here (x ∷ xs) (suc i) d within = written_here xs i d (omega arith)

  pub written_more : (table : List (Option D)) (taken : List (Answer D)) (a : Answer D) → a.at < length table → ((p : ℕ) → Contains (places taken) p → Written table p)
      → (p : ℕ) → Contains (places (taken ++ a ∷ [])) p → Written (set table a.at (Some a.done)) p
  written_more table taken a within old p there =
      let P : List ℕ → Type 0 = λ l. Contains l p in
      let h : Contains (places taken ++ a.at ∷ []) p = subst P (map-append (λ a. a.at) taken (a ∷ [])) there in
      let W : ℕ → Type 0 = λ q. Written (set table a.at (Some a.done)) q in
      ⊎_elim (λ k. written_keep table a.at p a.done (old p k)) (λ (is : a.at ≡ p). subst W is (written_here table a.at a.done within)) (Contains-push_cases (places taken) a.at p h)

  pub empty_more : (table : List (Option D)) → ((p : ℕ) → Written table p → ⊥) → (p : ℕ) → Written (table ++ None ∷ []) p → ⊥
  empty_more table old p w = ⊎_elim (λ (h : slice_get table p ≡ Some (Some w.0)). old p (w.0, h)) (λ (h : None ≡ Some w.0). let no : ⊥ = cc in no) (push_get table p None (Some w.0) w.1)

  module _ {J : Type 0} (jobs : List J) (gives : J → D → Type 0) (told : ℕ → Type 0) where
    pub right_set : (table : List (Option D)) (i : ℕ) (d : D) → Right jobs gives told table → Gave jobs gives told i d → Right jobs gives told (set table i (Some d))
    right_set table i d old new p x e =
        ⊎_elim (λ (t : (p ≡ i) × (Some d ≡ Some x)). let same : d ≡ x = (let h = t.1 in cc) in let G : ℕ × D → Type 0 = λ y. Gave jobs gives told y.0 y.1 in subst G (λ k. (sym t.0 k, same k)) new)
        (λ (h : slice_get table p ≡ Some (Some x)). old p x h) (set_get table i p (Some d) (Some x) e)

    pub gave_within : (i : ℕ) (d : D) → Gave jobs gives told i d → i < length jobs
    gave_within i d h = slice_get_within jobs i h.0 h.1

pub zip_more : {A B : Type 0} (R : A → B → Type 0) (xs : List A) (i : ℕ) (ys : List B) (x : A) (y : B) → AllZip R (take i xs) ys → slice_get xs i ≡ Some x → R x y → AllZip R (take (suc i) xs) (ys ++ y ∷ [])
zip_more R [] i ys x y z at r = let no : ⊥ = cc in absurd no
zip_more {A = A} R (a ∷ xs) zero [] x y z at r = let same : x ≡ a = (let h : a ≡ x = cc in sym h) in let P : A → Type 0 = λ v. R v y in (subst P same r, z)
zip_more R (a ∷ xs) zero (b ∷ ys) x y z at r = absurd z
zip_more R (a ∷ xs) (suc i) [] x y z at r = absurd z
zip_more R (a ∷ xs) (suc i) (b ∷ ys) x y z at r = (z.0, zip_more R xs i ys x y z.1 at r)

pub zip_next : {A B : Type 0} (R : A → B → Type 0) (xs : List A) (i n : ℕ) (ys : List B) (x : A) (y : B) → n ≡ suc i → AllZip R (take i xs) ys → slice_get xs i ≡ Some x → R x y → AllZip R (take n xs) (ys ++ y ∷ [])
zip_next R xs i n ys x y is z at r = rw is (zip_more R xs i ys x y z at r)

-- one more list, whose positions are written
pub full_more : {D X : Type 0} (taken : List X) (x : X) (f : X → List ℕ) (old new : List (Option D))
    → ((k p : ℕ) → k < length taken → Contains (get_or (map f taken) k []) p → Written old p)
    → ((p : ℕ) → Written old p → Written new p)
    → ((p : ℕ) → Contains (f x) p → Written new p)
    → (k p : ℕ) → k < length (taken ++ x ∷ []) → Contains (get_or (map f (taken ++ x ∷ [])) k []) p → Written new p
full_more taken x f old new full keeps here k p within there =
    let C : List ℕ → Type 0 = λ l. Contains l p in
    let is : map f (taken ++ x ∷ []) ≡ map f taken ++ f x ∷ [] = map-append f taken (x ∷ []) in
    let len : length (map f taken) ≡ length taken = length-map taken f in
    let at : Contains (get_or (map f taken ++ f x ∷ []) k []) p = subst C (ap (λ l. get_or l k []) is) there in
    ⊎_elim
    (λ (below : k < length taken).
    let low : k < length (map f taken) = omega arith in
    keeps p (full k p below (subst C (get_or-append (map f taken) (f x ∷ []) [] k low) at)))
    (λ (above : length taken ≤ k).
    let e = length_push taken x in
    let last : k ≡ length (map f taken) = omega arith in
    here p (subst C (ap (λ n. get_or (map f taken ++ f x ∷ []) n []) last ∙ get_or-append_seam (map f taken) (f x) [] []) at))
    (cases_lt k (length taken))
