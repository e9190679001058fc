-- Lists read by position.
use Rattle.std.proofs.Common.{◌≡◌, ◌≢◌, length-set, get_or-set_other, ℕ, zero, suc, ◌+◌, ◌<◌, ◌≤◌, List, [], ◌∷◌, ◌++◌, map, set, length, take, drop, get_or, slice_get, Some, subst, length-append, add-one, refl, sym, ap, ◌∙◌, arith}
use Rattle.std.specs.List.{All, AllWithin, AllZip}
use lib.Seq.{take-append_seam}
use Rattle.std.proofs.Math.Seq.{get_or-append_seam}
use Rattle.std.proofs.Math.ListN.{get_or-map}
use Rattle.std.proofs.lemmas.List.{append-nil, map-append, take_more, length-map}
use Rattle.std.proofs.lemmas.Simd.{map-map}
use Rattle.std.proofs.lemmas.List.Elements.{All-set, All-push, All-map, AllWithin-more_set}

pub get_seam : {X : Type 0} (xs : List X) (x : X) (ys : List X) → slice_get (xs ++ x ∷ ys) (length xs) ≡ Some x
get_seam [] x ys = refl
get_seam (y ∷ xs) x ys = get_seam xs x ys

-- an element that is changed, but not by f
pub map_set : {X Y : Type 0} (xs : List X) (i : ℕ) (x y : X) (f : X → Y) → f y ≡ f (get_or xs i x) → map f (set xs i y) ≡ map f xs
map_set [] i x y f same = refl
map_set (z ∷ zs) zero x y f same = ap (λ w. w ∷ map f zs) same
map_set (z ∷ zs) (suc i) x y f same = ap (λ l. f z ∷ l) (map_set zs i x y f same)

-- these have the list first, so that it shows the type of P's argument
pub all_set : {X : Type 0} (xs : List X) (i : ℕ) (a : X) (P : X → Type 0) → P a → All P xs → All P (set xs i a)
all_set xs i a P new old = All-set P xs i a new old

pub all_push : {X : Type 0} (xs : List X) (a : X) (P : X → Type 0) → All P xs → P a → All P (xs ++ a ∷ [])
all_push xs a P old new = All-push P xs a old new

-- what holds of each element holds of one that was read
pub all_at : {X : Type 0} (xs : List X) (i : ℕ) (x : X) (P : X → Type 0) → i < length xs → x ≡ get_or xs i x → All P xs → P x
all_at xs i x P within is all = rw is (all i x within)

-- what a slice of a whole `Vec` wrote back
pub written_back : {X : Type 0} (n : ℕ) (new old : List X) → n ≡ length new → take n (new ++ drop (length new) old) ≡ new
written_back n new old is = rw is (take-append_seam new (drop (length new) old))

-- the element at i turns from Q to P
pub turn_left : {X : Type 0} (xs : List X) (i : ℕ) (y : X) (P Q : X → Type 0) → i < length xs → AllWithin P xs 0 i → P y → AllWithin P (set xs i y) 0 (i + 1)
turn_left xs i y P Q within old new = AllWithin-more_set xs i y within P old new

pub turn_right : {X : Type 0} (xs : List X) (i : ℕ) (y : X) (Q : X → Type 0) → AllWithin Q xs i (length xs) → AllWithin Q (set xs i y) (i + 1) (length (set xs i y))
turn_right xs i y Q old k d low high =
    let ne : k ≢ i = omega arith in let le : i ≤ k = omega arith in
    let lt : k < length xs = let e = length-set xs i y in omega arith in
    rw get_or-set_other (old k d le lt)

-- std's lemma with the list first, so that it shows the types of the functions
pub map_twice : {X Y Z : Type 0} (xs : List X) (f : X → Y) (g : Y → Z) → map g (map f xs) ≡ map (λ x. g (f x)) xs
map_twice xs f g = map-map g f xs

-- lists that f cannot tell apart, seen through f and g
pub map_through : {X W Y Z : Type 0} (xs : List X) (ys : List W) (f : X → Y) (h : W → Y) (g : Y → Z) → map f xs ≡ map h ys → map (λ x. g (f x)) xs ≡ map (λ y. g (h y)) ys
map_through xs ys f h g same = sym (map_twice xs f g) ∙ ap (map g) same ∙ map_twice ys h g

pub map_same_at : {X Y Z : Type 0} (xs ys : List X) (i : ℕ) (x : X) (f : X → Y) (g : Y → Z) → map f xs ≡ map f ys → g (f (get_or xs i x)) ≡ get_or (map (λ y. g (f y)) ys) i (g (f x))
map_same_at xs ys i x f g same = sym (get_or-map (λ y. g (f y)) xs i x) ∙ ap (λ l. get_or l i (g (f x))) (map_through xs ys f f g same)

pub length_same : {X W Y : Type 0} (xs : List X) (ys : List W) (f : X → Y) (h : W → Y) → map f xs ≡ map h ys → length xs ≡ length ys
length_same xs ys f h same = sym (length-map xs f) ∙ ap length same ∙ length-map ys h

-- one more element, whose s is that of the next of the list
pub row_push : {R D X T : Type 0} (row : List R) (steal_pass : R) (owns first : List X) (i : ℕ) (x : X) (s : R → D) (f : X → T) (g : T → D) → i < length owns → map f owns ≡ map f first → map s row ≡ take i (map (λ y. g (f y)) first) → s steal_pass ≡ g (f (get_or owns i x)) → map s (row ++ steal_pass ∷ []) ≡ take (i + 1) (map (λ y. g (f y)) first)
row_push {D} row steal_pass owns first i x s f g within same old new =
    let m : List D = map (λ y. g (f y)) first in
    let len : length m ≡ length first = length-map first (λ y. g (f y)) in
    let len' : length owns ≡ length first = length_same owns first f f same in
    map-append s row (steal_pass ∷ []) ∙ ap (λ l. l ++ s steal_pass ∷ []) old ∙ ap (λ e. take i m ++ e ∷ []) (new ∙ map_same_at owns first i x f g same) ∙ sym (take_more m i (g (f x)) (omega arith))

seam_map : {R D : Type 0} (taken : List R) (x : R) (rest : List R) (s : R → D) (d : D) → get_or (map s (taken ++ x ∷ rest)) (length taken) d ≡ s x
seam_map [] x rest s d = refl
seam_map (y ∷ ys) x rest s d = seam_map ys x rest s d

-- the next of the row, and the place of the list that it stands for
pub seam_at : {R D X T : Type 0} (row taken rest : List R) (steal_pass : R) (owns first : List X) (x : X) (at : ℕ) (s : R → D) (f : X → T) (g : T → D) → row ≡ taken ++ steal_pass ∷ rest → at ≡ length taken → map s row ≡ map (λ y. g (f y)) first → map f owns ≡ map f first → s steal_pass ≡ g (f (get_or owns at x))
seam_at {D} row taken rest steal_pass owns first x at s f g row_is at_is maps same =
    let d : D = g (f x) in
    sym (seam_map taken steal_pass rest s d) ∙ ap (λ n. get_or (map s (taken ++ steal_pass ∷ rest)) n d) (sym at_is) ∙ ap (λ l. get_or (map s l) at d) (sym row_is) ∙ ap (λ l. get_or l at d) maps ∙ sym (map_same_at owns first at x f g same)

pub seam_within : {R D X T : Type 0} (row taken rest : List R) (steal_pass : R) (owns first : List X) (at : ℕ) (s : R → D) (f : X → T) (g : T → D) → row ≡ taken ++ steal_pass ∷ rest → at ≡ length taken → map s row ≡ map (λ y. g (f y)) first → map f owns ≡ map f first → at < length owns
seam_within row taken rest steal_pass owns first at s f g row_is at_is maps same =
    let a : length row ≡ length first = length_same row first s (λ y. g (f y)) maps in
    let b : length owns ≡ length first = length_same owns first f f same in
    let c : length row ≡ length (taken ++ steal_pass ∷ rest) = ap length row_is in
    let d = length-append taken (steal_pass ∷ rest) in omega arith

pub all_seam : {R : Type 0} (row taken rest : List R) (x : R) (P : R → Type 0) → row ≡ taken ++ x ∷ rest → All P row → P x
all_seam {R} row taken rest x P row_is all =
    let h : All P (taken ++ x ∷ rest) = let Q : List R → Type 0 = λ l. All P l in subst Q row_is all in
    let e = length-append taken (x ∷ rest) in
    let within : length taken < length (taken ++ x ∷ rest) = omega arith in
    subst P (get_or-append_seam taken x rest x) (h (length taken) x within)

-- lists that f cannot tell apart at any place
pub map_each : {X Y : Type 0} (xs ys : List X) (f : X → Y) → length ys ≡ length xs → ((i : ℕ) (d : X) → i < length xs → f (get_or ys i d) ≡ f (get_or xs i d)) → map f ys ≡ map f xs
map_each [] [] f len each = refl
map_each [] (y ∷ ys) f len each = absurd (omega arith)
map_each (x ∷ xs) [] f len each = absurd (omega arith)
map_each (x ∷ xs) (y ∷ ys) f len each =
    let here = each 0 x (omega arith) in let rest = map_each xs ys f (omega arith) (λ i d within. each (suc i) d (omega arith)) in λ i. here i ∷ rest i

-- what a call says of its argument and of what it left, said of the places in the lists
pub moved : {X Y : Type 0} (x a b y : X) (f : X → Y) → b ≡ y → f b ≡ f a → a ≡ x → f y ≡ f x
moved x a b y f left same is = ap f (sym left) ∙ same ∙ ap f is

pub kept : {X : Type 0} (b y : X) (P : X → Type 0) → b ≡ y → P b → P y
kept b y P left h = subst P left h

-- at the end of a loop over a `Vec`
pub ended : {X : Type 0} (all taken rest : List X) → all ≡ taken ++ rest → length rest ≡ 0 → all ≡ taken
ended all taken [] is none = is ∙ append-nil taken
ended all taken (x ∷ xs) is none = absurd (omega arith)

pub get_next : {X : Type 0} (all taken rest : List X) (x : X) → all ≡ taken ++ x ∷ rest → slice_get all (length taken) ≡ Some x
get_next all taken rest x is = ap (λ l. slice_get l (length taken)) is ∙ get_seam taken x rest

pub next_within : {X : Type 0} (all taken rest : List X) (x : X) → all ≡ taken ++ x ∷ rest → length taken < length all
next_within all taken rest x is = let a = ap length is in let b = length-append taken (x ∷ rest) in omega arith

drop_seam : {X : Type 0} (xs : List X) (i : ℕ) (x : X) (rest : List X) → drop i xs ≡ x ∷ rest → (slice_get xs i ≡ Some x) × (drop (suc i) xs ≡ rest)
drop_seam [] zero x rest e = let no : ⊥ = cc in absurd no
drop_seam [] (suc i) x rest e = let no : ⊥ = cc in absurd no
drop_seam (y ∷ ys) zero x rest e = (let h : y ≡ x = cc in ap (λ z. Some z) h, let h : ys ≡ rest = cc in h)
drop_seam (y ∷ ys) (suc i) x rest e = drop_seam ys i x rest e

pub drop_get : {X : Type 0} (xs : List X) (i : ℕ) (x : X) (rest : List X) → drop i xs ≡ x ∷ rest → slice_get xs i ≡ Some x
drop_get xs i x rest e = (drop_seam xs i x rest e).0

pub drop_next : {X : Type 0} (xs : List X) (i : ℕ) (x : X) (rest : List X) → drop i xs ≡ x ∷ rest → rest ≡ drop (i + 1) xs
drop_next xs i x rest e = rw add-one (sym (drop_seam xs i x rest e).1)

-- between a list and that of which it is the map
pub all_under : {X Y : Type 0} (ys : List Y) (xs : List X) (f : Y → X) (P : X → Type 0) → map f ys ≡ xs → All P xs → All (λ y. P (f y)) ys
all_under {X} ys xs f P is all k d within =
    let within' : k < length xs = (let a = ap length is in let b = length-map ys f in omega arith) in
    let at : get_or xs k (f d) ≡ f (get_or ys k d) = ap (λ l. get_or l k (f d)) (sym is) ∙ get_or-map f ys k d in
    subst P at (all k (f d) within')

pub all_over : {X Y : Type 0} (ys : List Y) (xs : List X) (f : Y → X) (P : X → Type 0) → map f ys ≡ xs → All (λ y. P (f y)) ys → All P xs
all_over {X} ys xs f P is all = let Q : List X → Type 0 = λ l. All P l in subst Q is (All-map P f ys all)

-- what holds of f of each element of one list holds in another that f cannot tell apart from it
pub all_same : {X Y : Type 0} (xs ys : List X) (f : X → Y) (Q : Y → Type 0) → map f xs ≡ map f ys → All (λ y. Q (f y)) ys → All (λ x. Q (f x)) xs
all_same xs ys f Q same all = all_under xs (map f ys) f Q same (all_over ys (map f ys) f Q refl all)

-- what holds of all but the first
all_rest : {X : Type 0} (x : X) (xs : List X) (P : X → Type 0) → All P (x ∷ xs) → All P xs
all_rest x xs P all k d within = all (suc k) d (omega arith)

-- where each x is in the relation with f x alone, a list that is in it place by place is the list of the f x
pub zip_is_map : {X Y : Type 0} (R : X → Y → Type 0) (f : X → Y) (xs : List X) (ys : List Y) → All (λ x. (y : Y) → R x y → y ≡ f x) xs → AllZip R xs ys → ys ≡ map f xs
zip_is_map R f [] [] one zip = refl
zip_is_map R f [] (y ∷ ys) one zip = absurd zip
zip_is_map R f (x ∷ xs) [] one zip = absurd zip
zip_is_map {Y = Y} R f (x ∷ xs) (y ∷ ys) one zip =
    let first : y ≡ f x = one 0 x (omega arith) y zip.0 in
    let rest : ys ≡ map f xs = zip_is_map R f xs ys (all_rest x xs (λ x. (y : Y) → R x y → y ≡ f x) one) zip.1 in
    ap (λ l. y ∷ l) rest ∙ ap (λ z. z ∷ map f xs) first
