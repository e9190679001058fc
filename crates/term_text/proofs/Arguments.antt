-- Arguments of a node, one by one.
use Rattle.std.proofs.Common.{◌≡◌, ℕ, zero, suc, ◌+◌, ◌<◌, ◌≤◌, Bool, true, false, ◌||◌, List, [], ◌∷◌, ◌++◌, length, get_or, take, map, refl, ap, sym, ◌∙◌, arith, append_assoc}
use Rattle.std.proofs.lemmas.Bool.{false≢true}
use Rattle.std.proofs.lemmas.List.{append-nil}
use Rattle.ld_trees.specs.Term.{Term, Terms, none, ◌▹◌, depth, depth_all}
use Rattle.ld_terms.specs.Views.{terms_onto, terms_of}
use Rattle.ld_terms.proofs.Arguments.{terms_of_more}
use Rattle.term_syntax.specs.Printing.{Names, occurs, occurs_in, joined, text, texts}

depth_onto : (us : Terms) (xs : List Term) → depth_all us ≤ depth_all (terms_onto us xs)
depth_onto us [] = omega arith
depth_onto us (x ∷ xs) = omega (arith, depth_onto (us ▹ x) xs)

-- an argument is no deeper than all of them
depth_among : {H : Type 0} (means : H → Term) (before : Terms) (us : List H) (i : ℕ) (d : H) → i < length us → depth (means (get_or us i d)) ≤ depth_all (terms_onto before (map means us))
depth_among means before [] i d h = absurd (omega arith)
depth_among means before (u ∷ us) zero d h = omega (arith, depth_onto (before ▹ means u) (map means us))
depth_among means before (u ∷ us) (suc i) d h = depth_among means (before ▹ means u) us i d (omega arith)

pub depth_of_argument : {H : Type 0} (means : H → Term) (us : List H) (i : ℕ) (d : H) → i < length us → depth (means (get_or us i d)) ≤ depth_all (terms_of (map means us))
depth_of_argument means us i d h = depth_among means none us i d h

or_true : (a b : Bool) → a ≡ true → (a || b) ≡ true
or_true true b e = refl
or_true false b e = absurd (false≢true e)

or_last : (a b : Bool) → b ≡ true → (a || b) ≡ true
or_last true b e = refl
or_last false b e = e

occurs_onto : (i : ℕ) (us : Terms) (xs : List Term) → occurs_in i us ≡ true → occurs_in i (terms_onto us xs) ≡ true
occurs_onto i us [] e = e
occurs_onto i us (x ∷ xs) e = occurs_onto i (us ▹ x) xs (or_true (occurs_in i us) (occurs i x) e)

occurs_among : {H : Type 0} (means : H → Term) (i : ℕ) (before : Terms) (us : List H) (j : ℕ) (d : H) → j < length us → occurs i (means (get_or us j d)) ≡ true → occurs_in i (terms_onto before (map means us)) ≡ true
occurs_among means i before [] j d h e = absurd (omega arith)
occurs_among means i before (u ∷ us) zero d h e = occurs_onto i (before ▹ means u) (map means us) (or_last (occurs_in i before) (occurs i (means u)) e)
occurs_among means i before (u ∷ us) (suc j) d h e = occurs_among means i (before ▹ means u) us j d (omega arith) e

-- what occurs in an argument occurs in all of them
pub occurs_here : {H : Type 0} (means : H → Term) (i : ℕ) (us : List H) (j : ℕ) (d : H) → j < length us → occurs i (means (get_or us j d)) ≡ true → occurs_in i (terms_of (map means us)) ≡ true
occurs_here means i us j d h e = occurs_among means i none us j d h e

or_none : (a b : Bool) → a ≡ false → b ≡ false → (a || b) ≡ false
or_none true b e f = absurd (false≢true (sym e))
or_none false b e f = f

pub occurs_no_more : {H : Type 0} (means : H → Term) (i : ℕ) (us : List H) (j : ℕ) (d : H) → j < length us → occurs_in i (terms_of (map means (take j us))) ≡ false → occurs i (means (get_or us j d)) ≡ false → occurs_in i (terms_of (map means (take (j + 1) us))) ≡ false
occurs_no_more means i us j d h e f = ap (occurs_in i) (terms_of_more means us j d h) ∙ or_none _ _ e f

-- ---- the text of one more argument

first_joined : (xs : List Term) (before z : List ℕ) → length xs ≡ 0 → joined (terms_of xs) before z ≡ z
first_joined [] before z e = refl
first_joined (x ∷ xs) before z e = absurd (omega (arith, e))

joined_onto : (us : Terms) (u : Term) (xs : List Term) (before z : List ℕ) → joined (terms_onto (us ▹ u) xs) before z ≡ before ++ (44 ∷ 32 ∷ z)
joined_onto us u [] before z = refl
joined_onto us u (x ∷ xs) before z = joined_onto (us ▹ u) x xs before z

next_joined : (xs : List Term) (before z : List ℕ) → 0 < length xs → joined (terms_of xs) before z ≡ before ++ (44 ∷ 32 ∷ z)
next_joined [] before z h = absurd (omega arith)
next_joined (x ∷ xs) before z h = joined_onto none x xs before z

none_taken : {H : Type 0} (means : H → Term) (us : List H) (i : ℕ) → i ≡ 0 → map means (take i us) ≡ []
none_taken means [] zero e = refl
none_taken means [] (suc i) e = absurd (omega (arith, e))
none_taken means (u ∷ us) zero e = refl
none_taken means (u ∷ us) (suc i) e = absurd (omega (arith, e))

text_of_first : {H : Type 0} (means : H → Term) (names : Names) (k : ℕ) (us : List H) (i : ℕ) (d : H) → i ≡ 0 → i < length us → texts names k (terms_of (map means (take (i + 1) us))) ≡ text names k (means (get_or us i d))
text_of_first means names k us i d z h = ap (texts names k) (terms_of_more means us i d h) ∙ first_joined (map means (take i us)) _ _ (ap (λ (xs : List Term). length xs) (none_taken means us i z))

some_taken : {H : Type 0} (means : H → Term) (us : List H) (i : ℕ) → 0 < i → i < length us → 0 < length (map means (take i us))
some_taken means [] i p h = absurd (omega arith)
some_taken means (u ∷ us) zero p h = absurd (omega arith)
some_taken means (u ∷ us) (suc i) p h = omega arith

text_of_next : {H : Type 0} (means : H → Term) (names : Names) (k : ℕ) (us : List H) (i : ℕ) (d : H) → 0 < i → i < length us
    → texts names k (terms_of (map means (take (i + 1) us))) ≡ texts names k (terms_of (map means (take i us))) ++ (44 ∷ 32 ∷ text names k (means (get_or us i d)))
text_of_next means names k us i d p h = ap (texts names k) (terms_of_more means us i d h) ∙ next_joined (map means (take i us)) _ _ (some_taken means us i p h)

-- bytes put behind the arguments so far: the first one, or a comma and a further one
pub put_first : {H : Type 0} (means : H → Term) (names : Names) (k : ℕ) (us : List H) (i : ℕ) (d : H) (start so_far out : List ℕ) → i ≡ 0 → i < length us
    → so_far ≡ start ++ texts names k (terms_of (map means (take i us))) → out ≡ so_far ++ text names k (means (get_or us i d)) → out ≡ start ++ texts names k (terms_of (map means (take (i + 1) us)))
put_first means names k us i d start so_far out z h a b =
    let nothing : so_far ≡ start = a ∙ ap (λ ts. start ++ texts names k (terms_of ts)) (none_taken means us i z) ∙ append-nil start in
    b ∙ ap (λ x. x ++ text names k (means (get_or us i d))) nothing ∙ ap (λ x. start ++ x) (sym (text_of_first means names k us i d z h))

pub put_next : {H : Type 0} (means : H → Term) (names : Names) (k : ℕ) (us : List H) (i : ℕ) (d : H) (start so_far comma out : List ℕ) → 0 < i → i < length us
    → so_far ≡ start ++ texts names k (terms_of (map means (take i us))) → comma ≡ so_far ++ (44 ∷ 32 ∷ []) → out ≡ comma ++ text names k (means (get_or us i d)) → out ≡ start ++ texts names k (terms_of (map means (take (i + 1) us)))
put_next means names k us i d start so_far comma out p h a b c =
    let before = texts names k (terms_of (map means (take i us))) in
    let z = text names k (means (get_or us i d)) in
    c ∙ ap (λ x. x ++ z) b ∙ ap (λ x. (x ++ (44 ∷ 32 ∷ [])) ++ z) a
    ∙ append_assoc (start ++ before) (44 ∷ 32 ∷ []) z
    ∙ append_assoc start before (44 ∷ 32 ∷ z)
    ∙ ap (λ x. start ++ x) (sym (text_of_next means names k us i d p h))
