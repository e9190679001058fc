-- The goals that share a need are the coupled ones.
use Rattle.std.proofs.Common.{◌≡◌, ℕ, zero, suc, ◌+◌, ◌<◌, ◌≤◌, List, [], ◌∷◌, ◌++◌, length, get_or, Bool, true, false, not, ◌&&◌, nat_eq, nat_lt, if◌then◌else◌, refl, sym, ap, ap₂, ◌∙◌, arith}
use Rattle.std.proofs.lemmas.List.{length-append, length-map, get_or_append_left, get_or-append-add, get_or_past}
use Rattle.ld_trees.specs.Term.{Term}
use Rattle.ld_terms.specs.declared.globals.Decl.{Decl}
use Rattle.meta_trees.specs.Dependencies.{below}
use Rattle.meta_context.specs.Declaring.{IsOpen}
use Rattle.goal_state.specs.State.{is_open, plain_metas}
use Rattle.goal_state.proofs.Means.{open_is, open_again}
use Rattle.goal_state.proofs.Lists.{below_same}
use Rattle.coupling.specs.Coupling.{needs, meet, is_coupled, coupled}
use Rattle.coupling.proofs.Coupling.{open_below}
use Rattle.state_print.specs.Needs.{need_if_open, needs_below, all_needs, share_need, coupled_by}

-- ---- one list for each metavariable

pub needs_counted : (ds : List (Decl Term)) (n : ℕ) → length (needs_below ds n) ≡ n
needs_counted ds zero = refl
needs_counted ds (suc n) = let one = length-append (needs_below ds n) (need_if_open ds n ∷ []) in omega (arith, one, needs_counted ds n)

pub needs_more : (ds : List (Decl Term)) (n : ℕ) (xs : List (List ℕ)) (ms : List ℕ) → xs ≡ needs_below ds n → ms ≡ need_if_open ds n → xs ++ ms ∷ [] ≡ needs_below ds (n + 1)
needs_more ds n xs ms e f = let s : suc n ≡ n + 1 = omega arith in ap₂ (λ (xs : List (List ℕ)) (ms : List ℕ). xs ++ ms ∷ []) e f ∙ ap (needs_below ds) s

needs_within : (ds : List (Decl Term)) (n h : ℕ) → h < n → get_or (needs_below ds n) h [] ≡ need_if_open ds h
needs_within ds zero h l = absurd (omega arith)
needs_within ds (suc n) h l = go (nat_eq h n) refl (λ k. needs_within ds n h k)
  where
    counted : length (needs_below ds n) ≡ n
    counted = needs_counted ds n

    go : (b : Bool) → nat_eq h n ≡ b → (h < n → get_or (needs_below ds n) h [] ≡ need_if_open ds h) → get_or (needs_below ds n ++ need_if_open ds n ∷ []) h [] ≡ need_if_open ds h
    go true e f =
        let same : h ≡ length (needs_below ds n) + 0 = grind (arith, counted) in
        let last : n ≡ h = grind arith in
        ap (λ i. get_or (needs_below ds n ++ need_if_open ds n ∷ []) i []) same ∙ get_or-append-add (needs_below ds n) (need_if_open ds n ∷ []) 0 [] ∙ ap (need_if_open ds) last
    go false e f =
        let before : h < length (needs_below ds n) = grind (arith, counted) in
        let below : h < n = grind arith in
        get_or_append_left (needs_below ds n) (need_if_open ds n ∷ []) [] h before ∙ f below

if_false : (b : Bool) (ms : List ℕ) → b ≡ false → (if b then ms else []) ≡ []
if_false true ms e = absurd cc
if_false false ms e = refl

if_true : (b : Bool) (ms : List ℕ) → b ≡ true → (if b then ms else []) ≡ ms
if_true true ms e = refl
if_true false ms e = absurd cc

not_open : (ds : List (Decl Term)) (h : ℕ) (b : Bool) → is_open ds h ≡ b → length ds ≤ h → b ≡ false
not_open ds h false e l = refl
not_open ds h true e l = let below = open_below ds h e in absurd (omega arith)

-- also for a number that isn't declared
pub needs_at : (ds : List (Decl Term)) (h : ℕ) → get_or (all_needs ds) h [] ≡ need_if_open ds h
needs_at ds h = go (nat_lt h (length ds)) refl
  where
    go : (b : Bool) → nat_lt h (length ds) ≡ b → get_or (all_needs ds) h [] ≡ need_if_open ds h
    go true e = needs_within ds (length ds) h (grind arith)
    go false e =
        let past : length ds ≤ h = grind arith in
        get_or_past (all_needs ds) h [] (omega (arith, needs_counted ds (length ds))) ∙ sym (if_false (is_open ds h) (needs ds h) (not_open ds h (is_open ds h) refl past))

-- ---- coupled goals

meet_none : (ms : List ℕ) → meet ms [] ≡ false
meet_none [] = refl
meet_none (m ∷ ms) = meet_none ms

and_none : (a : Bool) → (a && false) ≡ false
and_none true = refl
and_none false = refl

-- with what is needed where a goal is open
share_if : (a b : Bool) (ms ns : List ℕ) → (a && meet ms (if b then ns else [])) ≡ (a && (b && meet ms ns))
share_if a true ms ns = refl
share_if a false ms ns = ap (λ x. a && x) (meet_none ms)

share_is : (ds : List (Decl Term)) (g : ℕ) → is_open ds g ≡ true → (h : ℕ) → share_need (all_needs ds) g h ≡ is_coupled ds g h
share_is ds g o h =
    ap₂ (λ ms ns. not (nat_eq g h) && meet ms ns) (needs_at ds g ∙ if_true (is_open ds g) (needs ds g) o) (needs_at ds h)
    ∙ share_if (not (nat_eq g h)) (is_open ds h) (needs ds g) (needs ds h)

pub coupled_by_needs : (ds : List (Decl Term)) (g : ℕ) (all : List (List ℕ)) → IsOpen ds g → all ≡ all_needs ds → coupled_by all g ≡ coupled ds g
coupled_by_needs ds g all o e =
    ap (λ xs. coupled_by xs g) e
    ∙ ap (below (share_need (all_needs ds) g)) (needs_counted ds (length ds))
    ∙ below_same (share_need (all_needs ds) g) (is_coupled ds g) (length ds) (share_is ds g ((open_is ds g).1 o))

-- an open goal is one of the numbers
pub open_within : (ds : List (Decl Term)) (g : ℕ) (all : List (List ℕ)) → IsOpen ds g → all ≡ all_needs ds → g < length all
open_within ds g all o e = let counted = ap length e ∙ needs_counted ds (length ds) in let b = open_below ds g ((open_is ds g).1 o) in omega (arith, counted, b)

-- ---- of stored metavariables

module _ {H : Type 0} (means : H → Term) (ds cs : List (Decl H)) (same : cs ≡ ds) (m : ℕ) where
  pub open_there : is_open cs m ≡ true → IsOpen (plain_metas means ds) m
  open_there e = (open_is (plain_metas means ds) m).0 (open_again means ds m ∙ ap (λ xs. is_open xs m) (sym same) ∙ e)

  pub need_there : is_open cs m ≡ true → needs (plain_metas means ds) m ≡ need_if_open (plain_metas means ds) m
  need_there e = sym (if_true (is_open (plain_metas means ds) m) (needs (plain_metas means ds) m) (open_again means ds m ∙ ap (λ xs. is_open xs m) (sym same) ∙ e))

  pub none_there : is_open cs m ≡ false → [] ≡ need_if_open (plain_metas means ds) m
  none_there e = sym (if_false (is_open (plain_metas means ds) m) (needs (plain_metas means ds) m) (open_again means ds m ∙ ap (λ xs. is_open xs m) (sym same) ∙ e))

-- as many as there are stored ones
pub all_there : {H : Type 0} (means : H → Term) (ds : List (Decl H)) (n : ℕ) (xs : List (List ℕ)) → xs ≡ needs_below (plain_metas means ds) n → n ≡ length ds → xs ≡ all_needs (plain_metas means ds)
all_there means ds n xs e l = e ∙ ap (needs_below (plain_metas means ds)) (l ∙ sym (length-map ds _))
