-- Where no variable of a term is bad, the arguments of a pattern put in for their places give the term again.
use Rattle.std.proofs.Common.{◌≡◌, ℕ, zero, suc, ◌-◌, Bool, true, false, ◌||◌, Option, Some, None, option_map, refl, sym, ap, ap₂, ◌∙◌, arith, nat_lt, if◌then◌else◌}
use Rattle.std.specs.Prelude.{is_some, unwrap_or}
use Rattle.std.proofs.lemmas.Bool.{eqb-true}
use Rattle.ld_trees.specs.Term.{Term, Srt, Var, App, Lam, Pi, Con, Terms, none, ◌▹◌}
use Rattle.ld_trees.specs.Substitution.{rename, weaken, subst, substs, lift, instantiate, subst_all}
use Rattle.ld_trees.proofs.Equality.{and_left, and_right, and_both}
use Rattle.ld_trees.proofs.SubstitutionLaws.{subst_rename}
use Rattle.unification.specs.Refusals.{Plain}
use Rattle.unification.specs.Patterns.{is_variable, place_of, holds_only, all_hold_only}
use Rattle.unification.specs.Pruning.{Spot, Nowhere, Outside, Inside, Around, Free, Within, spot_in, or_spot, around, first_bad, first_bad_of}

-- ---- a substitution that leaves the good variables as they are

same_below : (i k : ℕ) → nat_lt (suc i) (suc k) ≡ nat_lt i k
same_below i k = go (nat_lt i k) (nat_lt (suc i) (suc k)) refl refl
  where
    go : (b c : Bool) → nat_lt i k ≡ b → nat_lt (suc i) (suc k) ≡ c → c ≡ b
    go true true p q = refl
    go false false p q = refl
    go true false p q = grind (arith, p, q)
    go false true p q = grind (arith, p, q)

module _ (good : ℕ → Bool) where
  -- each variable that is bound by one of k binders or is good stays
  abbrev Leaves : ℕ → (ℕ → Term) → Type 0
  Leaves k s = (i : ℕ) → (nat_lt i k || good (i - k)) ≡ true → s i ≡ Var i

  leaves_lift : (k : ℕ) (s : ℕ → Term) → Leaves k s → Leaves (suc k) (lift s)
  leaves_lift k s h zero e = refl
  leaves_lift k s h (suc i) e =
      let q : (nat_lt i k || good (i - k)) ≡ true = ap₂ (λ b n. b || good n) (sym (same_below i k)) (omega arith) ∙ e in
      ap weaken (h i q)

  mutual
    stays : (t : Term) (k : ℕ) (s : ℕ → Term) → Leaves k s → holds_only good k t ≡ true → subst s t ≡ t
    stays (Srt z) k s h e = refl
    stays (Var i) k s h e = h i e
    stays (App f a) k s h e = ap₂ App (stays f k s h (and_left (holds_only good k f) _ e)) (stays a k s h (and_right (holds_only good k f) _ e))
    stays (Lam A M) k s h e = ap₂ Lam (stays A k s h (and_left (holds_only good k A) _ e)) (stays M (suc k) (lift s) (leaves_lift k s h) (and_right (holds_only good k A) _ e))
    stays (Pi A M) k s h e = ap₂ Pi (stays A k s h (and_left (holds_only good k A) _ e)) (stays M (suc k) (lift s) (leaves_lift k s h) (and_right (holds_only good k A) _ e))
    stays (Con c us) k s h e = ap (Con c) (all_stay us k s h e)

    all_stay : (us : Terms) (k : ℕ) (s : ℕ → Term) → Leaves k s → all_hold_only good k us ≡ true → substs s us ≡ us
    all_stay none k s h e = refl
    all_stay (us ▹ u) k s h e = ap₂ ◌▹◌ (all_stay us k s h (and_left (all_hold_only good k us) _ e)) (stays u k s h (and_right (all_hold_only good k us) _ e))

-- ---- the argument at the place of a variable is that variable

is_that : (i : ℕ) (u : Term) → is_variable i u ≡ true → u ≡ Var i
is_that i (Var j) e = ap Var (sym (eqb-true i j e))
is_that i (Srt s) e = absurd cc
is_that i (App f a) e = absurd cc
is_that i (Lam A M) e = absurd cc
is_that i (Pi A M) e = absurd cc
is_that i (Con c us) e = absurd cc

further : (i : ℕ) (vs : Terms) (v : Term) (o : Option ℕ) → (is_some o ≡ true → instantiate vs (unwrap_or o 0) ≡ Var i) → is_some (option_map suc o) ≡ true → instantiate (vs ▹ v) (unwrap_or (option_map suc o) 0) ≡ Var i
further i vs v (Some n) f e = f refl
further i vs v None f e = absurd cc

placed : (i : ℕ) (vs : Terms) (v : Term) (b : Bool) → is_variable i v ≡ b → (is_some (place_of vs i) ≡ true → instantiate vs (unwrap_or (place_of vs i) 0) ≡ Var i)
    → is_some (if b then Some 0 else option_map suc (place_of vs i)) ≡ true → instantiate (vs ▹ v) (unwrap_or (if b then Some 0 else option_map suc (place_of vs i)) 0) ≡ Var i
placed i vs v true q f e = is_that i v q
placed i vs v false q f e = further i vs v (place_of vs i) f e

argument_at_place : (vs : Terms) (i : ℕ) → is_some (place_of vs i) ≡ true → instantiate vs (unwrap_or (place_of vs i) 0) ≡ Var i
argument_at_place none i e = absurd cc
argument_at_place (vs ▹ v) i e = placed i vs v (is_variable i v) refl (argument_at_place vs i) e

-- ---- where none is bad, all are good

nowhere_twice : (s z : Spot) → or_spot s z ≡ Nowhere → (s ≡ Nowhere) × (z ≡ Nowhere)
nowhere_twice Nowhere z e = (refl, e)
nowhere_twice (Outside i) z e = absurd cc
nowhere_twice (Inside i p ms) z e = absurd cc

somewhere : (i : ℕ) (a : Around) → spot_in i a ≡ Nowhere → ⊥
somewhere i Free e = cc
somewhere i (Within p ms) e = cc

good_if : (b : Bool) (i : ℕ) (a : Around) → (if b then Nowhere else spot_in i a) ≡ Nowhere → b ≡ true
good_if true i a e = refl
good_if false i a e = absurd (somewhere i a e)

module _ (metas : Plain) (good : ℕ → Bool) where
  mutual
    all_good : (t : Term) (k : ℕ) (a : Around) → first_bad metas good k a t ≡ Nowhere → holds_only good k t ≡ true
    all_good (Srt s) k a e = refl
    all_good (Var i) k a e = good_if (nat_lt i k || good (i - k)) (i - k) a e
    all_good (App f u) k a e = let x = nowhere_twice (first_bad metas good k a f) _ e in and_both (holds_only good k f) _ (all_good f k a x.0) (all_good u k a x.1)
    all_good (Lam A M) k a e = let x = nowhere_twice (first_bad metas good k a A) _ e in and_both (holds_only good k A) _ (all_good A k a x.0) (all_good M (suc k) a x.1)
    all_good (Pi A M) k a e = let x = nowhere_twice (first_bad metas good k a A) _ e in and_both (holds_only good k A) _ (all_good A k a x.0) (all_good M (suc k) a x.1)
    all_good (Con c us) k a e = each_good us k (around metas good k a c us) e

    each_good : (us : Terms) (k : ℕ) (a : Around) → first_bad_of metas good k a us ≡ Nowhere → all_hold_only good k us ≡ true
    each_good none k a e = refl
    each_good (us ▹ u) k a e = let x = nowhere_twice (first_bad_of metas good k a us) _ e in and_both (all_hold_only good k us) _ (each_good us k a x.0) (all_good u k a x.1)

none_below : (vs : Terms) (i : ℕ) → (nat_lt i 0 || is_some (place_of vs (i - 0))) ≡ true → is_some (place_of vs i) ≡ true
none_below vs i e = go (nat_lt i 0) refl e
  where
    go : (b : Bool) → nat_lt i 0 ≡ b → (b || is_some (place_of vs (i - 0))) ≡ true → is_some (place_of vs i) ≡ true
    go true p q = grind (arith, p)
    go false p q = ap (λ n. is_some (place_of vs n)) (omega arith) ∙ q

pub put_back : (metas : Plain) (vs : Terms) (t : Term) → first_bad metas (λ i. is_some (place_of vs i)) 0 Free t ≡ Nowhere → subst_all vs (rename (λ i. unwrap_or (place_of vs i) 0) t) ≡ t
put_back metas vs t e =
    let good : ℕ → Bool = λ i. is_some (place_of vs i) in
    subst_rename (instantiate vs) (λ i. unwrap_or (place_of vs i) 0) t ∙ stays good t 0 _ (λ i q. argument_at_place vs i (none_below vs i q)) (all_good metas good t 0 Free e)
