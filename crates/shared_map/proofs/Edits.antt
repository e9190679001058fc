-- One entry more or changed in a list in order.
use Rattle.std.proofs.Common.{◌≡◌, ◌≢◌, ℕ, ◌<◌, ◌≤◌, ◌+◌, List, [], ◌∷◌, ◌++◌, length, refl, ap, sym, ◌∙◌, subst, Some, None, cond, get_or, set, take, drop, arith}
use Rattle.std.specs.Prelude.{T, is_some, Bool, true, false, Result, IfOk}
use Rattle.std.proofs.lemmas.Grind.{common_steps}
use Rattle.std.specs.FinMap.{find, put, is_sorted}
use Rattle.std.specs.FinMap.Entries.{by_order, is_sorted-put, length-put, find-put}
use Rattle.std.specs.Ordering.{is_eq}
use Rattle.std.proofs.lemmas.Cmp.{tied_itself}
use Rattle.std.specs.Cmp.{IsTotalOrder}
use Rattle.std.specs.declared.cmp.Ordering.{Ordering}
use Rattle.std.specs.declared.cmp.Ordering.TheVariants.{Less, Equal, Greater}
use Rattle.std.proofs.lemmas.Result.{IfOk-weaker}
use Rattle.shared_map.specs.Blocks.{IsLeaf}
use Rattle.shared_map.specs.Grown.{MatchTried}
use Rattle.shared_map.specs.declared.part.Tried.{Tried}
use Rattle.shared_map.specs.declared.part.Tried.TheVariants.{Put, Full}
use Rattle.shared_map.specs.Search.{IsPlace}
use Rattle.shared_map.proofs.Around.{find_around, put_around, sorted_left, sorted_right}
use Rattle.shared_map.proofs.Cuts.{cut, entry_around, set_cut, same_element}

drop_here : {A : Type 0} (xs : List A) (i : ℕ) (d : A) → i < length xs → drop i xs ≡ get_or xs i d ∷ drop (i + 1) xs
drop_here xs i d lt = grind (arith, common_steps)

take_past : {A : Type 0} (xs : List A) (i : ℕ) (d : A) (ys : List A) → i < length xs → take i xs ++ get_or xs i d ∷ ys ≡ take (i + 1) xs ++ ys
take_past xs i d ys lt = let e : take (i + 1) xs ≡ take i xs ++ get_or xs i d ∷ [] = grind (arith, common_steps) in rw e (sym (grind (arith, common_steps)))

pub not_less : Less ≢ Equal
not_less e = absurd (subst (λ r. T (is_eq r)) (sym e) tt)

pub not_greater : Greater ≢ Equal
not_greater e = absurd (subst (λ r. T (is_eq r)) (sym e) tt)

module _ {K X : Type 0} (R : K → K → Ordering) (o : IsTotalOrder R) (q : K) (es : List (K × X)) (i : ℕ) (s : T (is_sorted R es)) (h : IsPlace (λ e. R q e.0) es i) (e : K × X) (at : e ≡ get_or es i e) where
  pub find_at : find R q es ≡ cond (is_eq (R q e.0)) (Some e.1) None
  find_at = ap (find R q) (cut es i e h.within) ∙ find_around R q (take i es) (get_or es i e ∷ []) (drop (i + 1) es) (entry_around R o q es i e s h) ∙ ap (λ d. find R q (d ∷ [])) (sym at)

  pub find_equal : R q e.0 ≡ Equal → Some e.1 ≡ find R q es
  find_equal l = sym (find_at ∙ ap (λ r. cond (is_eq r) (Some e.1) None) l)

  pub find_other : R q e.0 ≢ Equal → None ≡ find R q es
  find_other n = sym (find_at ∙ elim (R q e.0) as (λ r. r ≢ Equal → cond (is_eq r) (Some e.1) None ≡ None) [
    | Less ↦ λ n. refl
    | Equal ↦ λ n. absurd (n refl)
    | Greater ↦ λ n. refl
  ] n)

  -- whether the key is there
  pub was_there : R q e.0 ≡ Equal → true ≡ is_some (find R q es)
  was_there l = ap is_some (find_equal l)

  pub was_new : R q e.0 ≢ Equal → false ≡ is_some (find R q es)
  was_new n = ap is_some (find_other n)

  new_option : R q e.0 ≢ Equal → (t : Tried K X) → MatchTried t (λ found. found ≡ false) (λ _ _. Unit {0}) → MatchTried t (λ found. found ≡ is_some (find R q es)) (λ _ _. Unit {0})
  new_option n (Put found) h = h ∙ was_new n
  new_option n (Full k v) h = h

  pub new_tried : {E : Type 0} (t : Result (Tried K X) E) → R q e.0 ≢ Equal → IfOk t (λ u. MatchTried u (λ found. found ≡ false) (λ _ _. Unit {0})) → IfOk t (λ u. MatchTried u (λ found. found ≡ is_some (find R q es)) (λ _ _. Unit {0}))
  new_tried t n h = IfOk-weaker t _ _ (new_option n) h

  put_at : (v : X) → put R q v es ≡ take i es ++ (by_order (R q e.0) ((q, v) ∷ e ∷ []) ((e.0, v) ∷ []) (e ∷ (q, v) ∷ []) ++ drop (i + 1) es)
  put_at v = ap (put R q v) (cut es i e h.within) ∙ put_around R q v (take i es) (get_or es i e ∷ []) (drop (i + 1) es) (entry_around R o q es i e s h) ∙ ap (λ d. take i es ++ (put R q v (d ∷ []) ++ drop (i + 1) es)) (sym at)

  pub put_less : (v : X) → R q e.0 ≡ Less → put R q v es ≡ take i es ++ (q, v) ∷ drop i es
  put_less v l =
      put_at v ∙ ap (λ r. take i es ++ (by_order r ((q, v) ∷ e ∷ []) ((e.0, v) ∷ []) (e ∷ (q, v) ∷ []) ++ drop (i + 1) es)) l
      ∙ ap (λ d. take i es ++ (q, v) ∷ d) (ap (λ d. d ∷ drop (i + 1) es) at ∙ sym (drop_here es i e h.within))

  pub put_equal : (k : K) (v : X) → R q e.0 ≡ Equal → k ≡ e.0 → put R q v es ≡ take i es ++ (k, v) ∷ drop (i + 1) es
  put_equal k v l c =
      put_at v ∙ ap (λ r. take i es ++ (by_order r ((q, v) ∷ e ∷ []) ((e.0, v) ∷ []) (e ∷ (q, v) ∷ []) ++ drop (i + 1) es)) l
      ∙ ap (λ (d : K). take i es ++ (d, v) ∷ drop (i + 1) es) (sym c)

  -- the value alone changed, where the key of d stays
  pub put_value : (d : K × X) → d ≡ get_or es i d → (v : X) → R q e.0 ≡ Equal → set es i (d.0, v) ≡ put R q v es
  put_value d there v l = set_cut es i (d.0, v) h.within ∙ sym (put_equal d.0 v l (ap (λ (p : K × X). p.0) (there ∙ same_element es i d e h.within ∙ sym at)))

  pub put_greater : (v : X) → R q e.0 ≡ Greater → put R q v es ≡ take (i + 1) es ++ (q, v) ∷ drop (i + 1) es
  put_greater v l =
      put_at v ∙ ap (λ r. take i es ++ (by_order r ((q, v) ∷ e ∷ []) ((e.0, v) ∷ []) (e ∷ (q, v) ∷ []) ++ drop (i + 1) es)) l
      ∙ ap (λ d. take i es ++ d ∷ (q, v) ∷ drop (i + 1) es) at
      ∙ take_past es i e ((q, v) ∷ drop (i + 1) es) h.within

holds : (b : Bool) → T b → b ≡ true
holds true p = refl
holds false p = absurd p

either : (b : Bool) (n m k : ℕ) → m ≡ cond b n (n + 1) → n ≤ k → m ≤ k + 1
either true n m k e l = omega arith
either false n m k e l = omega arith

either_some : (b : Bool) (n m : ℕ) → m ≡ cond b n (n + 1) → 0 < n → 0 < m
either_some true n m e l = omega arith
either_some false n m e l = omega arith

module _ {K X : Type 0} (R : K → K → Ordering) where
  halves : (es : List (K × X)) (n : ℕ) → es ≡ take n es ++ drop n es
  halves es n = grind (arith, common_steps)

  pub leaf_take : (es : List (K × X)) (n : ℕ) → T (is_sorted R es) → 64 < length es → 0 < n → n ≤ 64 → IsLeaf R (take n es)
  leaf_take es n s l p q = record {
    sorted = sorted_left R (take n es) (drop n es) (subst (λ l. T (is_sorted R l)) (halves es n) s);
    some = grind (arith, common_steps);
    few = grind (arith, common_steps);
  }

  pub leaf_drop : (es : List (K × X)) (n : ℕ) → T (is_sorted R es) → 64 < length es → length es ≤ 65 → n ≤ 64 → 32 ≤ n → IsLeaf R (drop n es)
  leaf_drop es n s l m q r = record {
    sorted = sorted_right R (take n es) (drop n es) (subst (λ l. T (is_sorted R l)) (halves es n) s);
    some = grind (arith, common_steps);
    few = grind (arith, common_steps);
  }

  pub put_few : IsTotalOrder R → (q : K) (v : X) (es : List (K × X)) (k : ℕ) → T (is_sorted R es) → length es ≤ k → length (put R q v es) ≤ k + 1
  put_few o q v es k s l = either (is_some (find R q es)) (length es) _ k (length-put R o q v es s) l

  pub put_some : IsTotalOrder R → (q : K) (v : X) (es : List (K × X)) → T (is_sorted R es) → 0 < length es → 0 < length (put R q v es)
  put_some o q v es s l = either_some (is_some (find R q es)) (length es) _ (length-put R o q v es s) l

  pub put_sorted : IsTotalOrder R → (q : K) (v : X) (es : List (K × X)) → T (is_sorted R es) → T (is_sorted R (put R q v es))
  put_sorted o q v es s = is_sorted-put R o q v es s

  pub put_in_order : IsTotalOrder R → (q : K) (v : X) (es : List (K × X)) → T (is_sorted R es) → is_sorted R (put R q v es) ≡ true
  put_in_order o q v es s = holds _ (put_sorted o q v es s)

  pub found_at_key : IsTotalOrder R → (q : K) (v : X) (es : List (K × X)) → find R q (put R q v es) ≡ Some v
  found_at_key o q v es = find-put R o q q v es ∙ ap (λ r. cond (is_eq r) (Some v) (find R q es)) (tied_itself o q)

  pub found_elsewhere : IsTotalOrder R → (q k : K) (v : X) (es : List (K × X)) → R q k ≢ Equal → find R q (put R k v es) ≡ find R q es
  found_elsewhere o q k v es n = find-put R o q k v es ∙ elim (R q k) as (λ r. r ≢ Equal → cond (is_eq r) (Some v) (find R q es) ≡ find R q es) [
    | Less ↦ λ n. refl
    | Equal ↦ λ n. absurd (n refl)
    | Greater ↦ λ n. refl
  ] n
