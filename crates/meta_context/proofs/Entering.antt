-- Handles that enter a walk, one after another.
use Rattle.std.proofs.Common.{◌≡◌, ◌≤◌, ◌<◌, ◌+◌, ◌⊎◌, inl, inr, ℕ, zero, suc, List, [], ◌∷◌, ◌++◌, take, get_or, length, All, Bool, true, refl, sym, ap, ◌∙◌, arith, subst}
use Rattle.std.specs.Prelude.{Contains, sum_by, Option, option_to_list}
use Rattle.std.specs.BTreeSet.{insert_key}
use Rattle.std.specs.Ordering.{match_ordering}
use Rattle.std.specs.declared.cmp.Ordering.{Ordering}
use Rattle.std.specs.declared.cmp.Ordering.TheVariants.{Less, Equal, Greater}
use Rattle.std.proofs.lemmas.List.Elements.{All-append, All-cons, All-nil, All-weaker, Contains-append_left, Contains-append_right, Contains-push, Contains-push_cases}
use Rattle.std.proofs.lemmas.List.Sums.{sum_by-append, sum_by_push}
use Rattle.std.proofs.lemmas.List.{take_all}
use Rattle.ld_terms.specs.declared.globals.Local.{Local}
use Rattle.ld_terms.specs.declared.globals.Decl.{Decl}
use Rattle.meta_context.specs.Walks.{HaveEntered, types_of, decl_handles}

module _ {H : Type 0} where
  pub contains_head : (x : H) (xs : List H) → Contains (x ∷ xs) x
  contains_head x xs = (0, omega arith, refl)

  pub contains_tail : (x y : H) (xs : List H) → Contains xs y → Contains (x ∷ xs) y
  contains_tail x y xs (k, l, e) = (suc k, omega arith, e)

  pub contains_cases : (x y : H) (xs : List H) → Contains (x ∷ xs) y → (x ≡ y) ⊎ Contains xs y
  contains_cases x y xs (zero, l, e) = inl e
  contains_cases x y xs (suc k, l, e) = inr (k, omega arith, e)

  pub contains_nothing : (x : H) → Contains [] x → ⊥
  contains_nothing x (k, l, e) = absurd (omega arith)

  pub all_of : (P : H → Type 0) (xs : List H) → ((x : H) → Contains xs x → P x) → All P xs
  all_of P [] f = All-nil P
  all_of P (x ∷ xs) f = All-cons P x xs (f x (contains_head x xs)) (all_of P xs (λ y c. f y (contains_tail x y xs c)))

-- what is read within a list doesn't hang on what is read past its end
pub same_read : {X : Type 0} (xs : List X) (i : ℕ) (d e : X) → i < length xs → get_or xs i d ≡ get_or xs i e
same_read [] i d e l = absurd (omega arith)
same_read (x ∷ xs) zero d e l = refl
same_read (x ∷ xs) (suc i) d e l = same_read xs i d e (omega arith)

-- ---- a set with one more key, where keys that compare equal are equal

module _ {H : Type 0} (cmp : H → H → Ordering) (exact : (h k : H) → cmp h k ≡ Equal → h ≡ k) where
  pub inserted_is_in : (ks : List H) (k : H) → Contains (insert_key cmp ks k) k
  inserted_is_in [] k = contains_head k []
  inserted_is_in (x ∷ ks) k = by (cmp k x) refl (inserted_is_in ks k)
    where
      by : (o : Ordering) → cmp k x ≡ o → Contains (insert_key cmp ks k) k → Contains (match_ordering o (k ∷ x ∷ ks) (x ∷ ks) (x ∷ insert_key cmp ks k)) k
      by Less e r = contains_head k (x ∷ ks)
      by Equal e r = subst (λ y. Contains (y ∷ ks) k) (exact k x e) (contains_head k ks)
      by Greater e r = contains_tail x k (insert_key cmp ks k) r

  pub inserted_keeps : (ks : List H) (k y : H) → Contains ks y → Contains (insert_key cmp ks k) y
  inserted_keeps [] k y c = absurd (contains_nothing y c)
  inserted_keeps (x ∷ ks) k y c = by (cmp k x) (inserted_keeps ks k y)
    where
      by : (o : Ordering) → (Contains ks y → Contains (insert_key cmp ks k) y) → Contains (match_ordering o (k ∷ x ∷ ks) (x ∷ ks) (x ∷ insert_key cmp ks k)) y
      by Less r = contains_tail k y (x ∷ ks) c
      by Equal r = c
      by Greater r = elim (contains_cases x y ks c) [
        | inl e ↦ subst (λ z. Contains (x ∷ insert_key cmp ks k) z) e (contains_head x (insert_key cmp ks k))
        | inr d ↦ contains_tail x y (insert_key cmp ks k) (r d)
      ]

  pub inserted_only : (ks : List H) (k y : H) → Contains (insert_key cmp ks k) y → (k ≡ y) ⊎ Contains ks y
  inserted_only [] k y c = elim (contains_cases k y [] c) [ inl e ↦ inl e | inr d ↦ inr d ]
  inserted_only (x ∷ ks) k y c = by (cmp k x) (inserted_only ks k y) c
    where
      by : (o : Ordering) → (Contains (insert_key cmp ks k) y → (k ≡ y) ⊎ Contains ks y) → Contains (match_ordering o (k ∷ x ∷ ks) (x ∷ ks) (x ∷ insert_key cmp ks k)) y → (k ≡ y) ⊎ Contains (x ∷ ks) y
      by Less r d = contains_cases k y (x ∷ ks) d
      by Equal r d = inr d
      by Greater r d = elim (contains_cases x y (insert_key cmp ks k) d) [
        | inl e ↦ inr (subst (λ z. Contains (x ∷ ks) z) e (contains_head x ks))
        | inr f ↦ elim (r f) [ inl e ↦ inl e | inr g ↦ inr (contains_tail x y ks g) ]
      ]

  -- the handle was there
  pub entered_again : (h : H) (left entered entered' : List H) → entered' ≡ insert_key cmp entered h → entered' ≡ entered → HaveEntered (h ∷ []) left entered left entered'
  entered_again h left entered entered' e same = record {
    here = all_of (Contains entered') (h ∷ []) (λ x c. elim (contains_cases h x [] c) [
      | inl q ↦ subst (λ y. Contains entered' y) q (subst (λ ks. Contains ks h) (sym e) (inserted_is_in entered h))
      | inr d ↦ absurd (contains_nothing x d)
    ]);
    kept = λ x c. subst (λ ks. Contains ks x) (sym same) c;
    fresh = λ x c. inl (subst (λ ks. Contains ks x) same c);
    waiting = λ x c. c;
    known = λ x c. inl c;
    less = λ weight. omega arith;
  }

  -- the handle is new
  pub entered_first : (h : H) (left entered left' entered' : List H) → entered' ≡ insert_key cmp entered h → left' ≡ left ++ h ∷ [] → HaveEntered (h ∷ []) left entered left' entered'
  entered_first h left entered left' entered' e f = record {
    here = all_of (Contains entered') (h ∷ []) (λ x c. elim (contains_cases h x [] c) [
      | inl q ↦ subst (λ y. Contains entered' y) q (subst (λ ks. Contains ks h) (sym e) (inserted_is_in entered h))
      | inr d ↦ absurd (contains_nothing x d)
    ]);
    kept = λ x c. subst (λ ks. Contains ks x) (sym e) (inserted_keeps entered h x c);
    fresh = λ x c. elim (inserted_only entered h x (subst (λ ks. Contains ks x) e c)) [
      | inl q ↦ inr (subst (λ y. Contains left' y) q (subst (λ ks. Contains ks h) (sym f) (Contains-push left h)))
      | inr d ↦ inl d
    ];
    waiting = λ x c. subst (λ ks. Contains ks x) (sym f) (Contains-append_left left (h ∷ []) x c);
    known = λ x c. elim (Contains-push_cases left h x (subst (λ ks. Contains ks x) f c)) [
      | inl d ↦ inl d
      | inr q ↦ inr (subst (λ y. Contains (h ∷ []) y) q (contains_head h []))
    ];
    less = λ weight.
        let w : sum_by weight left' ≡ sum_by weight left + weight h = ap (sum_by weight) f ∙ sum_by_push weight left h in
        let v : sum_by weight (h ∷ []) ≡ 0 + weight h = refl in
        omega arith;
  }

-- ---- none, and some after others

module _ {H : Type 0} where
  pub none_entered : (left entered : List H) → HaveEntered [] left entered left entered
  none_entered left entered = record {
    here = All-nil (Contains entered);
    kept = λ x c. c;
    fresh = λ x c. inl c;
    waiting = λ x c. c;
    known = λ x c. inl c;
    less = λ weight. omega arith;
  }

  pub both_entered : (hs ks l e l' e' l'' e'' : List H) → HaveEntered hs l e l' e' → HaveEntered ks l' e' l'' e'' → HaveEntered (hs ++ ks) l e l'' e''
  both_entered hs ks l e l' e' l'' e'' a b = record {
    here = All-append (Contains e'') hs ks (All-weaker (Contains e') (Contains e'') b.kept hs a.here) b.here;
    kept = λ x c. b.kept x (a.kept x c);
    fresh = λ x c. elim (b.fresh x c) [
      | inl d ↦ elim (a.fresh x d) [ inl f ↦ inl f | inr f ↦ inr (b.waiting x f) ]
      | inr d ↦ inr d
    ];
    waiting = λ x c. b.waiting x (a.waiting x c);
    known = λ x c. elim (b.known x c) [
      | inl d ↦ elim (a.known x d) [ inl f ↦ inl f | inr f ↦ inr (Contains-append_left hs ks x f) ]
      | inr d ↦ inr (Contains-append_right hs ks x d)
    ];
    less = λ weight.
        let p = a.less weight in
        let q = b.less weight in
        let s : sum_by weight (hs ++ ks) ≡ sum_by weight hs + sum_by weight ks = sum_by-append weight hs ks in
        omega (arith, p, q, s);
  }

  take_more : (xs : List H) (i : ℕ) (x : H) → i < length xs → x ≡ get_or xs i x → take (i + 1) xs ≡ take i xs ++ x ∷ []
  take_more [] i x l e = absurd (omega arith)
  take_more (y ∷ xs) zero x l e = ap (λ z. z ∷ []) (sym e)
  take_more (y ∷ xs) (suc i) x l e =
      let n : suc i + 1 ≡ suc (i + 1) = omega arith in
      ap (λ k. take k (y ∷ xs)) n ∙ ap (λ ys. y ∷ ys) (take_more xs i x (omega arith) e)

  pub next_entered : (xs : List H) (i : ℕ) (x : H) (l e l' e' l'' e'' : List H) → i < length xs → x ≡ get_or xs i x → HaveEntered (take i xs) l e l' e' → HaveEntered (x ∷ []) l' e' l'' e'' → HaveEntered (take (i + 1) xs) l e l'' e''
  next_entered xs i x l e l' e' l'' e'' n is a b = subst (λ hs. HaveEntered hs l e l'' e'') (sym (take_more xs i x n is)) (both_entered (take i xs) (x ∷ []) l e l' e' l'' e'' a b)

pub all_entered : {H : Type 0} (xs : List H) (i : ℕ) (l e l' e' : List H) → length xs ≤ i → HaveEntered (take i xs) l e l' e' → HaveEntered xs l e l' e'
all_entered xs i l e l' e' n a = subst (λ hs. HaveEntered hs l e l' e') (take_all i xs n) a

-- the context, the type and the value of a metavariable, one after the other
pub decl_entered : {H : Type 0} (d : Decl H) (ctx : List (Local H)) (v : Option H) (l e l1 e1 l2 e2 l' e' : List H) → ctx ≡ d.ctx → d.value ≡ v → HaveEntered (types_of ctx) l e l1 e1 → HaveEntered (d.ty ∷ []) l1 e1 l2 e2 → HaveEntered (option_to_list v) l2 e2 l' e' → HaveEntered (decl_handles d) l e l' e'
decl_entered d ctx v l e l1 e1 l2 e2 l' e' p q a b c =
    let rest = both_entered (d.ty ∷ []) (option_to_list v) l1 e1 l2 e2 l' e' b c in
    let all = both_entered (types_of ctx) (d.ty ∷ option_to_list v) l e l1 e1 l' e' a rest in
    subst (λ o. HaveEntered (types_of d.ctx ++ (d.ty ∷ option_to_list o)) l e l' e') (sym q) (subst (λ ls. HaveEntered (types_of ls ++ (d.ty ∷ option_to_list v)) l e l' e') p all)

-- what was read within the list is read there with another value past the end
pub read_as : (bs : List Bool) (k : ℕ) (x b : Bool) → k < length bs → x ≡ get_or bs k x → x ≡ b → get_or bs k true ≡ b
read_as bs k x b n is e = same_read bs k true x n ∙ sym is ∙ e

pub length-types : {H : Type 0} (ls : List (Local H)) → length (types_of ls) ≡ length ls
length-types [] = refl
length-types (l ∷ ls) = ap suc (length-types ls)

pub type_read : {H : Type 0} (ls : List (Local H)) (i : ℕ) (l : Local H) → i < length ls → l ≡ get_or ls i l → l.ty ≡ get_or (types_of ls) i l.ty
type_read [] i l b e = absurd (omega arith)
type_read (x ∷ ls) zero l b e = ap (λ (y : Local _). y.ty) e
type_read (x ∷ ls) (suc i) l b e = type_read ls i l (omega arith) e
