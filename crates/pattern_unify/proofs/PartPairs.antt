-- The parts of two terms as pairs of handles, the last pair first.
use Rattle.std.proofs.Common.{◌≡◌, ◌≢◌, ℕ, zero, suc, ◌+◌, ◌<◌, List, [], ◌∷◌, ◌++◌, map, drop, length, All, Bool, true, false, ◌&&◌, nat_eq, get_or, refl, sym, ap, ap₂, ◌∙◌, append_assoc, arith}
use Rattle.std.proofs.lemmas.Bool.{eq-eqb, false≢true}
use Rattle.std.proofs.lemmas.List.{append-nil}
use Rattle.std.proofs.lemmas.List.Elements.{All-append}
use Rattle.ld_trees.specs.Term.{Head, Named, Numbered, Term, App, Lam, Pi, Con, Terms, none, ◌▹◌, count, same_head}
use Rattle.ld_trees.proofs.Equality.{same_head_is, same_head_itself}
use Rattle.ld_terms.specs.Views.{terms_onto, terms_of}
use Rattle.conversion.specs.Conversion.{alike}
use Rattle.conversion.proofs.NextSteps.{count_map}
use Rattle.conversion.proofs.Spines.{all_pushed}
use Rattle.unification.specs.Unification.{pair, argument_pairs, part_pairs}
use Rattle.pattern_unify.specs.declared.pairs.Pair.{Pair as StoredPair}
use Rattle.pattern_unify.specs.Pairs.{plain_pair, pairs_back, back_pairs, ArePaired, ArePairedIf, ArePartsAdded, IsPairHeld}

abbrev pub two : {H : Type 0} → ℕ → H → H → StoredPair H
two d u v = record { depth = d; found = u; wanted = v }

-- ---- equal heads

pub same_name : (x y : List ℕ) → Named x ≡ Named y → x ≡ y
same_name x y e = cc

pub same_number : (m n : ℕ) → nat_eq m n ≡ true → Numbered m ≡ Numbered n
same_number m n e = ap Numbered (grind (arith, e))

pub number_same : (m n : ℕ) → Numbered m ≡ Numbered n → nat_eq m n ≡ true
number_same m n e = let q : m ≡ n = cc in eq-eqb m n q

module _ (d : ℕ) where
  -- ---- lists of pairs, the last pair first

  module _ {H : Type 0} (means : H → Term) where
    pub pairs_back_append : (ps qs : List (StoredPair H)) → pairs_back means (ps ++ qs) ≡ pairs_back means qs ++ pairs_back means ps
    pairs_back_append [] qs = sym (append-nil (pairs_back means qs))
    pairs_back_append (p ∷ ps) qs = ap (λ xs. xs ++ plain_pair means p ∷ []) (pairs_back_append ps qs) ∙ append_assoc (pairs_back means qs) (pairs_back means ps) (plain_pair means p ∷ [])

    arguments_onto : (ts ss : Terms) (us vs : List H) → length us ≡ length vs →
        argument_pairs d (terms_onto ts (map means us)) (terms_onto ss (map means vs)) ≡ argument_pairs d ts ss ++ pairs_back means (back_pairs d us vs)
    arguments_onto ts ss [] [] e = sym (append-nil (argument_pairs d ts ss))
    arguments_onto ts ss (u ∷ us) (v ∷ vs) e =
        arguments_onto (ts ▹ means u) (ss ▹ means v) us vs (omega arith)
        ∙ append_assoc (argument_pairs d ts ss) (pair d (means u) (means v) ∷ []) (pairs_back means (back_pairs d us vs))
        ∙ ap (λ ps. argument_pairs d ts ss ++ ps) (sym (pairs_back_append (back_pairs d us vs) (two d u v ∷ [])))
    arguments_onto ts ss [] (v ∷ vs) e = absurd (omega arith)
    arguments_onto ts ss (u ∷ us) [] e = absurd (omega arith)

    -- the arguments of two constants
    pub arguments_paired : (us vs : List H) (ps qs : List (StoredPair H)) → length us ≡ length vs → qs ≡ ps ++ back_pairs d us vs →
        pairs_back means qs ≡ argument_pairs d (terms_of (map means us)) (terms_of (map means vs)) ++ pairs_back means ps
    arguments_paired us vs ps qs e p =
        ap (pairs_back means) p ∙ pairs_back_append ps (back_pairs d us vs)
        ∙ ap (λ xs. xs ++ pairs_back means ps) (sym (arguments_onto none none us vs e))

  all_between : {H : Type 0} (holds : H → Type 0) (us vs : List H) → All holds us → All holds vs → All (IsPairHeld holds) (back_pairs d us vs)
  all_between holds (u ∷ us) (v ∷ vs) a b =
      all_pushed (IsPairHeld holds) (back_pairs d us vs) (back_pairs d us vs ++ two d u v ∷ []) (two d u v) refl
      (all_between holds us vs (λ i d l. a (suc i) d (omega arith)) (λ i d l. b (suc i) d (omega arith))) (a 0 u (omega arith), b 0 v (omega arith))
  all_between holds [] vs a b = λ i d l. absurd (omega arith)
  all_between holds (u ∷ us) [] a b = λ i d l. absurd (omega arith)

  pub arguments_held : {H : Type 0} (holds : H → Type 0) (us vs : List H) (ps qs : List (StoredPair H)) (r : Bool) → All holds us → All holds vs → All (IsPairHeld holds) ps → ArePaired d us vs ps qs r → All (IsPairHeld holds) qs
  arguments_held holds us vs ps qs true a b h e = rw e.1 (All-append (IsPairHeld holds) ps (back_pairs d us vs) h (all_between holds us vs a b))
  arguments_held holds us vs ps qs false a b h e = rw e.1 h

  pub held_if : {H : Type 0} (holds : H → Type 0) (us vs : List H) (ps qs : List (StoredPair H)) (x r : Bool) → All holds us → All holds vs → All (IsPairHeld holds) ps → ArePairedIf x d us vs ps qs r → All (IsPairHeld holds) qs
  held_if holds us vs ps qs true r a b h e = arguments_held holds us vs ps qs r a b h e
  held_if holds us vs ps qs false r a b h e = rw e.1 h

  -- one pair more, from the end of two lists
  one_pair_more : {H : Type 0} (us vs : List H) (i : ℕ) (u v : H) → i < length us → i < length vs → u ≡ get_or us i u → v ≡ get_or vs i v →
      back_pairs d (drop i us) (drop i vs) ≡ back_pairs d (drop (suc i) us) (drop (suc i) vs) ++ two d u v ∷ []
  one_pair_more [] vs i u v l m p q = absurd (omega arith)
  one_pair_more (x ∷ us) [] i u v l m p q = absurd (omega arith)
  one_pair_more (x ∷ us) (y ∷ vs) zero u v l m p q = ap₂ (λ a b. back_pairs d us vs ++ two d a b ∷ []) (sym p) (sym q)
  one_pair_more (x ∷ us) (y ∷ vs) (suc i) u v l m p q = one_pair_more us vs i u v (omega arith) (omega arith) p q

  pub back_pairs_more : {H : Type 0} (us vs : List H) (n i : ℕ) (u v : H) (ps qs os : List (StoredPair H)) → n ≡ i + 1 → i < length us → i < length vs → u ≡ get_or us i u → v ≡ get_or vs i v →
      ps ≡ os ++ back_pairs d (drop n us) (drop n vs) → qs ≡ ps ++ two d u v ∷ [] → qs ≡ os ++ back_pairs d (drop i us) (drop i vs)
  back_pairs_more us vs n i u v ps qs os e l m p q f h =
      let s : suc i ≡ n = omega arith in
      h ∙ ap (λ xs. xs ++ two d u v ∷ []) f ∙ append_assoc os (back_pairs d (drop n us) (drop n vs)) (two d u v ∷ [])
      ∙ ap (λ xs. os ++ xs) (sym (one_pair_more us vs i u v l m p q ∙ ap (λ k. back_pairs d (drop k us) (drop k vs) ++ two d u v ∷ []) s))

  -- ---- the parts of two heads

  module _ {H : Type 0} (means : H → Term) where
    -- of two binders
    pub binders_added : (a b : Term) (t m s n : H) (ps rs : List (StoredPair H)) → alike a b ≡ true → part_pairs d a b ≡ pair d (means t) (means s) ∷ pair (suc d) (means m) (means n) ∷ [] →
        rs ≡ (ps ++ two (d + 1) m n ∷ []) ++ two d t s ∷ [] → ArePartsAdded means d a b ps rs true
    binders_added a b t m s n ps rs h e q = (
      h,
      ap (pairs_back means) q ∙ pairs_back_append means (ps ++ two (d + 1) m n ∷ []) (two d t s ∷ [])
          ∙ ap (λ xs. pair d (means t) (means s) ∷ xs) (pairs_back_append means ps (two (d + 1) m n ∷ []) ∙ ap (λ k. pair k (means m) (means n) ∷ pairs_back means ps) (omega arith))
          ∙ ap (λ xs. xs ++ pairs_back means ps) (sym e),
    )

    pub abstractions_added : (a b : Term) (t m s n : H) (ps rs : List (StoredPair H)) → Lam (means t) (means m) ≡ a → Lam (means s) (means n) ≡ b →
        rs ≡ (ps ++ two (d + 1) m n ∷ []) ++ two d t s ∷ [] → ArePartsAdded means d a b ps rs true
    abstractions_added a b t m s n ps rs e f = binders_added a b t m s n ps rs (ap₂ alike (sym e) (sym f)) (ap₂ (part_pairs d) (sym e) (sym f))

    pub products_added : (a b : Term) (t m s n : H) (ps rs : List (StoredPair H)) → Pi (means t) (means m) ≡ a → Pi (means s) (means n) ≡ b →
        rs ≡ (ps ++ two (d + 1) m n ∷ []) ++ two d t s ∷ [] → ArePartsAdded means d a b ps rs true
    products_added a b t m s n ps rs e f = binders_added a b t m s n ps rs (ap₂ alike (sym e) (sym f)) (ap₂ (part_pairs d) (sym e) (sym f))

    alike_arguments : (h : Head) (us vs : List H) → alike (Con h (terms_of (map means us))) (Con h (terms_of (map means vs))) ≡ nat_eq (length us) (length vs)
    alike_arguments h us vs = ap (λ x. x && nat_eq (count (terms_of (map means us))) (count (terms_of (map means vs)))) (same_head_itself h) ∙ ap₂ nat_eq (count_map means us) (count_map means vs)

    -- of two constants or metavariables with one name
    pub heads_added : (a b : Term) (h k : Head) (us vs : List H) (ps qs : List (StoredPair H)) (r : Bool) → Con h (terms_of (map means us)) ≡ a → Con k (terms_of (map means vs)) ≡ b → h ≡ k →
        ArePaired d us vs ps qs r → ArePartsAdded means d a b ps qs r
    heads_added a b h k us vs ps qs true e f n p =
        let e' : Con k (terms_of (map means us)) ≡ a = ap (λ x. Con x (terms_of (map means us))) (sym n) ∙ e in (
          ap₂ alike (sym e') (sym f) ∙ alike_arguments k us vs ∙ eq-eqb (length us) (length vs) p.0,
          arguments_paired means us vs ps qs p.0 p.1 ∙ ap (λ xs. xs ++ pairs_back means ps) (ap₂ (part_pairs d) e' f),
        )
    heads_added a b h k us vs ps qs false e f n p =
        let e' : Con k (terms_of (map means us)) ≡ a = ap (λ x. Con x (terms_of (map means us))) (sym n) ∙ e in
        ap₂ alike (sym e') (sym f) ∙ alike_arguments k us vs ∙ not_equal (length us) (length vs) p.0
      where
        not_equal : (n m : ℕ) → n ≢ m → nat_eq n m ≡ false
        not_equal n m h = grind arith

    -- of two with different names
    pub heads_differ : (a b : Term) (h k : Head) (us vs : Terms) (ps qs : List (StoredPair H)) → Con h us ≡ a → Con k vs ≡ b → h ≢ k → ArePartsAdded means d a b ps qs false
    heads_differ a b h k us vs ps qs e f n = ap₂ alike (sym e) (sym f) ∙ ap (λ x. x && nat_eq (count us) (count vs)) (differ (same_head h k) refl)
      where
        differ : (x : Bool) → same_head h k ≡ x → same_head h k ≡ false
        differ true q = absurd (n (same_head_is h k q))
        differ false q = q

    -- of two whose names are the same where a test says so
    pub heads_paired : (a b : Term) (h k : Head) (us vs : List H) (ps qs : List (StoredPair H)) (x r : Bool) → Con h (terms_of (map means us)) ≡ a → Con k (terms_of (map means vs)) ≡ b →
        (x ≡ true → h ≡ k) → (h ≡ k → x ≡ true) → ArePairedIf x d us vs ps qs r → ArePartsAdded means d a b ps qs r
    heads_paired a b h k us vs ps qs true r e f y n p = heads_added a b h k us vs ps qs r e f (y refl) p
    heads_paired a b h k us vs ps qs false r e f y n p =
        rw p.0 (heads_differ a b h k (terms_of (map means us)) (terms_of (map means vs)) ps qs e f (λ q. false≢true (n q)))

    -- of two applications: one pair more
    pub applications_added : (a b : Term) (f u k v : H) (ps qs : List (StoredPair H)) → App (means f) (means u) ≡ a → App (means k) (means v) ≡ b → qs ≡ ps ++ two d u v ∷ [] →
        (alike (means f) (means k) ≡ alike a b) × (part_pairs d (means f) (means k) ++ pairs_back means qs ≡ part_pairs d a b ++ pairs_back means ps)
    applications_added a b f u k v ps qs x y p = (
      ap₂ alike x y,
      ap (λ xs. part_pairs d (means f) (means k) ++ pairs_back means xs) p
          ∙ ap (λ xs. part_pairs d (means f) (means k) ++ xs) (pairs_back_append means ps (two d u v ∷ []))
          ∙ sym (append_assoc (part_pairs d (means f) (means k)) (pair d (means u) (means v) ∷ []) (pairs_back means ps))
          ∙ ap (λ xs. xs ++ pairs_back means ps) (ap₂ (part_pairs d) x y),
    )

  pub binders_held : {H : Type 0} (holds : H → Type 0) (t m s n : H) (ps rs : List (StoredPair H)) → holds t → holds m → holds s → holds n → All (IsPairHeld holds) ps →
      rs ≡ (ps ++ two (d + 1) m n ∷ []) ++ two d t s ∷ [] → All (IsPairHeld holds) rs
  binders_held holds t m s n ps rs ht hm hs hn h e =
      all_pushed (IsPairHeld holds) (ps ++ two (d + 1) m n ∷ []) rs (two d t s) e (all_pushed (IsPairHeld holds) ps (ps ++ two (d + 1) m n ∷ []) (two (d + 1) m n) refl h (hm, hn)) (ht, hs)
