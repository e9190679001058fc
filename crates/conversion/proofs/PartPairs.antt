-- The parts of two terms as pairs of handles, the last pair first.
use Rattle.std.proofs.Common.{◌≡◌, ◌≢◌, ℕ, zero, suc, ◌+◌, ◌<◌, List, [], ◌∷◌, ◌++◌, map, drop, length, All, Bool, true, false, ◌&&◌, nat_eq, is_some, Option, Some, None, option_map, get_or, refl, sym, ap, ap₂, ◌∙◌, append_assoc, arith}
use Rattle.std.proofs.lemmas.Bool.{eq-eqb}
use Rattle.std.proofs.lemmas.List.{append-nil}
use Rattle.std.proofs.lemmas.List.Elements.{All-append}
use Rattle.ld_trees.specs.Term.{Head, Term, App, Lam, Pi, Con, Const, Terms, none, ◌▹◌, count, same_head}
use Rattle.ld_terms.specs.Items.{item_named}
use Rattle.ld_terms.specs.Views.{terms_onto, terms_of}
use Rattle.ld_terms.specs.declared.globals.Item.{Item as StoredItem}
use Rattle.ld_terms.specs.declared.globals.Decl.{Decl}
use Rattle.conversion.specs.Globals.{item_tree, env_of}
use Rattle.conversion.specs.Conversion.{has_value, has_body, is_defined_at_head, argument_pairs, alike, part_pairs}
use Rattle.conversion.specs.Spines.{back_pairs, pairs_back, BothHeld, ArePaired, ArePartsAdded}
use Rattle.conversion.proofs.Lookups.{constant_found}
use Rattle.conversion.proofs.NextSteps.{count_map}
use Rattle.conversion.proofs.Spines.{all_pushed}
use Rattle.ld_trees.proofs.Equality.{same_head_is, same_head_itself}

-- whether a constant of stored items has a body
abbrev pub has_stored_body : {H : Type 0} → Option (StoredItem H) → Bool
has_stored_body None = false
has_stored_body (Some i) = is_some i.body

same_body : {H : Type 0} (means : H → Term) (o : Option (StoredItem H)) → has_body (option_map (item_tree means) o) ≡ has_stored_body o
same_body means None = refl
same_body means (Some i) = by_body means i.body
  where
    by_body : {H : Type 0} (means : H → Term) (b : Option H) → has_value (option_map means b) ≡ is_some b
    by_body means None = refl
    by_body means (Some x) = refl

pub constant_defined : {H : Type 0} (means : H → Term) (is : List (StoredItem H)) (ds : List (Decl H)) (c : List ℕ) (us : Terms) (o : Option (StoredItem H)) → o ≡ item_named is c →
    is_defined_at_head (env_of means is ds) (Const c us) ≡ has_stored_body o
constant_defined means is ds c us o e = ap has_body (constant_found means is ds c ∙ ap (option_map (item_tree means)) (sym e)) ∙ same_body means o

-- ---- lists of pairs, the last pair first

module _ {H : Type 0} (means : H → Term) where
  pub pairs_back_append : (ps qs : List (H × H)) → pairs_back means (ps ++ qs) ≡ pairs_back means qs ++ pairs_back means ps
  pairs_back_append [] qs = sym (append-nil (pairs_back means qs))
  pairs_back_append (p ∷ ps) qs = ap (λ xs. xs ++ (means p.0, means p.1) ∷ []) (pairs_back_append ps qs) ∙ append_assoc (pairs_back means qs) (pairs_back means ps) ((means p.0, means p.1) ∷ [])

  arguments_onto : (ts ss : Terms) (us vs : List H) → length us ≡ length vs →
      argument_pairs (terms_onto ts (map means us)) (terms_onto ss (map means vs)) ≡ argument_pairs ts ss ++ pairs_back means (back_pairs us vs)
  arguments_onto ts ss [] [] e = sym (append-nil (argument_pairs ts ss))
  arguments_onto ts ss (u ∷ us) (v ∷ vs) e =
      arguments_onto (ts ▹ means u) (ss ▹ means v) us vs (omega arith)
      ∙ append_assoc (argument_pairs ts ss) ((means u, means v) ∷ []) (pairs_back means (back_pairs us vs))
      ∙ ap (λ ps. argument_pairs ts ss ++ ps) (sym (pairs_back_append (back_pairs us vs) ((u, v) ∷ [])))
  arguments_onto ts ss [] (v ∷ vs) e = absurd (omega arith)
  arguments_onto ts ss (u ∷ us) [] e = absurd (omega arith)

  -- the arguments of two constants
  pub arguments_paired : (us vs : List H) (ps qs : List (H × H)) → length us ≡ length vs → qs ≡ ps ++ back_pairs us vs →
      pairs_back means qs ≡ argument_pairs (terms_of (map means us)) (terms_of (map means vs)) ++ pairs_back means ps
  arguments_paired us vs ps qs e p =
      ap (pairs_back means) p ∙ pairs_back_append ps (back_pairs us vs)
      ∙ ap (λ xs. xs ++ pairs_back means ps) (sym (arguments_onto none none us vs e))

all_between : {H : Type 0} (holds : H → Type 0) (us vs : List H) → All holds us → All holds vs → All (BothHeld holds) (back_pairs us vs)
all_between holds (u ∷ us) (v ∷ vs) a b =
    all_pushed (BothHeld holds) (back_pairs us vs) (back_pairs us vs ++ (u, v) ∷ []) (u, v) refl
    (all_between holds us vs (λ i d l. a (suc i) d (omega arith)) (λ i d l. b (suc i) d (omega arith))) (a 0 u (omega arith), b 0 v (omega arith))
all_between holds [] vs a b = λ i d l. absurd (omega arith)
all_between holds (u ∷ us) [] a b = λ i d l. absurd (omega arith)

pub arguments_held : {H : Type 0} (holds : H → Type 0) (us vs : List H) (ps qs : List (H × H)) (r : Bool) → All holds us → All holds vs → All (BothHeld holds) ps → ArePaired us vs ps qs r → All (BothHeld holds) qs
arguments_held holds us vs ps qs true a b h e = rw e.1 (All-append (BothHeld holds) ps (back_pairs us vs) h (all_between holds us vs a b))
arguments_held holds us vs ps qs false a b h e = rw e.1 h

-- one pair more, from the end of two lists
one_pair_more : {H : Type 0} (us vs : List H) (i : ℕ) (u v : H) → i < length us → i < length vs → u ≡ get_or us i u → v ≡ get_or vs i v →
    back_pairs (drop i us) (drop i vs) ≡ back_pairs (drop (suc i) us) (drop (suc i) vs) ++ (u, v) ∷ []
one_pair_more [] vs i u v l m p q = absurd (omega arith)
one_pair_more (x ∷ us) [] i u v l m p q = absurd (omega arith)
one_pair_more (x ∷ us) (y ∷ vs) zero u v l m p q = ap₂ (λ a b. back_pairs us vs ++ (a, b) ∷ []) (sym p) (sym q)
one_pair_more (x ∷ us) (y ∷ vs) (suc i) u v l m p q = one_pair_more us vs i u v (omega arith) (omega arith) p q

pub back_pairs_more : {H : Type 0} (us vs : List H) (n i : ℕ) (u v : H) (ps qs os : List (H × H)) → n ≡ i + 1 → i < length us → i < length vs → u ≡ get_or us i u → v ≡ get_or vs i v →
    ps ≡ os ++ back_pairs (drop n us) (drop n vs) → qs ≡ ps ++ (u, v) ∷ [] → qs ≡ os ++ back_pairs (drop i us) (drop i vs)
back_pairs_more us vs n i u v ps qs os e l m p q f h =
    let s : suc i ≡ n = omega arith in
    h ∙ ap (λ xs. xs ++ (u, v) ∷ []) f ∙ append_assoc os (back_pairs (drop n us) (drop n vs)) ((u, v) ∷ [])
    ∙ ap (λ xs. os ++ xs) (sym (one_pair_more us vs i u v l m p q ∙ ap (λ k. back_pairs (drop k us) (drop k vs) ++ (u, v) ∷ []) s))

-- ---- the parts of two heads

module _ {H : Type 0} (means : H → Term) where
  -- of two binders
  pub binders_added : (a b : Term) (t m s n : H) (ps qs rs : List (H × H)) → alike a b ≡ true → part_pairs a b ≡ (means t, means s) ∷ (means m, means n) ∷ [] →
      qs ≡ ps ++ (m, n) ∷ [] → rs ≡ qs ++ (t, s) ∷ [] → ArePartsAdded means a b ps rs true
  binders_added a b t m s n ps qs rs h e p q = (
    h,
    ap (pairs_back means) q ∙ pairs_back_append means qs ((t, s) ∷ []) ∙ ap (λ xs. (means t, means s) ∷ pairs_back means xs) p
        ∙ ap (λ xs. (means t, means s) ∷ xs) (pairs_back_append means ps ((m, n) ∷ [])) ∙ ap (λ xs. xs ++ pairs_back means ps) (sym e),
  )

  pub abstractions_added : (a b : Term) (t m s n : H) (ps qs rs : List (H × H)) → Lam (means t) (means m) ≡ a → Lam (means s) (means n) ≡ b →
      qs ≡ ps ++ (m, n) ∷ [] → rs ≡ qs ++ (t, s) ∷ [] → ArePartsAdded means a b ps rs true
  abstractions_added a b t m s n ps qs rs e f = binders_added a b t m s n ps qs rs (ap₂ alike (sym e) (sym f)) (ap₂ part_pairs (sym e) (sym f))

  pub products_added : (a b : Term) (t m s n : H) (ps qs rs : List (H × H)) → Pi (means t) (means m) ≡ a → Pi (means s) (means n) ≡ b →
      qs ≡ ps ++ (m, n) ∷ [] → rs ≡ qs ++ (t, s) ∷ [] → ArePartsAdded means a b ps rs true
  products_added a b t m s n ps qs rs e f = binders_added a b t m s n ps qs rs (ap₂ alike (sym e) (sym f)) (ap₂ part_pairs (sym e) (sym f))

  alike_arguments : (h : Head) (us vs : List H) → alike (Con h (terms_of (map means us))) (Con h (terms_of (map means vs))) ≡ nat_eq (length us) (length vs)
  alike_arguments h us vs = ap (λ x. x && nat_eq (count (terms_of (map means us))) (count (terms_of (map means vs)))) (same_head_itself h) ∙ ap₂ nat_eq (count_map means us) (count_map means vs)

  -- of two constants or metavariables with one name
  pub heads_added : (a b : Term) (h k : Head) (us vs : List H) (ps qs : List (H × H)) (r : Bool) → Con h (terms_of (map means us)) ≡ a → Con k (terms_of (map means vs)) ≡ b → h ≡ k →
      ArePaired us vs ps qs r → ArePartsAdded means a b ps qs r
  heads_added a b h k us vs ps qs true e f n p =
      let e' : Con k (terms_of (map means us)) ≡ a = ap (λ x. Con x (terms_of (map means us))) (sym n) ∙ e in (
        ap₂ alike (sym e') (sym f) ∙ alike_arguments k us vs ∙ eq-eqb (length us) (length vs) p.0,
        arguments_paired means us vs ps qs p.0 p.1 ∙ ap (λ xs. xs ++ pairs_back means ps) (ap₂ part_pairs e' f),
      )
  heads_added a b h k us vs ps qs false e f n p =
      let e' : Con k (terms_of (map means us)) ≡ a = ap (λ x. Con x (terms_of (map means us))) (sym n) ∙ e in
      ap₂ alike (sym e') (sym f) ∙ alike_arguments k us vs ∙ not_equal (length us) (length vs) p.0
    where
      not_equal : (n m : ℕ) → n ≢ m → nat_eq n m ≡ false
      not_equal n m h = grind arith

  -- of two with different names
  pub heads_differ : (a b : Term) (h k : Head) (us vs : Terms) (ps qs : List (H × H)) → Con h us ≡ a → Con k vs ≡ b → h ≢ k → ArePartsAdded means a b ps qs false
  heads_differ a b h k us vs ps qs e f n = ap₂ alike (sym e) (sym f) ∙ ap (λ x. x && nat_eq (count us) (count vs)) (differ (same_head h k) refl)
    where
      differ : (x : Bool) → same_head h k ≡ x → same_head h k ≡ false
      differ true q = absurd (n (same_head_is h k q))
      differ false q = q

  -- of two applications: one pair more
  pub applications_added : (a b : Term) (f u k v : H) (ps qs : List (H × H)) → App (means f) (means u) ≡ a → App (means k) (means v) ≡ b → qs ≡ ps ++ (u, v) ∷ [] →
      (alike (means f) (means k) ≡ alike a b) × (part_pairs (means f) (means k) ++ pairs_back means qs ≡ part_pairs a b ++ pairs_back means ps)
  applications_added a b f u k v ps qs d e p = (
    ap₂ alike d e,
    ap (λ xs. part_pairs (means f) (means k) ++ pairs_back means xs) p
        ∙ ap (λ xs. part_pairs (means f) (means k) ++ xs) (pairs_back_append means ps ((u, v) ∷ []))
        ∙ sym (append_assoc (part_pairs (means f) (means k)) ((means u, means v) ∷ []) (pairs_back means ps))
        ∙ ap (λ xs. xs ++ pairs_back means ps) (ap₂ part_pairs d e),
  )
