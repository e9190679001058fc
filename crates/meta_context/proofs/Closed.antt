-- A walk that has come to its end has met every dependency.
use Rattle.std.proofs.Common.{◌≡◌, ◌<◌, inl, inr, ℕ, zero, suc, List, [], ◌∷◌, get_or, length, Bool, true, false, Some, nat_eq, refl, sym, ap, ◌∙◌, arith, subst}
use Rattle.std.specs.Prelude.{Contains, slice_get, replicate}
use Rattle.std.proofs.lemmas.Bool.{eqb-true, false≢true}
use Rattle.std.proofs.lemmas.List.Elements.{All-contains}
use Rattle.ld_trees.specs.Term.{Named, Numbered, Term, Srt, Var, App, Lam, Pi, Con, Terms, none, ◌▹◌}
use Rattle.ld_terms.specs.declared.globals.Decl.{Decl}
use Rattle.meta_trees.specs.MetaContext.{decl}
use Rattle.meta_trees.specs.MetaContext.{Decl as Declaration}
use Rattle.meta_trees.specs.Dependencies.{occurs, occurs_in, parts, depends, Depends, direct, through}
use Rattle.meta_trees.proofs.Dependencies.{or_split, reaches_sound, reaches_complete}
use Rattle.meta_context.specs.Stored.{decl_of, metas_of}
use Rattle.meta_context.specs.Walks.{HaveEntered, decl_handles}
use Rattle.meta_context.proofs.Entering.{contains_head, contains_cases, contains_nothing, all_of}
use Rattle.meta_context.proofs.Handles.{parts_same}
use Rattle.meta_context.proofs.Walking.{IsSeen, AreSeen, IsGood, IsCovered, seen_onto}
use Rattle.meta_context.proofs.Turns.{IsWalking}
use Rattle.meta_context.proofs.Numbers.{below_length}

module _ {H : Type 0} (means : H → Term) (m : ℕ) (entered : List H) (met : List Bool) (looked : (x : H) → Contains entered x → IsCovered means m entered met (means x)) where
  covered_at : (t : Term) → IsSeen means m entered t → IsCovered means m entered met t
  covered_at t (y, c, e) = subst (IsCovered means m entered met) e (looked y c)

  mutual
    good : (t : Term) → IsCovered means m entered met t → (k : ℕ) → occurs k t ≡ true → IsGood means m met k
    good (Srt s) c k o = absurd cc
    good (Var i) c k o = absurd cc
    good (App a b) c k o = elim (or_split (occurs k a) (occurs k b) o) [
      | inl p ↦ good a (covered_at a c.0) k p
      | inr p ↦ good b (covered_at b c.1) k p
    ]
    good (Lam a b) c k o = elim (or_split (occurs k a) (occurs k b) o) [
      | inl p ↦ good a (covered_at a c.0) k p
      | inr p ↦ good b (covered_at b c.1) k p
    ]
    good (Pi a b) c k o = elim (or_split (occurs k a) (occurs k b) o) [
      | inl p ↦ good a (covered_at a c.0) k p
      | inr p ↦ good b (covered_at b c.1) k p
    ]
    good (Con (Named a) us) c k o = good_all us c.1 k o
    good (Con (Numbered j) us) c k o = elim (or_split (nat_eq j k) (occurs_in k us) o) [
      | inl e ↦ subst (IsGood means m met) (eqb-true j k e) c.0
      | inr p ↦ good_all us c.1 k p
    ]

    good_all : (us : Terms) → AreSeen means m entered us → (k : ℕ) → occurs_in k us ≡ true → IsGood means m met k
    good_all none c k o = absurd cc
    good_all (us ▹ u) c k o = elim (or_split (occurs_in k us) (occurs k u) o) [
      | inl p ↦ good_all us c.0 k p
      | inr p ↦ good u (covered_at u c.1) k p
    ]

stored_decl : {H : Type 0} (means : H → Term) (ds : List (Decl H)) (k : ℕ) (d : Declaration) → decl k (metas_of means ds) ≡ Some d → (s : Decl H) × (slice_get ds k ≡ Some s) × (decl_of means s ≡ d)
stored_decl means [] k d e = absurd cc
stored_decl means (x ∷ ds) zero d e = (x, refl, (let same : decl_of means x ≡ d = cc in same))
stored_decl means (x ∷ ds) (suc k) d e = stored_decl means ds k d e

module _ {H : Type 0} (holds : H → Type 0) (means : H → Term) (ds : List (Decl H)) (m : ℕ) (h : H) (left entered : List H) (met : List Bool) (w : IsWalking holds means ds m h left entered met) where
  module _ (ended : left ≡ []) where
    all_looked : (x : H) → Contains entered x → IsCovered means m entered met (means x)
    all_looked x c = elim (w.looked x c) [
      | inl d ↦ absurd (contains_nothing x (subst (λ xs. Contains xs x) ended d))
      | inr e ↦ e
    ]

    all_good : (k : ℕ) → Depends (metas_of means ds) (none ▹ means h) k → IsGood means m met k
    all_good k (direct o) = good_all means m entered met all_looked (none ▹ means h) (tt, (h, w.begun, refl)) k o
    all_good k (through {m = j} d D p o) =
        let g = all_good j D in
        let s = stored_decl means ds j d p in
        let seen = seen_onto means m entered none (decl_handles s.0) tt (λ x c. All-contains (Contains entered) (decl_handles s.0) x (w.declared j s.0 s.1 g.1) c) in
        let parts_seen : AreSeen means m entered (parts (decl_of means s.0)) = subst (AreSeen means m entered) (sym (parts_same means s.0)) seen in
        good_all means m entered met all_looked (parts d) (subst (λ c. AreSeen means m entered (parts c)) s.2 parts_seen) k o

    pub not_found : false ≡ depends (metas_of means ds) (none ▹ means h) m
    not_found = by (depends (metas_of means ds) (none ▹ means h) m) refl
      where
        by : (b : Bool) → depends (metas_of means ds) (none ▹ means h) m ≡ b → false ≡ b
        by false e = refl
        by true e = absurd ((all_good m (reaches_sound (metas_of means ds) (length (metas_of means ds)) (none ▹ means h) m e)).0 refl)

  pub found : (x : H) → Contains left x → occurs m (means x) ≡ true → true ≡ depends (metas_of means ds) (none ▹ means h) m
  found x c o = sym (reaches_complete (w.sound x c m o))

-- ---- a walk begins with one handle

only : {H : Type 0} (h x : H) (left entered : List H) → HaveEntered (h ∷ []) [] [] left entered → Contains left x → h ≡ x
only h x left entered e c = elim (e.known x c) [
  | inl d ↦ absurd (contains_nothing x d)
  | inr d ↦ elim (contains_cases h x [] d) [ inl q ↦ q | inr f ↦ absurd (contains_nothing x f) ]
]

none_met_of : (n k : ℕ) → k < n → get_or (replicate n false) k true ≡ false
none_met_of zero k l = absurd (omega arith)
none_met_of (suc n) zero l = refl
none_met_of (suc n) (suc k) l = none_met_of n k (omega arith)

length-none_met : (n : ℕ) → length (replicate n false) ≡ n
length-none_met zero = refl
length-none_met (suc n) = ap suc (length-none_met n)

pub begins : {H : Type 0} (holds : H → Type 0) (means : H → Term) (ds : List (Decl H)) (m : ℕ) (h : H) (left entered : List H) (met : List Bool) (n : ℕ) → holds h → n ≡ length ds → met ≡ replicate n false → HaveEntered (h ∷ []) [] [] left entered → IsWalking holds means ds m h left entered met
begins holds means ds m h left entered met n ok z none_met e = record {
  sized = ap length none_met ∙ length-none_met n ∙ z;
  begun = All-contains (Contains entered) (h ∷ []) h e.here (contains_head h []);
  looked = λ x c. elim (e.fresh x c) [ inl d ↦ absurd (contains_nothing x d) | inr d ↦ inl d ];
  declared = λ k d s g. absurd (
      let l : k < length ds = below_length ds k d s in
      let below : k < n = omega (arith, l, z) in
      let no : get_or met k true ≡ false = ap (λ bs. get_or bs k true) none_met ∙ none_met_of n k below in
      false≢true (sym no ∙ g)
      );
  held = all_of holds left (λ x c. subst holds (only h x left entered e c) ok);
  sound = λ x c k o. direct (subst (λ y. occurs_in k (none ▹ means y) ≡ true) (sym (only h x left entered e c)) o);
}
