-- What a walk keeps while it goes on: what occurs in the handles that are left is a dependency, and what has entered is left or has
-- been looked at.
use Rattle.std.proofs.Common.{◌≡◌, ◌≢◌, ◌+◌, ◌⊎◌, inl, inr, ℕ, zero, suc, List, [], ◌∷◌, map, get_or, set, length, Bool, true, false, Some, None, refl, sym, ap, ◌∙◌, arith, subst, if◌then◌else◌}
use Rattle.std.specs.Prelude.{Contains, sum_by, slice_get}
use Rattle.ld_trees.specs.Term.{Head, Named, Numbered, Term, Srt, Var, App, Lam, Pi, Con, Terms, none, ◌▹◌}
use Rattle.ld_terms.specs.Views.{node_tree, terms_onto}
use Rattle.ld_terms.specs.declared.globals.Decl.{Decl}
use Rattle.ld_terms.specs.declared.view.View.{View}
use Rattle.ld_terms.specs.declared.view.View.TheVariants as view
use Rattle.meta_context.specs.Walks.{decl_handles, node_parts, IsMet, unknown, again, first}
use Rattle.meta_context.proofs.Entering.{contains_head, contains_tail, contains_nothing}

-- ---- which metavariables have been met

pub met_now : (bs : List Bool) (k : ℕ) → get_or (set bs k true) k true ≡ true
met_now [] k = refl
met_now (b ∷ bs) zero = refl
met_now (b ∷ bs) (suc k) = met_now bs k

pub met_still : (bs : List Bool) (k j : ℕ) → get_or bs j true ≡ true → get_or (set bs k true) j true ≡ true
met_still [] k j e = refl
met_still (b ∷ bs) zero zero e = refl
met_still (b ∷ bs) zero (suc j) e = e
met_still (b ∷ bs) (suc k) zero e = e
met_still (b ∷ bs) (suc k) (suc j) e = met_still bs k j e

pub met_before : (bs : List Bool) (k j : ℕ) → get_or (set bs k true) j true ≡ true → (j ≡ k) ⊎ (get_or bs j true ≡ true)
met_before [] k j e = inr refl
met_before (b ∷ bs) zero zero e = inl refl
met_before (b ∷ bs) zero (suc j) e = inr e
met_before (b ∷ bs) (suc k) zero e = inr e
met_before (b ∷ bs) (suc k) (suc j) e = elim (met_before bs k j e) [ inl q ↦ inl (ap suc q) | inr q ↦ inr q ]

length-met : (bs : List Bool) (k : ℕ) → length (set bs k true) ≡ length bs
length-met [] k = refl
length-met (b ∷ bs) zero = refl
length-met (b ∷ bs) (suc k) = ap suc (length-met bs k)

met_outside : {X : Type 0} (bs : List Bool) (xs : List X) (k : ℕ) → length bs ≡ length xs → slice_get xs k ≡ None → get_or bs k true ≡ true
met_outside [] xs k e n = refl
met_outside (b ∷ bs) [] k e n = absurd (omega arith)
met_outside (b ∷ bs) (x ∷ xs) zero e n = absurd cc
met_outside (b ∷ bs) (x ∷ xs) (suc k) e n = met_outside bs xs k (omega arith) n

-- how much the handles of the other ones weigh
abbrev pub unmet : {H : Type 0} → (H → ℕ) → List Bool → List (Decl H) → ℕ
unmet w [] ds = 0
unmet w (b ∷ bs) [] = 0
unmet w (b ∷ bs) (d ∷ ds) = (if b then 0 else sum_by w (decl_handles d)) + unmet w bs ds

unmet_met : {H : Type 0} (w : H → ℕ) (bs : List Bool) (ds : List (Decl H)) (k : ℕ) (d : Decl H) → slice_get ds k ≡ Some d → get_or bs k true ≡ false → unmet w (set bs k true) ds + sum_by w (decl_handles d) ≡ unmet w bs ds
unmet_met w [] ds k d s e = absurd cc
unmet_met w (b ∷ bs) [] k d s e = absurd cc
unmet_met w (b ∷ bs) (x ∷ ds) zero d s e =
    let same : x ≡ d = cc in
    let sums : sum_by w (decl_handles x) ≡ sum_by w (decl_handles d) = ap (λ y. sum_by w (decl_handles y)) same in
    let old : (if b then 0 else sum_by w (decl_handles x)) ≡ sum_by w (decl_handles x) = ap (λ c. if c then 0 else sum_by w (decl_handles x)) e in
    omega (arith, sums, old)
unmet_met w (b ∷ bs) (x ∷ ds) (suc k) d s e =
    let h : unmet w (set bs k true) ds + sum_by w (decl_handles d) ≡ unmet w bs ds = unmet_met w bs ds k d s e in
    omega (arith, h)

some_same : {X : Type 0} (x y : X) → Some x ≡ Some y → x ≡ y
some_same x y e = cc

-- ---- what has been looked at

module _ {H : Type 0} (means : H → Term) (m : ℕ) where
  abbrev pub IsSeen : List H → Term → Type 0
  IsSeen entered t = (y : H) × Contains entered y × (means y ≡ t)

  abbrev pub AreSeen : List H → Terms → Type 0
  AreSeen entered none = Unit {0}
  AreSeen entered (us ▹ u) = AreSeen entered us × IsSeen entered u

  -- not m, and met where it is declared
  abbrev pub IsGood : List Bool → ℕ → Type 0
  IsGood met k = (k ≢ m) × (get_or met k true ≡ true)

  abbrev pub IsGoodHead : List Bool → Head → Type 0
  IsGoodHead met (Named a) = Unit {0}
  IsGoodHead met (Numbered k) = IsGood met k

  -- the parts of the term have entered, and the metavariable at its root has been met and isn't m
  abbrev pub IsCovered : List H → List Bool → Term → Type 0
  IsCovered entered met (Srt s) = Unit {0}
  IsCovered entered met (Var i) = Unit {0}
  IsCovered entered met (App f a) = IsSeen entered f × IsSeen entered a
  IsCovered entered met (Lam A M) = IsSeen entered A × IsSeen entered M
  IsCovered entered met (Pi A B) = IsSeen entered A × IsSeen entered B
  IsCovered entered met (Con h us) = IsGoodHead met h × AreSeen entered us

  module _ (e e' : List H) (kept : (x : H) → Contains e x → Contains e' x) where
    seen_still : (t : Term) → IsSeen e t → IsSeen e' t
    seen_still t (y, c, s) = (y, kept y c, s)

    all_seen_still : (us : Terms) → AreSeen e us → AreSeen e' us
    all_seen_still none s = tt
    all_seen_still (us ▹ u) s = (all_seen_still us s.0, seen_still u s.1)

    pub covered_still : (met met' : List Bool) → ((k : ℕ) → get_or met k true ≡ true → get_or met' k true ≡ true) → (t : Term) → IsCovered e met t → IsCovered e' met' t
    covered_still met met' f (Srt s) c = tt
    covered_still met met' f (Var i) c = tt
    covered_still met met' f (App a b) c = (seen_still a c.0, seen_still b c.1)
    covered_still met met' f (Lam a b) c = (seen_still a c.0, seen_still b c.1)
    covered_still met met' f (Pi a b) c = (seen_still a c.0, seen_still b c.1)
    covered_still met met' f (Con (Named a) us) c = (tt, all_seen_still us c.1)
    covered_still met met' f (Con (Numbered k) us) c = ((c.0.0, f k c.0.1), all_seen_still us c.1)

  pub seen_onto : (e : List H) (us : Terms) (xs : List H) → AreSeen e us → ((x : H) → Contains xs x → Contains e x) → AreSeen e (terms_onto us (map means xs))
  seen_onto e us [] s f = s
  seen_onto e us (x ∷ xs) s f = seen_onto e (us ▹ means x) xs (s, (x, f x (contains_head x xs), refl)) (λ y c. f y (contains_tail x y xs c))

  two_seen : (e : List H) (a b : H) → ((x : H) → Contains (a ∷ b ∷ []) x → Contains e x) → IsSeen e (means a) × IsSeen e (means b)
  two_seen e a b f = ((a, f a (contains_head a (b ∷ [])), refl), (b, f b (contains_tail a b (b ∷ []) (contains_head b [])), refl))

  -- the metavariable at a node is good
  abbrev pub IsGoodNode : List Bool → View H → Type 0
  IsGoodNode met (view.Meta k us) = IsGood met k
  IsGoodNode met _ = Unit {0}

  pub covers : (e : List H) (met : List Bool) (v : View H) → ((x : H) → Contains (node_parts v) x → Contains e x) → IsGoodNode met v → IsCovered e met (node_tree means v)
  covers e met view.Star f g = tt
  covers e met view.Square f g = tt
  covers e met (view.Var i) f g = tt
  covers e met (view.App a b) f g = two_seen e a b f
  covers e met (view.Lam a b) f g = two_seen e a b f
  covers e met (view.Pi a b) f g = two_seen e a b f
  covers e met (view.Const a us) f g = (tt, seen_onto e none us.now tt f)
  covers e met (view.Meta k us) f g = (g, seen_onto e none us.now tt f)

  -- ---- what the metavariable at a node changes

  module _ (ds : List (Decl H)) (met met' : List Bool) (more : List H) where
    pub met_more : (k : ℕ) → IsMet ds k met met' more → (j : ℕ) → get_or met j true ≡ true → get_or met' j true ≡ true
    met_more k (unknown n s e) j g = subst (λ bs. get_or bs j true ≡ true) (sym s) g
    met_more k (again a s e) j g = subst (λ bs. get_or bs j true ≡ true) (sym s) g
    met_more k (first d a b s e) j g = subst (λ bs. get_or bs j true ≡ true) (sym s) (met_still met k j g)

    pub met_sized : (k : ℕ) → IsMet ds k met met' more → length met' ≡ length met
    met_sized k (unknown n s e) = ap length s
    met_sized k (again a s e) = ap length s
    met_sized k (first d a b s e) = ap length s ∙ length-met met k

    pub met_good : (k : ℕ) → length met ≡ length ds → IsMet ds k met met' more → get_or met' k true ≡ true
    met_good k z (unknown n s e) = subst (λ bs. get_or bs k true ≡ true) (sym s) (met_outside met ds k z n)
    met_good k z (again a s e) = subst (λ bs. get_or bs k true ≡ true) (sym s) a
    met_good k z (first d a b s e) = subst (λ bs. get_or bs k true ≡ true) (sym s) (met_now met k)

    pub met_declared : (k : ℕ) → IsMet ds k met met' more → (j : ℕ) (d : Decl H) → slice_get ds j ≡ Some d → get_or met' j true ≡ true → (more ≡ decl_handles d) ⊎ (get_or met j true ≡ true)
    met_declared k (unknown n s e) j d p g = inr (subst (λ bs. get_or bs j true ≡ true) s g)
    met_declared k (again a s e) j d p g = inr (subst (λ bs. get_or bs j true ≡ true) s g)
    met_declared k (first c a b s e) j d p g = elim (met_before met k j (subst (λ bs. get_or bs j true ≡ true) s g)) [
      | inl q ↦ let same : c ≡ d = some_same c d (sym a ∙ ap (slice_get ds) (sym q) ∙ p) in inl (e ∙ ap decl_handles same)
      | inr o ↦ inr o
    ]

    nothing_more : (w : H → ℕ) → met' ≡ met → more ≡ [] → unmet w met' ds + sum_by w more ≡ unmet w met ds
    nothing_more w s e =
        let p : unmet w met' ds ≡ unmet w met ds = ap (λ bs. unmet w bs ds) s in
        let q : sum_by w more ≡ 0 = ap (sum_by w) e in
        omega (arith, p, q)

    pub met_weight : (w : H → ℕ) (k : ℕ) → IsMet ds k met met' more → unmet w met' ds + sum_by w more ≡ unmet w met ds
    met_weight w k (unknown n s e) = nothing_more w s e
    met_weight w k (again a s e) = nothing_more w s e
    met_weight w k (first d a b s e) =
        let h : unmet w (set met k true) ds + sum_by w (decl_handles d) ≡ unmet w met ds = unmet_met w met ds k d a b in
        ap (λ bs. unmet w bs ds + sum_by w more) s ∙ ap (λ xs. unmet w (set met k true) ds + sum_by w xs) e ∙ h

    -- the handles that enter are those of k
    pub met_from : (k : ℕ) → IsMet ds k met met' more → (x : H) → Contains more x → (d : Decl H) × (slice_get ds k ≡ Some d) × Contains (decl_handles d) x
    met_from k (unknown n s e) x c = absurd (contains_nothing x (subst (λ xs. Contains xs x) e c))
    met_from k (again a s e) x c = absurd (contains_nothing x (subst (λ xs. Contains xs x) e c))
    met_from k (first d a b s e) x c = (d, a, subst (λ xs. Contains xs x) e c)
