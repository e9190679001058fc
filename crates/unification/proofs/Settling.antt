-- Settling a metavariable gives legal metavariables in which it has the value; so do extending a context and declaring one.
use Rattle.std.proofs.Common.{◌≡◌, ℕ, List, [], ◌∷◌, ◌++◌, length, true, not, ◌&&◌, Some, option_map, inl, inr, refl, sym, ap, ◌∙◌, subst as transport}
use Rattle.std.specs.Prelude.{slice_get}
use Rattle.std.proofs.lemmas.Bool.{false≢true, not-true}
use Rattle.ld_trees.specs.Term.{Sort, Numbered, Term, Terms, none, ◌▹◌}
use Rattle.ld_trees.proofs.Equality.{and_left, and_right}
use Rattle.ld_rules.specs.Environment.{Env}
use Rattle.ld_rules.specs.Legality.{IsLegal}
use Rattle.ld_rules.specs.Scoping.{Known}
use Rattle.ld_rules.specs.ScopedItems.{IsScopedItem}
use Rattle.ld_terms.specs.declared.globals.Local.{Local}
use Rattle.ld_terms.specs.declared.globals.Decl.{Decl}
use Rattle.ld_terms.proofs.Arguments.{terms_of_end}
use Rattle.conversion.specs.Runs as kernel
use Rattle.kernel_check.specs.Inference.{infer, infer_sort}
use Rattle.meta_trees.specs.MetaContext.{item}
use Rattle.meta_trees.specs.Dependencies.{Depends, depends, occurs, occurs_in}
use Rattle.meta_trees.specs.Whole.{whole}
use Rattle.meta_trees.proofs.Dependencies.{or_split, depends_wider, reaches_complete}
use Rattle.meta_context.specs.Plain.{rules_ctx}
use Rattle.meta_context.specs.Declaring as declaring
use Rattle.meta_context.specs.Limits.{is_full, is_too_deep}
use Rattle.meta_context.proofs.Stored.{declared_means, assigned_means}
use Rattle.meta_laws.specs.Cut.{cut}
use Rattle.meta_laws.specs.Legality.{IsLegalMetas}
use Rattle.meta_laws.proofs.Strengthening.{contexts_are_legal, equality_needs_dependencies}
use Rattle.meta_laws.proofs.Settling.{declaring_is_sound, extending_is_sound, settling_keeps_legality}
use Rattle.goal_state.specs.State.{rules_metas, is_open}
use Rattle.unification.specs.Refusals.{Cycle, TooDeep, TooManyMetas, Plain, Unifies}
use Rattle.unification.specs.Metavariables.{reach, sorted, extended, declared, settled_by}
use Rattle.unification.proofs.Gives.{Gives, gives_pure, gives_bind, gives_then, gives_demand, gives_kernel}
use Rattle.unification.proofs.Reach.{reach_is, cut_items, known_depends, all_known_depends, type_in_cut}
use Rattle.unification.proofs.Declarations.{plain, declares, keeps, extend_more, extend_assigned, assigned_here, still_open}
use Rattle.unification.proofs.Moved.{moved_more, moved_assigned}
use Rattle.unification.proofs.Joined.{Joined, Joins, Settled, depends_later, item_found}

module _ (Δ : Env) where
  -- the sort of a type was found
  abbrev pub HasSort : Plain → List (Local Term) → Term → Type 0
  HasSort S Γ A = (s : Sort) × (n : ℕ) × (left : ℕ) × (infer_sort (whole (rules_metas S) Δ) (rules_ctx Γ) A n ≡ kernel.Gave s left)

  -- a context that is legal in the environment cut to its own dependencies
  abbrev pub HasLegalContext : Plain → List (Local Term) → Type 0
  HasLegalContext S Γ = IsLegal (cut (rules_metas S) Δ (rules_ctx Γ)) (rules_ctx Γ)

  sort_found : (S : Plain) (Γ : List (Local Term)) (A : Term) → Gives (λ u. HasSort S Γ A) (sorted Δ S Γ A)
  sort_found S Γ A = gives_then (gives_kernel _ (λ n k s e. (s, n, k, transport (λ E. infer_sort E (rules_ctx Γ) A n ≡ kernel.Gave s k) (reach_is Δ S) e))) (λ s h. gives_pure tt h)

  module _ (S : Plain) (ok : IsLegalMetas Δ (rules_metas S)) where
    pub extended_legal : (Γ : List (Local Term)) (x : List ℕ) (A : Term) → HasLegalContext S Γ → Gives (HasLegalContext S) (extended Δ S Γ x A)
    extended_legal Γ x A l = gives_then (sort_found S Γ A) (λ u h. gives_pure (Γ ++ record { name = x; ty = A } ∷ []) (more h))
      where
        more : HasSort S Γ A → HasLegalContext S (Γ ++ record { name = x; ty = A } ∷ [])
        more h =
            let entry : Local Term = record { name = x; ty = A } in
            transport (λ G. IsLegal (cut (rules_metas S) Δ G) G) (sym (terms_of_end (λ (l : Local Term). l.ty) Γ entry)) (extending_is_sound Δ (rules_metas S) (rules_ctx Γ) A h.0 h.1 h.2 ok l h.3)

    pub declared_legal : (Γ : List (Local Term)) (T : Term) → HasLegalContext S Γ → Gives (λ Z. IsLegalMetas Δ (rules_metas Z) × (Z ≡ declaring.declared Γ T S)) (declared Δ S Γ T)
    declared_legal Γ T l =
        gives_demand (not (is_full S)) TooManyMetas (λ _. gives_demand (not (is_too_deep (rules_ctx Γ ▹ T))) (TooDeep (length S)) (λ _. gives_then (sort_found S Γ T) (λ u h. gives_pure (declaring.declared Γ T S) (more h, refl))))
      where
        more : HasSort S Γ T → IsLegalMetas Δ (rules_metas (declaring.declared Γ T S))
        more h = transport (IsLegalMetas Δ) (sym (declared_means (λ t. t) Γ T S)) (declaring_is_sound Δ (rules_metas S) (rules_ctx Γ) T h.0 h.1 h.2 ok l h.3).0

  module _ (unify : Unifies) (joins : Joins Δ unify) (S : Plain) (X : Terms) (m : ℕ) (d : Decl Term) (v : Term) (ok : IsLegalMetas Δ (rules_metas S)) (e : slice_get S m ≡ Some d) (D : Depends (rules_metas S) X m) (f : (k : ℕ) → occurs k v ≡ true → Depends (rules_metas S) X k) where
    scoped_item : IsScopedItem (cut (rules_metas S) Δ X) (item m (plain d))
    scoped_item = cut_items Δ (rules_metas S) X ok (Numbered m) (item m (plain d)) (item_found Δ S X m d ok D e)

    in_both : (k : ℕ) → occurs_in k (rules_ctx d.ctx ▹ v) ≡ true → Depends (rules_metas S) X k
    in_both k w = elim (or_split (occurs_in k (rules_ctx d.ctx)) (occurs k v) w) [ inl a ↦ all_known_depends Δ (rules_metas S) X ok (rules_ctx d.ctx) scoped_item.params_known k a | inr a ↦ f k a ]

    -- the value's type was found, and is known
    HasType : Term → Type 0
    HasType T = Known (cut (rules_metas S) Δ X) T × ((n : ℕ) × (left : ℕ) × (infer (whole (rules_metas S) Δ) (rules_ctx d.ctx) v n ≡ kernel.Gave T left))

    type_found : (n left : ℕ) (T : Term) → infer (reach Δ S) (rules_ctx d.ctx) v n ≡ kernel.Gave T left → HasType T
    unfolding HasType
    type_found n left T q =
        let r = transport (λ E. infer E (rules_ctx d.ctx) v n ≡ kernel.Gave T left) (reach_is Δ S) q in
        ((type_in_cut Δ (rules_metas S) X ok (rules_ctx d.ctx) v T n left (contexts_are_legal Δ (rules_metas S) m (plain d) ok (declares S m d e)) in_both r).1, (n, left, r))

    value_given : (T : Term) (Z : Plain) → HasType T → Joined Δ S X T d.ty Z → (is_open Z m && not (depends (rules_metas Z) (none ▹ v) m)) ≡ true → Settled Δ S X m d v (declaring.assigned m v Z)
    unfolding HasType
    value_given T Z h j o =
        let Σ = rules_metas S in
        let Σ' = rules_metas Z in
        let still = still_open S Z m d j.extend e (and_left (is_open Z m) _ o) in
        let either : (k : ℕ) → occurs_in k (none ▹ T ▹ d.ty) ≡ true → Depends Σ' X k = λ k w. depends_later Δ S Z X k j.extend (elim (or_split (occurs k T) (occurs k d.ty) w) [ inl a ↦ known_depends Δ Σ X ok T h.0 k a | inr a ↦ known_depends Δ Σ X ok d.ty scoped_item.ty.1 k a ]) in
        let equal = equality_needs_dependencies Δ Σ' (none ▹ T ▹ d.ty) X T d.ty j.legal (λ k D. depends_wider either D) (λ k D. D) j.equal in
        let apart : ¬ Depends Σ' (none ▹ v) m = λ D. false≢true (sym (not-true (depends Σ' (none ▹ v) m) (and_right (is_open Z m) _ o)) ∙ reaches_complete D) in
        let r = settling_keeps_legality Δ Σ Σ' m (plain d) v T h.1.0 h.1.1 ok j.legal (keeps S Z j.extend) (declares S m d e) (declares Z m d still.1) (ap (option_map (λ (t : Term). t)) still.0) h.1.2 equal apart in
        record {
          legal = transport (IsLegalMetas Δ) (sym (assigned_means (λ t. t) m v Z)) r.0;
          extend = extend_more S Z (declaring.assigned m v Z) j.extend (extend_assigned m v Z d still.1 still.0);
          before = still.0;
          now = assigned_here m v Z d still.1;
          moved = moved_more S Z (declaring.assigned m v Z) X j.extend (extend_assigned m v Z d still.1 still.0) j.moved (moved_assigned Z X m d v still.1 still.0 (depends_later Δ S Z X m j.extend D) (λ k w. depends_later Δ S Z X k j.extend (f k w)));
        }

    pub settled_sound : Gives (Settled Δ S X m d v) (settled_by Δ unify S m v (Some d))
    unfolding HasType
    settled_sound =
        gives_bind (gives_kernel _ type_found) (λ T h. gives_bind (joins S X (length d.ctx) T d.ty ok h.0 scoped_item.ty.1) (λ Z j. gives_demand (is_open Z m && not (depends (rules_metas Z) (none ▹ v) m)) (Cycle m) (λ o. gives_demand (not (is_too_deep (none ▹ v))) (TooDeep m) (λ _. gives_pure (declaring.assigned m v Z) (value_given T Z h j o)))))
