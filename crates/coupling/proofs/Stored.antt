-- Needs and coupling by marks on stored metavariables.
use Rattle.std.proofs.Common.{◌≡◌, ◌≢◌, ◌<◌, ◌↔◌, inl, ℕ, List, Bool, true, false, nat_lt, length, get_or, refl, sym, ap, ap₂, ◌∙◌, subst, arith}
use Rattle.std.proofs.lemmas.Bool.{ltb-true, lt-ltb}
use Rattle.std.proofs.lemmas.List.{length-map}
use Rattle.ld_trees.specs.Term.{Term}
use Rattle.ld_trees.proofs.Equality.{and_left, and_right, and_both}
use Rattle.ld_terms.specs.declared.globals.Decl.{Decl}
use Rattle.meta_trees.specs.MetaContext.{Metas}
use Rattle.meta_trees.specs.Dependencies.{below}
use Rattle.meta_context.specs.Declaring.{IsOpen}
use Rattle.meta_context.specs.Stored.{metas_of}
use Rattle.goal_state.specs.State.{plain_decl, plain_metas, is_open}
use Rattle.goal_state.proofs.Lists.{below_same}
use Rattle.goal_state.proofs.Means.{open_is, open_again, metas_again}
use Rattle.coupling.specs.Coupling.{is_needed, needs, is_coupled, coupled}
use Rattle.coupling.specs.Marks.{IsMarked, IsReached, Reaches, is_open_and_marked, is_in_both}
use Rattle.coupling.proofs.Coupling.{open_below, needed_is, coupled_is}

-- truths that follow from each other
pub same_truth : (a b : Bool) → (a ≡ true → b ≡ true) → (b ≡ true → a ≡ true) → a ≡ b
same_truth true b f g = sym (f refl)
same_truth false true f g = g refl
same_truth false false f g = refl

marked_is : (x : ℕ) → (nat_lt 0 x ≡ true) ↔ (0 < x)
marked_is x = (ltb-true 0 x, lt-ltb 0 x)

module _ {H : Type 0} (means : H → Term) (ds : List (Decl H)) where
  abbrev Plain : List (Decl Term)
  Plain = plain_metas means ds

  abbrev Σ : Metas
  Σ = metas_of means ds

  pub open_inside : (k : ℕ) → is_open Plain k ≡ true → k < length ds
  open_inside k e = open_below ds k (sym (open_again means ds k) ∙ e)

  pub goal_inside : (k : ℕ) → IsOpen Plain k → k < length ds
  goal_inside k i = open_inside k ((open_is Plain k).1 i)

  pub stored_needed : (g k : ℕ) → (is_needed Plain g k ≡ true) ↔ ((is_open ds k ≡ true) × IsReached Σ g k)
  stored_needed g k = (
    λ e. let w = (needed_is Plain g k).0 e in (sym (open_again means ds k) ∙ w.0, subst (λ Σ. IsReached Σ g k) (metas_again means ds) w.1),
    λ w. (needed_is Plain g k).1 (open_again means ds k ∙ w.0, subst (λ Σ. IsReached Σ g k) (sym (metas_again means ds)) w.1),
  )

  pub stored_coupled : (g h : ℕ) → (is_coupled Plain g h ≡ true) ↔ ((g ≢ h) × (is_open ds h ≡ true) × ((k : ℕ) × (is_open ds k ≡ true) × IsReached Σ g k × IsReached Σ h k))
  stored_coupled g h = (
    λ e.
        let w = (coupled_is Plain g h).0 e in
        let k = w.2.0 in
        (w.0, sym (open_again means ds h) ∙ w.1, (k, sym (open_again means ds k) ∙ w.2.1, subst (λ Σ. IsReached Σ g k) (metas_again means ds) w.2.2, subst (λ Σ. IsReached Σ h k) (metas_again means ds) w.2.3)),
    λ w.
        let k = w.2.0 in
        (coupled_is Plain g h).1 (w.0, open_again means ds h ∙ w.1, (k, open_again means ds k ∙ w.2.1, subst (λ Σ. IsReached Σ g k) (sym (metas_again means ds)) w.2.2, subst (λ Σ. IsReached Σ h k) (sym (metas_again means ds)) w.2.3)),
  )

  module _ (g : ℕ) (ms : List ℕ) (sized : length ms ≡ length ds) (r : Reaches Σ g ms) where
    marked_needed : (k : ℕ) → is_open_and_marked ds ms k ≡ is_needed Plain g k
    marked_needed k = same_truth _ _
        (λ e. (stored_needed g k).1 (and_left (is_open ds k) _ e, r.sound k ((marked_is (get_or ms k 0)).0 (and_right (is_open ds k) _ e))))
        (λ e.
        let w = (stored_needed g k).0 e in
        let b = open_below ds k w.0 in
        and_both (is_open ds k) _ w.0 ((marked_is (get_or ms k 0)).1 (r.whole k (omega (arith, b, sized)) w.1)))

    pub marked_needs : below (is_open_and_marked ds ms) (length ds) ≡ needs Plain g
    marked_needs =
        below_same (is_open_and_marked ds ms) (is_needed Plain g) (length ds) marked_needed
        ∙ ap (below (is_needed Plain g)) (sym (length-map ds (plain_decl means)))

    -- a goal that is needed itself
    pub needed_itself : (h : ℕ) → g ≢ h → is_open ds h ≡ true → IsMarked ms h → is_coupled Plain g h ≡ true
    needed_itself h n o l = (stored_coupled g h).1 (n, o, (h, o, r.sound h l, (let same : h ≡ h = refl in inl same)))

    module _ (h : ℕ) (ns : List ℕ) (sized_too : length ns ≡ length ds) (q : Reaches Σ h ns) where
      pub shared_coupled : (b : Bool) → g ≢ h → is_open ds h ≡ true
          → (b ≡ true → (k : ℕ) × (k < length ds) × (is_in_both ds ms ns k ≡ true))
          → ((k : ℕ) → k < length ds → is_in_both ds ms ns k ≡ true → b ≡ true)
          → b ≡ is_coupled Plain g h
      shared_coupled b n o some none = same_truth b _
          (λ e.
          let w = some e in
          let k = w.0 in
          let one = and_left (is_open_and_marked ds ms k) _ w.2 in
          let two = and_right (is_open_and_marked ds ms k) _ w.2 in
          (stored_coupled g h).1 (n, o, (k, and_left (is_open ds k) _ one, r.sound k ((marked_is (get_or ms k 0)).0 (and_right (is_open ds k) _ one)), q.sound k ((marked_is (get_or ns k 0)).0 two))))
          (λ e.
          let w = (stored_coupled g h).0 e in
          let k = w.2.0 in
          let i = open_below ds k w.2.1 in
          let one = (marked_is (get_or ms k 0)).1 (r.whole k (omega (arith, i, sized)) w.2.2) in
          let two = (marked_is (get_or ns k 0)).1 (q.whole k (omega (arith, i, sized_too)) w.2.3) in
          none k i (and_both (is_open_and_marked ds ms k) _ (and_both (is_open ds k) _ w.2.1 one) two))

  -- goals that are coupled with none
  pub same_goal : (g h : ℕ) → g ≡ h → is_coupled Plain g h ≡ false
  same_goal g h e = same_truth _ false (λ t. absurd (((stored_coupled g h).0 t).0 e)) (λ t. absurd cc)

  pub not_open : (g h : ℕ) → is_open ds h ≡ false → is_coupled Plain g h ≡ false
  not_open g h f = same_truth _ false (λ t. let o = ((stored_coupled g h).0 t).1 in absurd cc) (λ t. absurd cc)

-- ---- where the store and the metavariables are those of a state

module _ {T H : Type 0} (means : T → H → Term) (t t' : T) (ds ds' : List (Decl H)) (same : t' ≡ t) (again : ds' ≡ ds) (g : ℕ) where
  pub needs_again : (ms ms' : List ℕ) → length ms ≡ length ds' → Reaches (metas_of (means t') ds') g ms → ms' ≡ ms → below (is_open_and_marked ds' ms') (length ds') ≡ needs (plain_metas (means t) ds) g
  needs_again ms ms' sized r e =
      ap (λ xs. below (is_open_and_marked ds' xs) (length ds')) e
      ∙ marked_needs (means t') ds' g ms sized r
      ∙ ap₂ (λ x xs. needs (plain_metas (means x) xs) g) same again

  pub coupled_again : below (is_coupled (plain_metas (means t') ds') g) (length ds') ≡ coupled (plain_metas (means t) ds) g
  coupled_again =
      ap (below (is_coupled (plain_metas (means t') ds') g)) (sym (length-map ds' (plain_decl (means t'))))
      ∙ ap₂ (λ x xs. coupled (plain_metas (means x) xs) g) same again
