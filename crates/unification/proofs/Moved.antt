-- What a call may change: dependencies and new metavariables, which then speak of such alone.
use Rattle.std.proofs.Common.{◌≡◌, ℕ, ◌≤◌, List, [], ◌⊎◌, inl, inr, Bool, true, false, Option, Some, None, option_map, refl, sym, ap, ◌∙◌, length, nat_eq, arith, subst as transport}
use Rattle.std.specs.Prelude.{slice_get}
use Rattle.std.proofs.lemmas.Bool.{eqb-true, eqb-false}
use Rattle.std.proofs.lemmas.Option.{same_Some, slice_get_within}
use Rattle.ld_trees.specs.Term.{Term, Terms, Meta, ◌▹◌}
use Rattle.ld_trees.specs.Substitution.{rename}
use Rattle.ld_rules.specs.Environment.{Env}
use Rattle.ld_terms.specs.declared.globals.Local.{Local}
use Rattle.ld_terms.specs.declared.globals.Decl.{Decl}
use Rattle.meta_trees.specs.Dependencies.{Depends, direct, through, occurs, occurs_in, and_value, parts}
use Rattle.meta_trees.proofs.Dependencies.{or_split, or_left, or_right}
use Rattle.meta_context.specs.Plain.{rules_ctx}
use Rattle.meta_context.specs.Declaring.{unassigned, with_value, declared, assigned}
use Rattle.meta_context.proofs.Stored.{decl_means}
use Rattle.goal_state.specs.State.{rules_metas}
use Rattle.goal_state.specs.Following.{Extend}
use Rattle.unification.specs.Steps.{Gave}
use Rattle.unification.specs.Refusals.{Plain}
use Rattle.unification.specs.Pruning.{thin, kept_context, kept_variables}
use Rattle.unification.specs.Laws.{IsNear, LiesOver, whole, thinner}
use Rattle.unification.proofs.Declarations.{plain, declares, extend_length, past_the_end, assigned_other, assigned_here, declared_either, declared_past}
use Rattle.unification.proofs.Kept.{kept_speaks, occurs_renamed, variables_speak}

pub record Moved (S : Plain) (X : Terms) (Z : Plain) : Type 0 where
  pub changed : (k : ℕ) → (slice_get Z k ≡ slice_get S k) ⊎ IsNear S X k
  pub spoken : (k : ℕ) (e : Decl Term) → slice_get Z k ≡ Some e → (slice_get S k ≡ Some e) ⊎ ((j : ℕ) → occurs_in j (parts (plain e)) ≡ true → IsNear S X j)
  pub new : (k : ℕ) (e : Decl Term) → length S ≤ k → slice_get Z k ≡ Some e → LiesOver S X e.ctx

pub moved_itself : (S : Plain) (X : Terms) → Moved S X S
moved_itself S X = record { changed = λ k. inl refl; spoken = λ k e q. inl q; new = λ k e l q. absurd (let w = slice_get_within S k e q in omega arith) }

-- ---- one call after another

module _ (S Z : Plain) (X : Terms) (x : Extend S Z) (m : Moved S X Z) (Y : Terms) (f : (k : ℕ) → occurs_in k Y ≡ true → IsNear S X k) where
  -- a metavariable of a declaration
  of_declaration : (i : ℕ) (e : Decl Term) (k : ℕ) → slice_get Z i ≡ Some e → IsNear S X i → occurs_in k (parts (plain e)) ≡ true → IsNear S X k
  of_declaration i e k q n w = elim (m.spoken i e q) [
    | inl r ↦ elim n [
      | inl l ↦ absurd (let b = slice_get_within S i e r in omega arith)
      | inr D ↦ inr (through (plain e) D (declares S i e r) w)
    ]
    | inr g ↦ g k w
  ]

  -- what depends on it later
  pub near_before : {k : ℕ} → Depends (rules_metas Z) Y k → IsNear S X k
  near_before (direct w) = f _ w
  near_before {k} (through {m = i} d D p w) = go (slice_get Z i) refl (sym (decl_means (λ (t : Term). t) i Z) ∙ p) (near_before D)
    where
      go : (o : Option (Decl Term)) → slice_get Z i ≡ o → option_map plain o ≡ Some d → IsNear S X i → IsNear S X k
      go None q r n = absurd cc
      go (Some e) q r n = of_declaration i e k q n (transport (λ c. occurs_in k (parts c) ≡ true) (sym (same_Some (plain e) d r)) w)

  near_still : (k : ℕ) → IsNear Z Y k → IsNear S X k
  near_still k (inl l) = inl (let b = extend_length S Z x in omega arith)
  near_still k (inr D) = near_before D

  over_before : {Γ : List (Local Term)} → LiesOver Z Y Γ → LiesOver S X Γ
  over_before (thinner E R flags n left o g) = thinner E R flags n left (over_before o) g
  over_before (whole {k = k} {d = d} D q) = go (slice_get S k) refl (near_before D)
    where
      go : (o : Option (Decl Term)) → slice_get S k ≡ o → IsNear S X k → LiesOver S X d.ctx
      go None r n = m.new k d (past_the_end S k r) q
      go (Some c) r (inl l) = absurd (let b = slice_get_within S k c r in omega arith)
      go (Some c) r (inr E) =
          let y = x k c r in
          let same : y.0 ≡ d = same_Some y.0 d (sym y.1 ∙ q) in
          transport (λ Γ. LiesOver S X Γ) (sym y.2.ctx ∙ ap (λ (b : Decl Term). b.ctx) same) (whole E r)

  pub moved_over : (R : Plain) → Extend Z R → Moved Z Y R → Moved S X R
  moved_over R y l = record { changed = changed; spoken = spoken; new = new }
    where
      changed : (k : ℕ) → (slice_get R k ≡ slice_get S k) ⊎ IsNear S X k
      changed k = elim (l.changed k) [ inl q ↦ elim (m.changed k) [ inl r ↦ inl (q ∙ r) | inr n ↦ inr n ] | inr n ↦ inr (near_still k n) ]

      spoken : (k : ℕ) (e : Decl Term) → slice_get R k ≡ Some e → (slice_get S k ≡ Some e) ⊎ ((j : ℕ) → occurs_in j (parts (plain e)) ≡ true → IsNear S X j)
      spoken k e q = elim (l.spoken k e q) [ inl r ↦ m.spoken k e r | inr g ↦ inr (λ j w. near_still j (g j w)) ]

      new : (k : ℕ) (e : Decl Term) → length S ≤ k → slice_get R k ≡ Some e → LiesOver S X e.ctx
      new k e b q = go (slice_get Z k) refl
        where
          go : (o : Option (Decl Term)) → slice_get Z k ≡ o → LiesOver S X e.ctx
          go None r = over_before (l.new k e (past_the_end Z k r) q)
          go (Some c) r =
              let d = y k c r in
              let same : d.0 ≡ e = same_Some d.0 e (sym d.1 ∙ q) in
              transport (λ Γ. LiesOver S X Γ) (sym d.2.ctx ∙ ap (λ (b : Decl Term). b.ctx) same) (m.new k c b r)

pub moved_more : (S Z R : Plain) (X : Terms) → Extend S Z → Extend Z R → Moved S X Z → Moved Z X R → Moved S X R
moved_more S Z R X x y m l = moved_over S Z X x m X (λ k w. inr (direct w)) R y l

-- ---- assigning

module _ (Z : Plain) (X : Terms) (m : ℕ) (d : Decl Term) (v : Term) (e : slice_get Z m ≡ Some d) (open_yet : d.value ≡ None) (D : Depends (rules_metas Z) X m) (f : (k : ℕ) → occurs k v ≡ true → Depends (rules_metas Z) X k) where
  of_valued : (j : ℕ) → occurs_in j (parts (plain (with_value v d))) ≡ true → IsNear Z X j
  of_valued j w = elim (or_split (occurs_in j (rules_ctx d.ctx ▹ d.ty)) (occurs j v) w) [
    | inl a ↦ inr (through (plain d) D (declares Z m d e) (transport (λ o. occurs_in j (and_value (rules_ctx d.ctx ▹ d.ty) (option_map (λ (t : Term). t) o)) ≡ true) (sym open_yet) a))
    | inr a ↦ inr (f j a)
  ]

  pub moved_assigned : Moved Z X (assigned m v Z)
  moved_assigned = record { changed = λ k. changed k (nat_eq k m) refl; spoken = λ k c q. spoken k c (nat_eq k m) refl q; new = λ k c l q. new k c (nat_eq k m) refl l q }
    where
      changed : (k : ℕ) (b : Bool) → nat_eq k m ≡ b → (slice_get (assigned m v Z) k ≡ slice_get Z k) ⊎ IsNear Z X k
      changed k true b = inr (transport (IsNear Z X) (sym (eqb-true k m b)) (inr D))
      changed k false b = inl (assigned_other m v Z k (eqb-false k m b))

      spoken : (k : ℕ) (c : Decl Term) (b : Bool) → nat_eq k m ≡ b → slice_get (assigned m v Z) k ≡ Some c → (slice_get Z k ≡ Some c) ⊎ ((j : ℕ) → occurs_in j (parts (plain c)) ≡ true → IsNear Z X j)
      spoken k c true b q =
          let here = assigned_here m v Z d e in
          let there = transport (λ i. slice_get (assigned m v Z) i ≡ Some c) (eqb-true k m b) q in
          let same : with_value v d ≡ c = same_Some (with_value v d) c (sym here ∙ there) in
          inr (λ j w. of_valued j (transport (λ (y : Decl Term). occurs_in j (parts (plain y)) ≡ true) (sym same) w))
      spoken k c false b q = inl (sym (assigned_other m v Z k (eqb-false k m b)) ∙ q)

      new : (k : ℕ) (c : Decl Term) (b : Bool) → nat_eq k m ≡ b → length Z ≤ k → slice_get (assigned m v Z) k ≡ Some c → LiesOver Z X c.ctx
      new k c true b l q = absurd (let w = slice_get_within Z m d e in let r = eqb-true k m b in omega arith)
      new k c false b l q = absurd (let w = slice_get_within Z k c (sym (assigned_other m v Z k (eqb-false k m b)) ∙ q) in omega arith)

-- ---- pruning

module _ (Δ : Env) (S : Plain) (X : Terms) (p : ℕ) (d : Decl Term) (flags ks : List Bool) (Γ : List (Local Term)) (n left : ℕ) (e : slice_get S p ≡ Some d) (D : Depends (rules_metas S) X p) (g : kept_context Δ S flags d.ctx [] [] n ≡ Gave Γ left) where
  abbrev T : Term
  T = rename (thin ks) d.ty

  in_front : (j : ℕ) (o : Option Term) → occurs_in j (rules_ctx d.ctx ▹ d.ty) ≡ true → occurs_in j (and_value (rules_ctx d.ctx ▹ d.ty) o) ≡ true
  in_front j None w = w
  in_front j (Some v) w = or_left (occurs_in j (rules_ctx d.ctx ▹ d.ty)) _ w

  of_early : (j : ℕ) → occurs_in j (rules_ctx d.ctx ▹ d.ty) ≡ true → Depends (rules_metas S) X j
  of_early j w = through (plain d) D (declares S p d e) (in_front j (option_map (λ (t : Term). t) d.value) w)

  of_new : (j : ℕ) → occurs_in j (parts (plain (unassigned Γ T))) ≡ true → IsNear S X j
  of_new j w = elim (or_split (occurs_in j (rules_ctx Γ)) (occurs j T) w) [
    | inl a ↦ inr (kept_speaks Δ S (Depends (rules_metas S) X) flags d.ctx [] [] n left Γ (λ j b. of_early j (or_left (occurs_in j (rules_ctx d.ctx)) _ b)) (λ j b. absurd cc) g j a)
    | inr a ↦ inr (of_early j (or_right (occurs_in j (rules_ctx d.ctx)) (occurs j d.ty) (occurs_renamed j d.ty (thin ks) a)))
  ]

  moved_declared : Moved S X (declared Γ T S)
  moved_declared = record {
    changed = λ k. elim (declared_either S Γ T k) [ inl q ↦ inl q | inr l ↦ inr (inl l) ];
    spoken = λ k c q. elim (declared_past S Γ T k c q) [
      | inl r ↦ inl r
      | inr r ↦ inr (λ j w. of_new j (transport (λ (y : Decl Term). occurs_in j (parts (plain y)) ≡ true) r.1 w))
    ];
    new = λ k c l q. elim (declared_past S Γ T k c q) [
      | inl r ↦ absurd (let w = slice_get_within S k c r in omega arith)
      | inr r ↦ transport (λ (y : Decl Term). LiesOver S X y.ctx) (sym r.1) (thinner Δ S flags n left (whole D e) g)
    ];
  }

  pub moved_pruned : (Z : Plain) → Extend S (declared Γ T S) → Extend (declared Γ T S) Z → Moved (declared Γ T S) (X ▹ Meta (length S) (kept_variables ks 0)) Z → Moved S X Z
  moved_pruned Z x y l = moved_over S (declared Γ T S) X x moved_declared (X ▹ Meta (length S) (kept_variables ks 0)) near Z y l
    where
      near : (k : ℕ) → occurs_in k (X ▹ Meta (length S) (kept_variables ks 0)) ≡ true → IsNear S X k
      near k w = elim (or_split (occurs_in k X) _ w) [
        | inl a ↦ inr (direct a)
        | inr a ↦ elim (or_split (nat_eq (length S) k) _ a) [ inl b ↦ inl (let q = eqb-true (length S) k b in omega arith) | inr b ↦ absurd (variables_speak ks 0 k b) ]
      ]
