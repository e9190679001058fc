-- What the engines find with every metavariable in reach: it agrees with each cut on the dependencies of the cut.
use Rattle.std.proofs.Common.{◌≡◌, ℕ, zero, suc, ◌+◌, ◌<◌, ◌≤◌, List, [], ◌∷◌, true, false, Some, None, option_map, refl, sym, ap, ◌∙◌, nat_eq, arith}
use Rattle.std.proofs.lemmas.Bool.{eqb-true, eq-eqb}
use Rattle.ld_trees.specs.Term.{◌▹◌, Named, Numbered, Terms, Term, none, Srt, Var, App, Lam, Pi, Con, Star, Square, count}
use Rattle.ld_trees.specs.Scoping.{Scoped, AllScoped}
use Rattle.ld_rules.specs.Environment.{Env, Ctx, item_of, found_at}
use Rattle.ld_rules.specs.Reduction.{Equal}
use Rattle.ld_rules.specs.Legality.{IsLegal}
use Rattle.ld_rules.specs.Scoping.{Known, AllKnown}
use Rattle.ld_rules.specs.ScopedItems.{EachHead, EachHeadOfAll, HasScopedItems}
use Rattle.ld_rules.specs.Extension.{Extends}
use Rattle.ld_rules.proofs.ScopedItems.{items_scoped}
use Rattle.ld_rules.proofs.KnownConstants.{known, known_valid}
use Rattle.ld_rules.proofs.Validity.{valid}
use Rattle.ld_confluence.specs.Agreement.{AgreeOn}
use Rattle.conversion.specs.Globals.{with_metas, decl_tree}
use Rattle.conversion.specs.Runs.{Gave}
use Rattle.conversion.specs.WeakHead.{whnf}
use Rattle.conversion.proofs.ScopedForms.{whnf_is_scoped}
use Rattle.conversion.proofs.Soundness.{whnf_is_equal}
use Rattle.kernel_check.specs.Inference.{infer}
use Rattle.meta_trees.specs.MetaContext.{Metas, item, decl}
use Rattle.meta_trees.specs.Dependencies.{Depends, direct, occurs, occurs_in}
use Rattle.meta_trees.specs.Whole.{with_all, whole}
use Rattle.meta_trees.proofs.Dependencies.{or_left, depends_wider}
use Rattle.meta_laws.specs.Cut.{cut}
use Rattle.meta_laws.specs.Legality.{IsLegalMetas}
use Rattle.meta_laws.proofs.Lists.{is_false}
use Rattle.meta_laws.proofs.Order.{acyclic}
use Rattle.meta_laws.proofs.Items.{found_from, cut_from, known_found, all_known_found}
use Rattle.meta_laws.proofs.Legal.{cuts_are_legal}
use Rattle.meta_laws.proofs.Growing.{cuts_grow, keeps_itself, cut_extends}
use Rattle.meta_laws.proofs.Strengthening.{Has, IsOf, agree, cut_has, each_of}
use Rattle.meta_laws.proofs.SameConversions.{same_whnf}
use Rattle.meta_laws.proofs.Engines.{inference_is_derived}
use Rattle.goal_state.specs.State.{rules_metas}
use Rattle.unification.specs.Refusals.{Plain}
use Rattle.unification.specs.Metavariables.{reach}

-- ---- looking up with every metavariable in reach

followed_by_all : (m : ℕ) (ds : Plain) (Δ : Env) → with_metas (λ t. t) m ds Δ ≡ with_all m (rules_metas ds) Δ
followed_by_all m [] Δ = refl
followed_by_all m (d ∷ ds) Δ = followed_by_all (suc m) ds (decl_tree (λ t. t) m d ∷ Δ)

pub reach_is : (Δ : Env) (ds : Plain) → reach Δ ds ≡ whole (rules_metas ds) Δ
reach_is Δ ds = followed_by_all 0 ds Δ

constant_of : (m : ℕ) (Σ : Metas) (Δ : Env) (a : List ℕ) → item_of (Named a) (with_all m Σ Δ) ≡ item_of (Named a) Δ
constant_of m [] Δ a = refl
constant_of m (d ∷ Σ) Δ a = constant_of (suc m) Σ (item m d ∷ Δ) a

below_first : (m j : ℕ) (Σ : Metas) (Δ : Env) → j < m → item_of (Numbered j) (with_all m Σ Δ) ≡ item_of (Numbered j) Δ
below_first m j [] Δ l = refl
below_first m j (d ∷ Σ) Δ l =
    let other : nat_eq j m ≡ false = is_false (nat_eq j m) (λ e. let q = eqb-true j m e in absurd (omega arith)) in
    below_first (suc m) j Σ (item m d ∷ Δ) (omega arith) ∙ ap (λ b. found_at b (item m d) (item_of (Numbered j) Δ)) other

meta_of : (m j k : ℕ) (Σ : Metas) (Δ : Env) → k ≡ m + j → item_of (Numbered k) Δ ≡ None → item_of (Numbered k) (with_all m Σ Δ) ≡ option_map (item k) (decl j Σ)
meta_of m j k [] Δ e new = new
meta_of m zero k (d ∷ Σ) Δ e new =
    let q : k ≡ m = omega arith in
    below_first (suc m) k Σ (item m d ∷ Δ) (omega arith) ∙ ap (λ b. found_at b (item m d) (item_of (Numbered k) Δ)) (eq-eqb k m q) ∙ ap (λ i. Some (item i d)) (sym q)
meta_of m (suc j) k (d ∷ Σ) Δ e new =
    let other : nat_eq k m ≡ false = is_false (nat_eq k m) (λ q. let r = eqb-true k m q in absurd (omega arith)) in
    meta_of (suc m) j k Σ (item m d ∷ Δ) (omega arith) (ap (λ b. found_at b (item m d) (item_of (Numbered k) Δ)) other ∙ new)

-- ---- known terms

-- a term has no more than so many variables
mutual
  scoped_wider : (t : Term) (n m : ℕ) → n ≤ m → Scoped n t → Scoped m t
  scoped_wider (Srt s) n m l h = tt
  scoped_wider (Var i) n m l h = omega arith
  scoped_wider (App f a) n m l h = (scoped_wider f n m l h.0, scoped_wider a n m l h.1)
  scoped_wider (Lam A M) n m l h = (scoped_wider A n m l h.0, scoped_wider M (suc n) (suc m) (omega arith) h.1)
  scoped_wider (Pi A M) n m l h = (scoped_wider A n m l h.0, scoped_wider M (suc n) (suc m) (omega arith) h.1)
  scoped_wider (Con h us) n m l k = all_scoped_wider us n m l k

  all_scoped_wider : (us : Terms) (n m : ℕ) → n ≤ m → AllScoped n us → AllScoped m us
  all_scoped_wider none n m l h = tt
  all_scoped_wider (us ▹ u) n m l h = (all_scoped_wider us n m l h.0, scoped_wider u n m l h.1)

mutual
  bound : (t : Term) → (n : ℕ) × Scoped n t
  bound (Srt s) = (0, tt)
  bound (Var i) = (suc i, omega arith)
  bound (App f a) = let x = bound f in let y = bound a in (x.0 + y.0, (scoped_wider f x.0 (x.0 + y.0) (omega arith) x.1, scoped_wider a y.0 (x.0 + y.0) (omega arith) y.1))
  bound (Lam A M) = let x = bound A in let y = bound M in (x.0 + y.0, (scoped_wider A x.0 (x.0 + y.0) (omega arith) x.1, scoped_wider M y.0 (suc (x.0 + y.0)) (omega arith) y.1))
  bound (Pi A M) = let x = bound A in let y = bound M in (x.0 + y.0, (scoped_wider A x.0 (x.0 + y.0) (omega arith) x.1, scoped_wider M y.0 (suc (x.0 + y.0)) (omega arith) y.1))
  bound (Con h us) = bounds us

  bounds : (us : Terms) → (n : ℕ) × AllScoped n us
  bounds none = (0, tt)
  bounds (us ▹ u) = let x = bounds us in let y = bound u in (x.0 + y.0, (all_scoped_wider us x.0 (x.0 + y.0) (omega arith) x.1, scoped_wider u y.0 (x.0 + y.0) (omega arith) y.1))

-- what is known stays so where items are added or primitives become definitions
module _ (E F : Env) (ext : Extends E F) where
  mutual
    pub known_extends : (t : Term) → Known E t → Known F t
    known_extends (Srt s) k = tt
    known_extends (Var i) k = tt
    known_extends (App f a) k = (known_extends f k.0, known_extends a k.1)
    known_extends (Lam A M) k = (known_extends A k.0, known_extends M k.1)
    known_extends (Pi A M) k = (known_extends A k.0, known_extends M k.1)
    known_extends (Con h us) k = let c = ext h k.0.0 k.0.1 in ((c.0, c.1, k.0.2 ∙ ap count c.2.params), all_known_extends us k.1)

    pub all_known_extends : (us : Terms) → AllKnown E us → AllKnown F us
    all_known_extends none k = tt
    all_known_extends (us ▹ u) k = (all_known_extends us k.0, known_extends u k.1)

module _ (Δ : Env) (Σ : Metas) (X : Terms) (ok : IsLegalMetas Δ Σ) where
  whole_has : Has Δ Σ X (whole Σ Δ)
  whole_has = record { constants = constant_of 0 Σ Δ; metas = λ k D. meta_of 0 k k Σ Δ (omega arith) (ok.constants k) }

  agreed : AgreeOn (IsOf Σ X) (cut Σ Δ X) (whole Σ Δ)
  agreed = agree Δ Σ ok X (cut Σ Δ X) (whole Σ Δ) (cut_has Δ Σ ok X X (λ k D. D)) whole_has

  pub cut_items : HasScopedItems (cut Σ Δ X)
  cut_items = items_scoped (cut Σ Δ X) (cuts_are_legal Δ Σ X ok)

  -- a known term of dependencies is known in the cut
  mutual
    in_cut : (t : Term) → Known (whole Σ Δ) t → EachHead (IsOf Σ X) t → Known (cut Σ Δ X) t
    in_cut (Srt s) k i = tt
    in_cut (Var n) k i = tt
    in_cut (App f a) k i = (in_cut f k.0 i.0, in_cut a k.1 i.1)
    in_cut (Lam A M) k i = (in_cut A k.0 i.0, in_cut M k.1 i.1)
    in_cut (Pi A M) k i = (in_cut A k.0 i.0, in_cut M k.1 i.1)
    in_cut (Con h us) k i = ((k.0.0, agreed.same h i.0 ∙ k.0.1, k.0.2), all_in_cut us k.1 i.1)

    all_in_cut : (us : Terms) → AllKnown (whole Σ Δ) us → EachHeadOfAll (IsOf Σ X) us → AllKnown (cut Σ Δ X) us
    all_in_cut none k i = tt
    all_in_cut (us ▹ u) k i = (all_in_cut us k.0 i.0, in_cut u k.1 i.1)

  pub known_in_cut : (t : Term) → Known (whole Σ Δ) t → ((k : ℕ) → occurs k t ≡ true → Depends Σ X k) → Known (cut Σ Δ X) t
  known_in_cut t k f = in_cut t k (each_of Σ X t f)

  -- what is known in the cut has only dependencies
  pub known_depends : (t : Term) → Known (cut Σ Δ X) t → (k : ℕ) → occurs k t ≡ true → Depends Σ X k
  known_depends t h k w = (found_from (cut Σ Δ X) Σ Δ (Depends Σ X) ok.constants (cut_from Σ Δ X (acyclic Σ ok.acyclic)) k (known_found (cut Σ Δ X) k t h w)).1

  pub all_known_depends : (us : Terms) → AllKnown (cut Σ Δ X) us → (k : ℕ) → occurs_in k us ≡ true → Depends Σ X k
  all_known_depends us h k w = (found_from (cut Σ Δ X) Σ Δ (Depends Σ X) ok.constants (cut_from Σ Δ X (acyclic Σ ok.acyclic)) k (all_known_found (cut Σ Δ X) k us h w)).1

  -- a weak head form is known in the cut, and equal to its term there
  pub form_in_cut : (t t' : Term) (n left : ℕ) → Known (cut Σ Δ X) t → whnf (whole Σ Δ) t n ≡ Gave t' left → Known (cut Σ Δ X) t' × Equal (cut Σ Δ X) t t'
  form_in_cut t t' n left h e =
      let s = same_whnf (IsOf Σ X) (cut Σ Δ X) (whole Σ Δ) agreed t (each_of Σ X t (known_depends t h)) in
      let here = s.equal n ∙ e in
      let b = bound t in
      ((whnf_is_scoped (cut Σ Δ X) b.0 t t' n left cut_items (b.1, h) here).1, whnf_is_equal (cut Σ Δ X) t t' n left here)

  -- so is an inferred type, with its term
  pub type_in_cut : (Γ : Ctx) (v T : Term) (n left : ℕ) → IsLegal (cut Σ Δ Γ) Γ → ((k : ℕ) → occurs_in k (Γ ▹ v) ≡ true → Depends Σ X k) → infer (whole Σ Δ) Γ v n ≡ Gave T left → Known (cut Σ Δ X) v × Known (cut Σ Δ X) T
  type_in_cut Γ v T n left l f e =
      let here = cuts_grow Δ Σ Σ Γ (Γ ▹ v) Γ Star Square ok ok (keeps_itself Σ) (λ k D. depends_wider (λ j w. direct (or_left (occurs_in j Γ) (occurs j v) w)) D) l in
      let d = inference_is_derived Δ Σ Γ v T n left ok here e in
      let ext = cut_extends Δ Σ Σ (Γ ▹ v) X ok ok (keeps_itself Σ) (λ k D. depends_wider f D) in
      (known_extends (cut Σ Δ (Γ ▹ v)) (cut Σ Δ X) ext v (known d), known_extends (cut Σ Δ (Γ ▹ v)) (cut Σ Δ X) ext T (known_valid T (valid d)))
