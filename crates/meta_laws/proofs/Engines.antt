-- What the engines find with every metavariable in reach holds in the environment cut to dependencies.
use Rattle.std.proofs.Common.{◌≡◌, ℕ, zero, suc, ◌+◌, ◌<◌, List, [], ◌∷◌, inl, inr, true, false, Some, None, option_map, refl, sym, ap, ◌∙◌, subst as transport, nat_eq, arith}
use Rattle.std.proofs.lemmas.Bool.{eqb-true, eq-eqb}
use Rattle.ld_trees.specs.Term.{◌▹◌, Named, Numbered, Terms, Term, Head, none, Srt, Var, App, Lam, Pi, Con}
use Rattle.ld_rules.specs.Environment.{Env, item_of, found_at}
use Rattle.ld_rules.specs.ScopedItems.{EachHead, EachHeadOfAll}
use Rattle.conversion.proofs.Soundness.{yes_means_equal, whnf_is_equal}
use Rattle.kernel_check.proofs.Soundness.{inference_is_sound, sort_is_sound}
use Rattle.ld_confluence.specs.Agreement.{AgreeOn}
use Rattle.meta_trees.specs.MetaContext.{Metas, item, decl}
use Rattle.meta_trees.specs.Dependencies.{direct, is_meta, Depends, occurs, occurs_in}
use Rattle.meta_laws.specs.Cut.{cut}
use Rattle.meta_trees.specs.Whole.{with_all, whole}
use Rattle.meta_laws.specs.Legality.{IsLegalMetas}
use Rattle.meta_laws.specs.Laws.{InferenceIsDerived, SortIsDerived, YesIsEqualInTheCut, WeakHeadFormIsEqualInTheCut, InferredTypesDependOnNoMore}
use Rattle.meta_trees.proofs.Dependencies.{or_split, depends_wider}
use Rattle.meta_laws.proofs.Lists.{is_false}
use Rattle.meta_laws.proofs.Strengthening.{Has, IsOf, agree, cut_has, all_of}
use Rattle.meta_laws.proofs.SameConversions.{same_conv, same_whnf}
use Rattle.meta_laws.proofs.SameInferences.{same_infer, same_infer_sort}

-- looking up in an environment followed by every metavariable
constant_of : (m : ℕ) (Σ : Metas) (Δ : Env) (a : List ℕ) → item_of (Named a) (with_all m Σ Δ) ≡ item_of (Named a) Δ
constant_of m [] Δ a = refl
constant_of m (d ∷ Σ) Δ a = constant_of (suc m) Σ (item m d ∷ Δ) a

below_first : (m j : ℕ) (Σ : Metas) (Δ : Env) → j < m → item_of (Numbered j) (with_all m Σ Δ) ≡ item_of (Numbered j) Δ
below_first m j [] Δ l = refl
below_first m j (d ∷ Σ) Δ l =
    let other : nat_eq j m ≡ false = is_false (nat_eq j m) (λ e. let q = eqb-true j m e in absurd (omega arith)) in
    below_first (suc m) j Σ (item m d ∷ Δ) (omega arith) ∙ ap (λ b. found_at b (item m d) (item_of (Numbered j) Δ)) other

meta_of : (m j k : ℕ) (Σ : Metas) (Δ : Env) → k ≡ m + j → item_of (Numbered k) Δ ≡ None → item_of (Numbered k) (with_all m Σ Δ) ≡ option_map (item k) (decl j Σ)
meta_of m j k [] Δ e new = new
meta_of m zero k (d ∷ Σ) Δ e new =
    let q : k ≡ m = omega arith in
    below_first (suc m) k Σ (item m d ∷ Δ) (omega arith) ∙ ap (λ b. found_at b (item m d) (item_of (Numbered k) Δ)) (eq-eqb k m q) ∙ ap (λ i. Some (item i d)) (sym q)
meta_of m (suc j) k (d ∷ Σ) Δ e new =
    let other : nat_eq k m ≡ false = is_false (nat_eq k m) (λ q. let r = eqb-true k m q in absurd (omega arith)) in
    meta_of (suc m) j k Σ (item m d ∷ Δ) (omega arith) (ap (λ b. found_at b (item m d) (item_of (Numbered k) Δ)) other ∙ new)

whole_has : (Δ : Env) (Σ : Metas) (X : Terms) → IsLegalMetas Δ Σ → Has Δ Σ X (whole Σ Δ)
whole_has Δ Σ X ok = record { constants = constant_of 0 Σ Δ; metas = λ k D. meta_of 0 k k Σ Δ (omega arith) (ok.constants k) }

module _ (Δ : Env) (Σ : Metas) (X : Terms) (ok : IsLegalMetas Δ Σ) where
  reach : AgreeOn (IsOf Σ X) (cut Σ Δ X) (whole Σ Δ)
  reach = agree Δ Σ ok X (cut Σ Δ X) (whole Σ Δ) (cut_has Δ Σ ok X X (λ k D. D)) (whole_has Δ Σ X ok)

  own : EachHeadOfAll (IsOf Σ X) X
  own = all_of Σ X X (λ k w. direct w)

pub inference_is_derived : InferenceIsDerived
inference_is_derived Δ Σ Γ t T n left ok l e =
    let X = Γ ▹ t in
    let i = own Δ Σ X ok in
    let s = same_infer (IsOf Σ X) (cut Σ Δ X) (whole Σ Δ) (reach Δ Σ X ok) Γ t i.0 i.1 in
    inference_is_sound (cut Σ Δ X) Γ t T n left l (s.equal n ∙ e)

pub sort_is_derived : SortIsDerived
sort_is_derived Δ Σ Γ t z n left ok l e =
    let X = Γ ▹ t in
    let i = own Δ Σ X ok in
    let s = same_infer_sort (IsOf Σ X) (cut Σ Δ X) (whole Σ Δ) (reach Δ Σ X ok) Γ t i.0 i.1 in
    sort_is_sound (cut Σ Δ X) Γ t z n left l (s.equal n ∙ e)

pub yes_is_equal_in_the_cut : YesIsEqualInTheCut
yes_is_equal_in_the_cut Δ Σ a b n left ok e =
    let X = none ▹ a ▹ b in
    let i = own Δ Σ X ok in
    let s = same_conv (IsOf Σ X) (cut Σ Δ X) (whole Σ Δ) (reach Δ Σ X ok) a b i.0.1 i.1 in
    yes_means_equal (cut Σ Δ X) a b n left (s.equal n ∙ e)

-- the metavariables of a term of which each constant is one of X
of_each : (Σ : Metas) (X : Terms) (h : Head) (k : ℕ) → IsOf Σ X h → is_meta k h ≡ true → Depends Σ X k
of_each Σ X (Named a) k i w = absurd cc
of_each Σ X (Numbered m) k i w = transport (Depends Σ X) (eqb-true m k w) i

module _ (Σ : Metas) (X : Terms) (k : ℕ) where
  mutual
    each_depends : (t : Term) → EachHead (IsOf Σ X) t → occurs k t ≡ true → Depends Σ X k
    each_depends (Srt s) i w = absurd cc
    each_depends (Var n) i w = absurd cc
    each_depends (App f a) i w = elim (or_split (occurs k f) _ w) [ inl e ↦ each_depends f i.0 e | inr e ↦ each_depends a i.1 e ]
    each_depends (Lam A M) i w = elim (or_split (occurs k A) _ w) [ inl e ↦ each_depends A i.0 e | inr e ↦ each_depends M i.1 e ]
    each_depends (Pi A B) i w = elim (or_split (occurs k A) _ w) [ inl e ↦ each_depends A i.0 e | inr e ↦ each_depends B i.1 e ]
    each_depends (Con h us) i w = elim (or_split (is_meta k h) _ w) [ inl e ↦ of_each Σ X h k i.0 e | inr e ↦ all_depend us i.1 e ]

    all_depend : (us : Terms) → EachHeadOfAll (IsOf Σ X) us → occurs_in k us ≡ true → Depends Σ X k
    all_depend none i w = absurd cc
    all_depend (us ▹ u) i w = elim (or_split (occurs_in k us) _ w) [ inl e ↦ all_depend us i.0 e | inr e ↦ each_depends u i.1 e ]

pub weak_head_form_is_equal_in_the_cut : WeakHeadFormIsEqualInTheCut
weak_head_form_is_equal_in_the_cut Δ Σ t t' n left ok e =
    let X = none ▹ t in
    let i = own Δ Σ X ok in
    let s = same_whnf (IsOf Σ X) (cut Σ Δ X) (whole Σ Δ) (reach Δ Σ X ok) t i.1 in
    let here = s.equal n ∙ e in
    (whnf_is_equal (cut Σ Δ X) t t' n left here, λ k D. depends_wider (λ j w. each_depends Σ X j t' (s.ensures n left t' here) w) D)

pub inferred_types_depend_on_no_more : InferredTypesDependOnNoMore
inferred_types_depend_on_no_more Δ Σ Γ t T n left k ok e D =
    let X = Γ ▹ t in
    let i = own Δ Σ X ok in
    let s = same_infer (IsOf Σ X) (cut Σ Δ X) (whole Σ Δ) (reach Δ Σ X ok) Γ t i.0 i.1 in
    depends_wider (λ j w. each_depends Σ X j T (s.ensures n left T (s.equal n ∙ e)) w) D
