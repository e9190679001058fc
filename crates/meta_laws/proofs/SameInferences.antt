-- Inference looks up the constants of its term and context alone.
use Rattle.std.proofs.Common.{◌≡◌, ℕ, zero, suc, Option, Some, None, option_map, refl, subst as transport, nat_eq}
use Rattle.std.proofs.lemmas.Option.{same_Some}
use Rattle.ld_trees.specs.Term.{◌▹◌, Head, Term, none, same, star, Srt, Pi, square, Terms, count, Square, Var, App, Lam, Con}
use Rattle.ld_trees.specs.Substitution.{weaken, subst_all}
use Rattle.ld_rules.specs.Environment.{Env, Ctx, type_at, Item, item_of}
use Rattle.ld_rules.specs.ScopedItems.{EachHead, EachHeadOfAll}
use Rattle.kernel_check.specs.Inference.{star_or, sort_in, fit, Infers, sort_of, checked_product, product_form, lam_type, infer_all, infer, infer_item, infer_case, or_not_type, infer_deep, infer_sort}
use Rattle.ld_confluence.specs.Agreement.{AgreeOn, EachHeadOfItem}
use Rattle.ld_confluence.proofs.Heads.{each_rename, each_arguments}
use Rattle.meta_laws.proofs.SameRuns.{Same, Any, same_pure, same_bind, same_choose, same_or_refuse, same_refuse, same_spend}
use Rattle.meta_laws.proofs.SameConversions.{same_whnf, same_conv}

module _ (P : Head → Type 0) (E F : Env) (ag : AgreeOn P E F) where
  each_entry : (Γ : Ctx) (i : ℕ) (T : Term) → EachHeadOfAll P Γ → type_at Γ i ≡ Some T → EachHead P T
  each_entry none i T f e = absurd cc
  each_entry (Γ ▹ A) zero T f e = transport (EachHead P) (same_Some (weaken A) T e) (each_rename P A suc f.1)
  each_entry (Γ ▹ A) (suc i) T f e = go (type_at Γ i) (λ U. each_entry Γ i U f.0) e
    where
      go : (o : Option Term) → ((U : Term) → o ≡ Some U → EachHead P U) → option_map weaken o ≡ Some T → EachHead P T
      go None h e = absurd cc
      go (Some U) h e = transport (EachHead P) (same_Some (weaken U) T e) (each_rename P U suc (h U refl))

  same_star : (Γ : Ctx) (t T : Term) → Same Any (star_or Γ t T) (star_or Γ t T)
  same_star Γ t T = record { equal = λ n. refl; ensures = λ n k x p. tt }

  same_sort_in : (Γ : Ctx) (t T : Term) → EachHead P T → Same Any (sort_in E Γ t T) (sort_in F Γ t T)
  same_sort_in Γ t (Srt s) i = same_pure Any s tt
  same_sort_in Γ t T i = same_bind (EachHead P) Any _ _ _ _ (same_whnf P E F ag T i) (λ T' j. same_star Γ t T')

  same_fit : (Γ : Ctx) (a b : Term) → EachHead P a → EachHead P b → Same Any (fit E Γ a b) (fit F Γ a b)
  same_fit Γ a b i j = same_bind Any Any _ _ _ _ (same_conv P E F ag a b i j) (λ x _. record { equal = λ n. refl; ensures = λ n k y p. tt })

  module _ (f g : Infers) (hf : (Γ : Ctx) (t : Term) → EachHeadOfAll P Γ → EachHead P t → Same (EachHead P) (f Γ t) (g Γ t)) where
    same_sort_of : (Γ : Ctx) (t : Term) → EachHeadOfAll P Γ → EachHead P t → Same Any (sort_of E f Γ t) (sort_of F g Γ t)
    same_sort_of Γ t i j = same_bind (EachHead P) Any _ _ _ _ (hf Γ t i j) (λ T h. same_sort_in Γ t T h)

    EachOfBoth : Term × Term → Type 0
    EachOfBoth p = EachHead P p.0 × EachHead P p.1

    same_checked : (Γ : Ctx) (t F' T : Term) → EachHeadOfAll P Γ → EachHead P T → Same EachOfBoth (checked_product E f Γ t F' T) (checked_product F g Γ t F' T)
    unfolding EachOfBoth
    same_checked Γ t F' (Pi A B) i h =
        let ab : EachOfBoth (A, B) = h in
        same_choose EachOfBoth (same F' (Pi A B)) _ _ _ _ (λ e. same_pure EachOfBoth (A, B) ab) (λ e. same_bind Any EachOfBoth _ _ _ _ (same_or_refuse Any _ _ _ (same_sort_of Γ (Pi A B) i h)) (λ s _. same_pure EachOfBoth (A, B) ab))
    same_checked Γ t F' T i h = same_refuse EachOfBoth _

    same_product : (Γ : Ctx) (t T : Term) → EachHeadOfAll P Γ → EachHead P T → Same EachOfBoth (product_form E f Γ t T) (product_form F g Γ t T)
    same_product Γ t T i j = same_bind (EachHead P) EachOfBoth _ _ _ _ (same_whnf P E F ag T j) (λ T' h. same_checked Γ t T T' i h)

    same_lam : (Γ : Ctx) (A B : Term) → EachHead P A → EachHead P B → Same (EachHead P) (lam_type Γ A B) (lam_type Γ A B)
    same_lam Γ A (Srt square) i j = same_refuse (EachHead P) _
    same_lam Γ A B i j = same_pure (EachHead P) (Pi A B) (i, j)

    same_all : (Γ : Ctx) (us ps : Terms) → EachHeadOfAll P Γ → EachHeadOfAll P us → EachHeadOfAll P ps → Same Any (infer_all E f Γ us ps) (infer_all F g Γ us ps)
    same_all Γ (us ▹ u) (ps ▹ Q) i j h =
        same_bind Any Any _ _ _ _ (same_all Γ us ps i j.0 h.0) (λ _ _. same_bind (EachHead P) Any _ _ _ _ (hf Γ u i j.1) (λ U q. same_fit Γ U (subst_all us Q) q (each_arguments P us Q j.0 h.1)))
    same_all Γ none none i j h = same_pure Any tt tt
    same_all Γ none (ps ▹ Q) i j h = same_pure Any tt tt
    same_all Γ (us ▹ u) none i j h = same_pure Any tt tt

    same_item : (Γ : Ctx) (h : Head) (us : Terms) (o : Option Item) → EachHeadOfAll P Γ → EachHeadOfAll P us → ((d : Item) → o ≡ Some d → EachHeadOfItem P d) → Same (EachHead P) (infer_item E f Γ h us o) (infer_item F g Γ h us o)
    same_item Γ h us None i j q = same_refuse (EachHead P) _
    same_item Γ h us (Some d) i j q =
        let d' = q d refl in
        same_choose (EachHead P) (nat_eq (count us) (count d.params)) _ _ _ _ (λ e. same_bind Any (EachHead P) _ _ _ _ (same_all Γ us d.params i j d'.params) (λ _ _. same_pure (EachHead P) (subst_all us d.ty) (each_arguments P us d.ty j d'.ty))) (λ e. same_refuse (EachHead P) _)

    same_case : (Γ : Ctx) (t : Term) → EachHeadOfAll P Γ → EachHead P t → Same (EachHead P) (infer_case E f Γ t) (infer_case F g Γ t)
    unfolding EachOfBoth
    same_case Γ (Srt star) i j = same_pure (EachHead P) Square tt
    same_case Γ (Srt square) i j = same_refuse (EachHead P) _
    same_case Γ (Var n) i j = go (type_at Γ n) refl
      where
        go : (o : Option Term) → type_at Γ n ≡ o → Same (EachHead P) (or_not_type Γ (Var n) o) (or_not_type Γ (Var n) o)
        go None e = same_refuse (EachHead P) _
        go (Some T) e = same_pure (EachHead P) T (each_entry Γ n T i e)
    same_case Γ (App h a) i j =
        same_bind (EachHead P) (EachHead P) _ _ _ _ (hf Γ h i j.0) (λ T q. same_bind EachOfBoth (EachHead P) _ _ _ _ (same_product Γ h T i q) (λ p pq. same_bind (EachHead P) (EachHead P) _ _ _ _ (hf Γ a i j.1) (λ U r. same_bind Any (EachHead P) _ _ _ _ (same_fit Γ U p.0 r pq.0) (λ _ _. same_pure (EachHead P) (subst_all (none ▹ a) p.1) (each_arguments P (none ▹ a) p.1 (tt, j.1) pq.1)))))
    same_case Γ (Lam A M) i j =
        same_bind Any (EachHead P) _ _ _ _ (same_sort_of Γ A i j.0) (λ s _. same_bind (EachHead P) (EachHead P) _ _ _ _ (hf (Γ ▹ A) M (i, j.0) j.1) (λ B q. same_lam Γ A B j.0 q))
    same_case Γ (Pi A B) i j =
        same_bind Any (EachHead P) _ _ _ _ (same_sort_of Γ A i j.0) (λ s _. same_bind Any (EachHead P) _ _ _ _ (same_sort_of (Γ ▹ A) B (i, j.0) j.1) (λ z _. same_pure (EachHead P) (Srt z) tt))
    same_case Γ (Con h us) i j =
        transport (λ o. Same (EachHead P) (infer_item E f Γ h us (item_of h E)) (infer_item F g Γ h us o)) (ag.same h j.0) (same_item Γ h us (item_of h E) i j.1 (λ d e. ag.closed h d j.0 e))

  same_infer_deep : (g : ℕ) (Γ : Ctx) (t : Term) → EachHeadOfAll P Γ → EachHead P t → Same (EachHead P) (infer_deep E g Γ t) (infer_deep F g Γ t)
  same_infer_deep zero Γ t i j = record { equal = λ n. refl; ensures = λ n k x e. absurd cc }
  same_infer_deep (suc g) Γ t i j = same_spend (EachHead P) _ _ (same_case (λ G u. infer_deep E g G u) (λ G u. infer_deep F g G u) (λ G u i j. same_infer_deep g G u i j) Γ t i j)

  pub same_infer : (Γ : Ctx) (t : Term) → EachHeadOfAll P Γ → EachHead P t → Same (EachHead P) (infer E Γ t) (infer F Γ t)
  same_infer Γ t i j = record { equal = λ n. (same_infer_deep n Γ t i j).equal n; ensures = λ n k x e. (same_infer_deep n Γ t i j).ensures n k x e }

  pub same_infer_sort : (Γ : Ctx) (t : Term) → EachHeadOfAll P Γ → EachHead P t → Same Any (infer_sort E Γ t) (infer_sort F Γ t)
  same_infer_sort Γ t i j = same_sort_of (infer E) (infer F) same_infer Γ t i j
