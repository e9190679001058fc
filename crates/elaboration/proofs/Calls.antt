-- What the calls that elaboration makes give: weak head forms, unification, entries of a context and metavariables.
use Rattle.std.proofs.Common.{◌≡◌, ℕ, zero, suc, ◌+◌, ◌<◌, ◌≤◌, List, [], ◌∷◌, ◌++◌, length, All, not, Option, Some, None, option_map, refl, sym, ap, ◌∙◌, subst, arith, inl, inr}
use Rattle.std.specs.Prelude.{slice_get}
use Rattle.std.proofs.lemmas.Option.{same_Some, slice_get_within}
use Rattle.ld_trees.specs.Term.{Sort, square, Head, Named, Numbered, Term, Srt, Var, App, Lam, Pi, Con, ◌▹◌, count}
use Rattle.ld_trees.specs.Scoping.{AllScoped}
use Rattle.ld_rules.specs.Environment.{Env}
use Rattle.ld_rules.specs.Legality.{IsLegal}
use Rattle.ld_rules.specs.Scoping.{AllKnown}
use Rattle.ld_rules.specs.ScopedItems.{EachHeadOfAll}
use Rattle.ld_confluence.specs.Agreement.{AgreeOn, EachHeadOfItem}
use Rattle.ld_terms.specs.declared.globals.Local.{Local}
use Rattle.ld_terms.specs.declared.globals.Item.{Item}
use Rattle.ld_terms.specs.declared.globals.Decl.{Decl}
use Rattle.ld_terms.proofs.Arguments.{terms_of_end}
use Rattle.term_syntax.specs.declared.surface.Label.{Label}
use Rattle.conversion.specs.Globals.{decl_tree}
use Rattle.conversion.specs.Runs as kernel
use Rattle.conversion.proofs.ScopedForms.{whnf_is_scoped}
use Rattle.kernel_check.specs.Inference.{infer_sort}
use Rattle.meta_context.specs.Plain.{rules_ctx, rules_env}
use Rattle.meta_context.specs.Declaring as plain
use Rattle.meta_context.specs.Limits.{is_full, is_too_deep}
use Rattle.meta_context.proofs.Stored.{declared_means}
use Rattle.meta_laws.specs.Cut.{cut}
use Rattle.meta_laws.specs.Legality.{IsLegalMetas}
use Rattle.meta_laws.proofs.SameConversions.{same_whnf}
use Rattle.meta_laws.proofs.Settling.{declaring_is_sound, extending_is_sound}
use Rattle.goal_state.specs.State.{rules_metas}
use Rattle.goal_state.specs.Following.{Extend}
use Rattle.goal_state.proofs.Means.{count_of_context}
use Rattle.unification.specs.Refusals as unification
use Rattle.unification.specs.Refusals.{Plain}
use Rattle.unification.specs.Metavariables.{reach, sorted, declared}
use Rattle.unification.specs.Patterns.{variables_from, over_all}
use Rattle.unification.specs.Unification.{unify}
use Rattle.unification.proofs.Gives.{Gives, gives, gives_pure, gives_refuse, gives_bind, gives_then, gives_demand, gives_kernel}
use Rattle.unification.proofs.Reach.{reach_is}
use Rattle.unification.proofs.Declarations.{extend_more, extend_length, extend_declared, declared_last, declared_either, declared_past}
use Rattle.elaboration.specs.Refusals.{Refusal, from_unification}
use Rattle.elaboration.specs.Elaboration.{Work, Made, Surroundings, depth_of, behind, entry_name, with_metas, parts_or, product_or, reduced, entered, unified, opened}
use Rattle.elaboration.specs.Laws.{IsNew}
use Rattle.elaboration.proofs.Renamed.{gives_renamed}
use Rattle.elaboration.proofs.Reach.{itself, constant_in, meta_in, reach_scoped}
use Rattle.elaboration.proofs.Standing.{InSet, IsClosed, Unified, UnifiesWithin, AreGood, IsGood, HasContext, HasTerm, IsAfter, IsMade, term_grows, goals_grow, holes_grow}

-- what was declared before a further metavariable
declared_before : (ds : Plain) (Γ : List (Local Term)) (T : Term) (k : ℕ) → k < length ds → slice_get (plain.declared Γ T ds) k ≡ slice_get ds k
declared_before ds Γ T k l = elim (declared_either ds Γ T k) [ inl e ↦ e | inr m ↦ absurd (omega (arith, l, m)) ]

-- ---- all variables of a context

variables_counted : (i n : ℕ) → count (variables_from i n) ≡ n
variables_counted i zero = refl
variables_counted i (suc n) = ap suc (variables_counted (suc i) n)

variables_scoped : (m i n : ℕ) → i + n ≤ m → AllScoped m (variables_from i n)
variables_scoped m i zero l = tt
variables_scoped m i (suc n) l = (variables_scoped m (suc i) n (omega arith), omega arith)

variables_known : (E : Env) (i n : ℕ) → AllKnown E (variables_from i n)
variables_known E i zero = tt
variables_known E i (suc n) = (variables_known E (suc i) n, tt)

variables_inside : (P : Head → Type 0) (i n : ℕ) → EachHeadOfAll P (variables_from i n)
variables_inside P i zero = tt
variables_inside P i (suc n) = (variables_inside P (suc i) n, tt)

module _ (items : List (Item Term)) (base : Plain) (D : ℕ → Type 0) (fresh : (k : ℕ) → length base ≤ k → D k) (unifies : UnifiesWithin (rules_env items) D) where
  abbrev Δ : Env
  Δ = rules_env items

  abbrev Has : Plain → ℕ → Term → Type 0
  Has metas n t = HasTerm items base D metas n t

  -- ---- parts of weak head forms

  -- a domain and a codomain
  pub record HasParts (metas : Plain) (n : ℕ) (p : Term × Term) : Type 0 where
    pub domain : Has metas n p.0
    pub codomain : Has metas (suc n) p.1

  pub product_has : (metas : Plain) (n : ℕ) (A B : Term) → Has metas n (Pi A B) → HasParts metas n (A, B)
  product_has metas n A B h = record {
    domain = record { scoped = (h.scoped.0.0, h.scoped.1.0); inside = h.inside.0 };
    codomain = record { scoped = (h.scoped.0.1, h.scoped.1.1); inside = h.inside.1 };
  }

  pub has_product : (metas : Plain) (n : ℕ) (A B : Term) → Has metas n A → Has metas (suc n) B → Has metas n (Pi A B)
  has_product metas n A B h k = record { scoped = ((h.scoped.0, k.scoped.0), (h.scoped.1, k.scoped.1)); inside = (h.inside, k.inside) }

  pub has_abstraction : (metas : Plain) (n : ℕ) (A M : Term) → Has metas n A → Has metas (suc n) M → Has metas n (Lam A M)
  has_abstraction metas n A M h k = record { scoped = ((h.scoped.0, k.scoped.0), (h.scoped.1, k.scoped.1)); inside = (h.inside, k.inside) }

  pub has_application : (metas : Plain) (n : ℕ) (f a : Term) → Has metas n f → Has metas n a → Has metas n (App f a)
  has_application metas n f a h k = record { scoped = ((h.scoped.0, k.scoped.0), (h.scoped.1, k.scoped.1)); inside = (h.inside, k.inside) }

  pub parts_or_gives : (metas : Plain) (n : ℕ) (r : Refusal) (T : Term) → Has metas n T → Gives (HasParts metas n) (parts_or r T)
  parts_or_gives metas n r (Pi A B) h = gives_pure (A, B) (product_has metas n A B h)
  parts_or_gives metas n r (Srt s) h = gives_refuse r
  parts_or_gives metas n r (Var i) h = gives_refuse r
  parts_or_gives metas n r (App f a) h = gives_refuse r
  parts_or_gives metas n r (Lam A M) h = gives_refuse r
  parts_or_gives metas n r (Con c us) h = gives_refuse r

  pub product_or_gives : (metas : Plain) (n : ℕ) (r : Refusal) (A B : Term) → Has metas n A → Has metas (suc n) B → Gives (Has metas n) (product_or r A B)
  product_or_gives metas n r A (Srt square) h k = gives_refuse r
  product_or_gives metas n r A B h k = gives_pure (Pi A B) (has_product metas n A B h k)

  -- ---- calls of the kernel and of unification

  pub reduced_gives : (w : Work) (n : ℕ) (t : Term) → IsGood items base D w → Has w.metas n t → Gives (Has w.metas n) (reduced items w t)
  reduced_gives w n t ok h =
      let E = reach Δ w.metas in
      let agree : AgreeOn (InSet D) E E = record { same = λ c i. refl; closed = ok.metas.closed } in
      gives_kernel _ (λ units left t' e. record {
        scoped = whnf_is_scoped E n t t' units left (reach_scoped items w.metas ok.metas.legal) h.scoped e;
        inside = (same_whnf (InSet D) E E agree t h.inside).ensures units left t' e;
      })

  pub later_fresh : (metas : Plain) → Extend base metas → (k : ℕ) → length metas ≤ k → D k
  later_fresh metas extend k l = fresh k (let m = extend_length base metas extend in omega arith)

  joined : (w : Work) (after : Plain) → IsGood items base D w → Unified Δ D w.metas after → IsAfter items base D w (with_metas after w)
  joined w after ok u = record {
    good = record {
      metas = record {
        legal = u.legal;
        extend = extend_more base w.metas after ok.metas.extend u.extend;
        closed = u.closed;
        others = λ k l no. u.others k (let m = extend_length base w.metas ok.metas.extend in omega arith) no ∙ ok.metas.others k l no;
      };
      goals = goals_grow items base D w.metas after w.goals u.extend ok.goals;
      once = ok.once;
      holes = holes_grow items base D w.metas after w.holes u.extend ok.holes;
    };
    extend = u.extend;
  }

  pub unify_gives : (w : Work) (d n m : ℕ) (a b : Term) → IsGood items base D w → Has w.metas n a → Has w.metas m b → Gives (λ after. IsAfter items base D w (with_metas after w)) (unify Δ w.metas d a b)
  unify_gives w d n m a b ok h k =
      gives (λ units left after e. joined w after ok (unifies w.metas after d units left a b ok.metas.legal ok.metas.closed (later_fresh w.metas ok.metas.extend) h.scoped.1 k.scoped.1 h.inside k.inside e))

  pub unified_gives : (w : Work) (here : Surroundings) (n m : ℕ) (a b : Term) → IsGood items base D w → Has w.metas n a → Has w.metas m b → Gives (IsAfter items base D w) (unified items w here a b)
  unified_gives w here n m a b ok h k = gives_bind (gives_renamed from_unification (unify_gives w (depth_of here) n m a b ok h k)) (λ after s. gives_pure (with_metas after w) s)

  -- a sort that was inferred
  abbrev pub Sorted : Plain → List (Local Term) → Term → Unit {0} → Type 0
  Sorted metas Γ A u = (s : Sort) × (n : ℕ) × (left : ℕ) × (infer_sort (reach Δ metas) (rules_ctx Γ) A n ≡ kernel.Gave s left)

  pub sorted_gives : (metas : Plain) (Γ : List (Local Term)) (A : Term) → Gives (Sorted metas Γ A) (sorted Δ metas Γ A)
  sorted_gives metas Γ A =
      gives_then {P = λ s. (n : ℕ) × (left : ℕ) × (infer_sort (reach Δ metas) (rules_ctx Γ) A n ≡ kernel.Gave s left)}
      (gives_kernel _ (λ n left s e. (n, left, e))) (λ s h. gives_pure tt (s, h.0, h.1, h.2))

  -- the surroundings behind an entry
  pub record AreBehind (metas : Plain) (here : Surroundings) (A : Term) (inner : Surroundings) : Type 0 where
    pub context : HasContext items base D metas inner.entries
    pub entries : rules_ctx inner.entries ≡ rules_ctx here.entries ▹ A

  abbrev entry : Option Label → Term → Surroundings → Local Term
  entry x A here = record { name = entry_name (depth_of here) x; ty = A }

  longer : (x : Option Label) (A : Term) (w : Work) (here : Surroundings) → IsGood items base D w → HasContext items base D w.metas here.entries → Has w.metas (count (rules_ctx here.entries)) A → Sorted w.metas here.entries A tt
      → AreBehind w.metas here A (behind x (here.entries ++ entry x A here ∷ []) here)
  longer x A w here ok ctx h s =
      let Σ = rules_metas w.metas in
      let whole = terms_of_end (λ (l : Local Term). l.ty) here.entries (entry x A here) in
      record {
        context = record {
          legal = subst (λ G. IsLegal (cut Σ Δ G) G) (sym whole)
              (extending_is_sound Δ Σ (rules_ctx here.entries) A s.0 s.1 s.2 ok.metas.legal ctx.legal (subst (λ E. infer_sort E (rules_ctx here.entries) A s.1 ≡ kernel.Gave s.0 s.2) (reach_is Δ w.metas) s.3));
          inside = subst (EachHeadOfAll (InSet D)) (sym whole) (ctx.inside, h.inside);
        };
        entries = whole;
      }

  pub entered_gives : (x : Option Label) (A : Term) (w : Work) (here : Surroundings) → IsGood items base D w → HasContext items base D w.metas here.entries → Has w.metas (count (rules_ctx here.entries)) A
      → Gives (AreBehind w.metas here A) (entered items x A w here)
  entered_gives x A w here ok ctx h =
      gives_bind (gives_renamed from_unification (gives_then (sorted_gives w.metas here.entries A) (λ u s. gives_pure (here.entries ++ entry x A here ∷ []) (longer x A w here ok ctx h s)))) (λ Γ b. gives_pure (behind x Γ here) b)

  -- ---- a hole

  module _ (w : Work) (Γ : List (Local Term)) (T : Term) (ok : IsGood items base D w) (ctx : HasContext items base D w.metas Γ) (h : Has w.metas (count (rules_ctx Γ)) T) where
    abbrev after : Plain
    after = plain.declared Γ T w.metas

    new_closed : IsClosed D (reach Δ after)
    new_closed (Named a) d i e = ok.metas.closed (Named a) d tt (constant_in items w.metas a ∙ sym (constant_in items after a) ∙ e)
    new_closed (Numbered m) d i e = go (slice_get after m) refl (sym (meta_in items after m) ∙ e)
      where
        go : (o : Option (Decl Term)) → slice_get after m ≡ o → option_map (decl_tree itself m) o ≡ Some d → EachHeadOfItem (InSet D) d
        go None q p = absurd cc
        go (Some c) q p = elim (declared_past w.metas Γ T m c q) [
          | inl old ↦ ok.metas.closed (Numbered m) d i (meta_in items w.metas m ∙ ap (option_map (decl_tree itself m)) old ∙ p)
          | inr new ↦ subst (EachHeadOfItem (InSet D)) (ap (decl_tree itself m) (sym new.1) ∙ same_Some _ _ p) (record { params = ctx.inside; ty = h.inside; body = λ M z. absurd cc })
        ]

    new_good : Sorted w.metas Γ T tt → AreGood items base D after
    new_good s =
        let Σ = rules_metas w.metas in
        let legal = declaring_is_sound Δ Σ (rules_ctx Γ) T s.0 s.1 s.2 ok.metas.legal ctx.legal (subst (λ E. infer_sort E (rules_ctx Γ) T s.1 ≡ kernel.Gave s.0 s.2) (reach_is Δ w.metas) s.3) in
        record {
          legal = subst (IsLegalMetas Δ) (sym (declared_means itself Γ T w.metas)) legal.0;
          extend = extend_more base w.metas after ok.metas.extend (extend_declared w.metas Γ T);
          closed = new_closed;
          others = λ k l no. declared_before w.metas Γ T k (let m = extend_length base w.metas ok.metas.extend in omega arith) ∙ ok.metas.others k l no;
        }

    pub new_after : Sorted w.metas Γ T tt → IsAfter items base D w (with_metas after w)
    new_after s = record {
      good = record {
        metas = new_good s;
        goals = goals_grow items base D w.metas after w.goals (extend_declared w.metas Γ T) ok.goals;
        once = ok.once;
        holes = holes_grow items base D w.metas after w.holes (extend_declared w.metas Γ T) ok.holes;
      };
      extend = extend_declared w.metas Γ T;
    }

    pub new_number : IsNew base after (length w.metas)
    new_number = record { later = extend_length base w.metas ok.metas.extend; declared = slice_get_within after (length w.metas) (plain.unassigned Γ T) (declared_last w.metas Γ T) }

    pub new_term : Has after (count (rules_ctx Γ)) (over_all (length w.metas) (length Γ))
    new_term =
        let many : count (rules_ctx Γ) ≡ length Γ = count_of_context itself Γ in
        record {
          scoped = (
            variables_scoped (count (rules_ctx Γ)) 0 (length Γ) (omega (arith, many)),
            ((decl_tree itself (length w.metas) (plain.unassigned Γ T), meta_in items after (length w.metas) ∙ ap (option_map (decl_tree itself (length w.metas))) (declared_last w.metas Γ T), variables_counted 0 (length Γ) ∙ sym many), variables_known (reach Δ after) 0 (length Γ)),
          );
          inside = (fresh (length w.metas) (extend_length base w.metas ok.metas.extend), variables_inside (InSet D) 0 (length Γ));
        }

    pub new_type : Has after (count (rules_ctx Γ)) T
    new_type = term_grows items base D w.metas after (count (rules_ctx Γ)) T (extend_declared w.metas Γ T) h

  module _ (noted : ℕ → Work → Work) (same : (m : ℕ) (v : Work) → (noted m v).metas ≡ v.metas) (note : (m : ℕ) (v : Work) → IsGood items base D v → IsNew base v.metas m → All (λ g. g < m) v.goals → IsGood items base D (noted m v)) (T : Term) (w : Work) (here : Surroundings)
      (ok : IsGood items base D w) (ctx : HasContext items base D w.metas here.entries) (h : Has w.metas (count (rules_ctx here.entries)) T) where
    abbrev made_of : Plain → Made
    made_of after = record { work = noted (length w.metas) (with_metas after w); term = over_all (length w.metas) (depth_of here); ty = T }

    opened_by : (after : Plain) → after ≡ plain.declared here.entries T w.metas → Sorted w.metas here.entries T tt → IsMade items base D w (count (rules_ctx here.entries)) (made_of after)
    opened_by later e s =
        let n = count (rules_ctx here.entries) in
        let final = plain.declared here.entries T w.metas in
        let a = new_after w here.entries T ok ctx h s in
        let v : Work = with_metas final w in
        let kept : (noted (length w.metas) v).metas ≡ final = same (length w.metas) v in
        subst (λ x. IsMade items base D w n (made_of x)) (sym e) (record {
          after = record { good = note (length w.metas) v a.good (new_number w here.entries T ok ctx h) (λ k d l. (ok.goals k d l).declared); extend = subst (Extend w.metas) (sym kept) a.extend };
          term = subst (λ x. Has x n (over_all (length w.metas) (depth_of here))) (sym kept) (new_term w here.entries T ok ctx h);
          ty = subst (λ x. Has x n T) (sym kept) (new_type w here.entries T ok ctx h);
        })

    declared_gives : Gives (λ after. (after ≡ plain.declared here.entries T w.metas) × Sorted w.metas here.entries T tt) (declared Δ w.metas here.entries T)
    declared_gives =
        gives_demand (not (is_full w.metas)) unification.TooManyMetas (λ _.
        gives_demand (not (is_too_deep (rules_ctx here.entries ▹ T))) (unification.TooDeep (length w.metas)) (λ _.
        gives_then (sorted_gives w.metas here.entries T) (λ u s. gives_pure (plain.declared here.entries T w.metas) (refl, s))))

    pub opened_gives : Gives (λ m. IsMade items base D w (count (rules_ctx here.entries)) m × (m.ty ≡ T)) (opened items noted T w here)
    opened_gives =
        gives_bind (gives_renamed from_unification declared_gives) (λ later p. gives_pure (made_of later) (opened_by later p.0 p.1, refl))
