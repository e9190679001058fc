-- What the calls of unification and of the kernel give for those of elaboration, and terms by their roots.
use Rattle.std.proofs.Common.{◌≡◌, ◌≢◌, ℕ, List, refl, sym, ap, ◌∙◌, subst, None}
use Rattle.ld_trees.specs.Term.{Sort, star, square, Term, Srt, Square, Var, App, Lam, Pi, Con}
use Rattle.ld_terms.specs.declared.globals.Item.{Item}
use Rattle.meta_context.specs.Plain.{rules_env}
use Rattle.unification.specs.Refusals.{Plain}
use Rattle.unification.specs.Steps.{Gave, Refused, go_on, pure, renamed}
use Rattle.unification.specs.Unification.{unify}
use Rattle.pattern_unify.specs.Answers.{ShowsUnify}
use Rattle.pattern_unify.specs.declared.fault.UnifyFault.{UnifyFault}
use Rattle.elaboration.specs.Refusals.{Refusal, NotType, from_unification}
use Rattle.elaboration.specs.Elaboration.{Work, Surroundings, depth_of, with_metas, sort_or, parts_or, product_or, reduced, unified, sort_of}
use Rattle.elaborate.specs.Faults.{unify_fault}
use Rattle.elaborate.specs.Steps.{product_of}
use Rattle.pattern_unify.proofs.Follow.{after}
use Rattle.elaborate.proofs.Follow.{Shows, shows_more, unify_shows, renamed_gave}

module _ (items : List (Item Term)) (w : Work) (s : Surroundings) (F W : Term) (n left depth : ℕ) (same : depth ≡ depth_of s) where
  pub unified_fails : {H : Type 0} (holds : H → Type 0) (means : H → Term) (e : UnifyFault H) → ShowsUnify (λ r. r) holds means (unify (rules_env items) w.metas depth F W n) left e
      → Shows holds means (unified items w s F W n) left (unify_fault e)
  unified_fails holds means e h =
      let o = unify (rules_env items) w.metas (depth_of s) F W n in
      shows_more holds means (renamed from_unification o) (λ metas. pure (with_metas metas w)) left (unify_fault e)
      (unify_shows holds means o left e (subst (λ d. ShowsUnify (λ r. r) holds means (unify (rules_env items) w.metas d F W n) left e) same h))

  pub unified_gives : (metas : Plain) → unify (rules_env items) w.metas depth F W n ≡ Gave metas left → unified items w s F W n ≡ Gave (with_metas metas w) left
  unified_gives metas e =
      let o = unify (rules_env items) w.metas (depth_of s) F W n in
      let e' : o ≡ Gave metas left = ap (λ d. unify (rules_env items) w.metas d F W n) (sym same) ∙ e in
      after (renamed from_unification o) metas left (λ metas. pure (with_metas metas w)) (renamed_gave from_unification o metas left e')

-- ---- sorts

pub sort_is : (items : List (Item Term)) (w : Work) (s : Surroundings) (t T : Term) (n : ℕ) (x : Sort) → T ≡ Srt x → sort_of items w s t T n ≡ Gave T n
sort_is items w s t T n x e = ap (λ T. sort_of items w s t T n) e ∙ ap (λ T. Gave T n) (sym e)

pub sort_other : (items : List (Item Term)) (w : Work) (s : Surroundings) (t T : Term) (n : ℕ) → ((x : Sort) → T ≢ Srt x) → sort_of items w s t T n ≡ go_on (reduced items w T n) (sort_or (NotType (depth_of s) t))
sort_other items w s t (Srt x) n h = absurd (h x refl)
sort_other items w s t (Var i) n h = refl
sort_other items w s t (App f a) n h = refl
sort_other items w s t (Lam A M) n h = refl
sort_other items w s t (Pi A B) n h = refl
sort_other items w s t (Con c us) n h = refl

pub form_is_sort : (r : Refusal) (T : Term) (n : ℕ) (x : Sort) → T ≡ Srt x → sort_or r T n ≡ Gave T n
form_is_sort r T n x e = ap (λ T. sort_or r T n) e ∙ ap (λ T. Gave T n) (sym e)

pub form_is_none : (r : Refusal) (T : Term) (n : ℕ) → ((x : Sort) → T ≢ Srt x) → sort_or r T n ≡ Refused r n
form_is_none r (Srt x) n h = absurd (h x refl)
form_is_none r (Var i) n h = refl
form_is_none r (App f a) n h = refl
form_is_none r (Lam A M) n h = refl
form_is_none r (Pi A B) n h = refl
form_is_none r (Con c us) n h = refl

-- ---- products

pub no_parts : (r : Refusal) (T : Term) (n : ℕ) → ((A B : Term) → T ≢ Pi A B) → parts_or r T n ≡ Refused r n
no_parts r (Srt x) n h = refl
no_parts r (Var i) n h = refl
no_parts r (App f a) n h = refl
no_parts r (Lam A M) n h = refl
no_parts r (Pi A B) n h = absurd (h A B refl)
no_parts r (Con c us) n h = refl

pub no_product : (W T : Term) → ((A B : Term) → T ≢ Pi A B) → product_of W T ≡ None
no_product W (Srt x) h = refl
no_product W (Var i) h = refl
no_product W (App f a) h = refl
no_product W (Lam A M) h = refl
no_product W (Pi A B) h = absurd (h A B refl)
no_product W (Con c us) h = refl

pub has_product : (r : Refusal) (A T : Term) (n : ℕ) → T ≢ Square → product_or r A T n ≡ Gave (Pi A T) n
has_product r A (Srt square) n h = absurd (h refl)
has_product r A (Srt star) n h = refl
has_product r A (Var i) n h = refl
has_product r A (App f a) n h = refl
has_product r A (Lam B M) n h = refl
has_product r A (Pi B C) n h = refl
has_product r A (Con c us) n h = refl

pub is_kind : (r : Refusal) (A T : Term) (n : ℕ) → T ≡ Square → product_or r A T n ≡ Refused r n
is_kind r A T n e = ap (λ T. product_or r A T n) e
