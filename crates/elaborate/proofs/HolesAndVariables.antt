-- What the leaves of a text elaborate to, and an entry for a binder.
use Rattle.std.proofs.Common.{◌≡◌, ℕ, List, length, Option, Some, None, option_map, refl, sym, ap, ap₂, ◌∙◌, subst}
use Rattle.ld_trees.specs.Term.{Term, Var}
use Rattle.ld_rules.specs.Environment.{type_at}
use Rattle.ld_terms.specs.declared.globals.Local.{Local}
use Rattle.ld_terms.specs.declared.globals.Item.{Item}
use Rattle.term_syntax.specs.Lex.{Text}
use Rattle.meta_context.specs.Plain.{rules_ctx, rules_env}
use Rattle.unification.specs.Refusals.{Plain}
use Rattle.unification.specs.Steps.{Outcome, Gave, Refused, pure, renamed}
use Rattle.unification.specs.Metavariables.{extended, declared}
use Rattle.unification.specs.Patterns.{over_all}
use Rattle.pattern_unify.specs.Answers.{ShowsUnify}
use Rattle.pattern_unify.specs.declared.fault.UnifyFault.{UnifyFault}
use Rattle.elaboration.specs.Refusals.{Refusal, from_unification, unify_step}
use Rattle.elaboration.specs.Elaboration.{Work, Made, made, Want, Surroundings, depth_of, with_metas, meet, opened, typed_variable, variable}
use Rattle.elaborate.specs.Faults.{unify_fault}
use Rattle.elaborate.specs.Steps.{noted_of, typed_at}
use Rattle.pattern_unify.proofs.Follow.{after}
use Rattle.elaborate.proofs.Follow.{Shows, shows_more, unify_shows, renamed_gave}

-- ---- an entry

module _ (items : List (Item Term)) (metas : Plain) (Γ : List (Local Term)) (x y : Text) (A : Term) (n left : ℕ) (same : x ≡ y) where
  pub extended_fails : {H : Type 0} (holds : H → Type 0) (means : H → Term) (e : UnifyFault H) → ShowsUnify (λ r. r) holds means (extended (rules_env items) metas Γ x A n) left e
      → Shows holds means (unify_step (extended (rules_env items) metas Γ y A) n) left (unify_fault e)
  extended_fails holds means e h = unify_shows holds means (extended (rules_env items) metas Γ y A n) left e (subst (λ x. ShowsUnify (λ r. r) holds means (extended (rules_env items) metas Γ x A n) left e) same h)

  pub extended_gives : (Γ' : List (Local Term)) → extended (rules_env items) metas Γ x A n ≡ Gave Γ' left → unify_step (extended (rules_env items) metas Γ y A) n ≡ Gave Γ' left
  extended_gives Γ' e = renamed_gave from_unification (extended (rules_env items) metas Γ y A n) Γ' left (ap (λ x. extended (rules_env items) metas Γ x A n) (sym same) ∙ e)

-- ---- holes

module _ (items : List (Item Term)) (hole : Option ℕ) (F : Term) (w : Work) (s : Surroundings) (n left : ℕ) where
  pub opened_fails : {H : Type 0} (holds : H → Type 0) (means : H → Term) (e : UnifyFault H) → ShowsUnify (λ r. r) holds means (declared (rules_env items) w.metas s.entries F n) left e
      → Shows holds means (opened items (noted_of hole) F w s n) left (unify_fault e)
  opened_fails holds means e h =
      let o = declared (rules_env items) w.metas s.entries F n in
      shows_more holds means (renamed from_unification o) (λ metas. pure (made (noted_of hole (length w.metas) (with_metas metas w)) (over_all (length w.metas) (depth_of s)) F)) left (unify_fault e) (unify_shows holds means o left e h)

  pub opened_gives : (metas : Plain) (v : Work) (t T : Term) (k d : ℕ) → declared (rules_env items) w.metas s.entries F n ≡ Gave metas left → k ≡ length w.metas → d ≡ depth_of s
      → v ≡ noted_of hole k (with_metas metas w) → t ≡ over_all k d → T ≡ F → opened items (noted_of hole) F w s n ≡ Gave (made v t T) left
  opened_gives metas v t T k d e ek ed ev et eT =
      let o = declared (rules_env items) w.metas s.entries F n in
      after (renamed from_unification o) metas left (λ metas. pure (made (noted_of hole (length w.metas) (with_metas metas w)) (over_all (length w.metas) (depth_of s)) F)) (renamed_gave from_unification o metas left e)
      ∙ ap₂ (λ k d. Gave (made (noted_of hole k (with_metas metas w)) (over_all k d) F) left) (sym ek) (sym ed)
      ∙ ap₂ (λ v t. Gave (made v t F) left) (sym ev) (sym et)
      ∙ ap (λ X. Gave (made v t X) left) (sym eT)

-- ---- variables

module _ (items : List (Item Term)) (r : Refusal) (want : Want) (w : Work) (s : Surroundings) (n : ℕ) where
  -- what is made of a variable with its type, where there is one
  abbrev pub from_typed : Option (Term × Term) → Outcome Refusal Made
  from_typed None = Refused r n
  from_typed (Some p) = meet items want w s p.0 p.1 n

  pub variable_is : (i : Option ℕ) (x : Option (Term × Term)) → typed_at (rules_ctx s.entries) i ≡ x → variable items r i want w s n ≡ from_typed x
  variable_is None x e = ap from_typed e
  variable_is (Some i) x e = by (type_at (rules_ctx s.entries) i) ∙ ap from_typed e where
    by : (o : Option Term) → typed_variable items i r o want w s n ≡ from_typed (option_map (λ T. (Var i, T)) o)
    by None = refl
    by (Some T) = refl
