-- Solving a pattern, with pruning, joins it with the term.
use Rattle.std.proofs.Common.{◌≡◌, ℕ, zero, suc, ◌-◌, List, [], ◌∷◌, length, Bool, true, false, Option, Some, None, refl, sym, ap, ◌∙◌, subst as transport, nat_eq}
use Rattle.std.specs.Prelude.{slice_get, reverse, is_some, unwrap_or}
use Rattle.std.proofs.lemmas.Bool.{eq-eqb}
use Rattle.ld_trees.specs.Term.{Numbered, Term, Terms, Meta, none, ◌▹◌}
use Rattle.ld_trees.specs.Substitution.{rename, subst_all}
use Rattle.ld_rules.specs.Environment.{Env}
use Rattle.ld_rules.specs.Reduction.{Equal, transitive, symmetric}
use Rattle.ld_rules.specs.Scoping.{Known}
use Rattle.ld_rules.proofs.KnownConstants.{known_rename}
use Rattle.ld_terms.specs.declared.globals.Local.{Local}
use Rattle.ld_terms.specs.declared.globals.Decl.{Decl}
use Rattle.meta_trees.specs.MetaContext.{item}
use Rattle.meta_trees.specs.Dependencies.{Depends, direct, occurs_in}
use Rattle.meta_trees.proofs.Dependencies.{or_left, or_right, depends_wider}
use Rattle.meta_context.specs.Declaring as declaring
use Rattle.meta_laws.specs.Cut.{cut}
use Rattle.meta_laws.specs.Legality.{IsLegalMetas}
use Rattle.meta_laws.proofs.Legal.{cuts_are_legal}
use Rattle.goal_state.specs.State.{rules_metas}
use Rattle.goal_state.specs.Following.{Extend}
use Rattle.unification.specs.Steps.{Gave, OutOfFuel, spend_each, ◌>>=◌, ◌>>◌}
use Rattle.unification.specs.Refusals.{Refusal, Scope, Step, Plain, Unifies}
use Rattle.unification.specs.Metavariables.{settled_by}
use Rattle.unification.specs.Patterns.{place_of, holds_only}
use Rattle.unification.specs.Pruning.{Spot, Nowhere, Outside, Inside, Free, first_bad, is_kept, kept_entries, thin, name_at, kept_context, kept_variables, replace, occurrences, Goes, pruned_by}
use Rattle.unification.specs.Solving.{inverted, solve_by, solve_step, solve_deep, solve}
use Rattle.unification.proofs.Gives.{Gives, gives, given, gives_pure, gives_refuse, gives_less, gives_run, gives_choose, gives_bind, gives_then, gives_any, gives_demand}
use Rattle.unification.proofs.Reach.{cut_items, known_depends}
use Rattle.unification.proofs.Declarations.{plain, extend_more, extend_declared, declared_before}
use Rattle.unification.proofs.Inverted.{put_back}
use Rattle.unification.proofs.Spots.{SpotIn, spot_occurs}
use Rattle.unification.proofs.Replaced.{known_replaced, value_step, equal_replaced}
use Rattle.unification.proofs.Moved.{moved_more, moved_pruned}
use Rattle.unification.proofs.Joined.{Joined, Joins, Settled, known_later, equal_later, depends_later, item_found}
use Rattle.unification.proofs.Settling.{HasLegalContext, extended_legal, declared_legal, settled_sound}

module _ (Δ : Env) where
  -- the entries that are kept are a legal context
  kept_legal : (S : Plain) → IsLegalMetas Δ (rules_metas S) → (flags : List Bool) (Γ : List (Local Term)) (before : List Bool) (kept : List (Local Term)) → HasLegalContext Δ S kept → Gives (HasLegalContext Δ S) (kept_context Δ S flags Γ before kept)
  kept_legal S ok (true ∷ ks) (l ∷ Γ) before kept h =
      gives_bind (extended_legal Δ S ok kept (name_at (length kept) l.name) (rename (thin before) l.ty) h) (λ more g. kept_legal S ok ks Γ (true ∷ before) more g)
  kept_legal S ok (false ∷ ks) (l ∷ Γ) before kept h = kept_legal S ok ks Γ (false ∷ before) kept h
  kept_legal S ok (true ∷ ks) [] before kept h = gives_pure kept h
  kept_legal S ok (false ∷ ks) [] before kept h = gives_pure kept h
  kept_legal S ok [] Γ before kept h = gives_pure kept h

  module _ (unify : Unifies) (joins : Joins Δ unify) (X : Terms) (m : ℕ) (vs : Terms) where
    -- a call that joins the pattern with each term
    abbrev Solves : Goes → Type 0
    Solves again = (S : Plain) (t : Term) → IsLegalMetas Δ (rules_metas S) → Known (cut (rules_metas S) Δ X) (Meta m vs) → Known (cut (rules_metas S) Δ X) t → Gives (Joined Δ S X (Meta m vs) t) (again S t)

    module _ (again : Goes) (solves : Solves again) (S : Plain) (t : Term) (ok : IsLegalMetas Δ (rules_metas S)) (k : Known (cut (rules_metas S) Δ X) (Meta m vs)) (l : Known (cut (rules_metas S) Δ X) t) where
      -- Metavariable p is settled by a new one over the entries that are kept, and then the term without p is joined.
      module _ (p : ℕ) (d : Decl Term) (e : slice_get S p ≡ Some d) (D : Depends (rules_metas S) X p) (flags : List Bool) (Γ : List (Local Term)) (n left : ℕ) (g : kept_context Δ S flags d.ctx [] [] n ≡ Gave Γ left) where
        abbrev T : Term
        T = rename (thin (reverse flags)) d.ty

        abbrev more : Plain
        more = declaring.declared Γ T S

        abbrev v : Term
        v = Meta (length S) (kept_variables (reverse flags) 0)

        abbrev p_settled : Plain → Step Plain
        p_settled R = settled_by Δ unify R p v (slice_get R p)

        abbrev rest : Plain → Step Plain
        rest R = p_settled R >>= (λ after. spend_each (occurrences p t) >> again after (replace p v t))

        settled_there : IsLegalMetas Δ (rules_metas more) → Gives (Settled Δ more (X ▹ v) p d v) (p_settled more)
        settled_there ok' =
            let there : slice_get more p ≡ Some d = declared_before S Γ T p d e in
            let Dp : Depends (rules_metas more) (X ▹ v) p = depends_wider (λ j w. direct (or_left (occurs_in j X) _ w)) (depends_later Δ S more X p (extend_declared S Γ T) D) in
            transport (λ o. Gives (Settled Δ more (X ▹ v) p d v) (settled_by Δ unify more p v o)) (sym there) (settled_sound Δ unify joins more (X ▹ v) p d v ok' there Dp (λ j w. direct (or_right (occurs_in j X) _ w)))

        joined_there : (Z : Plain) → Settled Δ more (X ▹ v) p d v Z → Gives (Joined Δ S X (Meta m vs) t) (again Z (replace p v t))
        joined_there Z w =
            let x : Extend S Z = extend_more S more Z (extend_declared S Γ T) w.extend in
            let E : Env = cut (rules_metas Z) Δ X in
            let item_p = item p (plain (declaring.with_value v d)) in
            let found = item_found Δ Z X p (declaring.with_value v d) w.legal (depends_later Δ S Z X p x D) w.now in
            let kv = ((cut_items Δ (rules_metas Z) X w.legal (Numbered p) item_p found).body v refl).1 in
            let kt = known_later Δ S Z X ok w.legal x t l in
            gives_less (λ R j. record {
              legal = j.legal;
              extend = extend_more S Z R x j.extend;
              equal = transitive j.equal (symmetric (equal_later Δ Z R X w.legal j.legal j.extend t (replace p v t) (equal_replaced E p v item_p found refl t kt)));
              moved = moved_more S Z R X x j.extend (moved_pruned Δ S X p d flags (reverse flags) Γ n left e D g Z (extend_declared S Γ T) w.extend w.moved) j.moved;
            }) (solves Z (replace p v t) w.legal (known_later Δ S Z X ok w.legal x (Meta m vs) k) (known_replaced E p v t kv kt))

        pruned_there : (R : Plain) → IsLegalMetas Δ (rules_metas R) → R ≡ more → Gives (Joined Δ S X (Meta m vs) t) (rest R)
        pruned_there R h q =
            let h' = transport (λ (R : Plain). IsLegalMetas Δ (rules_metas R)) q h in
            transport (λ (R : Plain). Gives (Joined Δ S X (Meta m vs) t) (rest R)) (sym q) (gives_bind (settled_there h') (λ Z w. gives_then (gives_any (spend_each (occurrences p t))) (λ _ _. joined_there Z w)))

      pruned_sound : (r : Refusal) (p : ℕ) (marks : List Bool) (o : Option (Decl Term)) → slice_get S p ≡ o → Depends (rules_metas S) X p → Gives (Joined Δ S X (Meta m vs) t) (pruned_by Δ unify S r p marks t again o)
      pruned_sound r p marks None e D = gives_refuse r
      pruned_sound r p marks (Some d) e D =
          let flags : List Bool = kept_entries marks d.ctx [] in
          let ks : List Bool = reverse flags in
          gives_demand (holds_only (is_kept ks) 0 d.ty) r (λ _. gives_bind (gives_run (kept_legal S ok flags d.ctx [] [] (cuts_are_legal Δ (rules_metas S) none ok))) (λ Γ g. gives_bind (declared_legal Δ S ok Γ (rename (thin ks) d.ty) g.0) (λ R y. pruned_there p d e D flags Γ g.1.0 g.1.1 g.1.2 R y.0 y.1)))

      -- m settled by the term itself
      solved : (first_bad S (λ i. is_some (place_of vs i)) 0 Free t ≡ Nowhere) → (v : Term) → v ≡ rename (λ i. unwrap_or (place_of vs i) 0) t → (o : Option (Decl Term)) → slice_get S m ≡ o → Gives (Joined Δ S X (Meta m vs) t) (settled_by Δ unify S m v o)
      solved n v q None e = gives_refuse _
      solved n v q (Some d) e =
          let D : Depends (rules_metas S) X m = known_depends Δ (rules_metas S) X ok (Meta m vs) k m (or_left (nat_eq m m) _ (eq-eqb m m refl)) in
          let kv : Known (cut (rules_metas S) Δ X) v = transport (Known (cut (rules_metas S) Δ X)) (sym q) (known_rename (cut (rules_metas S) Δ X) t (λ i. unwrap_or (place_of vs i) 0) l) in
          gives_less (λ Z w. record {
            legal = w.legal;
            extend = w.extend;
            equal = transport (Equal (cut (rules_metas Z) Δ X) (Meta m vs)) (ap (subst_all vs) q ∙ put_back S vs t n)
                (value_step (cut (rules_metas Z) Δ X) m v (item m (plain (declaring.with_value v d))) (item_found Δ Z X m (declaring.with_value v d) w.legal (depends_later Δ S Z X m w.extend D) w.now) refl vs (known_later Δ S Z X ok w.legal w.extend (Meta m vs) k).0);
            moved = w.moved;
          }) (settled_sound Δ unify joins S X m d v ok e D (known_depends Δ (rules_metas S) X ok v kv))

      case_sound : (depth : ℕ) (x : Spot) → first_bad S (λ i. is_some (place_of vs i)) 0 Free t ≡ x → Gives (Joined Δ S X (Meta m vs) t) (solve_by Δ unify depth m vs again S t x)
      case_sound depth Nowhere e = solved e (inverted Δ unify depth m vs t) refl (slice_get S m) refl
      case_sound depth (Outside i) e = gives_refuse _
      case_sound depth (Inside i p marks) e =
          gives_choose (nat_eq p m) (λ _. gives_refuse _) (λ _. pruned_sound (Scope m (depth - suc i)) p marks (slice_get S p) refl (transport (SpotIn (Depends (rules_metas S) X)) e (spot_occurs (Depends (rules_metas S) X) S (λ i. is_some (place_of vs i)) t 0 Free tt (known_depends Δ (rules_metas S) X ok t l))))

    step_solves : (depth : ℕ) (again : Goes) → Solves again → Solves (solve_step Δ unify depth m vs again)
    step_solves depth again solves S t ok k l = case_sound again solves S t ok k l depth (first_bad S (λ i. is_some (place_of vs i)) 0 Free t) refl

    deep_solves : (depth g : ℕ) → Solves (solve_deep Δ unify depth m vs g)
    deep_solves depth zero = step_solves depth (λ metas t n. OutOfFuel) (λ S t ok k l. gives (λ n left x e. absurd cc))
    deep_solves depth (suc g) = step_solves depth (λ metas t. solve_deep Δ unify depth m vs g metas t) (λ S t ok k l. deep_solves depth g S t ok k l)

    pub solve_joins : (depth : ℕ) → Solves (solve Δ unify depth m vs)
    solve_joins depth S t ok k l = gives (λ n left x e. given (deep_solves depth n S t ok k l) n left x e)
