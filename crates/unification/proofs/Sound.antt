-- Unification joins its terms.
use Rattle.std.proofs.Common.{◌≡◌, ℕ, zero, suc, List, [], ◌∷◌, Bool, true, false, Some, refl, sym, subst as transport, nat_lt, nat_eq, if◌then◌else◌, ◌||◌}
use Rattle.std.specs.Prelude.{slice_get}
use Rattle.std.proofs.lemmas.Bool.{eq-eqb}
use Rattle.ld_trees.specs.Term.{Named, Numbered, Term, Srt, Var, App, Lam, Pi, Con, Meta, Terms, none, ◌▹◌, same}
use Rattle.ld_trees.proofs.Equality.{and_right, same_is}
use Rattle.ld_rules.specs.Environment.{Env}
use Rattle.ld_rules.specs.Reduction.{Equal, reflexive, symmetric, transitive}
use Rattle.ld_rules.specs.Scoping.{Known}
use Rattle.ld_terms.specs.declared.globals.Decl.{Decl}
use Rattle.conversion.specs.Runs as kernel
use Rattle.conversion.specs.WeakHead.{whnf}
use Rattle.conversion.specs.Conversion.{alike, is_defined_at_head, are_twins}
use Rattle.meta_trees.specs.Dependencies.{direct, occurs}
use Rattle.meta_trees.proofs.Dependencies.{or_left, or_right}
use Rattle.meta_laws.specs.Cut.{cut}
use Rattle.meta_laws.specs.Legality.{IsLegalMetas}
use Rattle.goal_state.specs.State.{rules_metas, is_open}
use Rattle.goal_state.specs.Following.{Extend}
use Rattle.unification.specs.Steps.{Gave, OutOfFuel}
use Rattle.unification.specs.Refusals.{Plain, Unifies}
use Rattle.unification.specs.Metavariables.{reach, settled_by}
use Rattle.unification.specs.Patterns.{Side, Rigid, Flexible, Pattern, applied, are_distinct_variables, side, have_same_goal}
use Rattle.unification.specs.Solving.{solve}
use Rattle.unification.specs.Unification.{Pair, part_pairs, unify_each, unify_parts, unify_sides, unify_forms, unify_reduced, unify_step, unify_deep, unify, settle}
use Rattle.unification.specs.Laws.{UnifyingIsSound, SettlingIsSound}
use Rattle.unification.proofs.Gives.{Gives, gives, given, gives_pure, gives_refuse, gives_less, gives_choose, gives_bind, gives_spend, gives_or_else, gives_kernel}
use Rattle.unification.proofs.Reach.{reach_is, known_in_cut, form_in_cut}
use Rattle.unification.proofs.Declarations.{extend_itself, extend_more}
use Rattle.unification.proofs.Pairs.{PairsKnown, PairsEqual, known_parts, equal_by_parts}
use Rattle.unification.proofs.Moved.{Moved, moved_itself, moved_more}
use Rattle.unification.proofs.Joined.{Joined, Joins, Settled, joined_itself, joined_back, known_later, equal_later}
use Rattle.unification.proofs.Settling.{settled_sound}
use Rattle.unification.proofs.Solving.{solve_joins}

-- a pattern is its metavariable with its arguments
no_pattern : (s : Side) (m : ℕ) (vs : Terms) → applied s ≡ Pattern m vs → ⊥
no_pattern Rigid m vs e = cc
no_pattern (Flexible n) m vs e = cc
no_pattern (Pattern n us) m vs e = cc

pattern_is : (metas : Plain) (t : Term) (m : ℕ) (vs : Terms) → side metas t ≡ Pattern m vs → t ≡ Meta m vs
pattern_is metas (App f a) m vs e = absurd (no_pattern (side metas f) m vs e)
pattern_is metas (Con (Numbered n) us) m vs e = go (is_open metas n) (are_distinct_variables us) e
  where
    go : (b c : Bool) → (if b then (if c then Pattern n us else Flexible n) else Rigid) ≡ Pattern m vs → Con (Numbered n) us ≡ Meta m vs
    go true true q = cc
    go true false q = absurd cc
    go false c q = absurd cc
pattern_is metas (Con (Named n) us) m vs e = absurd cc
pattern_is metas (Srt s) m vs e = absurd cc
pattern_is metas (Var i) m vs e = absurd cc
pattern_is metas (Lam A M) m vs e = absurd cc
pattern_is metas (Pi A M) m vs e = absurd cc

module _ (Δ : Env) where
  record JoinedAll (S : Plain) (X : Terms) (ps : List Pair) (Z : Plain) : Type 0 where
    legal : IsLegalMetas Δ (rules_metas Z)
    extend : Extend S Z
    equal : PairsEqual (cut (rules_metas Z) Δ X) ps
    moved : Moved S X Z

  pairs_later : (S Z : Plain) (X : Terms) → IsLegalMetas Δ (rules_metas S) → IsLegalMetas Δ (rules_metas Z) → Extend S Z → (ps : List Pair) → PairsKnown (cut (rules_metas S) Δ X) ps → PairsKnown (cut (rules_metas Z) Δ X) ps
  unfolding PairsKnown
  pairs_later S Z X ok ok' x [] h = tt
  pairs_later S Z X ok ok' x (p ∷ ps) h = (known_later Δ S Z X ok ok' x p.found h.0, known_later Δ S Z X ok ok' x p.wanted h.1, pairs_later S Z X ok ok' x ps h.2)

  module _ (unify : Unifies) (joins : Joins Δ unify) where
    each_joined : (S : Plain) (X : Terms) (ps : List Pair) → IsLegalMetas Δ (rules_metas S) → PairsKnown (cut (rules_metas S) Δ X) ps → Gives (JoinedAll S X ps) (unify_each unify S ps)
    unfolding PairsKnown PairsEqual
    each_joined S X [] ok h = gives_pure S (record { legal = ok; extend = extend_itself S; equal = tt; moved = moved_itself S X })
    each_joined S X (p ∷ ps) ok h =
        gives_bind (joins S X p.depth p.found p.wanted ok h.0 h.1) (λ Z j. gives_less (λ R r. record { legal = r.legal; extend = extend_more S Z R j.extend r.extend; equal = (equal_later Δ Z R X j.legal r.legal r.extend p.found p.wanted j.equal, r.equal); moved = moved_more S Z R X j.extend r.extend j.moved r.moved }) (each_joined Z X ps j.legal (pairs_later S Z X ok j.legal j.extend ps h.2)))

    module _ (S : Plain) (X : Terms) (ok : IsLegalMetas Δ (rules_metas S)) where
      alike_joined : (d : ℕ) (a b : Term) → Known (cut (rules_metas S) Δ X) a → Known (cut (rules_metas S) Δ X) b → alike a b ≡ true → Gives (Joined Δ S X a b) (unify_each unify S (part_pairs d a b))
      alike_joined d a b h k e = gives_less (λ Z r. record { legal = r.legal; extend = r.extend; equal = equal_by_parts (cut (rules_metas Z) Δ X) d a b e r.equal; moved = r.moved }) (each_joined S X (part_pairs d a b) ok (known_parts (cut (rules_metas S) Δ X) d a b h k))

      parts_joined : (d : ℕ) (a b : Term) → Known (cut (rules_metas S) Δ X) a → Known (cut (rules_metas S) Δ X) b → Gives (Joined Δ S X a b) (unify_parts unify S d a b)
      parts_joined d a b h k = gives_choose (alike a b) (λ e. alike_joined d a b h k e) (λ e. gives_refuse _)

      left_joined : (d m : ℕ) (us : Terms) (a b : Term) → a ≡ Meta m us → Known (cut (rules_metas S) Δ X) a → Known (cut (rules_metas S) Δ X) b → Gives (Joined Δ S X a b) (solve Δ unify d m us S b)
      left_joined d m us a b e h k = transport (λ x. Gives (Joined Δ S X x b) (solve Δ unify d m us S b)) (sym e) (solve_joins Δ unify joins X m us d S b ok (transport (Known (cut (rules_metas S) Δ X)) e h) k)

      right_joined : (d m : ℕ) (us : Terms) (a b : Term) → b ≡ Meta m us → Known (cut (rules_metas S) Δ X) a → Known (cut (rules_metas S) Δ X) b → Gives (Joined Δ S X a b) (solve Δ unify d m us S a)
      right_joined d m us a b e h k = gives_less (λ Z j. joined_back Δ S X b a Z j) (left_joined d m us b a e k h)

      sides_joined : (d : ℕ) (a b : Term) (x y : Side) → side S a ≡ x → side S b ≡ y → Known (cut (rules_metas S) Δ X) a → Known (cut (rules_metas S) Δ X) b → Gives (Joined Δ S X a b) (unify_sides Δ unify S d a b x y)
      sides_joined d a b (Pattern m us) (Pattern n vs) p q h k = gives_choose (nat_lt m n) (λ _. right_joined d n vs a b (pattern_is S b n vs q) h k) (λ _. left_joined d m us a b (pattern_is S a m us p) h k)
      sides_joined d a b (Pattern m us) (Flexible n) p q h k = left_joined d m us a b (pattern_is S a m us p) h k
      sides_joined d a b (Pattern m us) Rigid p q h k = left_joined d m us a b (pattern_is S a m us p) h k
      sides_joined d a b (Flexible m) (Pattern n vs) p q h k = right_joined d n vs a b (pattern_is S b n vs q) h k
      sides_joined d a b Rigid (Pattern n vs) p q h k = right_joined d n vs a b (pattern_is S b n vs q) h k
      sides_joined d a b (Flexible m) (Flexible n) p q h k = gives_refuse _
      sides_joined d a b (Flexible m) Rigid p q h k = gives_refuse _
      sides_joined d a b Rigid (Flexible n) p q h k = gives_refuse _
      sides_joined d a b Rigid Rigid p q h k = parts_joined d a b h k

      forms_joined : (d : ℕ) (a b : Term) → Known (cut (rules_metas S) Δ X) a → Known (cut (rules_metas S) Δ X) b → Gives (Joined Δ S X a b) (unify_forms Δ unify S d a b)
      forms_joined d a b h k = gives_choose (have_same_goal (side S a) (side S b)) (λ _. parts_joined d a b h k) (λ _. sides_joined d a b (side S a) (side S b) refl refl h k)

      -- a weak head form
      IsForm : Term → Term → Type 0
      IsForm t t' = Known (cut (rules_metas S) Δ X) t' × Equal (cut (rules_metas S) Δ X) t t'

      form_given : (t : Term) → Known (cut (rules_metas S) Δ X) t → (n left : ℕ) (t' : Term) → whnf (reach Δ S) t n ≡ kernel.Gave t' left → IsForm t t'
      unfolding IsForm
      form_given t h n left t' e = form_in_cut Δ (rules_metas S) X ok t t' n left h (transport (λ E. whnf E t n ≡ kernel.Gave t' left) (reach_is Δ S) e)

      reduced_joined : (d : ℕ) (a b : Term) → Known (cut (rules_metas S) Δ X) a → Known (cut (rules_metas S) Δ X) b → Gives (Joined Δ S X a b) (unify_reduced Δ unify S d a b)
      unfolding IsForm
      reduced_joined d a b h k =
          gives_bind (gives_kernel _ (form_given a h)) (λ a' i. gives_bind (gives_kernel _ (form_given b k)) (λ b' j. gives_less (λ Z r. record {
            legal = r.legal;
            extend = r.extend;
            equal = transitive (equal_later Δ S Z X ok r.legal r.extend a a' i.1) (transitive r.equal (symmetric (equal_later Δ S Z X ok r.legal r.extend b b' j.1)));
            moved = r.moved;
          }) (forms_joined d a' b' i.0 j.0)))

      step_joined : (d : ℕ) (a b : Term) → Known (cut (rules_metas S) Δ X) a → Known (cut (rules_metas S) Δ X) b → Gives (Joined Δ S X a b) (unify_step Δ unify S d a b)
      step_joined d a b h k =
          gives_choose (same a b) (λ e. gives_pure S (joined_itself Δ S X a b ok (transport (Equal (cut (rules_metas S) Δ X) a) (same_is a b e) reflexive))) (λ _. gives_spend (gives_choose (are_twins (reach Δ S) a b) (λ e. gives_or_else (alike_joined d a b h k (and_right (is_defined_at_head (reach Δ S) a) _ e)) (λ r. reduced_joined d a b h k)) (λ _. reduced_joined d a b h k)))

  deep_joins : (g : ℕ) → Joins Δ (unify_deep Δ g)
  deep_joins zero S X d a b ok h k = step_joined (λ metas d a b n. OutOfFuel) (λ S X d a b ok h k. gives (λ n left x e. absurd cc)) S X ok d a b h k
  deep_joins (suc g) S X d a b ok h k = step_joined (λ metas d a b. unify_deep Δ g metas d a b) (λ S X d a b ok h k. deep_joins g S X d a b ok h k) S X ok d a b h k

  pub unify_joins : Joins Δ (unify Δ)
  unify_joins S X d a b ok h k = gives (λ n left x e. given (deep_joins n S X d a b ok h k) n left x e)

  -- with the cut to the two terms
  pub unified : (S Z : Plain) (d n left : ℕ) (a b : Term) → IsLegalMetas Δ (rules_metas S) → Known (reach Δ S) a → Known (reach Δ S) b → unify Δ S d a b n ≡ Gave Z left → Joined Δ S (none ▹ a ▹ b) a b Z
  unified S Z d n left a b ok h k e =
      let X : Terms = none ▹ a ▹ b in
      given (unify_joins S X d a b ok (known_in_cut Δ (rules_metas S) X ok a (transport (λ E. Known E a) (reach_is Δ S) h) (λ j w. direct (or_left (occurs j a) (occurs j b) w))) (known_in_cut Δ (rules_metas S) X ok b (transport (λ E. Known E b) (reach_is Δ S) k) (λ j w. direct (or_right (occurs j a) (occurs j b) w)))) n left Z e

  -- with the cut to the metavariable and the value
  pub settled : (S Z : Plain) (m n left : ℕ) (d : Decl Term) (v : Term) → IsLegalMetas Δ (rules_metas S) → slice_get S m ≡ Some d → settle Δ S m v n ≡ Gave Z left → Settled Δ S (none ▹ Meta m none ▹ v) m d v Z
  settled S Z m n left d v ok p e =
      let X : Terms = none ▹ Meta m none ▹ v in
      let h = settled_sound Δ (unify Δ) unify_joins S X m d v ok p (direct (or_left (nat_eq m m || false) (occurs m v) (or_left (nat_eq m m) false (eq-eqb m m refl)))) (λ k w. direct (or_right (nat_eq m k || false) (occurs k v) w)) in
      given h n left Z (transport (λ o. settled_by Δ (unify Δ) S m v o n ≡ Gave Z left) p e)

pub unifying_is_sound : UnifyingIsSound
unifying_is_sound Δ S Z d n left a b ok h k e = let j = unified Δ S Z d n left a b ok h k e in (j.legal, j.extend, j.equal)

pub settling_is_sound : SettlingIsSound
settling_is_sound Δ S Z m n left d v ok k p e = let w = settled Δ S Z m n left d v ok p e in (w.legal, w.extend, w.now)
