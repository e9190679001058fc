-- What `have`, `assumption`, `change` and `unfold` give, on an open goal of legal metavariables, and so each move: legal metavariables, of
-- which only dependencies of the goal's declaration have got values; and new goals, each once.
use Rattle.std.proofs.Common.{◌≡◌, ℕ, zero, suc, ◌<◌, ◌≤◌, List, [], ◌∷◌, length, All, not, nat_eq, false, ◌||◌, ◌==◌, Option, Some, None, option_map, option_and_then, refl, sym, ap, subst, arith}
use Rattle.std.specs.Prelude.{slice_get}
use Rattle.std.proofs.lemmas.Option.{same_Some}
use Rattle.std.proofs.lemmas.List.Elements.{All-nil}
use Rattle.ld_trees.specs.Term.{Head, Term, Star, Square, Var, App, Lam, none, ◌▹◌, count}
use Rattle.ld_trees.specs.Substitution.{weaken}
use Rattle.ld_rules.specs.Environment.{Ctx, Env, type_at}
use Rattle.ld_rules.specs.Scoping.{ContextScoped, AllKnown}
use Rattle.ld_rules.specs.ScopedItems.{IsScopedAt, EachHead, EachHeadOfAll}
use Rattle.ld_rules.proofs.KnownConstants.{known_rename, judgements_are_scoped}
use Rattle.ld_rules.proofs.ScopedTerms.{weaken_scoped}
use Rattle.ld_confluence.proofs.Heads.{each_rename}
use Rattle.ld_terms.specs.Items.{item_named}
use Rattle.ld_terms.specs.declared.globals.Local.{Local}
use Rattle.ld_terms.specs.declared.globals.Item.{Item}
use Rattle.ld_terms.specs.declared.globals.Decl.{Decl}
use Rattle.term_syntax.specs.Lex.{Text}
use Rattle.term_syntax.specs.declared.surface.Surface.{Surface}
use Rattle.move_text.specs.declared.moves.Move.{Move}
use Rattle.move_text.specs.declared.moves.Move.TheVariants as move
use Rattle.meta_context.specs.Declaring.{IsOpen}
use Rattle.meta_context.specs.Plain.{rules_ctx, rules_env}
use Rattle.meta_laws.specs.Cut.{cut as cut_env}
use Rattle.meta_laws.specs.Legality.{IsLegalMetas}
use Rattle.goal_state.specs.State.{rules_metas, AreDistinct}
use Rattle.goal_state.specs.Following.{Extend}
use Rattle.unification.specs.Steps.{Gave, spend_each}
use Rattle.unification.specs.Refusals.{Plain}
use Rattle.unification.specs.Metavariables.{reach, declared}
use Rattle.unification.specs.Patterns.{over_all}
use Rattle.unification.specs.Laws.{declared_terms, IsNear}
use Rattle.unification.proofs.Gives.{Gives, given, gives_pure, gives_refuse, gives_bind, gives_then, gives_any, gives_demand, gives_less, gives_or_else}
use Rattle.unification.proofs.Reach.{all_known_extends}
use Rattle.elaboration.specs.Elaboration.{Work, Made, AsType, started, standing, with_metas, check_type}
use Rattle.elaboration.specs.Laws.{IsNew}
use Rattle.elaboration.proofs.Renamed.{gives_renamed}
use Rattle.elaboration.proofs.Reach.{cut_below_reach}
use Rattle.elaboration.proofs.Standing.{InSet, UnifiesWithin, IsGood, HasContext, HasTerm, IsAfter, term_grows, new_grows}
use Rattle.elaboration.proofs.Calls.{has_abstraction, has_application, unify_gives, new_after, new_number, new_term}
use Rattle.elaboration.proofs.Nodes.{IsDone, elaborate_gives}
use Rattle.elaboration.proofs.Sound.{unifies_within}
use Rattle.move_set.specs.Refusals.{Refusal, NameTaken, NoAssumption, NotDefined, NoOccurrence, from_elaboration, from_unification}
use Rattle.move_set.specs.Asked.{first_asked}
use Rattle.move_set.specs.Replacing.{occurrences, replaced}
use Rattle.move_set.specs.Moves.{Moved, has_entry, body_or, opened, none_open, cut_over, cut, cut_by, have, fitting, first_fitting, assumption, restated, change_to, change, target, unfold_by, unfold_constant, step}
use Rattle.move_set.proofs.Advancing.{Advances, alone, fresh, begins, context, wanted, goal_open, settled_gives, declared_gives, context_in, extended_gives, intro_gives, refine_gives, exact_gives, apply_to_gives}
use Rattle.move_set.proofs.Unfolded.{opened_has}

-- two numbers
both : (P : ℕ → Type 0) (x y : ℕ) → P x → P y → All P (x ∷ y ∷ [])
both P x y h k zero e l = h
both P x y h k (suc zero) e l = k
both P x y h k (suc (suc i)) e l = absurd (omega arith)

apart : (x y : ℕ) → x < y → AreDistinct (x ∷ y ∷ [])
apart x y l = (ap (λ b. b || false) (differ x y l), (refl, tt))
  where
    differ : (x y : ℕ) → x < y → nat_eq y x ≡ false
    differ x y l = grind arith

-- the type of an entry of a scoped context
module _ (E : Env) (P : Head → Type 0) where
  record IsEntry (Γ : Ctx) (i : ℕ) (T : Term) : Type 0 where
    pub scoped : IsScopedAt E (count Γ) T
    pub inside : EachHead P T
    pub below : i < count Γ

  next_entry : (Γ : Ctx) (A : Term) (i : ℕ) (T : Term) → IsEntry Γ i T → IsEntry (Γ ▹ A) (suc i) (weaken T)
  next_entry Γ A i T h = record { scoped = (weaken_scoped T (count Γ) h.scoped.0, known_rename E T suc h.scoped.1); inside = each_rename P T suc h.inside; below = (let l = h.below in omega arith) }

  entry_type : (Γ : Ctx) (i : ℕ) (T : Term) → ContextScoped Γ → AllKnown E Γ → EachHeadOfAll P Γ → type_at Γ i ≡ Some T → IsEntry Γ i T
  entry_type none i T s k p e = absurd cc
  entry_type (Γ ▹ A) zero T s k p e =
      subst (IsEntry (Γ ▹ A) 0) (same_Some (weaken A) T e) (record { scoped = (weaken_scoped A (count Γ) s.1, known_rename E A suc k.1); inside = each_rename P A suc p.1; below = omega arith })
  entry_type (Γ ▹ A) (suc i) T s k p e = go (type_at Γ i) (λ U q. entry_type Γ i U s.0 k.0 p.0 q) e
    where
      go : (o : Option Term) → ((U : Term) → o ≡ Some U → IsEntry Γ i U) → option_map weaken o ≡ Some T → IsEntry (Γ ▹ A) (suc i) T
      go None f q = absurd cc
      go (Some U) f q = subst (IsEntry (Γ ▹ A) (suc i)) (same_Some (weaken U) T q) (next_entry Γ A i U (f U refl))

body_gives : (r : Refusal) (o : Option Term) → Gives (λ M. o ≡ Some M) (body_or r o)
body_gives r None = gives_refuse r
body_gives r (Some M) = gives_pure M refl

opened_gives : (a : Text) (M t : Term) → Gives (λ A. A ≡ replaced a M t) (opened a M t)
opened_gives a M t = gives_then (gives_any (spend_each (occurrences a t))) (λ u h. gives_demand (not (occurrences a t == 0)) (NoOccurrence a) (λ some. gives_pure (replaced a M t) refl))

module _ (items : List (Item Term)) (base : Plain) (g : ℕ) (d : Decl Term) (there : slice_get base g ≡ Some d) (unset : d.value ≡ None) (ok : IsLegalMetas (rules_env items) (rules_metas base)) where
  abbrev Δ : Env
  Δ = rules_env items

  abbrev D : ℕ → Type 0
  D = IsNear base (declared_terms d)

  abbrev n : ℕ
  n = count (rules_ctx d.ctx)

  abbrev later : (k : ℕ) → length base ≤ k → D k
  later = fresh items base g d there unset ok

  abbrev within : UnifiesWithin Δ D
  within = unifies_within items D

  abbrev Good : Work → Type 0
  Good w = IsGood items base D w

  abbrev Has : Plain → ℕ → Term → Type 0
  Has metas i t = HasTerm items base D metas i t

  abbrev Moves : Moved → Type 0
  Moves r = Advances items base g d there unset ok r

  abbrev start : Good (started items base)
  start = begins items base g d there unset ok

  abbrev goal : Has base n d.ty
  goal = wanted items base g d there unset ok

  abbrev own_context : (w : Work) → Good w → HasContext items base D w.metas d.ctx
  own_context w h = context_in items base g d there unset ok w h

  -- ---- one more metavariable

  record IsMore (w : Work) (Γ : List (Local Term)) (more : Plain) : Type 0 where
    pub after : IsAfter items base D w (with_metas more w)
    pub number : IsNew base more (length w.metas)
    pub term : Has more (count (rules_ctx Γ)) (over_all (length w.metas) (length Γ))

  more_gives : (w : Work) (Γ : List (Local Term)) (A : Term) → Good w → HasContext items base D w.metas Γ → Has w.metas (count (rules_ctx Γ)) A → Gives (IsMore w Γ) (declared Δ w.metas Γ A)
  more_gives w Γ A h ctx t =
      gives_less (λ more s. subst (IsMore w Γ) (sym s.0) (record {
        after = new_after items base D later within w Γ A h ctx t s.1;
        number = new_number items base D later within w Γ A h ctx t;
        term = new_term items base D later within w Γ A h ctx t;
      })) (declared_gives items base g d there unset ok w.metas Γ A)

  -- ---- `change`

  check_type_gives : (t : Surface) → Gives (λ m. IsDone items base D later within AsType (started items base) n m) (check_type items base d.ctx t)
  check_type_gives t = elaborate_gives items base D later within t AsType (started items base) (standing items d.ctx) start (context items base g d there unset ok) tt

  restated_gives : (w : Work) (A : Term) (holes : List (ℕ × ℕ)) → Good w → Has w.metas n A → Gives Moves (restated items base g d w.metas A holes)
  restated_gives w A holes h t =
      gives_bind (gives_renamed from_unification (more_gives w d.ctx A h (own_context w h) t)) (λ more s.
      settled_gives items base g d there unset ok (with_metas more w) (over_all (length w.metas) (length d.ctx)) (length w.metas ∷ []) holes s.after.good s.term (alone (IsNew base more) (length w.metas) s.number) (refl, tt))

  change_to_gives : (t : Surface) → Gives Moves (change_to items base g d t)
  change_to_gives t = gives_bind (gives_renamed from_elaboration (check_type_gives t)) (λ m s. restated_gives m.work m.term m.work.holes s.made.after.good s.made.term)

  change_gives : (t : Surface) → Gives Moves (change items base g d t)
  change_gives t = gives_then (gives_any (none_open (first_asked t))) (λ u h. change_to_gives t)

  -- ---- `have`

  cut_over_gives : (w : Work) (more : Plain) (Γ : List (Local Term)) (A : Term) (holes : List (ℕ × ℕ)) → IsMore w d.ctx more → Has w.metas n A → HasContext items base D more Γ → rules_ctx Γ ≡ rules_ctx d.ctx ▹ A
      → Gives Moves (cut_over items base g d w.metas more Γ A holes)
  cut_over_gives w more Γ A holes a t ctx whole =
      let v : Work = with_metas more w in
      let longer_by : suc n ≡ count (rules_ctx Γ) = sym (ap count whole) in
      let type : Has more n d.ty = term_grows items base D base more n d.ty a.after.good.metas.extend goal in
      let weak : Has more (suc n) (weaken d.ty) = record { scoped = (weaken_scoped d.ty n type.scoped.0, known_rename (reach Δ more) d.ty suc type.scoped.1); inside = each_rename (InSet D) d.ty suc type.inside } in
      gives_bind (gives_renamed from_unification (more_gives v Γ (weaken d.ty) a.after.good ctx (subst (λ i. Has more i (weaken d.ty)) longer_by weak))) (λ second b.
      let extend : Extend more second = b.after.extend in
      let body : Has second (suc n) (over_all (length more) (length Γ)) = subst (λ i. Has second i (over_all (length more) (length Γ))) (sym longer_by) b.term in
      let domain : Has second n A = term_grows items base D more second n A extend (term_grows items base D w.metas more n A a.after.extend t) in
      let function = has_abstraction items base D later within second n A (over_all (length more) (length Γ)) domain body in
      let argument : Has second n (over_all (length w.metas) (length d.ctx)) = term_grows items base D more second n (over_all (length w.metas) (length d.ctx)) extend a.term in
      let value = has_application items base D later within second n (Lam A (over_all (length more) (length Γ))) (over_all (length w.metas) (length d.ctx)) function argument in
      let first_new : IsNew base second (length w.metas) = new_grows items base D more second (length w.metas) extend a.number in
      settled_gives items base g d there unset ok (with_metas second v) (App (Lam A (over_all (length more) (length Γ))) (over_all (length w.metas) (length d.ctx))) (length w.metas ∷ length more ∷ []) holes b.after.good value
      (both (IsNew base second) (length w.metas) (length more) first_new b.number) (apart (length w.metas) (length more) a.number.declared))

  cut_gives : (w : Work) (x : Text) (A : Term) (holes : List (ℕ × ℕ)) → Good w → Has w.metas n A → Gives Moves (cut items base g d w.metas x A holes)
  cut_gives w x A holes good t =
      gives_bind (gives_renamed from_unification (more_gives w d.ctx A good (own_context w good) t)) (λ more a.
      gives_bind (gives_renamed from_unification (extended_gives items base g d there unset ok (with_metas more w) a.after.good x A (term_grows items base D w.metas more n A a.after.extend t))) (λ Γ c.
      cut_over_gives w more Γ A holes a t c.0 c.1))

  cut_by_gives : (x : Text) (t : Surface) → Gives Moves (cut_by items base g d x t)
  cut_by_gives x t = gives_bind (gives_renamed from_elaboration (check_type_gives t)) (λ m s. cut_gives m.work x m.term m.work.holes s.made.after.good s.made.term)

  have_gives : (x : Text) (t : Surface) → Gives Moves (have items base g d x t)
  have_gives x t = gives_demand (not (has_entry d.ctx x)) (NameTaken x) (λ free. gives_then (gives_any (none_open (first_asked t))) (λ u h. cut_by_gives x t))

  -- ---- `assumption`

  record Fits (p : ℕ × Plain) : Type 0 where
    pub after : IsAfter items base D (started items base) (with_metas p.1 (started items base))
    pub term : Has p.1 n (Var p.0)

  entry : (i : ℕ) (A : Term) → type_at (rules_ctx d.ctx) i ≡ Some A → IsEntry (reach Δ base) (InSet D) (rules_ctx d.ctx) i A
  entry i A e =
      let c = context items base g d there unset ok in
      let s = judgements_are_scoped (cut_env (rules_metas base) Δ (rules_ctx d.ctx)) (rules_ctx d.ctx) Star Square c.legal in
      entry_type (reach Δ base) (InSet D) (rules_ctx d.ctx) i A s.0 (all_known_extends (cut_env (rules_metas base) Δ (rules_ctx d.ctx)) (reach Δ base) (cut_below_reach items base ok (rules_ctx d.ctx)) (rules_ctx d.ctx) s.1) c.inside e

  fitting_gives : (i : ℕ) (o : Option Term) → type_at (rules_ctx d.ctx) i ≡ o → Gives Fits (fitting items base g d i o)
  fitting_gives i None e = gives_refuse NoAssumption
  fitting_gives i (Some A) e =
      let h = entry i A e in
      gives_bind (gives_renamed from_unification (unify_gives items base D later within (started items base) (length d.ctx) n n A d.ty start (record { scoped = h.scoped; inside = h.inside }) goal)) (λ more s.
      gives_pure (i, more) (record { after = s; term = record { scoped = (h.below, tt); inside = tt } }))

  first_gives : (i k : ℕ) → Gives Fits (first_fitting items base g d i k)
  first_gives i zero = gives_refuse NoAssumption
  first_gives i (suc k) = gives_or_else (fitting_gives i (type_at (rules_ctx d.ctx) i) refl) (λ r. first_gives (suc i) k)

  assumption_gives : Gives Moves (assumption items base g d)
  assumption_gives =
      gives_bind (first_gives 0 (length d.ctx)) (λ (i, more) s. settled_gives items base g d there unset ok (with_metas more (started items base)) (Var i) [] [] s.after.good s.term (All-nil (IsNew base more)) tt)

  -- ---- `unfold`

  unfold_by_gives : (a : Text) (M : Term) → option_and_then (λ (i : Item Term). i.body) (item_named items a) ≡ Some M → Gives Moves (unfold_by items base g d a M)
  unfold_by_gives a M e =
      gives_bind (opened_gives a M (target items base g d)) (λ A s. restated_gives (started items base) A [] start (subst (Has base n) (sym s) (opened_has items base ok D start.metas.closed a M e n d.ty goal)))

  unfold_gives : (a : Text) → Gives Moves (unfold_constant items base g d a)
  unfold_gives a = gives_bind (body_gives (NotDefined a) (option_and_then (λ (i : Item Term). i.body) (item_named items a))) (unfold_by_gives a)

  -- ---- the goal is open before it is settled

  pub open_when_typed : (t : Surface) (m : Made) (units left : ℕ) → check_type items base d.ctx t units ≡ Gave m left → IsOpen m.work.metas g
  open_when_typed t m units left e = let s = given (check_type_gives t) units left m e in goal_open items base g d there unset ok m.work s.made.after.good

  pub open_when_fitted : (i k units left : ℕ) (p : ℕ × Plain) → first_fitting items base g d i k units ≡ Gave p left → IsOpen p.1 g
  open_when_fitted i k units left p e = let s = given (first_gives i k) units left p e in goal_open items base g d there unset ok (with_metas p.1 (started items base)) s.after.good

  -- ---- each move

  pub step_gives : (m : Move) → Gives Moves (step items base g d m)
  step_gives (move.Intro x) = intro_gives items base g d there unset ok x
  step_gives (move.Exact t) = exact_gives items base g d there unset ok t
  step_gives (move.Refine t) = refine_gives items base g d there unset ok t
  step_gives (move.Apply t) = apply_to_gives items base g d there unset ok t
  step_gives (move.Have x t) = have_gives x t
  step_gives move.Assumption = assumption_gives
  step_gives (move.Change t) = change_gives t
  step_gives (move.Unfold a) = unfold_gives a
