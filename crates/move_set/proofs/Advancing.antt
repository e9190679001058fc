-- What `intro`, `refine`, `exact` and `apply` give, on an open goal of legal metavariables: legal metavariables, of which only dependencies
-- of the goal's declaration have got values; and new goals, each once.
use Rattle.std.proofs.Common.{◌≡◌, ℕ, zero, suc, ◌<◌, ◌≤◌, List, [], ◌∷◌, ◌++◌, length, All, not, Some, None, option_map, refl, sym, ap, ◌∙◌, subst, arith, inl, inr, append_assoc}
use Rattle.std.specs.Prelude.{slice_get}
use Rattle.std.proofs.lemmas.Option.{slice_get_within}
use Rattle.std.proofs.lemmas.List.{append-nil}
use Rattle.std.proofs.lemmas.List.Elements.{All-append, All-nil}
use Rattle.ld_trees.specs.Term.{Numbered, Term, Srt, Var, App, Lam, Pi, Con, none, ◌▹◌, count}
use Rattle.ld_trees.specs.Substitution.{subst_all}
use Rattle.ld_rules.specs.Environment.{Env}
use Rattle.ld_rules.specs.Legality.{IsLegal}
use Rattle.ld_rules.specs.ScopedItems.{EachHeadOfAll, IsScopedItem}
use Rattle.ld_rules.proofs.ScopedItems.{one_put_in}
use Rattle.ld_confluence.specs.Agreement.{AgreeOn}
use Rattle.ld_confluence.proofs.Heads.{each_arguments}
use Rattle.ld_terms.specs.declared.globals.Local.{Local}
use Rattle.ld_terms.specs.declared.globals.Item.{Item}
use Rattle.ld_terms.specs.declared.globals.Decl.{Decl}
use Rattle.ld_terms.proofs.Arguments.{terms_of_end}
use Rattle.term_syntax.specs.Lex.{Text}
use Rattle.term_syntax.specs.declared.surface.Surface.{Surface}
use Rattle.conversion.specs.Globals.{decl_tree}
use Rattle.conversion.specs.Runs as kernel
use Rattle.conversion.specs.WeakHead.{whnf}
use Rattle.conversion.proofs.ScopedForms.{whnf_is_scoped}
use Rattle.kernel_check.specs.Inference.{infer_sort}
use Rattle.meta_trees.specs.Dependencies.{occurs_in, and_value, Depends, direct}
use Rattle.meta_trees.proofs.Dependencies.{or_left, or_right}
use Rattle.meta_context.specs.Plain.{rules_ctx, rules_env}
use Rattle.meta_context.specs.Stored.{decl_of}
use Rattle.meta_context.specs.Declaring as plain
use Rattle.meta_context.specs.Declaring.{IsOpen}
use Rattle.meta_context.specs.Limits.{is_full, is_too_deep}
use Rattle.meta_laws.specs.Cut.{cut}
use Rattle.meta_laws.specs.Legality.{IsLegalMetas}
use Rattle.meta_laws.proofs.SameConversions.{same_whnf}
use Rattle.meta_laws.proofs.Settling.{extending_is_sound}
use Rattle.meta_laws.proofs.Strengthening.{contexts_are_legal}
use Rattle.goal_state.specs.State.{rules_metas, AreDistinct}
use Rattle.goal_state.specs.Following.{Extend}
use Rattle.unification.specs.Steps.{Gave, OutOfFuel}
use Rattle.unification.specs.Refusals as unification
use Rattle.unification.specs.Refusals.{Plain}
use Rattle.unification.specs.Metavariables.{reach, extended, declared}
use Rattle.unification.specs.Patterns.{over_all}
use Rattle.unification.specs.Unification.{settle}
use Rattle.unification.specs.Laws.{declared_terms, Stays, IsNear}
use Rattle.unification.proofs.Gives.{Gives, gives, given, gives_pure, gives_refuse, gives_bind, gives_then, gives_any, gives_demand, gives_kernel, gives_or_else}
use Rattle.unification.proofs.Reach.{reach_is}
use Rattle.unification.proofs.Declarations.{declares, extend_itself, extend_more, extend_length}
use Rattle.unification.proofs.Sound.{settling_is_sound}
use Rattle.unification.proofs.Footprint.{settling_stays}
use Rattle.elaboration.specs.Elaboration.{Work, Made, Any, Of, started, standing, with_metas, with_goal, synth, check}
use Rattle.elaboration.specs.Laws.{IsNew}
use Rattle.elaboration.proofs.Renamed.{gives_renamed}
use Rattle.elaboration.proofs.Reach.{itself, meta_in, reach_scoped}
use Rattle.elaboration.proofs.Standing.{InSet, IsGood, HasContext, HasTerm, IsAfter, term_grows, context_grows, goals_grow}
use Rattle.elaboration.proofs.Calls.{HasParts, product_has, has_abstraction, has_application, unify_gives, sorted_gives, Sorted, new_after, new_number, new_term}
use Rattle.elaboration.proofs.Nodes.{IsDone, elaborate_gives, distinct_more}
use Rattle.elaboration.proofs.Sound.{each_in_set, all_in_set, near_closed, dependency_in, unifies_within}
use Rattle.move_set.specs.Refusals.{Refusal, NameTaken, NotProduct, from_elaboration, from_unification}
use Rattle.move_set.specs.Applying.{Application, Applies, longer, parts_or, product_of, fitted, applied, apply_step, apply_deep, apply}
use Rattle.move_set.specs.Asked.{first_asked}
use Rattle.move_set.specs.Moves.{Moved, has_entry, none_open, settled, abstracted, intro, refine, exact, apply_to}

pub alone : (P : ℕ → Type 0) (x : ℕ) → P x → All P (x ∷ [])
alone P x h zero e l = h
alone P x h (suc k) e l = absurd (omega arith)

module _ (items : List (Item Term)) (base : Plain) (g : ℕ) (d : Decl Term) (there : slice_get base g ≡ Some d) (unset : d.value ≡ None) (ok : IsLegalMetas (rules_env items) (rules_metas base)) where
  abbrev Δ : Env
  Δ = rules_env items

  -- the metavariables that the goal's declaration depends on, and new ones
  abbrev D : ℕ → Type 0
  D = IsNear base (declared_terms d)

  abbrev n : ℕ
  n = count (rules_ctx d.ctx)

  pub fresh : (k : ℕ) → length base ≤ k → D k
  fresh k l = inl l

  abbrev Good : Work → Type 0
  Good w = IsGood items base D w

  abbrev Has : Plain → ℕ → Term → Type 0
  Has metas i t = HasTerm items base D metas i t

  -- ---- the start

  pub begins : Good (started items base)
  begins = record {
    metas = record { legal = ok; extend = extend_itself base; closed = near_closed items base (declared_terms d) ok; others = λ k l no. refl };
    goals = All-nil (IsNew base base);
    once = tt;
    holes = All-nil (λ h. IsNew base base h.0);
  }

  pub context : HasContext items base D base d.ctx
  context = record {
    legal = contexts_are_legal Δ (rules_metas base) g (decl_of itself d) ok (declares base g d there);
    inside = all_in_set D (rules_ctx d.ctx) (λ k w. inr (direct (or_left (occurs_in k (rules_ctx d.ctx)) _ w)));
  }

  pub wanted : Has base n d.ty
  wanted =
      let s : IsScopedItem (reach Δ base) (decl_tree itself g d) = reach_scoped items base ok (Numbered g) (decl_tree itself g d) (meta_in items base g ∙ ap (option_map (decl_tree itself g)) there) in
      record { scoped = s.ty; inside = each_in_set D d.ty (λ k w. inr (direct (or_right (occurs_in k (rules_ctx d.ctx)) _ w))) }

  -- the goal isn't one of them
  goal_apart : D g → ⊥
  goal_apart (inl l) = let b = slice_get_within base g d there in omega arith
  goal_apart (inr E) = ok.acyclic g (decl_of itself d) (declares base g d there) (subst (λ o. Depends (rules_metas base) (and_value (declared_terms d) (option_map itself o)) g) (sym unset) E)

  pub goal_stays : (w : Work) → Good w → slice_get w.metas g ≡ Some d
  goal_stays w h = h.metas.others g (slice_get_within base g d there) goal_apart ∙ there

  pub goal_open : (w : Work) → Good w → IsOpen w.metas g
  goal_open w h = (d, goal_stays w h, unset)

  -- ---- the end

  -- metavariables in which the goal has a value
  pub record Ended (after : Plain) : Type 0 where
    pub legal : IsLegalMetas Δ (rules_metas after)
    pub extend : Extend base after
    pub others : (k : ℕ) → k < length base → (D k → ⊥) → (k ≡ g → ⊥) → Stays base after k

  pub record Advances (r : Moved) : Type 0 where
    pub ended : Ended r.metas
    pub fresh : All (IsNew base r.metas) r.fresh
    pub once : AreDistinct r.fresh

  settle_gives : (w : Work) (v : Term) → Good w → Has w.metas n v → Gives (λ after. Ended after × Extend w.metas after) (settle Δ w.metas g v)
  settle_gives w v h t = gives (λ units left after e.
      let s = settling_is_sound Δ w.metas after g units left d v h.metas.legal t.scoped.1 (goal_stays w h) e in
      let inside : EachHeadOfAll (InSet D) (declared_terms d ▹ v) = ((context.inside, wanted.inside), t.inside) in (
        record {
          legal = s.0;
          extend = extend_more base w.metas after h.metas.extend s.1;
          others = λ k l no other.
              settling_stays Δ w.metas after g units left k d v h.metas.legal (goal_stays w h) e (let m = extend_length base w.metas h.metas.extend in omega arith) other (λ E. no (dependency_in items D w.metas h.metas.closed inside E))
              ∙ h.metas.others k l no;
        },
        s.1,
      ))

  pub settled_gives : (w : Work) (v : Term) (new : List ℕ) (holes : List (ℕ × ℕ)) → Good w → Has w.metas n v → All (IsNew base w.metas) new → AreDistinct new → Gives Advances (settled items base g d w.metas v new holes)
  settled_gives w v new holes h t are once =
      gives_bind (gives_renamed from_unification (settle_gives w v h t)) (λ after s. gives_pure (record { metas = after; fresh = new; holes = holes }) (record { ended = s.0; fresh = goals_grow items base D w.metas after new s.1 are; once = once }))

  -- ---- parts of products

  form_has : (w : Work) (i : ℕ) (t : Term) → Good w → Has w.metas i t → (units left : ℕ) (F : Term) → whnf (reach Δ w.metas) t units ≡ kernel.Gave F left → Has w.metas i F
  form_has w i t h k units left F e =
      let E = reach Δ w.metas in
      let agree : AgreeOn (InSet D) E E = record { same = λ c i. refl; closed = h.metas.closed } in
      record { scoped = whnf_is_scoped E i t F units left (reach_scoped items w.metas h.metas.legal) k.scoped e; inside = (same_whnf (InSet D) E E agree t k.inside).ensures units left F e }

  abbrev Parts : Plain → ℕ → Term × Term → Type 0
  Parts metas i p = HasParts items base D fresh (unifies_within items D) metas i p

  parts_give : (metas : Plain) (i : ℕ) (r : Refusal) (F : Term) → Has metas i F → Gives (Parts metas i) (parts_or r F)
  parts_give metas i r (Pi A B) h = gives_pure (A, B) (product_has items base D fresh (unifies_within items D) metas i A B h)
  parts_give metas i r (Srt s) h = gives_refuse r
  parts_give metas i r (Var j) h = gives_refuse r
  parts_give metas i r (App f a) h = gives_refuse r
  parts_give metas i r (Lam A M) h = gives_refuse r
  parts_give metas i r (Con c us) h = gives_refuse r

  product_gives : (r : Refusal) (w : Work) (i : ℕ) (T : Term) → Good w → Has w.metas i T → Gives (Parts w.metas i) (product_of Δ r w.metas T)
  product_gives r w i T h k = gives_bind (gives_kernel _ (form_has w i T h k)) (λ F f. parts_give w.metas i r F f)

  -- ---- a further metavariable

  abbrev HasSort : Plain → List (Local Term) → Term → Type 0
  HasSort metas Γ T = Sorted items base D fresh (unifies_within items D) metas Γ T tt

  pub declared_gives : (metas : Plain) (Γ : List (Local Term)) (T : Term) → Gives (λ more. (more ≡ plain.declared Γ T metas) × HasSort metas Γ T) (declared Δ metas Γ T)
  declared_gives metas Γ T =
      gives_demand (not (is_full metas)) unification.TooManyMetas (λ _.
      gives_demand (not (is_too_deep (rules_ctx Γ ▹ T))) (unification.TooDeep (length metas)) (λ _.
      gives_then (sorted_gives items base D fresh (unifies_within items D) metas Γ T) (λ u s. gives_pure (plain.declared Γ T metas) (refl, s))))

  pub context_in : (w : Work) → Good w → HasContext items base D w.metas d.ctx
  context_in w h = context_grows items base D base w.metas d.ctx begins.metas h.metas h.metas.extend context

  -- ---- `intro`

  abbrev entry : Text → Term → Local Term
  entry x A = record { name = x; ty = A }

  pub extended_gives : (w : Work) → Good w → (x : Text) (A : Term) → Has w.metas n A → Gives (λ Γ. HasContext items base D w.metas Γ × (rules_ctx Γ ≡ rules_ctx d.ctx ▹ A)) (extended Δ w.metas d.ctx x A)
  extended_gives w good x A h =
      gives_then (sorted_gives items base D fresh (unifies_within items D) w.metas d.ctx A) (λ u s.
      let Σ = rules_metas w.metas in
      let here = context_in w good in
      let whole : rules_ctx (d.ctx ++ entry x A ∷ []) ≡ rules_ctx d.ctx ▹ A = terms_of_end (λ (l : Local Term). l.ty) d.ctx (entry x A) in
      gives_pure (d.ctx ++ entry x A ∷ []) (
        record {
          legal = subst (λ G. IsLegal (cut Σ Δ G) G) (sym whole)
              (extending_is_sound Δ Σ (rules_ctx d.ctx) A s.0 s.1 s.2 good.metas.legal here.legal (subst (λ E. infer_sort E (rules_ctx d.ctx) A s.1 ≡ kernel.Gave s.0 s.2) (reach_is Δ w.metas) s.3));
          inside = subst (EachHeadOfAll (InSet D)) (sym whole) (here.inside, h.inside);
        },
        whole,
      ))

  abstracted_gives : (A B : Term) (Γ : List (Local Term)) → Parts base n (A, B) → HasContext items base D base Γ → rules_ctx Γ ≡ rules_ctx d.ctx ▹ A → Gives Advances (abstracted items base g d A B Γ)
  abstracted_gives A B Γ p ctx whole =
      let w = started items base in
      let longer_by : suc n ≡ count (rules_ctx Γ) = sym (ap count whole) in
      let type : Has base (count (rules_ctx Γ)) B = subst (λ i. Has base i B) longer_by p.codomain in
      gives_bind (gives_renamed from_unification (declared_gives base Γ B)) (λ more s.
      let final = plain.declared Γ B base in
      let after : IsAfter items base D w (with_metas final w) = new_after items base D fresh (unifies_within items D) w Γ B begins ctx type s.1 in
      let body : Has final (suc n) (over_all (length base) (length Γ)) = subst (λ i. Has final i (over_all (length base) (length Γ))) (sym longer_by) (new_term items base D fresh (unifies_within items D) w Γ B begins ctx type) in
      let value = has_abstraction items base D fresh (unifies_within items D) final n A (over_all (length base) (length Γ)) (term_grows items base D base final n A after.extend p.domain) body in
      let number : IsNew base final (length base) = new_number items base D fresh (unifies_within items D) w Γ B begins ctx type in
      subst (λ m. Gives Advances (settled items base g d m (Lam A (over_all (length base) (length Γ))) (length base ∷ []) [])) (sym s.0)
      (settled_gives (with_metas final w) (Lam A (over_all (length base) (length Γ))) (length base ∷ []) [] after.good value (alone (IsNew base final) (length base) number) (refl, tt)))

  pub intro_gives : (x : Text) → Gives Advances (intro items base g d x)
  intro_gives x =
      gives_demand (not (has_entry d.ctx x)) (NameTaken x) (λ free.
      gives_bind (product_gives NotProduct (started items base) n d.ty begins wanted) (λ (A, B) p.
      gives_bind (gives_renamed from_unification (extended_gives (started items base) begins x A p.domain)) (λ Γ c. abstracted_gives A B Γ p c.0 c.1)))

  -- ---- `refine` and `exact`

  pub check_gives : (t : Surface) → Gives (λ m. IsDone items base D fresh (unifies_within items D) (Of d.ty) (started items base) n m) (check items base d.ctx t d.ty)
  check_gives t = elaborate_gives items base D fresh (unifies_within items D) t (Of d.ty) (started items base) (standing items d.ctx) begins context wanted

  pub refine_gives : (t : Surface) → Gives Advances (refine items base g d t)
  refine_gives t =
      gives_bind (gives_renamed from_elaboration (check_gives t)) (λ m s.
      let good = s.made.after.good in
      settled_gives m.work m.term m.work.goals m.work.holes good s.made.term good.goals good.once)

  pub exact_gives : (t : Surface) → Gives Advances (exact items base g d t)
  exact_gives t = gives_then (gives_any (none_open (first_asked t))) (λ u h. refine_gives t)

  -- ---- `apply`

  pub synth_gives : (t : Surface) → Gives (λ m. IsDone items base D fresh (unifies_within items D) Any (started items base) n m) (synth items base d.ctx t)
  synth_gives t = elaborate_gives items base D fresh (unifies_within items D) t Any (started items base) (standing items d.ctx) begins context tt

  -- a work whose goals are some numbers and then the arguments
  abbrev work_of : List ℕ → Application → Work
  work_of goals a = record { metas = a.metas; goals = goals ++ a.args; holes = [] }

  pub record Applied (goals : List ℕ) (a : Application) : Type 0 where
    pub good : Good (work_of goals a)
    pub term : Has a.metas n a.term
    pub ty : Has a.metas n a.ty

  fitted_gives : (goals : List ℕ) (a : Application) → Applied goals a → Gives (Applied goals) (fitted Δ d a)
  fitted_gives goals a h =
      let w = work_of goals a in
      let type : Has a.metas n d.ty = term_grows items base D base a.metas n d.ty h.good.metas.extend wanted in
      gives_bind (gives_renamed from_unification (unify_gives items base D fresh (unifies_within items D) w (length d.ctx) n n a.ty d.ty h.good h.ty type)) (λ more s.
      gives_pure (record { metas = more; args = a.args; term = a.term; ty = a.ty }) (record { good = s.good; term = term_grows items base D a.metas more n a.term s.extend h.term; ty = term_grows items base D a.metas more n a.ty s.extend h.ty }))

  below_next : (metas : Plain) (xs : List ℕ) → All (IsNew base metas) xs → All (λ x. x < length metas) xs
  below_next metas xs a k e l = (a k e l).declared

  applied_gives : (r : Refusal) (goals : List ℕ) (a : Application) → Applied goals a → Gives (Applied goals) (applied Δ d r a)
  applied_gives r goals a h =
      let w = work_of goals a in
      gives_bind (product_gives r w n a.ty h.good h.ty) (λ (A, B) p.
      gives_bind (gives_renamed from_unification (declared_gives a.metas d.ctx A)) (λ more s.
      let final = plain.declared d.ctx A a.metas in
      let u = over_all (length a.metas) (length d.ctx) in
      let ctx = context_in w h.good in
      let after = new_after items base D fresh (unifies_within items D) w d.ctx A h.good ctx p.domain s.1 in
      let number : IsNew base final (length a.metas) = new_number items base D fresh (unifies_within items D) w d.ctx A h.good ctx p.domain in
      let arg : Has final n u = new_term items base D fresh (unifies_within items D) w d.ctx A h.good ctx p.domain in
      let term = has_application items base D fresh (unifies_within items D) final n a.term u (term_grows items base D a.metas final n a.term after.extend h.term) arg in
      let codomain : Has final (suc n) B = term_grows items base D a.metas final (suc n) B after.extend p.codomain in
      let ty : Has final n (subst_all (none ▹ u) B) = record { scoped = one_put_in (reach Δ final) n u B arg.scoped codomain.scoped; inside = each_arguments (InSet D) (none ▹ u) B (tt, arg.inside) codomain.inside } in
      let made = longer final a.args a.term B (length a.metas) (length d.ctx) in
      let assoc : (goals ++ a.args) ++ length a.metas ∷ [] ≡ goals ++ (a.args ++ length a.metas ∷ []) = append_assoc goals a.args (length a.metas ∷ []) in
      let good : Good (with_goal (length a.metas) (with_metas final w)) = record {
        metas = after.good.metas;
        goals = All-append (IsNew base final) (goals ++ a.args) (length a.metas ∷ []) after.good.goals (alone (IsNew base final) (length a.metas) number);
        once = distinct_more (goals ++ a.args) (length a.metas) (below_next a.metas (goals ++ a.args) h.good.goals) h.good.once;
        holes = All-nil (λ h. IsNew base final h.0);
      } in
      gives_pure (longer more a.args a.term B (length a.metas) (length d.ctx)) (subst (λ m. Applied goals (longer m a.args a.term B (length a.metas) (length d.ctx))) (sym s.0)
      (record { good = subst (λ gs. Good (record { metas = final; goals = gs; holes = [] })) assoc good; term = term; ty = ty }))))

  apply_step_gives : (f : Applies) → ((goals : List ℕ) (a : Application) → Applied goals a → Gives (Applied goals) (f a)) → (goals : List ℕ) (a : Application) → Applied goals a → Gives (Applied goals) (apply_step Δ d f a)
  apply_step_gives f h goals a k = gives_or_else (fitted_gives goals a k) (λ r. gives_bind (applied_gives r goals a k) (λ b l. h goals b l))

  apply_deep_gives : (i : ℕ) (goals : List ℕ) (a : Application) → Applied goals a → Gives (Applied goals) (apply_deep Δ d i a)
  apply_deep_gives zero goals a k = apply_step_gives (λ a n. OutOfFuel) (λ goals a k. gives (λ n l x e. absurd cc)) goals a k
  apply_deep_gives (suc i) goals a k = apply_step_gives (λ a. apply_deep Δ d i a) (apply_deep_gives i) goals a k

  pub apply_gives : (goals : List ℕ) (a : Application) → Applied goals a → Gives (Applied goals) (apply Δ d a)
  apply_gives goals a k = gives (λ units left b e. given (apply_deep_gives units goals a k) units left b e)

  abbrev pub first : Made → Application
  first m = record { metas = m.work.metas; args = []; term = m.term; ty = m.ty }

  pub first_applied : (m : Made) → IsDone items base D fresh (unifies_within items D) Any (started items base) n m → Applied m.work.goals (first m)
  first_applied m s =
      let h = s.made.after.good in
      record {
        good = record { metas = h.metas; goals = subst (All (IsNew base m.work.metas)) (sym (append-nil m.work.goals)) h.goals; once = subst AreDistinct (sym (append-nil m.work.goals)) h.once; holes = All-nil (λ h. IsNew base m.work.metas h.0) };
        term = s.made.term;
        ty = s.made.ty;
      }

  pub apply_to_gives : (t : Surface) → Gives Advances (apply_to items base g d t)
  apply_to_gives t =
      gives_bind (gives_renamed from_elaboration (synth_gives t)) (λ m s.
      gives_bind (apply_gives m.work.goals (first m) (first_applied m s)) (λ a h.
      settled_gives (work_of m.work.goals a) a.term (m.work.goals ++ a.args) m.work.holes h.good h.term h.good.goals h.good.once))

  -- ---- the goal is open before it is settled

  pub open_when_checked : (t : Surface) (m : Made) (units left : ℕ) → check items base d.ctx t d.ty units ≡ Gave m left → IsOpen m.work.metas g
  open_when_checked t m units left e = let s = given (check_gives t) units left m e in goal_open m.work s.made.after.good

  pub open_when_applied : (t : Surface) (m : Made) (units k l left : ℕ) (a : Application) → synth items base d.ctx t units ≡ Gave m k → apply Δ d (first m) l ≡ Gave a left → IsOpen a.metas g
  open_when_applied t m units k l left a e f = let h = given (apply_gives m.work.goals (first m) (first_applied m (given (synth_gives t) units k m e))) l left a f in goal_open (work_of m.work.goals a) h.good
