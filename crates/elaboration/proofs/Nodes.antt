-- What the elaboration of each node gives, where its parts are elaborated well.
use Rattle.std.proofs.Common.{◌≡◌, ℕ, zero, suc, ◌+◌, ◌<◌, ◌≤◌, List, [], ◌∷◌, ◌++◌, length, map, All, Bool, true, false, ◌||◌, nat_eq, ◌==◌, Option, Some, None, option_map, refl, sym, ap, ◌∙◌, subst, arith}
use Rattle.std.proofs.lemmas.Bool.{eqb-true}
use Rattle.std.proofs.lemmas.List.Elements.{All-append}
use Rattle.ld_trees.specs.Term.{Sort, star, Named, Term, Srt, Var, App, Lam, Pi, Con, Star, Square, Const, Terms, none, ◌▹◌, count}
use Rattle.ld_trees.specs.Substitution.{weaken, subst_all}
use Rattle.ld_trees.specs.Scoping.{AllScoped}
use Rattle.ld_rules.specs.Environment.{Ctx, type_at, item_of}
use Rattle.ld_rules.specs.Scoping.{ContextScoped, AllKnown, IsScoped}
use Rattle.ld_rules.specs.ScopedItems.{EachHeadOfAll, AreScoped, IsScopedItem}
use Rattle.ld_rules.proofs.KnownConstants.{judgements_are_scoped}
use Rattle.ld_rules.proofs.ScopedItems.{one_put_in, all_put_in}
use Rattle.ld_confluence.specs.Agreement.{AgreeOn, EachHeadOfItem}
use Rattle.ld_confluence.proofs.Heads.{each_arguments}
use Rattle.ld_terms.specs.Views.{terms_onto}
use Rattle.ld_terms.specs.Items.{item_named}
use Rattle.ld_terms.specs.declared.globals.Local.{Local}
use Rattle.ld_terms.specs.declared.globals.Item.{Item}
use Rattle.term_syntax.specs.Lex.{Text}
use Rattle.term_syntax.specs.Scoping.{index_of, label_text}
use Rattle.term_syntax.specs.declared.surface.Label.{Label}
use Rattle.term_syntax.specs.declared.surface.Surface.{Surface}
use Rattle.term_syntax.specs.declared.surface.Shape.TheOpen.{Shape-F}
use Rattle.conversion.specs.Globals.{item_tree}
use Rattle.conversion.specs.Runs as kernel
use Rattle.conversion.proofs.Always.{Holds}
use Rattle.kernel_check.specs.Inference.{infer, or_not_type}
use Rattle.kernel_check.proofs.ScopedAnswers.{always_infer}
use Rattle.meta_context.specs.Plain.{rules_ctx, rules_env}
use Rattle.meta_laws.specs.Cut.{listed, cut}
use Rattle.meta_laws.proofs.SameInferences.{same_infer}
use Rattle.goal_state.specs.State.{rules_metas, AreDistinct}
use Rattle.goal_state.specs.Following.{Extend}
use Rattle.goal_state.proofs.Means.{count_of_context}
use Rattle.unification.specs.Refusals.{Plain}
use Rattle.unification.specs.Metavariables.{reach}
use Rattle.unification.proofs.Gives.{Gives, gives_pure, gives_refuse, gives_less, gives_bind, gives_then, gives_any, gives_demand, gives_spend}
use Rattle.unification.proofs.Reach.{all_known_extends}
use Rattle.elaboration.specs.Refusals.{Refusal, UnknownName, WrongCount, NotFunction, NotType}
use Rattle.elaboration.specs.Elaboration.{Work, Made, made, Want, Any, Of, AsType, Surroundings, depth_of, Elaborates, with_goal, with_hole, sort_or, sort_of, meet, hole, typed_variable, variable, arguments, constant, applied, application, abstraction, abstraction_of, function, product, node, elaborate}
use Rattle.elaboration.specs.Laws.{IsNew}
use Rattle.elaboration.proofs.Induction.{Each, EachPart, elaborate_has}
use Rattle.elaboration.proofs.Reach.{itself, constant_in, reach_scoped, reach_extends, cut_below_reach}
use Rattle.elaboration.proofs.Standing.{InSet, UnifiesWithin, IsGood, HasContext, HasTerm, HasWant, IsAfter, IsMade, term_grows, context_grows, want_grows, after_itself, after_more, made_more}
use Rattle.elaboration.proofs.Calls.{product_has, has_product, has_abstraction, has_application, parts_or_gives, product_or_gives, reduced_gives, unified_gives, entered_gives, opened_gives}

-- a sort
abbrev pub IsSort : Term → Type 0
IsSort T = (s : Sort) × (T ≡ Srt s)

-- what is found of a type is its sort
abbrev pub IsFound : Want → Term → Type 0
IsFound Any T = Unit {0}
IsFound (Of wanted) T = Unit {0}
IsFound AsType T = IsSort T

-- a variable that has a type is one of the context
within : (Γ : Ctx) (i : ℕ) (T : Term) → type_at Γ i ≡ Some T → i < count Γ
within none i T e = absurd cc
within (Γ ▹ A) zero T e = omega arith
within (Γ ▹ A) (suc i) T e = go (type_at Γ i) (λ U. within Γ i U) e
  where
    go : (o : Option Term) → ((U : Term) → o ≡ Some U → i < count Γ) → option_map weaken o ≡ Some T → suc i < suc (count Γ)
    go None f q = absurd cc
    go (Some U) f q = let l = f U refl in omega arith

-- a number above all others is none of them
listed_before : (n : ℕ) (x : ℕ) (xs : List ℕ) → x < n → listed x xs ≡ false → listed x (xs ++ n ∷ []) ≡ false
listed_before n x [] l e = ap (λ b. b || false) (later n x l)
  where
    later : (n x : ℕ) → x < n → nat_eq n x ≡ false
    later n x l = grind arith
listed_before n x (y ∷ ys) l e = go (nat_eq y x) e (listed_before n x ys l)
  where
    go : (b : Bool) → (b || listed x ys) ≡ false → (listed x ys ≡ false → listed x (ys ++ n ∷ []) ≡ false) → (b || listed x (ys ++ n ∷ [])) ≡ false
    go true e f = absurd cc
    go false e f = f e

pub distinct_more : (xs : List ℕ) (n : ℕ) → All (λ x. x < n) xs → AreDistinct xs → AreDistinct (xs ++ n ∷ [])
distinct_more [] n a d = (refl, tt)
distinct_more (x ∷ xs) n a d = (listed_before n x xs (a 0 x (omega arith)) d.0, distinct_more xs n (λ k e l. a (suc k) e (omega arith)) d.1)

module _ (items : List (Item Term)) (base : Plain) (D : ℕ → Type 0) (fresh : (k : ℕ) → length base ≤ k → D k) (unifies : UnifiesWithin (rules_env items) D) where
  abbrev Good : Work → Type 0
  Good w = IsGood items base D w

  abbrev Context : Work → Surroundings → Type 0
  Context w here = HasContext items base D w.metas here.entries

  abbrev size : Surroundings → ℕ
  size here = count (rules_ctx here.entries)

  abbrev Has : Plain → ℕ → Term → Type 0
  Has metas n t = HasTerm items base D metas n t

  abbrev Wanted : Work → Surroundings → Want → Type 0
  Wanted w here want = HasWant items base D w.metas (size here) want

  pub record IsDone (want : Want) (w : Work) (n : ℕ) (m : Made) : Type 0 where
    pub made : IsMade items base D w n m
    pub found : IsFound want m.ty

  -- a text is elaborated well in both directions and as a type
  abbrev pub Elaborated : Elaborates → Type 0
  Elaborated e = (want : Want) (w : Work) (here : Surroundings) → Good w → Context w here → Wanted w here want → Gives (IsDone want w (size here)) (e want w here)

  sort_has : (metas : Plain) (n : ℕ) (T : Term) → IsSort T → Has metas n T
  sort_has metas n T s = subst (Has metas n) (sym s.1) (record { scoped = (tt, tt); inside = tt })

  -- after more work
  done_more : (want : Want) (w v : Work) (n : ℕ) (m : Made) → IsAfter items base D w v → IsDone want v n m → IsDone want w n m
  done_more want w v n m a h = record { made = made_more items base D w v n m a h.made; found = h.found }

  -- ---- a term with its type comes to what is wanted

  sort_or_sort : (r : Refusal) (T : Term) → Gives IsSort (sort_or r T)
  sort_or_sort r (Srt s) = gives_pure (Srt s) (s, refl)
  sort_or_sort r (Var i) = gives_refuse r
  sort_or_sort r (App f a) = gives_refuse r
  sort_or_sort r (Lam A M) = gives_refuse r
  sort_or_sort r (Pi A B) = gives_refuse r
  sort_or_sort r (Con h us) = gives_refuse r

  sort_gives : (w : Work) (here : Surroundings) (t T : Term) → Gives IsSort (sort_of items w here t T)
  sort_gives w here t (Srt s) = gives_pure (Srt s) (s, refl)
  sort_gives w here t (Var i) = gives_bind (gives_any _) (λ T _. sort_or_sort _ T)
  sort_gives w here t (App f a) = gives_bind (gives_any _) (λ T _. sort_or_sort _ T)
  sort_gives w here t (Lam A M) = gives_bind (gives_any _) (λ T _. sort_or_sort _ T)
  sort_gives w here t (Pi A B) = gives_bind (gives_any _) (λ T _. sort_or_sort _ T)
  sort_gives w here t (Con h us) = gives_bind (gives_any _) (λ T _. sort_or_sort _ T)

  meet_gives : (want : Want) (w : Work) (here : Surroundings) (t T : Term) → Good w → Wanted w here want → Has w.metas (size here) t → Has w.metas (size here) T → Gives (IsDone want w (size here)) (meet items want w here t T)
  meet_gives Any w here t T ok j h k = gives_pure (made w t T) (record { made = record { after = after_itself items base D w ok; term = h; ty = k }; found = tt })
  meet_gives (Of wanted) w here t T ok j h k =
      gives_bind (unified_gives items base D fresh unifies w here (size here) (size here) T wanted ok k j)
      (λ v a. gives_pure (made v t wanted) (record { made = record { after = a; term = term_grows items base D w.metas v.metas (size here) t a.extend h; ty = term_grows items base D w.metas v.metas (size here) wanted a.extend j }; found = tt }))
  meet_gives AsType w here t T ok j h k =
      gives_bind (sort_gives w here t T) (λ s z. gives_pure (made w t s) (record { made = record { after = after_itself items base D w ok; term = h; ty = sort_has w.metas (size here) s z }; found = z }))

  -- a meeting after other work
  met : (want : Want) (w v : Work) (here : Surroundings) (t T : Term) → IsAfter items base D w v → Wanted w here want → Has v.metas (size here) t → Has v.metas (size here) T → Gives (IsDone want w (size here)) (meet items want v here t T)
  met want w v here t T a j h k =
      gives_less (λ m d. done_more want w v (size here) m a d) (meet_gives want v here t T a.good (want_grows items base D w.metas v.metas (size here) want a.extend j) h k)

  context_after : (w v : Work) (here : Surroundings) → Good w → IsAfter items base D w v → Context w here → Context v here
  context_after w v here ok a c = context_grows items base D w.metas v.metas here.entries ok.metas a.good.metas a.extend c

  -- ---- holes

  hole_gives : (at : ℕ) (noted : ℕ → Work → Work) → ((m : ℕ) (v : Work) → (noted m v).metas ≡ v.metas) → ((m : ℕ) (v : Work) → Good v → IsNew base v.metas m → All (λ g. g < m) v.goals → Good (noted m v)) → Elaborated (hole items at noted)
  hole_gives at noted same note Any w here ok c j = gives_refuse _
  hole_gives at noted same note (Of T) w here ok c j =
      gives_less (λ m h. record { made = h.0; found = tt }) (opened_gives items base D fresh unifies noted same note T w here ok c j)
  hole_gives at noted same note AsType w here ok c j =
      gives_less (λ m h. record { made = h.0; found = (star, h.1) }) (opened_gives items base D fresh unifies noted same note Star w here ok c (record { scoped = (tt, tt); inside = tt }))

  alone : {X : Type 0} (P : X → Type 0) (x : X) → P x → All P (x ∷ [])
  alone P x h zero d l = h
  alone P x h (suc k) d l = absurd (omega arith)

  goal_noted : (m : ℕ) (v : Work) → Good v → IsNew base v.metas m → All (λ g. g < m) v.goals → Good (with_goal m v)
  goal_noted m v ok new below = record { metas = ok.metas; goals = All-append (IsNew base v.metas) v.goals (m ∷ []) ok.goals (alone (IsNew base v.metas) m new); once = distinct_more v.goals m below ok.once; holes = ok.holes }

  hole_noted : (at m : ℕ) (v : Work) → Good v → IsNew base v.metas m → All (λ g. g < m) v.goals → Good (with_hole at m v)
  hole_noted at m v ok new below =
      let Q : ℕ × ℕ → Type 0 = λ h. IsNew base v.metas h.0 in
      record { metas = ok.metas; goals = ok.goals; once = ok.once; holes = All-append Q v.holes ((m, at) ∷ []) ok.holes (alone Q (m, at) new) }

  -- ---- variables

  typed_gives : (i : ℕ) (r : Refusal) (w : Work) (here : Surroundings) (o : Option Term) → type_at (rules_ctx here.entries) i ≡ o → (want : Want) → Good w → Context w here → Wanted w here want → Gives (IsDone want w (size here)) (typed_variable items i r o want w here)
  typed_gives i r w here None e want ok c j = gives_refuse r
  typed_gives i r w here (Some T) e want ok c j = meet_gives want w here (Var i) T ok j (record { scoped = (below, tt); inside = tt }) typed
    where
      below : i < size here
      below = within (rules_ctx here.entries) i T e

      standing : AreScoped (reach (rules_env items) w.metas) (rules_ctx here.entries)
      standing =
          let s = judgements_are_scoped (cut (rules_metas w.metas) (rules_env items) (rules_ctx here.entries)) (rules_ctx here.entries) Star Square c.legal in
          record {
            items = reach_scoped items w.metas ok.metas.legal;
            entries = s.0;
            entries_known = all_known_extends (cut (rules_metas w.metas) (rules_env items) (rules_ctx here.entries)) (reach (rules_env items) w.metas) (cut_below_reach items w.metas ok.metas.legal (rules_ctx here.entries)) (rules_ctx here.entries) s.1;
          }

      inferred : infer (reach (rules_env items) w.metas) (rules_ctx here.entries) (Var i) 1 ≡ kernel.Gave T 0
      inferred = ap (λ o. or_not_type (rules_ctx here.entries) (Var i) o 0) e

      typed : Has w.metas (size here) T
      typed =
          let E = reach (rules_env items) w.metas in
          let agree : AgreeOn (InSet D) E E = record { same = λ h i. refl; closed = ok.metas.closed } in
          record {
            scoped = subst (Holds (IsScoped E (rules_ctx here.entries)) _) inferred (always_infer E (rules_ctx here.entries) (Var i) standing (below, tt) 1);
            inside = (same_infer (InSet D) E E agree (rules_ctx here.entries) (Var i) c.inside tt).ensures 1 0 T inferred;
          }

  variable_gives : (r : Refusal) (o : Option ℕ) → Elaborated (variable items r o)
  variable_gives r None want w here ok c j = gives_refuse r
  variable_gives r (Some i) want w here ok c j = typed_gives i r w here (type_at (rules_ctx here.entries) i) refl want ok c j

  -- ---- constants

  record HaveTerms (metas : Plain) (n : ℕ) (vs : Terms) : Type 0 where
    scoped : AllScoped n vs
    known : AllKnown (reach (rules_env items) metas) vs
    inside : EachHeadOfAll (InSet D) vs

  terms_grow : (metas after : Plain) (n : ℕ) (vs : Terms) → Extend metas after → HaveTerms metas n vs → HaveTerms after n vs
  terms_grow metas after n vs extend h = record {
    scoped = h.scoped;
    known = all_known_extends (reach (rules_env items) metas) (reach (rules_env items) after) (reach_extends items metas after extend) vs h.known;
    inside = h.inside;
  }

  -- arguments put in
  put_in : (metas : Plain) (n : ℕ) (vs : Terms) (t : Term) → HaveTerms metas n vs → Has metas (count vs) t → Has metas n (subst_all vs t)
  put_in metas n vs t h k = record { scoped = all_put_in (reach (rules_env items) metas) n vs t h.scoped h.known k.scoped; inside = each_arguments (InSet D) vs t h.inside k.inside }

  -- the types of parameters, each in the ones before it
  HaveTypes : Plain → ℕ → List (Local Term) → Type 0
  HaveTypes metas n [] = Unit {0}
  HaveTypes metas n (l ∷ ls) = Has metas n l.ty × HaveTypes metas (suc n) ls

  types_grow : (metas after : Plain) (n : ℕ) (ls : List (Local Term)) → Extend metas after → HaveTypes metas n ls → HaveTypes after n ls
  unfolding HaveTypes
  types_grow metas after n [] extend h = tt
  types_grow metas after n (l ∷ ls) extend h = (term_grows items base D metas after n l.ty extend h.0, types_grow metas after (suc n) ls extend h.1)

  types_onto : (metas : Plain) (us : Terms) (ls : List (Local Term)) → (let ps = terms_onto us (map (λ (l : Local Term). l.ty) ls) in ContextScoped ps × AllKnown (reach (rules_env items) metas) ps × EachHeadOfAll (InSet D) ps)
      → (ContextScoped us × AllKnown (reach (rules_env items) metas) us × EachHeadOfAll (InSet D) us) × HaveTypes metas (count us) ls
  unfolding HaveTypes
  types_onto metas us [] h = (h, tt)
  types_onto metas us (l ∷ ls) h =
      let r = types_onto metas (us ▹ l.ty) ls h in
      ((r.0.0.0, r.0.1.0, r.0.2.0), (record { scoped = (r.0.0.1, r.0.1.1); inside = r.0.2.1 }, r.1))

  record HasArguments (w : Work) (n many : ℕ) (r : Work × Terms) : Type 0 where
    after : IsAfter items base D w r.0
    terms : HaveTerms r.0.metas n r.1
    counted : count r.1 ≡ many

  arguments_more : (w v : Work) (n many more : ℕ) (r : Work × Terms) → IsAfter items base D w v → many ≡ more → HasArguments v n many r → HasArguments w n more r
  arguments_more w v n many more r a e h = record { after = after_more items base D w v r.0 a h.after; terms = h.terms; counted = h.counted ∙ e }

  arguments_give : (us : List Elaborates) → Each Elaborated us → (ls : List (Local Term)) → length us ≡ length ls → (so_far : Terms) (w : Work) (here : Surroundings) → Good w → Context w here → HaveTypes w.metas (count so_far) ls → HaveTerms w.metas (size here) so_far
      → Gives (HasArguments w (size here) (count so_far + length ls)) (arguments items us ls so_far w here)
  unfolding HaveTypes
  arguments_give [] us_good [] e so_far w here ok c hl hd = gives_pure (w, so_far) (record { after = after_itself items base D w ok; terms = hd; counted = omega arith })
  arguments_give [] us_good (l ∷ ls) e so_far w here ok c hl hd = absurd (omega (arith, e))
  arguments_give (u ∷ us) us_good [] e so_far w here ok c hl hd = absurd (omega (arith, e))
  arguments_give (u ∷ us) us_good (l ∷ ls) e so_far w here ok c hl hd =
      gives_bind (us_good.0 (Of (subst_all so_far l.ty)) w here ok c (put_in w.metas (size here) so_far l.ty hd hl.0))
      (λ m h.
      let a = h.made.after in
      let old = terms_grow w.metas m.work.metas (size here) so_far a.extend hd in
      gives_less (λ r x. arguments_more w m.work (size here) (suc (count so_far) + length ls) (count so_far + suc (length ls)) r a (omega arith) x)
      (arguments_give us us_good.1 ls (omega (arith, e)) (so_far ▹ m.term) m.work here a.good (context_after w m.work here ok a c) (types_grow w.metas m.work.metas (suc (count so_far)) ls a.extend hl.1) (record { scoped = (old.scoped, h.made.term.scoped.0); known = (old.known, h.made.term.scoped.1); inside = (old.inside, h.made.term.inside) })))

  constant_gives : (at : ℕ) (a : Text) (us : List Elaborates) → Each Elaborated us → (o : Option (Item Term)) → item_named items a ≡ o → Elaborated (constant items at a us o)
  constant_gives at a us us_good None e want w here ok c j = gives_refuse _
  constant_gives at a us us_good (Some i) e want w here ok c j =
      gives_demand (length us == length i.params) (WrongCount at a (length us) (length i.params)) (λ t.
      gives_bind (arguments_give us us_good i.params (eqb-true (length us) (length i.params) t) none w here ok c (types_onto w.metas none i.params (item.params, item.params_known, parts.params)).1 (record { scoped = tt; known = tt; inside = tt }))
      (λ (w', vs) h. met want w w' here (Const a vs) (subst_all vs i.ty) h.after j (whole w' vs h) (typed w' vs h)))
    where
      there : (metas : Plain) → item_of (Named a) (reach (rules_env items) metas) ≡ Some (item_tree itself i)
      there metas = constant_in items metas a ∙ ap (option_map (item_tree itself)) e

      item : IsScopedItem (reach (rules_env items) w.metas) (item_tree itself i)
      item = reach_scoped items w.metas ok.metas.legal (Named a) (item_tree itself i) (there w.metas)

      parts : EachHeadOfItem (InSet D) (item_tree itself i)
      parts = ok.metas.closed (Named a) (item_tree itself i) tt (there w.metas)

      many : (w' : Work) (vs : Terms) → HasArguments w (size here) (count none + length i.params) (w', vs) → count vs ≡ count (rules_ctx i.params)
      many w' vs h = h.counted ∙ (let z : 0 + length i.params ≡ length i.params = omega arith in z) ∙ sym (count_of_context itself i.params)

      whole : (w' : Work) (vs : Terms) → HasArguments w (size here) (count none + length i.params) (w', vs) → Has w'.metas (size here) (Const a vs)
      whole w' vs h = record { scoped = (h.terms.scoped, ((item_tree itself i, there w'.metas, many w' vs h), h.terms.known)); inside = (tt, h.terms.inside) }

      typed : (w' : Work) (vs : Terms) → HasArguments w (size here) (count none + length i.params) (w', vs) → Has w'.metas (size here) (subst_all vs i.ty)
      typed w' vs h =
          put_in w'.metas (size here) vs i.ty h.terms
          (term_grows items base D w.metas w'.metas (count vs) i.ty h.after.extend (subst (λ n. Has w.metas n i.ty) (sym (many w' vs h)) (record { scoped = item.ty; inside = parts.ty })))

  -- ---- applications

  -- one argument put in for the last entry
  last_put_in : (metas : Plain) (n : ℕ) (u B : Term) → Has metas n u → Has metas (suc n) B → Has metas n (subst_all (none ▹ u) B)
  last_put_in metas n u B h k = record { scoped = one_put_in (reach (rules_env items) metas) n u B h.scoped k.scoped; inside = each_arguments (InSet D) (none ▹ u) B (tt, h.inside) k.inside }

  applied_gives : (us : List Elaborates) → Each Elaborated us → (w : Work) (here : Surroundings) (f F : Term) → Good w → Context w here → Has w.metas (size here) f → Has w.metas (size here) F → Gives (IsMade items base D w (size here)) (applied items us w here f F)
  applied_gives [] us_good w here f F ok c h k = gives_pure (made w f F) (record { after = after_itself items base D w ok; term = h; ty = k })
  applied_gives (u ∷ us) us_good w here f F ok c h k =
      gives_bind (reduced_gives items base D fresh unifies w (size here) F ok k) (λ F' k'.
      gives_bind (parts_or_gives items base D fresh unifies w.metas (size here) (NotFunction (depth_of here) f F) F' k') (λ (A, B) p.
      gives_bind (us_good.0 (Of A) w here ok c p.domain) (λ m d.
      let a = d.made.after in
      gives_less (λ r x. made_more items base D w m.work (size here) r a x)
      (applied_gives us us_good.1 m.work here (App f m.term) (subst_all (none ▹ m.term) B) a.good (context_after w m.work here ok a c)
      (has_application items base D fresh unifies m.work.metas (size here) f m.term (term_grows items base D w.metas m.work.metas (size here) f a.extend h) d.made.term)
      (last_put_in m.work.metas (size here) m.term B d.made.term (term_grows items base D w.metas m.work.metas (suc (size here)) B a.extend p.codomain))))))

  application_gives : (f : Elaborates) → Elaborated f → (us : List Elaborates) → Each Elaborated us → Elaborated (application items f us)
  application_gives f f_good us us_good want w here ok c j =
      gives_bind (f_good Any w here ok c tt) (λ m d.
      let a = d.made.after in
      gives_bind (applied_gives us us_good m.work here m.term m.ty a.good (context_after w m.work here ok a c) d.made.term d.made.ty) (λ r x.
      met want w r.work here r.term r.ty (after_more items base D w m.work r.work a x.after) j x.term x.ty))

  -- ---- binders

  -- a term behind an entry
  behind_entry : (v : Work) (here inner : Surroundings) (A : Term) → rules_ctx inner.entries ≡ rules_ctx here.entries ▹ A → (metas : Plain) (t : Term) → Has metas (size inner) t → Has metas (suc (size here)) t
  behind_entry v here inner A e metas t h = subst (λ G. Has metas (count G) t) e h

  before_entry : (here inner : Surroundings) (A : Term) → rules_ctx inner.entries ≡ rules_ctx here.entries ▹ A → (metas : Plain) (t : Term) → Has metas (suc (size here)) t → Has metas (size inner) t
  before_entry here inner A e metas t h = subst (λ G. Has metas (count G) t) (sym e) h

  abstraction_gives : (x : Label) (A M : Elaborates) → Elaborated A → Elaborated M → Elaborated (abstraction items x A M)
  abstraction_gives x A M A_good M_good want w here ok c j =
      gives_bind (A_good AsType w here ok c tt) (λ a d.
      let u = d.made.after in
      gives_bind (entered_gives items base D fresh unifies (Some x) a.term a.work here u.good (context_after w a.work here ok u c) d.made.term) (λ inner b.
      gives_bind (M_good Any a.work inner u.good b.context tt) (λ m g.
      let v = g.made.after in
      let dom = term_grows items base D a.work.metas m.work.metas (size here) a.term v.extend d.made.term in
      gives_bind (product_or_gives items base D fresh unifies m.work.metas (size here) (NotType (depth_of inner) Square) a.term m.ty dom (behind_entry a.work here inner a.term b.entries m.work.metas m.ty g.made.ty)) (λ T t.
      met want w m.work here (Lam a.term m.term) T (after_more items base D w a.work m.work u v) j
      (has_abstraction items base D fresh unifies m.work.metas (size here) a.term m.term dom (behind_entry a.work here inner a.term b.entries m.work.metas m.term g.made.term)) t))))

  abstraction_of_gives : (x : Label) (A M : Elaborates) → Elaborated A → Elaborated M → (T T' : Term) (w : Work) (here : Surroundings) → Good w → Context w here → Has w.metas (size here) T → Has w.metas (size here) T' → Gives (IsDone (Of T) w (size here)) (abstraction_of items x A M T w here T')
  abstraction_of_gives x A M A_good M_good T (Pi C B) w here ok c h h' =
      let p = product_has items base D fresh unifies w.metas (size here) C B h' in
      gives_bind (A_good AsType w here ok c tt) (λ a d.
      let u = d.made.after in
      gives_bind (unified_gives items base D fresh unifies a.work here (size here) (size here) a.term C u.good d.made.term (term_grows items base D w.metas a.work.metas (size here) C u.extend p.domain)) (λ w' v.
      let uv = after_more items base D w a.work w' u v in
      let dom = term_grows items base D a.work.metas w'.metas (size here) a.term v.extend d.made.term in
      gives_bind (entered_gives items base D fresh unifies (Some x) a.term w' here v.good (context_after w w' here ok uv c) dom) (λ inner b.
      gives_bind (M_good (Of B) w' inner v.good b.context (before_entry here inner a.term b.entries w'.metas B (term_grows items base D w.metas w'.metas (suc (size here)) B uv.extend p.codomain))) (λ m g.
      let z = g.made.after in
      let all = after_more items base D w w' m.work uv z in
      gives_pure (made m.work (Lam a.term m.term) T) (record {
        made = record {
          after = all;
          term = has_abstraction items base D fresh unifies m.work.metas (size here) a.term m.term (term_grows items base D w'.metas m.work.metas (size here) a.term z.extend dom) (behind_entry w' here inner a.term b.entries m.work.metas m.term g.made.term);
          ty = term_grows items base D w.metas m.work.metas (size here) T all.extend h;
        };
        found = tt;
      })))))
  abstraction_of_gives x A M A_good M_good T (Srt s) w here ok c h h' = abstraction_gives x A M A_good M_good (Of T) w here ok c h
  abstraction_of_gives x A M A_good M_good T (Var i) w here ok c h h' = abstraction_gives x A M A_good M_good (Of T) w here ok c h
  abstraction_of_gives x A M A_good M_good T (App f a) w here ok c h h' = abstraction_gives x A M A_good M_good (Of T) w here ok c h
  abstraction_of_gives x A M A_good M_good T (Lam B N) w here ok c h h' = abstraction_gives x A M A_good M_good (Of T) w here ok c h
  abstraction_of_gives x A M A_good M_good T (Con k us) w here ok c h h' = abstraction_gives x A M A_good M_good (Of T) w here ok c h

  function_gives : (x : Label) (A M : Elaborates) → Elaborated A → Elaborated M → Elaborated (function items x A M)
  function_gives x A M A_good M_good (Of T) w here ok c j =
      gives_bind (reduced_gives items base D fresh unifies w (size here) T ok j) (λ T' h. abstraction_of_gives x A M A_good M_good T T' w here ok c j h)
  function_gives x A M A_good M_good Any w here ok c j = abstraction_gives x A M A_good M_good Any w here ok c j
  function_gives x A M A_good M_good AsType w here ok c j = abstraction_gives x A M A_good M_good AsType w here ok c j

  product_gives : (x : Option Label) (A B : Elaborates) → Elaborated A → Elaborated B → Elaborated (product items x A B)
  product_gives x A B A_good B_good want w here ok c j =
      gives_bind (A_good AsType w here ok c tt) (λ a d.
      let u = d.made.after in
      gives_bind (entered_gives items base D fresh unifies x a.term a.work here u.good (context_after w a.work here ok u c) d.made.term) (λ inner e.
      gives_bind (B_good AsType a.work inner u.good e.context tt) (λ b g.
      let v = g.made.after in
      met want w b.work here (Pi a.term b.term) b.ty (after_more items base D w a.work b.work u v) j
      (has_product items base D fresh unifies b.work.metas (size here) a.term b.term (term_grows items base D a.work.metas b.work.metas (size here) a.term v.extend d.made.term) (behind_entry a.work here inner a.term e.entries b.work.metas b.term g.made.term))
      (sort_has b.work.metas (size here) b.ty g.found))))

  -- ---- the nodes

  pub node_gives : (l : Shape-F (ℕ → Elaborates) Elaborates) (at : ℕ) → EachPart Elaborated l → Elaborated (node items l at)
  node_gives Shape-F.Star at p want w here ok c j = gives_spend (meet_gives want w here Star Square ok j (record { scoped = (tt, tt); inside = tt }) (record { scoped = (tt, tt); inside = tt }))
  node_gives Shape-F.Wild at p want w here ok c j = gives_spend (hole_gives at (with_hole at) (λ m v. refl) (hole_noted at) want w here ok c j)
  node_gives Shape-F.Asked at p want w here ok c j = gives_spend (hole_gives at with_goal (λ m v. refl) goal_noted want w here ok c j)
  node_gives (Shape-F.Named x) at p want w here ok c j = gives_spend (variable_gives (UnknownName at (label_text x)) (index_of here.outer x here.bound) want w here ok c j)
  node_gives (Shape-F.Const a us) at p want w here ok c j = gives_spend (constant_gives at a us p (item_named items a) refl want w here ok c j)
  node_gives (Shape-F.App f us) at p want w here ok c j = gives_then (gives_any _) (λ _ _. application_gives f p.0 us p.1 want w here ok c j)
  node_gives (Shape-F.Lam x A M) at p want w here ok c j = gives_spend (function_gives x A M p.0 p.1 want w here ok c j)
  node_gives (Shape-F.Pi x A B) at p want w here ok c j = gives_spend (product_gives x A B p.0 p.1 want w here ok c j)

  -- and so each text
  pub elaborate_gives : (t : Surface) → Elaborated (elaborate items t)
  elaborate_gives t = elaborate_has items Elaborated node_gives t
