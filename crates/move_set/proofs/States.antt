-- A move in a legal state makes a legal state, and changes little of it.
use Rattle.std.proofs.Common.{◌≡◌, ℕ, ◌<◌, ◌≤◌, Bool, true, List, [], ◌∷◌, length, All, Option, Some, None, option_map, get_or, Ok, Err, refl, sym, ap, ap₂, ◌∙◌, arith, subst, nat_eq, inl, inr}
use Rattle.std.specs.Prelude.{slice_get}
use Rattle.std.proofs.lemmas.Bool.{eq-eqb}
use Rattle.std.proofs.lemmas.List.{length-map}
use Rattle.std.proofs.lemmas.Option.{slice_get_within, get_or_from_slice_get, same_Some}
use Rattle.ld_trees.specs.Term.{Head, Named, Numbered, Term, Srt, Var, App, Lam, Pi, Con, Meta, Terms, none, ◌▹◌}
use Rattle.ld_rules.specs.Environment.{Env, Item as RulesItem, item_of}
use Rattle.ld_rules.specs.Scoping.{Known, AllKnown}
use Rattle.ld_rules.specs.ScopedItems.{EachHead, EachHeadOfAll}
use Rattle.ld_terms.specs.declared.globals.Item.{Item}
use Rattle.ld_terms.specs.declared.globals.Decl.{Decl}
use Rattle.term_syntax.specs.Lex.{Text}
use Rattle.term_syntax.specs.Reading.{Outcome as Parsed}
use Rattle.move_text.specs.declared.moves.Move.{Move}
use Rattle.move_text.specs.Reading.{read}
use Rattle.conversion.specs.Globals.{decl_tree}
use Rattle.meta_trees.specs.MetaContext.{decl}
use Rattle.meta_trees.specs.Dependencies.{occurs_in, and_value, Depends, direct}
use Rattle.meta_trees.proofs.Dependencies.{or_left, or_right, depends_more, depends_wider}
use Rattle.meta_context.specs.Plain.{rules_ctx, rules_env}
use Rattle.meta_context.specs.Stored.{decl_of}
use Rattle.meta_context.proofs.Stored.{decl_means}
use Rattle.meta_context.specs.Declaring.{IsOpen}
use Rattle.meta_laws.specs.Legality.{IsLegalMetas}
use Rattle.meta_laws.specs.Unfolding.{unfold_all_metas}
use Rattle.meta_laws.proofs.Footprint.{footprint_stays}
use Rattle.goal_state.specs.State.{State, rules_metas, HasRoot, IsLegalState}
use Rattle.goal_state.specs.Following.{Extend, MayFollow}
use Rattle.unification.specs.Steps.{Gave, pure, ◌>>◌}
use Rattle.unification.specs.Refusals.{Plain}
use Rattle.unification.specs.Laws.{declared_terms, Stays}
use Rattle.unification.proofs.Gives.{given}
use Rattle.unification.proofs.Declarations.{plain, declares, extend_length, past_the_end, same_decl}
use Rattle.unification.specs.Metavariables.{reach}
use Rattle.elaboration.proofs.Reach.{itself, meta_in, reach_scoped}
use Rattle.elaboration.proofs.Standing.{InSet, IsClosed}
use Rattle.elaboration.proofs.Sound.{dependency_in}
use Rattle.move_set.specs.Moves.{Moved, none_open, step, first_open, next_goals, declared_goal, goal_at, after_move, ended, at_goal, read_at_goal, moved}
use Rattle.move_set.specs.Laws.{IsNeeded, MovingIsLegal, MovingKeeps, MovingHasFootprint, IndependentGoalsStay}
use Rattle.move_set.proofs.Advancing.{Advances, Ended}
use Rattle.move_set.proofs.AdvancingFurther.{step_gives}
use Rattle.move_set.proofs.Following.{active, distinct}
use Rattle.move_set.proofs.Given.{bound}

-- ---- a move that went through

goal_is : (metas : Plain) (o : Option ℕ) (g : ℕ) (d : Decl Term) → declared_goal metas o ≡ Some (g, d) → (o ≡ Some g) × (slice_get metas g ≡ Some d)
goal_is metas None g d e = absurd cc
goal_is metas (Some k) g d e = by (slice_get metas k) refl e where
  by : (p : Option (Decl Term)) → slice_get metas k ≡ p → option_map {U = ℕ × Decl Term} (λ (d : Decl Term). (k, d)) p ≡ Some (g, d) → (Some k ≡ Some g) × (slice_get metas g ≡ Some d)
  by None is e = absurd cc
  by (Some c) is e =
      let pair : (k, c) ≡ (g, d) = cc in
      let first : k ≡ g = ap (λ (p : ℕ × Decl Term). p.0) pair in
      let second : c ≡ d = ap (λ (p : ℕ × Decl Term). p.1) pair in
      (ap (λ (n : ℕ). Some n) first, ap (slice_get metas) (sym first) ∙ is ∙ ap (λ (c : Decl Term). Some c) second)

-- a move that went through, on a goal with its declaration
pub record IsMoved (s : State) (index : ℕ) (auto : Bool) (s' : State) : Type 0 where
  pub goal : ℕ
  pub decl : Decl Term
  pub made : Moved
  pub move : Move
  pub units : ℕ
  pub left : ℕ
  pub goal_is : slice_get s.goals index ≡ Some goal
  pub decl_is : slice_get s.metas goal ≡ Some decl
  pub gave : step s.items s.metas goal decl move units ≡ Gave made left
  pub after : after_move s auto made ≡ s'

pub ended_is : (s : State) (auto : Bool) (made : Moved) (n left : ℕ) (s' : State) → ended s auto made n ≡ Gave s' left → (first_open made.metas made.holes ≡ None) × (after_move s auto made ≡ s')
ended_is s auto made n left s' e = go (first_open made.metas made.holes) refl e
  where
    go : (o : Option ℕ) → first_open made.metas made.holes ≡ o → (none_open o >> pure (after_move s auto made)) n ≡ Gave s' left → (first_open made.metas made.holes ≡ None) × (after_move s auto made ≡ s')
    go None q f = (q, let same : Gave (after_move s auto made) n ≡ Gave s' left = f in cc)
    go (Some at) q f = absurd cc

pub moved_gave : (s s' : State) (index : ℕ) (text : Text) (units left : ℕ) (auto : Bool) → moved s index text units auto ≡ Gave s' left → IsMoved s index auto s'
unfolding moved
moved_gave s s' index text units left auto e = parsed (read text) e where
  at : (m : Move) (o : Option (ℕ × Decl Term)) → goal_at s index ≡ o → at_goal s index auto m o units ≡ Gave s' left → IsMoved s index auto s'
  at m None is e = absurd cc
  at m (Some p) is e =
      let there = goal_is s.metas (slice_get s.goals index) p.0 p.1 is in
      let b = bound (step s.items s.metas p.0 p.1 m units) (ended s auto) s' left e in
      record { goal = p.0; decl = p.1; made = b.0; move = m; units = units; left = b.1; goal_is = there.0; decl_is = there.1; gave = b.2; after = (ended_is s auto b.0 b.1 left s' b.3).1 }

  parsed : (o : Parsed Move) → read_at_goal s index auto o units ≡ Gave s' left → IsMoved s index auto s'
  parsed (Ok p) e = at p.0 (goal_at s index) refl e
  parsed (Err i) e = absurd cc

-- ---- legality

root_kept : (ds cs : Plain) → HasRoot ds → Extend ds cs → HasRoot cs
root_kept [] cs h f = absurd h
root_kept (d ∷ ds) [] h f = let x = f 0 d refl in absurd (let n : None ≡ Some x.0 = x.1 in cc)
root_kept (d ∷ ds) (c ∷ cs) h f = let x = f 0 d refl in let same : c ≡ x.0 = (let n : Some c ≡ Some x.0 = x.1 in cc) in ap (λ (y : Decl Term). y.ctx) same ∙ x.2.ctx ∙ h

-- an active goal has no value
pub goal_unset : (s : State) (index g : ℕ) (d : Decl Term) → All (IsOpen s.metas) s.goals → slice_get s.goals index ≡ Some g → slice_get s.metas g ≡ Some d → d.value ≡ None
goal_unset s index g d a is there =
    let read : get_or s.goals index g ≡ g = get_or_from_slice_get s.goals index g g is in
    let here : IsOpen s.metas g = subst (IsOpen s.metas) read (a index g (slice_get_within s.goals index g is)) in
    let same : here.0 ≡ d = same_Some here.0 d (sym here.1 ∙ there) in
    ap (λ (d : Decl Term). d.value) (sym same) ∙ here.2

pub step_advances : (s : State) (index g : ℕ) (d : Decl Term) (m : Move) (units left : ℕ) (made : Moved) (ok : IsLegalState s) (is : slice_get s.goals index ≡ Some g) (there : slice_get s.metas g ≡ Some d) → step s.items s.metas g d m units ≡ Gave made left
    → Advances s.items s.metas g d there (goal_unset s index g d ok.active is there) ok.legal made
step_advances s index g d m units left made ok is there e = given (step_gives s.items s.metas g d there (goal_unset s index g d ok.active is there) ok.legal m) units left made e

pub step_follows : (s : State) (index g : ℕ) (d : Decl Term) (m : Move) (units left : ℕ) (made : Moved) (auto : Bool) → IsLegalState s → slice_get s.goals index ≡ Some g → slice_get s.metas g ≡ Some d
    → step s.items s.metas g d m units ≡ Gave made left → MayFollow s made.metas (next_goals made.metas (length s.metas) made.fresh s.goals auto)
step_follows s index g d m units left made auto ok is there gave =
    let a = step_advances s index g d m units left made ok is there gave in
    let open_now = ok.active in
    record {
      extend = a.ended.extend;
      legal = a.ended.legal;
      active = active (length s.metas) made.metas made.fresh s.goals auto;
      once = distinct (length s.metas) made.metas made.fresh s.goals auto (λ k e l. let o = open_now k e l in slice_get_within s.metas _ o.0 o.1) ok.once (λ k e l. let f = a.fresh k e l in f.later) a.once;
    }

follows : (s : State) (index : ℕ) (auto : Bool) (s' : State) → IsLegalState s → IsMoved s index auto s' → MayFollow s s'.metas s'.goals × (s'.items ≡ s.items)
follows s index auto s' ok i =
    subst (λ (t : State). MayFollow s t.metas t.goals × (t.items ≡ s.items)) i.after
    (step_follows s index i.goal i.decl i.move i.units i.left i.made auto ok i.goal_is i.decl_is i.gave, refl)

pub moving_follows : (s s' : State) (index : ℕ) (text : Text) (units left : ℕ) (auto : Bool) → IsLegalState s → moved s index text units auto ≡ Gave s' left → MayFollow s s'.metas s'.goals × (s'.items ≡ s.items)
moving_follows s s' index text units left auto ok e = follows s index auto s' ok (moved_gave s s' index text units left auto e)

pub moving_is_legal : MovingIsLegal
moving_is_legal s s' index text units left auto ok e =
    let f = moving_follows s s' index text units left auto ok e in
    record {
      legal = subst (λ (is : List (Item Term)). IsLegalMetas (rules_env is) (rules_metas s'.metas)) (sym f.1) f.0.legal;
      root = root_kept s.metas s'.metas ok.root f.0.extend;
      active = f.0.active;
      once = f.0.once;
    }

pub moving_keeps : MovingKeeps
moving_keeps s s' index text units left auto ok e = let f = moving_follows s s' index text units left auto ok e in (f.1, f.0.extend)

-- ---- footprint

-- what a goal's declaration depends on, the goal depends on
needed_below : (metas : Plain) (g k : ℕ) (d : Decl Term) → slice_get metas g ≡ Some d → d.value ≡ None → Depends (rules_metas metas) (declared_terms d) k → Depends (rules_metas metas) (none ▹ Meta g none) k
needed_below metas g k d there unset E =
    depends_more g (plain d) (declares metas g d there) (direct (or_right (occurs_in g none) _ (or_left (nat_eq g g) _ (eq-eqb g g refl))))
    (subst (λ o. Depends (rules_metas metas) (and_value (declared_terms d) (option_map (λ (t : Term). t) o)) k) (sym unset) E)

goal_needed : (metas : Plain) (g k : ℕ) → k ≡ g → Depends (rules_metas metas) (none ▹ Meta g none) k
goal_needed metas g k e = direct (or_right (occurs_in k none) _ (or_left (nat_eq g k) _ (eq-eqb g k (sym e))))

value_stays : (metas after : Plain) → Extend metas after → (k : ℕ) (d : Decl Term) (v : Term) → slice_get metas k ≡ Some d → d.value ≡ Some v → Stays metas after k
value_stays metas after x k d v e w =
    let c = x k d e in
    c.1 ∙ ap Some (same_decl c.0 d c.2.ctx c.2.ty (c.2.value v w ∙ sym w)) ∙ sym e

module _ (s : State) (index g : ℕ) (d : Decl Term) (m : Move) (units left : ℕ) (made : Moved) (ok : IsLegalState s) (is : slice_get s.goals index ≡ Some g) (there : slice_get s.metas g ≡ Some d) (gave : step s.items s.metas g d m units ≡ Gave made left) where
  abbrev unset : d.value ≡ None
  unset = goal_unset s index g d ok.active is there

  step_stays : (k : ℕ) → k < length s.metas → (IsNeeded s.metas g k → ⊥) → Stays s.metas made.metas k
  step_stays k l none_needed = go (step_advances s index g d m units left made ok is there gave).ended (slice_get s.metas k) refl
    where
      open_one : Ended s.items s.metas g d there unset ok.legal made.metas → (c : Decl Term) → slice_get s.metas k ≡ Some c → (o : Option Term) → c.value ≡ o → Stays s.metas made.metas k
      open_one a c e (Some v) w = value_stays s.metas made.metas a.extend k c v e w
      open_one a c e None w =
          let free : Depends (rules_metas s.metas) (none ▹ Meta g none) k → ⊥ = λ E. none_needed (record { dependency = E; without_value = (c, e, w) }) in
          a.others k l (λ n. elim n [ inl past ↦ absurd (omega arith) | inr E ↦ free (needed_below s.metas g k d there unset E) ]) (λ q. free (goal_needed s.metas g k q))

      go : Ended s.items s.metas g d there unset ok.legal made.metas → (o : Option (Decl Term)) → slice_get s.metas k ≡ o → Stays s.metas made.metas k
      go a None e = absurd (let p = past_the_end s.metas k e in omega arith)
      go a (Some c) e = open_one a c e c.value refl

pub moving_has_footprint : MovingHasFootprint
moving_has_footprint s s' index g k text units left auto ok is e l apart =
    let i = moved_gave s s' index text units left auto e in
    let here : i.goal ≡ g = same_Some i.goal g (sym i.goal_is ∙ is) in
    ap (λ (t : State). slice_get t.metas k) (sym i.after)
    ∙ step_stays s index i.goal i.decl i.move i.units i.left i.made ok i.goal_is i.decl_is i.gave k l (λ n. apart (subst (λ x. IsNeeded s.metas x k) here n))

-- ---- another goal

-- terms of which each dependency stays look the same
all_stay : (Δ : Env) (S Z : Plain) (X : Terms) → IsLegalMetas Δ (rules_metas S) → length (rules_metas S) ≤ length (rules_metas Z) → ((k : ℕ) → Depends (rules_metas S) X k → decl k (rules_metas S) ≡ decl k (rules_metas Z))
    → unfold_all_metas (rules_metas Z) X ≡ unfold_all_metas (rules_metas S) X
all_stay Δ S Z none ok l f = refl
all_stay Δ S Z (us ▹ u) ok l f =
    ap₂ (λ (vs : Terms) (v : Term). vs ▹ v) (all_stay Δ S Z us ok l (λ k E. f k (depends_wider (λ j w. direct (or_left (occurs_in j us) _ w)) E)))
    (footprint_stays Δ (rules_metas S) (rules_metas Z) u ok l (λ k E. f k (depends_wider (λ j w. direct (or_right (occurs_in j us) _ w)) E)))

rules_length : (S Z : Plain) → length S ≤ length Z → length (rules_metas S) ≤ length (rules_metas Z)
rules_length S Z l = let a : length (rules_metas S) ≡ length S = length-map S (decl_of itself) in let b : length (rules_metas Z) ≡ length Z = length-map Z (decl_of itself) in omega arith

-- what is known is declared
module _ (items : List (Item Term)) (metas : Plain) (ok : IsLegalMetas (rules_env items) (rules_metas metas)) where
  abbrev E : Env
  E = reach (rules_env items) metas

  abbrev Low : ℕ → Type 0
  Low k = k < length metas

  head_low : (h : Head) (i : RulesItem) → item_of h E ≡ Some i → InSet Low h
  head_low (Named a) i e = tt
  head_low (Numbered m) i e = go (slice_get metas m) refl (sym (meta_in items metas m) ∙ e)
    where
      go : (o : Option (Decl Term)) → slice_get metas m ≡ o → option_map (decl_tree itself m) o ≡ Some i → m < length metas
      go None q p = absurd cc
      go (Some c) q p = slice_get_within metas m c q

  mutual
    term_low : (t : Term) → Known E t → EachHead (InSet Low) t
    term_low (Srt s) k = tt
    term_low (Var i) k = tt
    term_low (App f a) k = (term_low f k.0, term_low a k.1)
    term_low (Lam A M) k = (term_low A k.0, term_low M k.1)
    term_low (Pi A B) k = (term_low A k.0, term_low B k.1)
    term_low (Con h us) k = (let i = k.0 in head_low h i.0 i.1, terms_low us k.1)

    terms_low : (us : Terms) → AllKnown E us → EachHeadOfAll (InSet Low) us
    terms_low none k = tt
    terms_low (us ▹ u) k = (terms_low us k.0, term_low u k.1)

  low_closed : IsClosed Low E
  low_closed h i low e =
      let s = reach_scoped items metas ok h i e in
      record { params = terms_low i.params s.params_known; ty = (let t = s.ty in term_low i.ty t.1); body = λ M q. let b = s.body M q in term_low M b.1 }

  -- a dependency of a declared metavariable is declared
  dependency_low : (h k : ℕ) → h < length metas → Depends (rules_metas metas) (none ▹ Meta h none) k → k < length metas
  dependency_low h k l D = dependency_in items Low metas low_closed (tt, (l, tt)) D

earlier : (j : ℕ) (X : Terms) (o : Option Term) → occurs_in j X ≡ true → occurs_in j (and_value X o) ≡ true
earlier j X None w = w
earlier j X (Some v) w = or_left (occurs_in j X) _ w

pub independent_goals_stay : IndependentGoalsStay
independent_goals_stay s s' index g h d text units left auto ok is e there apart =
    let f = moving_follows s s' index text units left auto ok e in
    let S = rules_metas s.metas in
    let Z = rules_metas s'.metas in
    let low : h < length s.metas = slice_get_within s.metas h d there in
    let stays : (k : ℕ) → Depends S (none ▹ Meta h none) k → Stays s.metas s'.metas k = λ k E.
    moving_has_footprint s s' index g k text units left auto ok is e (dependency_low s.items s.metas ok.legal h k low E) (λ n. apart k n (record { dependency = E; without_value = n.without_value })) in
    let same : (k : ℕ) → Depends S (none ▹ Meta h none) k → decl k S ≡ decl k Z = λ k E.
    decl_means itself k s.metas ∙ ap (option_map (decl_of itself)) (sym (stays k E)) ∙ sym (decl_means itself k s'.metas) in
    let from : (X : Terms) (k : ℕ) → ((j : ℕ) → occurs_in j X ≡ true → occurs_in j (declared_terms d) ≡ true) → Depends S X k → Depends S (none ▹ Meta h none) k = λ X k f E.
    depends_more h (plain d) (declares s.metas h d there) (goal_needed s.metas h h refl) (depends_wider (λ j w. direct (earlier j (declared_terms d) (option_map itself d.value) (f j w))) E) in
    let longer : length S ≤ length Z = rules_length s.metas s'.metas (extend_length s.metas s'.metas f.0.extend) in
    record {
      declared = stays h (goal_needed s.metas h h refl) ∙ there;
      context = all_stay (rules_env s.items) s.metas s'.metas (rules_ctx d.ctx) ok.legal longer (λ k E. same k (from (rules_ctx d.ctx) k (λ j w. or_left (occurs_in j (rules_ctx d.ctx)) _ w) E));
      ty = footprint_stays (rules_env s.items) S Z d.ty ok.legal longer (λ k E. same k (from (none ▹ d.ty) k (λ j w. or_right (occurs_in j (rules_ctx d.ctx)) _ w) E));
    }
