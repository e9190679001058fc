-- A book behind a legal environment makes a legal one.
use Rattle.std.proofs.Common.{◌≡◌, ℕ, suc, Bool, true, false, List, [], ◌∷◌, ◌++◌, length, All, Option, Some, None, option_map, Result, Ok, Err, refl, sym, ap, ◌∙◌, subst, arith}
use Rattle.std.proofs.lemmas.List.Elements.{All-cons, All-tail}
use Rattle.std.specs.Prelude.{is_some}
use Rattle.ld_trees.specs.Term.{Sort, Named, Term, Srt, ◌▹◌}
use Rattle.ld_rules.specs.Environment.{item_of}
use Rattle.ld_rules.specs.Derivation.{Derives, weak, conv as converts}
use Rattle.ld_rules.specs.Legality.{IsLegal, IsLegalEnvironment, MayBeAdded}
use Rattle.ld_rules.proofs.Environments.{adding}
use Rattle.ld_terms.specs.Items.{item_named}
use Rattle.ld_terms.specs.Names.{IsTextName}
use Rattle.ld_terms.specs.declared.globals.Item.{Item as StoredItem}
use Rattle.ld_terms.specs.declared.globals.Local.{Local}
use Rattle.ld_terms.proofs.Arguments.{terms_of_end}
use Rattle.term_syntax.specs.declared.surface.Surface.{Surface}
use Rattle.term_syntax.specs.Lex.{Text}
use Rattle.conversion.specs.Globals.{item_tree}
use Rattle.conversion.specs.Runs.{Outcome, Gave, Refused, OutOfFuel, Mismatch}
use Rattle.conversion.specs.Conversion.{conv}
use Rattle.conversion.proofs.Lookups.{constant_found}
use Rattle.conversion.proofs.Soundness.{yes_means_equal}
use Rattle.kernel_check.specs.Inference.{infer, infer_sort}
use Rattle.kernel_check.proofs.Soundness.{inference_is_sound, sort_is_sound}
use Rattle.meta_context.specs.Plain.{rules_ctx, rules_env}
use Rattle.book_reader.specs.declared.source.Parameter.{Parameter}
use Rattle.book_reader.specs.declared.source.Source.{Source}
use Rattle.book_reader.specs.Items.{ItemRefusal, NameTaken, Kernel, Check, go_on, pure, refuse, ran, kernel, choose, entry_name, resolved, sorted, typed, parameters, fits, body, optional_body, new_name, item}
use Rattle.book_reader.specs.Book.{BookRefusal, behind, enter}
use Rattle.book_reader.specs.Named.{HasNames}

-- ---- a check that gave a value

bound : {A B : Type 0} (o : Result (A × ℕ) ItemRefusal) (f : A → Check B) (y : B × ℕ) → go_on o f ≡ Ok y → (x : A) × (k : ℕ) × (o ≡ Ok (x, k)) × (f x k ≡ Ok y)
bound (Ok p) f y e = (p.0, p.1, refl, e)
bound (Err r) f y e = absurd cc

ok_pair : {A : Type 0} (p q : A × ℕ) → ◌≡◌ {A = Result (A × ℕ) ItemRefusal} (Ok p) (Ok q) → p ≡ q
ok_pair p q e = cc

ran_gave : {A : Type 0} (o : Outcome A) (x : A) (k : ℕ) → ran o ≡ Ok (x, k) → o ≡ Gave x k
ran_gave {A = A} (Gave y l) x k e = let p = ok_pair (y, l) (x, k) e in ap (λ (p : A × ℕ). Gave p.0 p.1) p
ran_gave (Refused r l) x k e = absurd cc
ran_gave OutOfFuel x k e = absurd cc

pure_is : {A : Type 0} (x y : A) (n k : ℕ) → pure x n ≡ Ok (y, k) → x ≡ y
pure_is {A = A} x y n k e = ap (λ (p : A × ℕ). p.0) (ok_pair (x, n) (y, k) e)

module _ (items : List (StoredItem Term)) where
  -- a type that was found to have a sort
  sorted_derives : (done : List (Local Term)) (A : Term) (n k : ℕ) (u : Unit {0}) → IsLegal (rules_env items) (rules_ctx done) → sorted items done A n ≡ Ok (u, k) → (s : Sort) × Derives (rules_env items) (rules_ctx done) A (Srt s)
  sorted_derives done A n k u legal e =
      let b = bound (ran (infer_sort (rules_env items) (rules_ctx done) A n)) (λ _. pure {A = Unit {0}} tt) (u, k) e in
      (b.0, sort_is_sound (rules_env items) (rules_ctx done) A b.0 n b.1 legal (ran_gave _ b.0 b.1 b.2))

  typed_derives : (done : List (Local Term)) (t : Surface) (T : Term) (n k : ℕ) → IsLegal (rules_env items) (rules_ctx done) → typed items done t n ≡ Ok (T, k) → (s : Sort) × Derives (rules_env items) (rules_ctx done) T (Srt s)
  typed_derives done t T n k legal e =
      let a = bound (resolved items done t n) (λ A n. go_on (sorted items done A n) (λ _. pure A)) (T, k) e in
      let b = bound (sorted items done a.0 a.1) (λ _. pure a.0) (T, k) a.3 in
      let same : a.0 ≡ T = pure_is a.0 T b.1 k b.3 in
      subst (λ T. (s : Sort) × Derives (rules_env items) (rules_ctx done) T (Srt s)) same (sorted_derives done a.0 a.1 b.1 b.0 legal b.2)

  more_legal : (done : List (Local Term)) (l : Local Term) (s : Sort) → IsLegal (rules_env items) (rules_ctx done) → Derives (rules_env items) (rules_ctx done) l.ty (Srt s) → IsLegal (rules_env items) (rules_ctx (done ++ l ∷ []))
  more_legal done l s legal d = subst (IsLegal (rules_env items)) (sym (ctx_end done l)) (weak legal d) where
    ctx_end : (done : List (Local Term)) (l : Local Term) → rules_ctx (done ++ l ∷ []) ≡ rules_ctx done ▹ l.ty
    ctx_end done l = terms_of_end (λ (l : Local Term). l.ty) done l

  parameters_legal : (done : List (Local Term)) (ps : List Parameter) (params : List (Local Term)) (n k : ℕ) → IsLegal (rules_env items) (rules_ctx done) → parameters items done ps n ≡ Ok (params, k) → IsLegal (rules_env items) (rules_ctx params)
  parameters_legal done [] params n k legal e = subst (λ ls. IsLegal (rules_env items) (rules_ctx ls)) (pure_is done params n k e) legal
  parameters_legal done (p ∷ ps) params n k legal e =
      let next : Term → List (Local Term) = λ A. done ++ record { name = entry_name (length done) p.name; ty = A } ∷ [] in
      let a = bound (typed items done p.ty n) (λ A. parameters items (next A) ps) (params, k) e in
      let d = typed_derives done p.ty a.0 n a.1 legal a.2 in
      parameters_legal (next a.0) ps params a.1 k (more_legal done _ d.0 legal d.1) a.3

  -- a body whose type was converted with the stated one
  fits_equal : (depth : ℕ) (F T : Term) (n k : ℕ) (u : Unit {0}) → fits items depth F T n ≡ Ok (u, k) → (m : ℕ) × (conv (rules_env items) F T n ≡ Gave true m)
  fits_equal depth F T n k u e =
      let f : Bool → Check (Unit {0}) = λ equal. choose equal (pure tt) (refuse (Kernel (Mismatch depth F T))) in
      let b = bound (ran (conv (rules_env items) F T n)) f (u, k) e in
      by b.0 b.1 (ran_gave _ b.0 b.1 b.2) b.3
    where
      by : (equal : Bool) (m : ℕ) → conv (rules_env items) F T n ≡ Gave equal m → choose equal (pure {A = Unit {0}} tt) (refuse (Kernel (Mismatch depth F T))) m ≡ Ok (u, k) → (m : ℕ) × (conv (rules_env items) F T n ≡ Gave true m)
      by true m g e = (m, g)
      by false m g e = absurd cc

  body_derives : (params : List (Local Term)) (T : Term) (t : Surface) (M : Term) (s : Sort) (n k : ℕ) → IsLegal (rules_env items) (rules_ctx params) → Derives (rules_env items) (rules_ctx params) T (Srt s)
      → body items params T t n ≡ Ok (M, k) → Derives (rules_env items) (rules_ctx params) M T
  body_derives params T t M s n k legal d e =
      let Δ = rules_env items in
      let Γ = rules_ctx params in
      let a = bound (resolved items params t n) (λ M n. go_on (kernel (infer Δ Γ M) n) (λ F n. go_on (fits items (length params) F T n) (λ _. pure M))) (M, k) e in
      let b = bound (kernel (infer Δ Γ a.0) a.1) (λ F n. go_on (fits items (length params) F T n) (λ _. pure a.0)) (M, k) a.3 in
      let f = bound (fits items (length params) b.0 T b.1) (λ _. pure a.0) (M, k) b.3 in
      let same : a.0 ≡ M = pure_is a.0 M f.1 k f.3 in
      let found : Derives Δ Γ a.0 b.0 = inference_is_sound Δ Γ a.0 b.0 a.1 b.1 legal (ran_gave _ b.0 b.1 b.2) in
      let equal = fits_equal (length params) b.0 T b.1 f.1 f.0 f.2 in
      subst (λ M. Derives Δ Γ M T) same (converts found d (yes_means_equal Δ b.0 T b.1 equal.0 equal.1))

  optional_derives : (params : List (Local Term)) (T : Term) (t : Option Surface) (o : Option Term) (s : Sort) (n k : ℕ) → IsLegal (rules_env items) (rules_ctx params) → Derives (rules_env items) (rules_ctx params) T (Srt s)
      → optional_body items params T t n ≡ Ok (o, k) → (M : Term) → o ≡ Some M → Derives (rules_env items) (rules_ctx params) M T
  optional_derives params T None o s n k legal d e M is = let none : None ≡ o = pure_is None o n k e in absurd cc
  optional_derives params T (Some t) o s n k legal d e M is =
      let a = bound (body items params T t n) (λ M. pure (Some M)) (o, k) e in
      let same : Some a.0 ≡ o = pure_is (Some a.0) o a.1 k a.3 in
      let here : a.0 ≡ M = cc in
      subst (λ M. Derives (rules_env items) (rules_ctx params) M T) here (body_derives params T t a.0 s n a.1 legal d a.2)

  -- ---- an item's name is new

  name_free : (name : Text) (n k : ℕ) (u : Unit {0}) → new_name items name n ≡ Ok (u, k) → item_of (Named name) (rules_env items) ≡ None
  name_free name n k u e = constant_found (λ t. t) items [] name ∙ by (item_named items name) e where
    by : (o : Option (StoredItem Term)) → choose (is_some o) (refuse (NameTaken name)) (pure {A = Unit {0}} tt) n ≡ Ok (u, k) → option_map (item_tree (λ t. t)) o ≡ None
    by None e = refl
    by (Some i) e = absurd cc

  body_of_plain : (o : Option Term) (M : Term) → option_map (λ (t : Term). t) o ≡ Some M → o ≡ Some M
  body_of_plain None M e = absurd cc
  body_of_plain (Some x) M e = e

  none_of_plain : (o : Option Term) → option_map (λ (t : Term). t) o ≡ None → o ≡ None
  none_of_plain None e = refl
  none_of_plain (Some x) e = absurd cc

  item_may : (s : Source) (i : StoredItem Term) (n k : ℕ) → IsLegalEnvironment (rules_env items) → item items s n ≡ Ok (i, k) → MayBeAdded (rules_env items) (item_tree (λ t. t) i)
  item_may s i n k legal e =
      let last : List (Local Term) → Term → Option Term → StoredItem Term = λ params T M. record { name = s.name; params = params; ty = T; body = M } in
      let third : List (Local Term) → Term → Check (StoredItem Term) = λ params T n. go_on (optional_body items params T s.body n) (λ M. pure (last params T M)) in
      let second : List (Local Term) → Check (StoredItem Term) = λ params n. go_on (typed items params s.ty n) (λ T. third params T) in
      let a = bound (new_name items s.name n) (λ _ n. go_on (parameters items [] s.params n) second) (i, k) e in
      let b = bound (parameters items [] s.params a.1) second (i, k) a.3 in
      let t = bound (typed items b.0 s.ty b.1) (third b.0) (i, k) b.3 in
      let o = bound (optional_body items b.0 t.0 s.body t.1) (λ M. pure (last b.0 t.0 M)) (i, k) t.3 in
      let same : last b.0 t.0 o.0 ≡ i = pure_is (last b.0 t.0 o.0) i o.1 k o.3 in
      let params = parameters_legal [] s.params b.0 a.1 b.1 legal b.2 in
      let sort = typed_derives b.0 s.ty t.0 b.1 t.1 params t.2 in
      subst (λ i. MayBeAdded (rules_env items) (item_tree (λ t. t) i)) same record {
        fresh = name_free s.name n a.1 a.0 a.2;
        body = λ M is. optional_derives b.0 t.0 s.body o.0 sort.0 t.1 o.1 params sort.1 o.2 M (body_of_plain o.0 M is);
        primitive = λ is. sort;
      }

  -- an item keeps the name that its text gives
  item_name : (s : Source) (i : StoredItem Term) (n k : ℕ) → item items s n ≡ Ok (i, k) → i.name ≡ s.name
  item_name s i n k e =
      let last : List (Local Term) → Term → Option Term → StoredItem Term = λ params T M. record { name = s.name; params = params; ty = T; body = M } in
      let third : List (Local Term) → Term → Check (StoredItem Term) = λ params T n. go_on (optional_body items params T s.body n) (λ M. pure (last params T M)) in
      let second : List (Local Term) → Check (StoredItem Term) = λ params n. go_on (typed items params s.ty n) (λ T. third params T) in
      let a = bound (new_name items s.name n) (λ _ n. go_on (parameters items [] s.params n) second) (i, k) e in
      let b = bound (parameters items [] s.params a.1) second (i, k) a.3 in
      let t = bound (typed items b.0 s.ty b.1) (third b.0) (i, k) b.3 in
      let o = bound (optional_body items b.0 t.0 s.body t.1) (λ M. pure (last b.0 t.0 M)) (i, k) t.3 in
      sym (ap (λ (i : StoredItem Term). i.name) (pure_is (last b.0 t.0 o.0) i o.1 k o.3))

step_legal : (items : List (StoredItem Term)) (s : Source) (i : StoredItem Term) (n k : ℕ) → IsLegalEnvironment (rules_env items) → item items s n ≡ Ok (i, k) → IsLegalEnvironment (rules_env (i ∷ items))
step_legal items s i n k legal e = adding (rules_env items) (item_tree (λ t. t) i) legal (item_may items s i n k legal e)

behind_is : {A : Type 0} (k : ℕ) (o : Result (StoredItem Term × ℕ) ItemRefusal) (f : StoredItem Term → Result A BookRefusal) (y : A) → behind k o f ≡ Ok y → (i : StoredItem Term) × (l : ℕ) × (o ≡ Ok (i, l)) × (f i ≡ Ok y)
behind_is k (Ok p) f y e = (p.0, p.1, refl, e)
behind_is k (Err r) f y e = absurd cc

ok_is : {A : Type 0} (x y : A) → ◌≡◌ {A = Result A BookRefusal} (Ok x) (Ok y) → x ≡ y
ok_is x y e = cc

pub enter_legal : (units k : ℕ) (items : List (StoredItem Term)) (ss : List Source) (all : List (StoredItem Term)) → IsLegalEnvironment (rules_env items) → enter units k items ss ≡ Ok all → IsLegalEnvironment (rules_env all)
enter_legal units k items [] all legal e = subst (λ is. IsLegalEnvironment (rules_env is)) (ok_is items all e) legal
enter_legal units k items (s ∷ ss) all legal e =
    let b = behind_is k (item items s units) (λ i. enter units (suc k) (i ∷ items) ss) all e in
    enter_legal units (suc k) (b.0 ∷ items) ss all (step_legal items s b.0 units b.1 legal b.2) b.3

-- names of the texts stay so
pub enter_named : (units k : ℕ) (items : List (StoredItem Term)) (ss : List Source) (all : List (StoredItem Term)) → All HasNames ss → All (λ i. IsTextName i.name) items → enter units k items ss ≡ Ok all → All (λ i. IsTextName i.name) all
enter_named units k items [] all texts named e = subst (λ is. All (λ i. IsTextName i.name) is) (ok_is items all e) named
enter_named units k items (s ∷ ss) all texts named e =
    let b = behind_is k (item items s units) (λ i. enter units (suc k) (i ∷ items) ss) all e in
    let first : IsTextName (b.0).name = subst IsTextName (sym (item_name items s b.0 units b.1 b.2)) (texts 0 s (omega arith)).item in
    enter_named units (suc k) (b.0 ∷ items) ss all (All-tail HasNames s ss texts) (All-cons (λ (i : StoredItem Term). IsTextName i.name) b.0 items first named) b.3
