-- Answers of one call after another, and what the calls read while the store grows.
use Rattle.std.proofs.Common.{◌≡◌, ℕ, zero, suc, ◌+◌, ◌-◌, ◌<◌, List, [], ◌∷◌, ◌++◌, map, All, length, take, get_or, Bool, true, false, nat_eq, ◌≢◌, Result, Ok, Err, refl, sym, ap, ap₂, ◌∙◌, arith, subst as transport}
use Rattle.std.proofs.lemmas.Bool.{eqb-true, eq-eqb}
use Rattle.std.specs.Prelude.{IsErrAnd, IfOk}
use Rattle.ld_trees.specs.Term.{Sort, star, square, Head, Term, Srt, Square, Var, App, Lam, Pi, Con, Terms, ◌▹◌, none, count, same}
use Rattle.ld_trees.specs.Substitution.{subst_all}
use Rattle.ld_trees.proofs.Equality.{same_decides}
use Rattle.ld_rules.specs.Environment.{Ctx, Env}
use Rattle.ld_rules.specs.Derivation.{Derives}
use Rattle.ld_rules.specs.Legality.{IsLegal}
use Rattle.ld_terms.specs.Views.{Keeps, terms_onto, terms_of}
use Rattle.ld_terms.specs.declared.globals.Decl.{Decl}
use Rattle.ld_terms.specs.declared.globals.Item.{Item}
use Rattle.ld_terms.specs.declared.globals.Local.{Local}
use Rattle.ld_terms.specs.declared.halt.Halt.{Halt}
use Rattle.ld_terms.specs.declared.halt.Halt.TheVariants as halt
use Rattle.ld_terms.proofs.Arguments.{terms_of_end}
use Rattle.ld_terms.proofs.Turns.{keeps_map}
use Rattle.conversion.specs.Globals.{AreGlobalsOf, AreLocals, context_of}
use Rattle.conversion.specs.Answers.{IsAnswer}
use Rattle.conversion.specs.Runs.{Refusal, NotType, NotFunction, ReductIllTyped, Outcome, Gave, Refused, OutOfFuel, Run, pure, refuse, go_on, other_refusal, or_refuse, choose, ◌>>=◌, ◌>>◌}
use Rattle.conversion.specs.WeakHead.{whnf}
use Rattle.conversion.proofs.Lookups.{env_kept}
use Rattle.kernel_check.specs.Inference.{Infers, infer, infer_sort, infer_case, infer_all, lam_type, checked_product, sort_in, star_or}
use Rattle.kernel_check.specs.Answers.{Shows, Answers, fault_of, refused_as, sort_term}
use Rattle.kernel_check.specs.Steps.{IsRead, reduct_checked, instance_type}
use Rattle.kernel_check.specs.declared.fault.KernelFault.{KernelFault}
use Rattle.kernel_check.specs.declared.fault.KernelFault.TheVariants as fault
use Rattle.kernel_check.proofs.FuelLaw.{infer_is}
use Rattle.kernel_check.proofs.Soundness.{inference_is_sound, sort_is_sound}

-- a call that goes on has the refusal of its first part
pub shows_more : {A B H : Type 0} (holds : H → Type 0) (means : H → Term) (o : Outcome A) (f : A → Run B) (left : ℕ) (e : KernelFault H) →
    Shows holds means o left e → Shows holds means (go_on o f) left e
shows_more holds means o f left (fault.NotType n t) h = (ap (λ x. go_on x f) h.0, h.1)
shows_more holds means o f left (fault.NotFunction n t u) h = (ap (λ x. go_on x f) h.0, h.1, h.2)
shows_more holds means o f left (fault.Mismatch n t u) h = (ap (λ x. go_on x f) h.0, h.1, h.2)
shows_more holds means o f left (fault.ReductIllTyped n t u) h = (ap (λ x. go_on x f) h.0, h.1, h.2)
shows_more holds means o f left fault.Fuel h = (ap (λ x. go_on x f) h.0, h.1)
shows_more holds means o f left fault.Memory h = tt

-- after its first part gave a value it answers as what follows
pub answers_after : {A B H R : Type 0} (holds : H → Type 0) (means : H → Term) (value : R → B) (o : Outcome A) (x : A) (k : ℕ) (f : A → Run B) (left : ℕ) (r : Result R (KernelFault H)) →
    o ≡ Gave x k → Answers holds means value (f x k) left r → Answers holds means value (go_on o f) left r
answers_after holds means value o x k f left r e h = transport (λ z. Answers holds means value (go_on z f) left r) (sym e) h

-- an answer of an engine below
pub halt_shows : {A B H : Type 0} (holds : H → Type 0) (means : H → Term) (value : B → A) (o : Outcome A) (left : ℕ) (h : Halt) →
    IsAnswer value o left (Err h) → Shows holds means o left (fault_of h)
halt_shows holds means value o left halt.Fuel a = a
halt_shows holds means value o left halt.Memory a = tt

-- inference spends a unit and goes on with the term's case
pub infer_none : (Δ : Env) (Γ : Ctx) (t : Term) (n : ℕ) → n ≡ 0 → infer Δ Γ t n ≡ OutOfFuel
infer_none Δ Γ t n e = ap (infer Δ Γ t) e

pub infer_spent : (Δ : Env) (Γ : Ctx) (t : Term) (n k : ℕ) → 0 < n → k ≡ n - 1 → infer Δ Γ t n ≡ infer_case Δ (infer Δ) Γ t k
infer_spent Δ Γ t zero k l e = absurd (omega arith)
infer_spent Δ Γ t (suc n) k l e = let q : n ≡ k = omega arith in infer_is Δ Γ t (suc n) ∙ ap (infer_case Δ (infer Δ) Γ t) q

-- ---- what the calls read

count_onto : (us : Terms) (xs : List Term) → count (terms_onto us xs) ≡ count us + length xs
count_onto us [] = omega arith
count_onto us (x ∷ xs) = omega (arith, count_onto (us ▹ x) xs)

map_length : {H : Type 0} (means : H → Term) (hs : List H) → length (map means hs) ≡ length hs
map_length means [] = refl
map_length means (h ∷ hs) = omega (arith, map_length means hs)

pub count_of : {H : Type 0} (means : H → Term) (hs : List H) → count (terms_of (map means hs)) ≡ length hs
count_of means hs = omega (arith, count_onto none (map means hs), map_length means hs)

module _ {H : Type 0} {items : List (Item H)} {metas : List (Decl H)} {Δ : Env} {Γ : Ctx} where
  pub read_count : (means : H → Term) (types : List H) → IsRead means items metas types Δ Γ → count Γ ≡ length types
  read_count means types r = ap count (sym r.context) ∙ count_of means types

  pub read_kept : (holds : H → Type 0) (means : H → Term) (holds' : H → Type 0) (means' : H → Term) (types types' : List H) →
      Keeps holds means holds' means' → AreGlobalsOf holds items metas → All holds types → types' ≡ types →
      IsRead means items metas types Δ Γ → IsRead means' items metas types' Δ Γ
  read_kept holds means holds' means' types types' k g t e r = record {
    env = env_kept holds means holds' means' k items metas g ∙ r.env;
    context = ap (λ x. terms_of (map means' x)) e ∙ ap terms_of (keeps_map holds means holds' means' types k t) ∙ r.context;
  }

  pub read_more : (means : H → Term) (types types' : List H) (h : H) (A : Term) → types' ≡ types ++ h ∷ [] → means h ≡ A →
      IsRead means items metas types Δ Γ → IsRead means items metas types' Δ (Γ ▹ A)
  read_more means types types' h A e m r = record {
    env = r.env;
    context = ap (λ x. terms_of (map means x)) e ∙ terms_of_end means types h ∙ ap₂ ◌▹◌ r.context m;
  }

refusal_of : (A : Type 0) → Refusal → ℕ → Outcome A
refusal_of A q k = Refused q k

again : {A B : Type 0} (q : Refusal) (k left : ℕ) (p : Refusal) → refusal_of B q k ≡ Refused p left → refusal_of A q k ≡ Refused p left
unfolding refusal_of
again q k left p e = let x : q ≡ p = cc in let y : k ≡ left = cc in ap₂ Refused x y

module _ {H : Type 0} (holds : H → Type 0) (means : H → Term) where
  -- a fault that is passed on
  pub residual : {B R : Type 0} (value : R → B) (o : Outcome B) (left : ℕ) (r : Result R (KernelFault H)) (e : KernelFault H) →
      IsErrAnd r (λ x. x ≡ e) → Shows holds means o left e → Answers holds means value o left r
  residual value o left (Ok x) e p h = absurd p
  residual value o left (Err x) e p h = transport (Shows holds means o left) (sym p) h

  pub shows_after : {A B : Type 0} (o : Outcome A) (x : A) (k : ℕ) (f : A → Run B) (left : ℕ) (e : KernelFault H) → o ≡ Gave x k → Shows holds means (f x k) left e → Shows holds means (go_on o f) left e
  shows_after o x k f left e q h = transport (λ z. Shows holds means (go_on z f) left e) (sym q) h

  pub answers_after_two : {A B C R : Type 0} (value : R → C) (o : Outcome A) (x : A) (k : ℕ) (f : A → Run B) (l : B → Run C) (left : ℕ) (r : Result R (KernelFault H)) →
      o ≡ Gave x k → Answers holds means value (go_on (f x k) l) left r → Answers holds means value (go_on (go_on o f) l) left r
  answers_after_two value o x k f l left r e h = transport (λ z. Answers holds means value (go_on (go_on z f) l) left r) (sym e) h

  pub sort_shows : (o : Outcome Sort) (left : ℕ) (e : KernelFault H) → Shows holds means (go_on o (λ s. pure (Srt s))) left e → Shows holds means o left e
  unfolding refusal_of
  sort_shows (Gave s k) left (fault.NotType n t) h = absurd (let q = h.0 in cc)
  sort_shows (Gave s k) left (fault.NotFunction n t u) h = absurd (let q = h.0 in cc)
  sort_shows (Gave s k) left (fault.Mismatch n t u) h = absurd (let q = h.0 in cc)
  sort_shows (Gave s k) left (fault.ReductIllTyped n t u) h = absurd (let q = h.0 in cc)
  sort_shows (Gave s k) left fault.Fuel h = absurd (let q = h.0 in cc)
  sort_shows (Gave s k) left fault.Memory h = tt
  sort_shows (Refused q k) left (fault.NotType n t) h = (again {A = Sort} {B = Term} q k left _ h.0, h.1)
  sort_shows (Refused q k) left (fault.NotFunction n t u) h = (again {A = Sort} {B = Term} q k left _ h.0, h.1, h.2)
  sort_shows (Refused q k) left (fault.Mismatch n t u) h = (again {A = Sort} {B = Term} q k left _ h.0, h.1, h.2)
  sort_shows (Refused q k) left (fault.ReductIllTyped n t u) h = (again {A = Sort} {B = Term} q k left _ h.0, h.1, h.2)
  sort_shows (Refused q k) left fault.Fuel h = absurd (let q = h.0 in cc)
  sort_shows (Refused q k) left fault.Memory h = tt
  sort_shows OutOfFuel left (fault.NotType n t) h = absurd (let q = h.0 in cc)
  sort_shows OutOfFuel left (fault.NotFunction n t u) h = absurd (let q = h.0 in cc)
  sort_shows OutOfFuel left (fault.Mismatch n t u) h = absurd (let q = h.0 in cc)
  sort_shows OutOfFuel left (fault.ReductIllTyped n t u) h = absurd (let q = h.0 in cc)
  sort_shows OutOfFuel left fault.Fuel h = (refl, h.1)
  sort_shows OutOfFuel left fault.Memory h = tt

  -- another refusal
  pub refused_shows : {A : Type 0} (o : Outcome A) (left : ℕ) (e : KernelFault H) (n : ℕ) (t r : H) → holds t → holds r → Shows holds means o left e →
      Shows holds means (other_refusal (ReductIllTyped n (means t) (means r)) o) left (refused_as (fault.ReductIllTyped n t r) e)
  refused_shows o left (fault.NotType k x) n t r a b h = (ap (other_refusal _) h.0, a, b)
  refused_shows o left (fault.NotFunction k x y) n t r a b h = (ap (other_refusal _) h.0, a, b)
  refused_shows o left (fault.Mismatch k x y) n t r a b h = (ap (other_refusal _) h.0, a, b)
  refused_shows o left (fault.ReductIllTyped k x y) n t r a b h = (ap (other_refusal _) h.0, a, b)
  refused_shows o left fault.Fuel n t r a b h = (ap (other_refusal _) h.0, h.1)
  refused_shows o left fault.Memory n t r a b h = tt

pub after : {A B : Type 0} (o : Outcome A) (x : A) (k : ℕ) (f : A → Run B) → o ≡ Gave x k → go_on o f ≡ f x k
after o x k f e = ap (λ z. go_on z f) e

pub sort_gave : (o : Outcome Sort) (T : Term) (k : ℕ) → go_on o (λ s. pure (Srt s)) ≡ Gave T k → (s : Sort) × (o ≡ Gave s k) × (Srt s ≡ T)
sort_gave (Gave s l) T k e = (s, (let q : l ≡ k = cc in ap (Gave s) q), (let q : Srt s ≡ T = cc in q))
sort_gave (Refused q l) T k e = absurd cc
sort_gave OutOfFuel T k e = absurd cc

-- inference spends a unit and goes on with the node
pub entered : (Δ : Env) (Γ : Ctx) (t u : Term) (n k : ℕ) → 0 < n → k ≡ n - 1 → u ≡ t → infer Δ Γ t n ≡ infer_case Δ (infer Δ) Γ u k
entered Δ Γ t u n k l e q = infer_spent Δ Γ t n k l e ∙ ap (λ x. infer_case Δ (infer Δ) Γ x k) (sym q)

pub lam_is : (Γ : Ctx) (A T : Term) (n : ℕ) → T ≢ Square → lam_type Γ A T n ≡ Gave (Pi A T) n
lam_is Γ A (Srt square) n h = absurd (h refl)
lam_is Γ A (Srt star) n h = refl
lam_is Γ A (Var i) n h = refl
lam_is Γ A (App f a) n h = refl
lam_is Γ A (Lam B M) n h = refl
lam_is Γ A (Pi B C) n h = refl
lam_is Γ A (Con c us) n h = refl

pub no_product : (Δ : Env) (Γ : Ctx) (f F P : Term) (n : ℕ) → ((A B : Term) → P ≢ Pi A B) → checked_product Δ (infer Δ) Γ f F P n ≡ Refused (NotFunction (count Γ) f F) n
no_product Δ Γ f F (Pi A B) n h = absurd (h A B refl)
no_product Δ Γ f F (Srt s) n h = refl
no_product Δ Γ f F (Var i) n h = refl
no_product Δ Γ f F (App g a) n h = refl
no_product Δ Γ f F (Lam B M) n h = refl
no_product Δ Γ f F (Con c us) n h = refl

pub checked_is : (Δ : Env) (Γ : Ctx) (f F A B : Term) (n : ℕ) → go_on {B = Term × Term} (reduct_checked Δ Γ F (Pi A B) n) (λ _. pure (A, B)) ≡ checked_product Δ (infer Δ) Γ f F (Pi A B) n
checked_is Δ Γ f F A B n = go (same F (Pi A B)) (or_refuse (infer_sort Δ Γ (Pi A B)) (ReductIllTyped (count Γ) F (Pi A B)))
  where
    join : (o : Outcome Sort) → go_on {B = Term × Term} (go_on o (λ _. pure (tt {0}))) (λ _. pure (A, B)) ≡ go_on {B = Term × Term} o (λ _. pure (A, B))
    join (Gave s k) = refl
    join (Refused q k) = refl
    join OutOfFuel = refl

    go : (b : Bool) (m : Run Sort) → go_on {B = Term × Term} (choose b (pure (tt {0})) (m >> pure (tt {0})) n) (λ _. pure (A, B)) ≡ choose {A = Term × Term} b (pure (A, B)) (m >> pure (A, B)) n
    go true m = refl
    go false m = join (m n)

pub unchecked : (Δ : Env) (Γ : Ctx) (F P : Term) (n : ℕ) → F ≡ P → reduct_checked Δ Γ F P n ≡ Gave (tt {0}) n
unchecked Δ Γ F P n e = ap (λ b. choose b (pure (tt {0})) (or_refuse (infer_sort Δ Γ P) (ReductIllTyped (count Γ) F P) >> pure (tt {0})) n) ((same_decides F P).1 e)

pub checked : (Δ : Env) (Γ : Ctx) (F P : Term) (n : ℕ) → F ≢ P → reduct_checked Δ Γ F P n ≡ (or_refuse (infer_sort Δ Γ P) (ReductIllTyped (count Γ) F P) >> pure (tt {0})) n
checked Δ Γ F P n h = go (same F P) refl
  where
    go : (b : Bool) → same F P ≡ b → choose b (pure (tt {0})) (or_refuse (infer_sort Δ Γ P) (ReductIllTyped (count Γ) F P) >> pure (tt {0})) n ≡ (or_refuse (infer_sort Δ Γ P) (ReductIllTyped (count Γ) F P) >> pure (tt {0})) n
    go true e = absurd (h ((same_decides F P).0 e))
    go false e = refl

-- constants and metavariables
pub instance_is : (Δ : Env) (Γ : Ctx) (c : Head) (us : Terms) (ps : Ctx) (T : Term) (n : ℕ) → count us ≡ count ps → instance_type Δ Γ c us ps T n ≡ (infer_all Δ (infer Δ) Γ us ps >> pure (subst_all us T)) n
instance_is Δ Γ c us ps T n e = ap (λ b. choose b (infer_all Δ (infer Δ) Γ us ps >> pure (subst_all us T)) (refuse (NotType (count Γ) (Con c us))) n) (eq-eqb _ _ e)

pub instance_refused : (Δ : Env) (Γ : Ctx) (c : Head) (us : Terms) (ps : Ctx) (T : Term) (n : ℕ) → count us ≢ count ps → instance_type Δ Γ c us ps T n ≡ Refused (NotType (count Γ) (Con c us)) n
instance_refused Δ Γ c us ps T n h = go (nat_eq (count us) (count ps)) refl
  where
    go : (b : Bool) → nat_eq (count us) (count ps) ≡ b → choose b (infer_all Δ (infer Δ) Γ us ps >> pure (subst_all us T)) (refuse (NotType (count Γ) (Con c us))) n ≡ Refused (NotType (count Γ) (Con c us)) n
    go true e = absurd (h (eqb-true _ _ e))
    go false e = refl

-- a type that is no sort is brought to weak head form
pub sort_in_is : (Δ : Env) (Γ : Ctx) (t T : Term) (n : ℕ) → ((s : Sort) → T ≢ Srt s) → sort_in Δ Γ t T n ≡ (whnf Δ T >>= λ T'. star_or Γ t T') n
sort_in_is Δ Γ t (Srt s) n h = absurd (h s refl)
sort_in_is Δ Γ t (Var i) n h = refl
sort_in_is Δ Γ t (App f a) n h = refl
sort_in_is Δ Γ t (Lam A M) n h = refl
sort_in_is Δ Γ t (Pi A B) n h = refl
sort_in_is Δ Γ t (Con c us) n h = refl

-- ---- arguments one after another

module _ (Δ : Env) (f : Infers) (Γ : Ctx) {H X Y : Type 0} (holds : H → Type 0) (means : H → Term) (ma : X → Term) (mp : Y → Term) (n left : ℕ) (e : KernelFault H) where
  rest_shows : (us ps : Terms) (xs : List X) (ys : List Y) → length xs ≡ length ys → Shows holds means (infer_all Δ f Γ us ps n) left e →
      Shows holds means (infer_all Δ f Γ (terms_onto us (map ma xs)) (terms_onto ps (map mp ys)) n) left e
  rest_shows us ps [] [] l h = h
  rest_shows us ps (x ∷ xs) (y ∷ ys) l h = rest_shows (us ▹ ma x) (ps ▹ mp y) xs ys (omega arith) (shows_more holds means (infer_all Δ f Γ us ps n) _ left e h)
  rest_shows us ps [] (y ∷ ys) l h = absurd (omega arith)
  rest_shows us ps (x ∷ xs) [] l h = absurd (omega arith)

  all_onto : (us ps : Terms) (xs : List X) (ys : List Y) (k : ℕ) (x : X) → length xs ≡ length ys → k < length xs →
      ((P : Term) → ((y : Y) → P ≡ mp (get_or ys k y)) → Shows holds means (infer_all Δ f Γ (terms_onto us (map ma (take k xs)) ▹ ma (get_or xs k x)) (terms_onto ps (map mp (take k ys)) ▹ P) n) left e) →
      Shows holds means (infer_all Δ f Γ (terms_onto us (map ma xs)) (terms_onto ps (map mp ys)) n) left e
  all_onto us ps [] ys k x l b h = absurd (omega arith)
  all_onto us ps (a ∷ xs) [] k x l b h = absurd (omega arith)
  all_onto us ps (a ∷ xs) (c ∷ ys) zero x l b h = rest_shows (us ▹ ma a) (ps ▹ mp c) xs ys (omega arith) (h (mp c) (λ y. refl))
  all_onto us ps (a ∷ xs) (c ∷ ys) (suc k) x l b h = all_onto (us ▹ ma a) (ps ▹ mp c) xs ys k x (omega arith) (omega arith) h

  -- a fault at one of the arguments is a fault of all
  pub all_shows : (xs : List X) (ys : List Y) (k : ℕ) (x : X) → length xs ≡ length ys → k < length xs →
      ((P : Term) → ((y : Y) → P ≡ mp (get_or ys k y)) → Shows holds means (infer_all Δ f Γ (terms_of (map ma (take k xs)) ▹ ma (get_or xs k x)) (terms_of (map mp (take k ys)) ▹ P) n) left e) →
      Shows holds means (infer_all Δ f Γ (terms_of (map ma xs)) (terms_of (map mp ys)) n) left e
  all_shows xs ys k x l b h = all_onto none none xs ys k x l b h

-- ---- an answer is a derivation

pub type_derives : {H : Type 0} (holds : H → Type 0) (means : H → Term) (Δ : Env) (Γ : Ctx) (t : Term) (n left : ℕ) (r : Result H (KernelFault H)) → Answers holds means means (infer Δ Γ t n) left r → IsLegal Δ Γ → IfOk r (λ x. Derives Δ Γ t (means x))
type_derives holds means Δ Γ t n left (Ok x) a ok = inference_is_sound Δ Γ t (means x) n left ok a
type_derives holds means Δ Γ t n left (Err e) a ok = tt

pub sort_derives : {H : Type 0} (holds : H → Type 0) (means : H → Term) (Δ : Env) (Γ : Ctx) (t : Term) (n left : ℕ) (r : Result H (KernelFault H)) → Answers holds means means (sort_term Δ Γ t n) left r → IsLegal Δ Γ → IfOk r (λ x. Derives Δ Γ t (means x))
sort_derives holds means Δ Γ t n left (Ok x) a ok = let w = sort_gave (infer_sort Δ Γ t n) (means x) left a in transport (Derives Δ Γ t) w.2 (sort_is_sound Δ Γ t w.0 n left ok w.1)
sort_derives holds means Δ Γ t n left (Err e) a ok = tt

same_types : {H : Type 0} (means : H → Term) (ls : List (Local H)) → map means (map (λ l. l.ty) ls) ≡ map (λ l. means l.ty) ls
same_types means [] = refl
same_types means (l ∷ ls) = ap (λ xs. means l.ty ∷ xs) (same_types means ls)

pub types_of_context : {H : Type 0} (means : H → Term) (ls : List (Local H)) → terms_of (map means (map (λ l. l.ty) ls)) ≡ context_of means ls
types_of_context means ls = ap terms_of (same_types means ls)

all_types : {H : Type 0} (holds : H → Type 0) (ls : List (Local H)) → AreLocals holds ls → (k : ℕ) (d : H) → k < length (map (λ l. l.ty) ls) → holds (get_or (map (λ l. l.ty) ls) k d)
all_types holds [] a k d l = absurd (omega arith)
all_types holds (x ∷ ls) a zero d l = a 0 x (omega arith)
all_types holds (x ∷ ls) a (suc k) d l = all_types holds ls (λ i e m. a (suc i) e (omega arith)) k d (omega arith)

pub types_held : {H : Type 0} (holds : H → Type 0) (ls : List (Local H)) (types : List H) → types ≡ map (λ l. l.ty) ls → AreLocals holds ls → All holds types
types_held holds ls types e a = transport (All holds) (sym e) (all_types holds ls a)
