-- Equal terms have a common reduct, and what follows for products and sorts.
use Rattle.std.proofs.Common.{◌≡◌, refl, sym, ◌∙◌}
use Rattle.ld_trees.specs.Term.{◌▹◌, Term, Terms, Pi, Srt, Var, App, Lam, Con}
use Rattle.ld_rules.specs.Environment.{Env}
use Rattle.ld_rules.specs.Reduction.{Step, beta, delta, in_function, in_argument, in_lam_type, in_lam_body, in_domain, in_codomain, in_arguments, Steps, in_last, in_earlier, Equal, reflexive, transitive, by_step, EqualAll, no_terms, one_more, symmetric}
use Rattle.ld_rules.proofs.ScopedJudgements.{EnvironmentScoped, in_scope}
use Rattle.ld_rules.proofs.Congruence.{equal_app, equal_lam, equal_pi, equal_con}
use Rattle.ld_confluence.specs.Reducts.{Reduces, no_steps, step_and}
use Rattle.ld_confluence.specs.Laws.{Confluence, ProductsAreInjective}
use Rattle.ld_confluence.proofs.Parallel.{Parallel, par_beta, par_itself, par_delta, pars_itself, par_app, par_lam, par_pi, par_con, AllParallel, par_more, par_sort, par_var, pars_count, par_none, ManyParallel, finished, and_then, confluent, many_then}

mutual
  pub step_par : {Δ : Env} {a b : Term} → Step Δ a b → Parallel Δ a b
  step_par beta = par_beta (par_itself _ _) (par_itself _ _)
  step_par (delta {us = us} d M p e n) = par_delta d M p e n (pars_itself _ us)
  step_par (in_function e) = par_app (step_par e) (par_itself _ _)
  step_par (in_argument e) = par_app (par_itself _ _) (step_par e)
  step_par (in_lam_type e) = par_lam (step_par e) (par_itself _ _)
  step_par (in_lam_body e) = par_lam (par_itself _ _) (step_par e)
  step_par (in_domain e) = par_pi (step_par e) (par_itself _ _)
  step_par (in_codomain e) = par_pi (par_itself _ _) (step_par e)
  step_par (in_arguments e) = par_con (steps_par e)

  pub steps_par : {Δ : Env} {us vs : Terms} → Steps Δ us vs → AllParallel Δ us vs
  steps_par (in_last e) = par_more (pars_itself _ _) (step_par e)
  steps_par (in_earlier e) = par_more (steps_par e) (par_itself _ _)

mutual
  pub par_equal : {Δ : Env} {a b : Term} → Parallel Δ a b → Equal Δ a b
  par_equal par_sort = reflexive
  par_equal par_var = reflexive
  par_equal (par_app p q) = equal_app _ _ _ _ _ (par_equal p) (par_equal q)
  par_equal (par_lam p q) = equal_lam _ _ _ _ _ (par_equal p) (par_equal q)
  par_equal (par_pi p q) = equal_pi _ _ _ _ _ (par_equal p) (par_equal q)
  par_equal (par_con {h = h} p) = equal_con _ h _ _ (pars_equal p)
  par_equal (par_beta {A = A} p q) =
      transitive (equal_app _ _ _ _ _ (equal_lam _ A A _ _ reflexive (par_equal p)) (par_equal q)) (by_step beta)
  par_equal (par_delta {h = h} d M p e n q) =
      transitive (equal_con _ h _ _ (pars_equal q)) (by_step (delta d M p e (sym (pars_count q) ∙ n)))

  pub pars_equal : {Δ : Env} {us vs : Terms} → AllParallel Δ us vs → EqualAll Δ us vs
  pars_equal par_none = no_terms
  pars_equal (par_more p q) = one_more (pars_equal p) (par_equal q)

module _ (Δ : Env) (ok : EnvironmentScoped Δ) where
  many_equal : {a b : Term} → ManyParallel Δ ok a b → Equal Δ a b
  many_equal finished = reflexive
  many_equal (and_then p r) = transitive (par_equal p) (many_equal r)

  -- equal terms have a common reduct
  pub common : {a b : Term} → Equal Δ a b → (c : Term) × ManyParallel Δ ok a c × ManyParallel Δ ok b c
  common (by_step {b = b} e) = (b, and_then (step_par e) finished, finished)
  common (reflexive {a = a}) = (a, finished, finished)
  common (symmetric e) = let t = common e in (t.0, t.2, t.1)
  common (transitive e f) =
      let t = common e in
      let u = common f in
      let v = confluent Δ ok t.2 u.1 in
      (v.0, many_then Δ ok t.1 v.1, many_then Δ ok u.2 v.2)

  -- what a product and a sort come to
  abbrev Keeps : Term → Term → Type 0
  Keeps (Pi A B) (Pi C D) = Equal Δ A C × Equal Δ B D
  Keeps (Pi A B) _ = ⊥
  Keeps (Srt s) (Srt z) = s ≡ z
  Keeps (Srt s) _ = ⊥
  Keeps _ _ = Unit {0}

  keeps_itself : (a : Term) → Keeps a a
  keeps_itself (Pi A B) = (reflexive, reflexive)
  keeps_itself (Srt s) = refl
  keeps_itself (Var i) = tt
  keeps_itself (App f a) = tt
  keeps_itself (Lam f a) = tt
  keeps_itself (Con f a) = tt

  keeps_par : {a b : Term} (c : Term) → Parallel Δ a b → Keeps b c → Keeps a c
  keeps_par (Pi C D) (par_pi p q) k = (transitive (par_equal p) k.0, transitive (par_equal q) k.1)
  keeps_par (Srt s) (par_pi p q) k = k
  keeps_par (Var s) (par_pi p q) k = k
  keeps_par (App s t) (par_pi p q) k = k
  keeps_par (Lam s t) (par_pi p q) k = k
  keeps_par (Con s t) (par_pi p q) k = k
  keeps_par c par_sort k = k
  keeps_par c par_var k = tt
  keeps_par c (par_app p q) k = tt
  keeps_par c (par_lam p q) k = tt
  keeps_par c (par_con p) k = tt
  keeps_par c (par_beta p q) k = tt
  keeps_par c (par_delta d M p e n q) k = tt

  keeps : {a c : Term} → ManyParallel Δ ok a c → Keeps a c
  keeps (finished {a = a}) = keeps_itself a
  keeps (and_then {c = c} p r) = keeps_par c p (keeps r)

  products : (A B C D c : Term) → Keeps (Pi A B) c → Keeps (Pi C D) c → Equal Δ A C × Equal Δ B D
  products A B C D (Pi X Y) k l = (transitive k.0 (symmetric l.0), transitive k.1 (symmetric l.1))
  products A B C D (Srt s) k l = absurd k
  products A B C D (Var s) k l = absurd k
  products A B C D (App s t) k l = absurd k
  products A B C D (Lam s t) k l = absurd k
  products A B C D (Con s t) k l = absurd k

  -- equal products have equal parts
  pub product_parts : {A B C D : Term} → Equal Δ (Pi A B) (Pi C D) → Equal Δ A C × Equal Δ B D
  product_parts {A} {B} {C} {D} e = let t = common e in products A B C D t.0 (keeps t.1) (keeps t.2)

-- many step_and under a constructor
reduces_map : {Δ : Env} (f : Term → Term) → ((a b : Term) → Step Δ a b → Step Δ (f a) (f b)) → {a b : Term} → Reduces Δ a b → Reduces Δ (f a) (f b)
reduces_map f h no_steps = no_steps
reduces_map f h (step_and e r) = step_and (h _ _ e) (reduces_map f h r)

reduces_then : {Δ : Env} {a b c : Term} → Reduces Δ a b → Reduces Δ b c → Reduces Δ a c
reduces_then no_steps r = r
reduces_then (step_and e q) r = step_and e (reduces_then q r)

reduces_two : {Δ : Env} (f : Term → Term → Term) → ((a b c : Term) → Step Δ a b → Step Δ (f a c) (f b c)) → ((a b c : Term) → Step Δ b c → Step Δ (f a b) (f a c)) → {a b c d : Term} → Reduces Δ a b → Reduces Δ c d → Reduces Δ (f a c) (f b d)
reduces_two f h k {a} {b} {c} {d} p q = reduces_then (reduces_map (λ x. f x c) (λ x y. h x y c) p) (reduces_map (f b) (k b) q)

mutual
  par_reduces : {Δ : Env} {a b : Term} → Parallel Δ a b → Reduces Δ a b
  par_reduces par_sort = no_steps
  par_reduces par_var = no_steps
  par_reduces (par_app p q) = reduces_two App (λ _ _ _ s. in_function s) (λ _ _ _ s. in_argument s) (par_reduces p) (par_reduces q)
  par_reduces (par_lam p q) = reduces_two Lam (λ _ _ _ s. in_lam_type s) (λ _ _ _ s. in_lam_body s) (par_reduces p) (par_reduces q)
  par_reduces (par_pi p q) = reduces_two Pi (λ _ _ _ s. in_domain s) (λ _ _ _ s. in_codomain s) (par_reduces p) (par_reduces q)
  par_reduces (par_con {h = h} p) = pars_reduce p (Con h) (λ _ _ s. in_arguments s)
  par_reduces (par_beta {A = A} p q) =
      reduces_then (reduces_two (λ m n. App (Lam A m) n) (λ _ _ _ s. in_function (in_lam_body s)) (λ _ _ _ s. in_argument s) (par_reduces p) (par_reduces q)) (step_and beta no_steps)
  par_reduces (par_delta {h = h} d M p e n q) =
      reduces_then (pars_reduce q (Con h) (λ _ _ s. in_arguments s)) (step_and (delta d M p e (sym (pars_count q) ∙ n)) no_steps)

  pars_reduce : {Δ : Env} {us vs : Terms} → AllParallel Δ us vs → (f : Terms → Term) → ((xs ys : Terms) → Steps Δ xs ys → Step Δ (f xs) (f ys)) → Reduces Δ (f us) (f vs)
  pars_reduce par_none f h = no_steps
  pars_reduce (par_more {us = us} {vs = vs} {v = v} p q) f h =
      reduces_then (reduces_map (λ x. f (us ▹ x)) (λ x y s. h _ _ (in_last s)) (par_reduces q)) (pars_reduce p (λ xs. f (xs ▹ v)) (λ xs ys s. h _ _ (in_earlier s)))

many_reduce : (Δ : Env) (ok : EnvironmentScoped Δ) {a b : Term} → ManyParallel Δ ok a b → Reduces Δ a b
many_reduce Δ ok finished = no_steps
many_reduce Δ ok (and_then p r) = reduces_then (par_reduces p) (many_reduce Δ ok r)

pub confluence : Confluence
confluence Δ a b l e =
    let ok = (in_scope l).env in
    let t = common Δ ok e in
    (t.0, many_reduce Δ ok t.1, many_reduce Δ ok t.2)

pub products_are_injective : ProductsAreInjective
products_are_injective Δ A B C D l e = product_parts Δ (in_scope l).env e
