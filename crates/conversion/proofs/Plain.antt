-- What the conversion of terms without redexes, constants and metavariables costs.
use Rattle.std.proofs.Common.{◌≡◌, ℕ, zero, suc, ◌+◌, ◌≤◌, min, List, [], ◌∷◌, ◌++◌, Bool, true, false, ◌&&◌, None, refl, sym, ap, ap₂, ◌∙◌, subst, arith}
use mathlib.Core.Path.{fun_ext}
use Rattle.ld_trees.specs.Term.{Term, Srt, Var, App, Lam, Pi, Con, same, nodes}
use Rattle.ld_rules.specs.Environment.{Env}
use Rattle.conversion.specs.Runs.{Gave, Run, pure, spend, go_on, ◌>>=◌, ◌>>◌, choose}
use Rattle.conversion.specs.WeakHead.{whnf, head_step}
use Rattle.conversion.specs.Conversion.{conv, alike, is_defined_at_head, both, part_pairs, convert_each, conv_step}
use Rattle.conversion.specs.Laws.{IsPlain, PlainIsCheap}
use Rattle.conversion.proofs.Heads.{whnf_none}
use Rattle.conversion.proofs.Levels.{conv_is}

no_step : (Δ : Env) (t : Term) → IsPlain t → head_step Δ t ≡ None
no_step Δ (Srt s) h = refl
no_step Δ (Var i) h = refl
no_step Δ (Lam A M) h = refl
no_step Δ (Pi A M) h = refl
no_step Δ (Con c us) h = absurd h
no_step Δ (App (Srt s) a) h = refl
no_step Δ (App (Var s) a) h = refl
no_step Δ (App (Lam A M) a) h = absurd h.0
no_step Δ (App (Pi A M) a) h = refl
no_step Δ (App (Con c us) a) h = absurd h.1
no_step Δ (App (App f b) a) h = rw (no_step Δ (App f b) h.1)

not_defined : (Δ : Env) (t : Term) → IsPlain t → is_defined_at_head Δ t ≡ false
not_defined Δ (App f a) h = not_defined Δ f h.1
not_defined Δ (Con c us) h = absurd h
not_defined Δ _ h = refl

-- an answer that costs at most c units
abbrev pub Costs : {A : Type 0} → Run A → ℕ → Type 0
Costs {A} m c = (n : ℕ) → c ≤ n → (x : A) × (k : ℕ) × (m n ≡ Gave x k) × (n ≤ k + c)

costs_more : {A : Type 0} (m : Run A) (c d : ℕ) → c ≤ d → Costs m c → Costs m d
costs_more m c d l h n p = let r = h n (omega arith) in (r.0, r.1, r.2, omega (arith, r.3))

costs_pure : {A : Type 0} (x : A) → Costs (pure x) 0
costs_pure x n p = (x, n, refl, omega arith)

costs_spend : {A : Type 0} (m : Run A) (c : ℕ) → Costs m c → Costs (spend >> m) (suc c)
costs_spend m c h zero p = absurd (omega arith)
costs_spend m c h (suc n) p = let r = h n (omega arith) in (r.0, r.1, r.2, omega (arith, r.3))

costs_choose : {A : Type 0} (b : Bool) (m k : Run A) (c : ℕ) → Costs m c → Costs k c → Costs (choose b m k) c
costs_choose true m k c h l = h
costs_choose false m k c h l = l

costs_bind : {A B : Type 0} (m : Run A) (f : A → Run B) (c d : ℕ) → Costs m c → ((x : A) → Costs (f x) d) → Costs (m >>= f) (c + d)
costs_bind m f c d h g n p =
    let r = h n (omega arith) in
    let q = g r.0 r.1 (omega (arith, r.3)) in
    (q.0, q.1, ap (λ o. go_on o f) r.2 ∙ q.2, omega (arith, r.3, q.3))

costs_both : (m k : Run Bool) (c d : ℕ) → Costs m c → Costs k d → Costs (both m k) (c + d)
costs_both m k c d h l = costs_bind m (λ b. choose b k (pure false)) c d h (λ b. costs_choose b k (pure false) d l (costs_more _ 0 d (omega arith) (costs_pure false)))

some_node : (t : Term) → 1 ≤ nodes t
some_node (Srt s) = omega arith
some_node (Var i) = omega arith
some_node (App a b) = omega arith
some_node (Lam a b) = omega arith
some_node (Pi a b) = omega arith
some_node (Con h us) = omega arith

-- the nodes of the smaller of each pair
abbrev total : List (Term × Term) → ℕ
total [] = 0
total (p ∷ ps) = min (nodes p.0) (nodes p.1) + total ps

total_append : (ps qs : List (Term × Term)) → total (ps ++ qs) ≡ total ps + total qs
total_append [] qs = omega arith
total_append (p ∷ ps) qs = let h = total_append ps qs in omega (arith, h)

total_less : (a b : Term) → IsPlain a → suc (total (part_pairs a b)) ≤ min (nodes a) (nodes b)
total_less (App f a) (App g b) p = omega (arith, total_less f g p.1, total_append (part_pairs f g) ((a, b) ∷ []))
total_less (Lam f a) (Lam g b) p = omega arith
total_less (Pi f a) (Pi g b) p = omega arith
total_less (Con c us) b p = absurd p
total_less (Srt s) b p = omega (arith, some_node b)
total_less (Var s) b p = omega (arith, some_node b)
total_less a b p = omega (arith, some_node a, some_node b)

module _ (Δ : Env) where
  whnf_plain : (t : Term) → IsPlain t → whnf Δ t ≡ pure t
  whnf_plain t h = fun_ext (λ n. whnf_none Δ t (no_step Δ t h) n)

  -- what each pair costs, and all of them
  EachCosts : List (Term × Term) → Type 0
  EachCosts [] = Unit {0}
  EachCosts (p ∷ ps) = Costs (conv Δ p.0 p.1) (min (nodes p.0) (nodes p.1)) × EachCosts ps

  each_append : (ps qs : List (Term × Term)) → EachCosts ps → EachCosts qs → EachCosts (ps ++ qs)
  unfolding EachCosts
  each_append [] qs h k = k
  each_append (p ∷ ps) qs h k = (h.0, each_append ps qs h.1 k)

  each_costs : (ps : List (Term × Term)) → EachCosts ps → Costs (convert_each (conv Δ) ps) (total ps)
  unfolding EachCosts
  each_costs [] h = costs_pure true
  each_costs (p ∷ ps) h = costs_both _ _ _ _ h.0 (each_costs ps h.1)

  conv_costs : (a b : Term) → IsPlain a → IsPlain b → EachCosts (part_pairs a b) → Costs (conv Δ a b) (min (nodes a) (nodes b))
  conv_costs a b p q h =
      let e : conv Δ a b ≡ conv_step Δ (conv Δ) a b = fun_ext (conv_is Δ a b) in
      let rest : Run Bool = choose (alike a b) (convert_each (conv Δ) (part_pairs a b)) (pure false) in
      let c : Costs rest (total (part_pairs a b)) = costs_choose (alike a b) _ _ _ (each_costs (part_pairs a b) h) (costs_more _ 0 _ (omega arith) (costs_pure false)) in
      let first : Bool → Run Bool = λ twins. choose twins (convert_each (conv Δ) (part_pairs a b)) (pure false) in
      let then_rest : Bool → Run Bool = λ twins. choose (same a b) (pure true) (spend >> (first twins >>= (λ done. choose done (pure true) (whnf Δ a >>= (λ a'. whnf Δ b >>= λ b'. choose (alike a' b') (convert_each (conv Δ) (part_pairs a' b')) (pure false)))))) in
      let w : conv_step Δ (conv Δ) a b ≡ choose (same a b) (pure true) (spend >> rest) = ap (λ t. then_rest (t && alike a b)) (not_defined Δ a p) ∙ ap₂ (λ (x y : Run Term). choose (same a b) (pure true) (spend >> (x >>= (λ a'. y >>= λ b'. choose (alike a' b') (convert_each (conv Δ) (part_pairs a' b')) (pure false))))) (whnf_plain a p) (whnf_plain b q) in
      subst (λ m. Costs m (min (nodes a) (nodes b))) (sym (e ∙ w)) (costs_choose (same a b) _ _ _ (costs_more _ 0 _ (omega arith) (costs_pure true)) (costs_more _ _ _ (total_less a b p) (costs_spend rest _ c)))

  parts_cost : (a b : Term) → IsPlain a → IsPlain b → EachCosts (part_pairs a b)
  unfolding EachCosts
  parts_cost (App f a) (App g b) p q = each_append (part_pairs f g) _ (parts_cost f g p.1 q.1) (conv_costs a b p.2 q.2 (parts_cost a b p.2 q.2), tt)
  parts_cost (Lam f a) (Lam g b) p q = (conv_costs f g p.0 q.0 (parts_cost f g p.0 q.0), (conv_costs a b p.1 q.1 (parts_cost a b p.1 q.1), tt))
  parts_cost (Pi f a) (Pi g b) p q = (conv_costs f g p.0 q.0 (parts_cost f g p.0 q.0), (conv_costs a b p.1 q.1 (parts_cost a b p.1 q.1), tt))
  parts_cost (Con c us) b p q = absurd p
  parts_cost _ _ p q = tt

  -- no want of fuel where the units are at least the nodes of the smaller term
  pub conv_plain : (a b : Term) → IsPlain a → IsPlain b → Costs (conv Δ a b) (min (nodes a) (nodes b))
  conv_plain a b p q = conv_costs a b p q (parts_cost a b p q)

pub plain_is_cheap : PlainIsCheap
plain_is_cheap Δ a b n p q l e = let r = conv_plain Δ a b p q n l in absurd (let f = sym e ∙ r.2 in cc)
