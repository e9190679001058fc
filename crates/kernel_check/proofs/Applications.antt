-- Applications of a head to arguments, one after another.
use Rattle.std.proofs.Common.{◌≡◌, ℕ, suc, ◌-◌, ◌<◌, List, [], ◌∷◌, ◌++◌, All, refl, sym, ap, ap₂, ◌∙◌, arith}
use Rattle.ld_trees.specs.Term.{Term, App}
use Rattle.ld_rules.specs.Environment.{Ctx, Env}
use Rattle.ld_terms.specs.Views.{Keeps}
use Rattle.conversion.specs.Spines.{BothHeld}
use Rattle.conversion.specs.Runs.{Outcome, OutOfFuel, go_on}
use Rattle.kernel_check.specs.Inference.{infer}
use Rattle.kernel_check.specs.Answers.{Shows}
use Rattle.kernel_check.specs.Steps.{along, applied_type, pair_trees}
use Rattle.kernel_check.specs.declared.fault.KernelFault.{KernelFault}
use Rattle.kernel_check.proofs.Calls.{shows_more, infer_none, infer_spent}

-- the application next to the head comes first
pub along_end : (Δ : Env) (Γ : Ctx) (ps : List (Term × Term)) (f a : Term) (o : Outcome Term) → along Δ Γ (ps ++ (f, a) ∷ []) o ≡ along Δ Γ ps (go_on o (applied_type Δ Γ f a))
along_end Δ Γ [] f a o = refl
along_end Δ Γ (q ∷ ps) f a o = ap (λ x. go_on x (applied_type Δ Γ q.0 q.1)) (along_end Δ Γ ps f a o)

-- a fault at the head is one of the whole
pub along_shows : {H : Type 0} (holds : H → Type 0) (means : H → Term) (Δ : Env) (Γ : Ctx) (ps : List (Term × Term)) (o : Outcome Term) (left : ℕ) (e : KernelFault H) →
    Shows holds means o left e → Shows holds means (along Δ Γ ps o) left e
along_shows holds means Δ Γ [] o left e h = h
along_shows holds means Δ Γ (q ∷ ps) o left e h = shows_more holds means (along Δ Γ ps o) (applied_type Δ Γ q.0 q.1) left e (along_shows holds means Δ Γ ps o left e h)

trees_end : {H : Type 0} (means : H → Term) (ps : List (H × H)) (f a : H) → pair_trees means (ps ++ (f, a) ∷ []) ≡ pair_trees means ps ++ (means f, means a) ∷ []
trees_end means [] f a = refl
trees_end means (q ∷ ps) f a = ap (λ x. (means q.0, means q.1) ∷ x) (trees_end means ps f a)

-- the application next to the head, of a list of handles
pub along_last : {H : Type 0} (means : H → Term) (Δ : Env) (Γ : Ctx) (ps qs : List (H × H)) (f a : H) (o : Outcome Term) → qs ≡ ps ++ (f, a) ∷ [] →
    along Δ Γ (pair_trees means qs) o ≡ along Δ Γ (pair_trees means ps) (go_on o (applied_type Δ Γ (means f) (means a)))
along_last means Δ Γ ps qs f a o e =
    ap (λ x. along Δ Γ (pair_trees means x) o) e ∙ ap (λ x. along Δ Γ x o) (trees_end means ps f a) ∙ along_end Δ Γ (pair_trees means ps) (means f) (means a) o

-- one application further down, for one unit
pub one_further : {H : Type 0} (means : H → Term) (Δ : Env) (Γ : Ctx) (ps qs : List (H × H)) (t : Term) (f a : H) (n k : ℕ) → 0 < n → k ≡ n - 1 → App (means f) (means a) ≡ t → qs ≡ ps ++ (f, a) ∷ [] →
    along Δ Γ (pair_trees means ps) (infer Δ Γ t n) ≡ along Δ Γ (pair_trees means qs) (infer Δ Γ (means f) k)
one_further means Δ Γ ps qs t f a n k l e p q =
    ap (λ x. along Δ Γ (pair_trees means ps) (infer Δ Γ x n)) (sym p)
    ∙ ap (along Δ Γ (pair_trees means ps)) (infer_spent Δ Γ (App (means f) (means a)) n k l e)
    ∙ sym (along_last means Δ Γ ps qs f a (infer Δ Γ (means f) k) q)

-- no unit for a further one
along_stops : (Δ : Env) (Γ : Ctx) (ps : List (Term × Term)) → along Δ Γ ps OutOfFuel ≡ OutOfFuel
along_stops Δ Γ [] = refl
along_stops Δ Γ (q ∷ ps) = ap (λ x. go_on x (applied_type Δ Γ q.0 q.1)) (along_stops Δ Γ ps)

pub none_further : (Δ : Env) (Γ : Ctx) (ps : List (Term × Term)) (t : Term) (n : ℕ) → n ≡ 0 → along Δ Γ ps (infer Δ Γ t n) ≡ OutOfFuel
none_further Δ Γ ps t n e = ap (along Δ Γ ps) (infer_none Δ Γ t n e) ∙ along_stops Δ Γ ps

-- pairs of handles while the store grows
module _ {H : Type 0} (holds : H → Type 0) (means : H → Term) (holds' : H → Type 0) (means' : H → Term) (kept : Keeps holds means holds' means') where
  pub trees_kept : (ps : List (H × H)) → All (BothHeld holds) ps → pair_trees means' ps ≡ pair_trees means ps
  trees_kept [] a = refl
  trees_kept (p ∷ ps) a = ap₂ ◌∷◌ (ap₂ (λ x y. (x, y)) (kept p.0 (a 0 p (omega arith)).0).1 (kept p.1 (a 0 p (omega arith)).1).1) (trees_kept ps (λ k d l. a (suc k) d (omega arith)))

  pub pairs_held : (ps : List (H × H)) → All (BothHeld holds) ps → All (BothHeld holds') ps
  pairs_held ps a k d l = let b = a k d l in ((kept _ b.0).0, (kept _ b.1).0)
