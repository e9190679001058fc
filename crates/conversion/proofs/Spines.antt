-- Steps at the head of a term with arguments.
use Rattle.std.proofs.Common.{◌≡◌, zero, suc, List, [], ◌∷◌, ◌++◌, map, All, Some, None, option_map, refl, sym, ap, ap₂, ◌∙◌, arith}
use Rattle.std.proofs.lemmas.List.{map-append}
use Rattle.std.proofs.lemmas.List.Elements.{All-append}
use Rattle.ld_trees.specs.Term.{Term, Srt, Var, App, Lam, Pi, Con}
use Rattle.ld_rules.specs.Environment.{Env}
use Rattle.conversion.specs.WeakHead.{head_step}
use Rattle.conversion.specs.Laws.{IsNoAbstraction}
use Rattle.conversion.specs.Spines.{applied}
use Rattle.ld_terms.specs.Views.{Keeps}
use Rattle.ld_terms.proofs.Turns.{keeps_map}

pub applied_end : (t u : Term) (us : List Term) → applied t (us ++ u ∷ []) ≡ applied (App t u) us
applied_end t u [] = refl
applied_end t u (x ∷ us) = ap (λ f. App f x) (applied_end t u us)

-- a step of the head is a step of the whole
step_of_function : (Δ : Env) (f g u : Term) → head_step Δ f ≡ Some g → head_step Δ (App f u) ≡ Some (App g u)
step_of_function Δ (Srt s) g u e = absurd cc
step_of_function Δ (Var i) g u e = absurd cc
step_of_function Δ (Lam A M) g u e = absurd cc
step_of_function Δ (Pi A B) g u e = absurd cc
step_of_function Δ (App f a) g u e = ap (option_map (λ x. App x u)) e
step_of_function Δ (Con h us) g u e = ap (option_map (λ x. App x u)) e

pub step_applied : (Δ : Env) (t t' : Term) (us : List Term) → head_step Δ t ≡ Some t' → head_step Δ (applied t us) ≡ Some (applied t' us)
step_applied Δ t t' [] e = e
step_applied Δ t t' (u ∷ us) e = step_of_function Δ (applied t us) (applied t' us) u (step_applied Δ t t' us e)

-- no step of a head that is no abstraction is no step of the whole
no_step_of_function : (Δ : Env) (f u : Term) → IsNoAbstraction f → head_step Δ f ≡ None → head_step Δ (App f u) ≡ None
no_step_of_function Δ (Lam A M) u h e = absurd h
no_step_of_function Δ (Srt s) u h e = refl
no_step_of_function Δ (Var i) u h e = refl
no_step_of_function Δ (Pi A B) u h e = refl
no_step_of_function Δ (App f a) u h e = ap (option_map (λ x. App x u)) e
no_step_of_function Δ (Con c us) u h e = ap (option_map (λ x. App x u)) e

no_abstraction : (t : Term) (us : List Term) → IsNoAbstraction t → IsNoAbstraction (applied t us)
no_abstraction t [] h = h
no_abstraction t (u ∷ us) h = tt

pub no_step_applied : (Δ : Env) (t : Term) (us : List Term) → IsNoAbstraction t → head_step Δ t ≡ None → head_step Δ (applied t us) ≡ None
no_step_applied Δ t [] h e = e
no_step_applied Δ t (u ∷ us) h e = no_step_of_function Δ (applied t us) u (no_abstraction t us h) (no_step_applied Δ t us h e)

-- ---- one argument more or fewer that waits

all_one : {X : Type 0} (P : X → Type 0) (x : X) → P x → All P (x ∷ [])
all_one P x p zero d l = p
all_one P x p (suc i) d l = absurd (omega arith)

pub all_pushed : {X : Type 0} (P : X → Type 0) (xs ys : List X) (x : X) → ys ≡ xs ++ x ∷ [] → All P xs → P x → All P ys
all_pushed P xs ys x e a p = rw e (All-append P xs (x ∷ []) a (all_one P x p))

last_of : {X : Type 0} (P : X → Type 0) (xs : List X) (x : X) → All P (xs ++ x ∷ []) → P x
last_of P [] x a = a 0 x (omega arith)
last_of P (y ∷ xs) x a = last_of P xs x (λ i d l. a (suc i) d (omega arith))

rest_of : {X : Type 0} (P : X → Type 0) (xs : List X) (x : X) → All P (xs ++ x ∷ []) → All P xs
rest_of P [] x a i d l = absurd (omega arith)
rest_of P (y ∷ xs) x a zero d l = a zero d (omega arith)
rest_of P (y ∷ xs) x a (suc i) d l = rest_of P xs x (λ k d l. a (suc k) d (omega arith)) i d (omega arith)

pub all_popped : {X : Type 0} (P : X → Type 0) (xs ys : List X) (x : X) → xs ≡ ys ++ x ∷ [] → All P xs → All P ys × P x
all_popped P xs ys x e a = let b : All P (ys ++ x ∷ []) = rw (sym e) a in (rest_of P ys x b, last_of P ys x b)

module _ {H : Type 0} (means : H → Term) where
  pub go_down : (h f u : H) (us vs : List H) → App (means f) (means u) ≡ means h → vs ≡ us ++ u ∷ [] → applied (means f) (map means vs) ≡ applied (means h) (map means us)
  go_down h f u us vs e p = ap (λ xs. applied (means f) (map means xs)) p ∙ ap (applied (means f)) (map-append means us (u ∷ [])) ∙ applied_end (means f) (means u) (map means us) ∙ ap (λ t. applied t (map means us)) e

  pub go_up : (holds : H → Type 0) (holds' : H → Type 0) (means' : H → Term) (h f u : H) (us vs : List H) → Keeps holds means holds' means' → All holds us → means' h ≡ App (means f) (means u) → vs ≡ us ++ u ∷ [] →
      applied (means' h) (map means' us) ≡ applied (means f) (map means vs)
  go_up holds holds' means' h f u us vs k a e p =
      ap₂ applied e (keeps_map holds means holds' means' us k a)
      ∙ sym (ap (λ xs. applied (means f) (map means xs)) p ∙ ap (applied (means f)) (map-append means us (u ∷ [])) ∙ applied_end (means f) (means u) (map means us))
