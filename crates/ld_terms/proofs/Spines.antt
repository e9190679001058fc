-- A head with its arguments, taken apart and built again in a store that grows.
use Rattle.std.proofs.Common.{◌≡◌, zero, suc, ◌<◌, ◌≤◌, List, [], ◌∷◌, ◌++◌, map, All, refl, sym, ap, ap₂, ◌∙◌, arith}
use Rattle.std.proofs.lemmas.List.{map-append}
use Rattle.std.proofs.lemmas.List.Elements.{All-append}
use Rattle.ld_trees.specs.Term.{Term, App, nodes}
use Rattle.ld_terms.specs.Spines.{applied}
use Rattle.ld_terms.specs.Views.{Keeps}
use Rattle.ld_terms.proofs.Turns.{keeps_both}

applied_end : (t u : Term) (us : List Term) → applied t (us ++ u ∷ []) ≡ applied (App t u) us
applied_end t u [] = refl
applied_end t u (x ∷ us) = ap (λ f. App f x) (applied_end t u us)

-- a list of handles with one more at its end
applied_more : {H : Type 0} (means : H → Term) (t : Term) (hs ys : List H) (h : H) → ys ≡ hs ++ h ∷ [] →
    applied t (map means ys) ≡ applied (App t (means h)) (map means hs)
applied_more means t hs ys h e = ap (λ l. applied t (map means l)) e ∙ ap (applied t) (map-append means hs (h ∷ [])) ∙ applied_end t (means h) (map means hs)

all_one : {X : Type 0} (P : X → Type 0) (x : X) → P x → All P (x ∷ [])
all_one P x p zero d l = p
all_one P x p (suc i) d l = absurd (omega arith)

last_of : {X : Type 0} (P : X → Type 0) (xs : List X) (x : X) → All P (xs ++ x ∷ []) → P x
last_of P [] x a = a 0 x (omega arith)
last_of P (y ∷ xs) x a = last_of P xs x (λ i d l. a (suc i) d (omega arith))

rest_of : {X : Type 0} (P : X → Type 0) (xs : List X) (x : X) → All P (xs ++ x ∷ []) → All P xs
rest_of P [] x a i d l = absurd (omega arith)
rest_of P (y ∷ xs) x a zero d l = a 0 d (omega arith)
rest_of P (y ∷ xs) x a (suc i) d l = rest_of P xs x (λ j e m. a (suc j) e (omega arith)) i d (omega arith)

pub all_pushed : {X : Type 0} (P : X → Type 0) (xs ys : List X) (x : X) → ys ≡ xs ++ x ∷ [] → All P xs → P x → All P ys
all_pushed P xs ys x e a p = rw e (All-append P xs (x ∷ []) a (all_one P x p))

-- a node further down the spine
pub go_down : {H : Type 0} (means : H → Term) (head f a : H) (hs ys : List H) → App (means f) (means a) ≡ means head → ys ≡ hs ++ a ∷ [] →
    applied (means f) (map means ys) ≡ applied (means head) (map means hs)
go_down means head f a hs ys e is = applied_more means (means f) hs ys a is ∙ ap (λ t. applied t (map means hs)) e

-- a head is no larger than the whole
pub nodes_of_head : (t : Term) (us : List Term) → nodes t ≤ nodes (applied t us)
nodes_of_head t [] = omega arith
nodes_of_head t (u ∷ us) = omega (arith, nodes_of_head t us)

pub head_no_larger : (t w : Term) (us : List Term) → applied t us ≡ w → nodes t ≤ nodes w
head_no_larger t w us e = let n : nodes (applied t us) ≡ nodes w = ap nodes e in omega (arith, nodes_of_head t us, n)

-- While the arguments that are left are put behind a head, in a store that has grown: what is made means what f gives for the part of the whole that is done.
pub record Rest {H : Type 0} (holds : H → Type 0) (means : H → Term) (holds' : H → Type 0) (means' : H → Term) (f : Term → Term) (whole : Term) (made : H) (args : List H) : Type 0 where
  pub done : Term
  pub kept : Keeps holds means holds' means'
  pub held : holds' made
  pub all : All holds args
  pub spine : applied done (map means args) ≡ whole
  pub is : means' made ≡ f done

-- the next argument is of the store, means what it meant, and is smaller than the whole
pub record IsNext {H : Type 0} (holds : H → Type 0) (means : H → Term) (holds' : H → Type 0) (means' : H → Term) (whole : Term) (h : H) : Type 0 where
  pub held : holds' h
  pub alike : means' h ≡ means h
  pub smaller : nodes (means' h) < nodes whole

module _ {H : Type 0} (holds : H → Type 0) (means : H → Term) (holds' : H → Type 0) (means' : H → Term) (f : Term → Term) (whole : Term) (made : H) (args rest : List H) (h : H) where
  pub next_argument : Rest holds means holds' means' f whole made args → args ≡ rest ++ h ∷ [] → IsNext holds means holds' means' whole h
  next_argument r e =
      let k = r.kept h (last_of holds rest h (rw e at r.all)) in
      let s : applied (App r.done (means h)) (map means rest) ≡ whole = sym (applied_more means r.done rest args h e) ∙ r.spine in
      let n : nodes (applied (App r.done (means h)) (map means rest)) ≡ nodes whole = ap nodes s in
      let m : nodes (means' h) ≡ nodes (means h) = ap nodes k.1 in
      record {
        held = k.0;
        alike = k.1;
        smaller = omega (arith, nodes_of_head (App r.done (means h)) (map means rest), n, m);
      }

  pub argument_made : (holds'' : H → Type 0) (means'' : H → Term) (holds''' : H → Type 0) (means''' : H → Term) (r m : H) →
      ((t u : Term) → f (App t u) ≡ App (f t) (f u)) →
      Rest holds means holds' means' f whole made args → args ≡ rest ++ h ∷ [] →
      Keeps holds' means' holds'' means'' → means'' r ≡ f (means h) →
      Keeps holds'' means'' holds''' means''' → holds''' m → means''' m ≡ App (means'' made) (means'' r) →
      Rest holds means holds''' means''' f whole m rest
  argument_made holds'' means'' holds''' means''' r m step b e k is l held eq = record {
    done = App b.done (means h);
    kept = keeps_both holds means holds'' means'' holds''' means''' (keeps_both holds means holds' means' holds'' means'' b.kept k) l;
    held = held;
    all = rest_of holds rest h (rw e at b.all);
    spine = sym (applied_more means b.done rest args h e) ∙ b.spine;
    is = eq ∙ ap₂ App ((k made b.held).1 ∙ b.is) is ∙ sym (step b.done (means h));
  }

-- no arguments are left
pub all_done : {H : Type 0} (holds : H → Type 0) (means : H → Term) (holds' : H → Type 0) (means' : H → Term) (f : Term → Term) (whole : Term) (made : H) (args : List H) →
    Rest holds means holds' means' f whole made args → args ≡ [] → means' made ≡ f whole
all_done holds means holds' means' f whole made args r e =
    let s : r.done ≡ whole = ap (λ l. applied r.done (map means l)) (sym e) ∙ r.spine in
    r.is ∙ ap f s
