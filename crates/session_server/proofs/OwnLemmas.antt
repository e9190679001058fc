-- The entries of one pass among those of others.
use Rattle.std.proofs.Common.{◌≡◌, ℕ, nat_eq, Bool, true, false, cond, ⊎_elim, List, [], ◌∷◌, ◌++◌, refl, sym, ◌∙◌, ap, append-nil}
use Rattle.std.specs.List.{AllByRecursion, flat_map}
use Rattle.std.proofs.lemmas.Grind.{flat_map-append}
use Rattle.std.proofs.lemmas.Bool.Decides.{eqb_tells}
use Rattle.repl_json.specs.Reply.{text}
use Rattle.repl_json.specs.declared.reply.Line.{Line}
use Rattle.repl_json.specs.declared.request.Ask.{Ask}
use Rattle.state_tree.specs.declared.work.Found.{Found}
use Rattle.state_tree.specs.declared.work.Entry.{Entry}
use Rattle.state_tree.specs.Value.{Value}
use Rattle.state_tree.specs.Server.{PlainTree, reply, replies, step, after_all}
use Rattle.session_server.specs.Entered.{output_of}
use Rattle.session_server.specs.Own.{is_own, own, own_replies, own_output}

pub same_is : (a b : ℕ) → a ≡ b → nat_eq a b ≡ true
same_is a b e = ⊎_elim (λ (h : (nat_eq a b ≡ true) × (a ≡ b)). h.0) (λ (h : (nat_eq a b ≡ false) × (a ≡ b → ⊥)). absurd (h.1 e)) (eqb_tells a b)

pub is_same : (a b : ℕ) → nat_eq a b ≡ true → a ≡ b
is_same a b e =
    ⊎_elim (λ (h : (nat_eq a b ≡ true) × (a ≡ b)). h.1)
    (λ (h : (nat_eq a b ≡ false) × (a ≡ b → ⊥)). absurd (let bad : false ≡ true = sym h.0 ∙ e in cc))
    (eqb_tells a b)

-- a first element that is taken or not
cond_more : {A : Type 0} (b : Bool) (x : A) (xs ys zs : List A) → zs ≡ xs ++ ys → cond b (x ∷ zs) zs ≡ cond b (x ∷ xs) xs ++ ys
cond_more true x xs ys zs e = ap (λ l. x ∷ l) e
cond_more false x xs ys zs e = e

none_taken : {A B : Type 0} (b : Bool) (x : A) (xs : List A) (y : B) (ys : List B) → cond b (x ∷ xs) xs ≡ [] → (xs ≡ [] → ys ≡ []) → cond b (y ∷ ys) ys ≡ []
none_taken true x xs y ys e h = absurd cc
none_taken false x xs y ys e h = h e

one_taken : {A : Type 0} (b : Bool) (x : A) (xs ys : List A) → b ≡ true → xs ≡ ys → cond b (x ∷ xs) xs ≡ x ∷ ys
one_taken true x xs ys is e = ap (λ l. x ∷ l) e
one_taken false x xs ys is e = absurd cc

pub own_more : (pass : ℕ) (xs ys : List Entry) → own pass (xs ++ ys) ≡ own pass xs ++ own pass ys
own_more pass [] ys = refl
own_more pass (x ∷ xs) ys = cond_more (is_own pass x) x (own pass xs) (own pass ys) (own pass (xs ++ ys)) (own_more pass xs ys)

pub own_all : (pass : ℕ) (xs : List Entry) → AllByRecursion (λ e. e.pass ≡ pass) xs → own pass xs ≡ xs
own_all pass [] h = refl
own_all pass (x ∷ xs) h = one_taken (is_own pass x) x (own pass xs) xs (same_is x.pass pass h.0) (own_all pass xs h.1)

module _ {E S : Type 0} (V : Ask → Found E S → Value E S) (pass : ℕ) where
  replies_more : (t : PlainTree E S) (xs ys : List Entry) → own_replies V pass t (xs ++ ys) ≡ own_replies V pass t xs ++ own_replies V pass (after_all V t xs) ys
  replies_more t [] ys = refl
  replies_more t (x ∷ xs) ys =
      cond_more (is_own pass x) (reply V t x) (own_replies V pass (step V t x) xs) (own_replies V pass (after_all V (step V t x) xs) ys) (own_replies V pass (step V t x) (xs ++ ys)) (replies_more (step V t x) xs ys)

  pub output_more : (t : PlainTree E S) (xs ys : List Entry) → own_output V pass t (xs ++ ys) ≡ own_output V pass t xs ++ own_output V pass (after_all V t xs) ys
  output_more t xs ys = ap (λ (ls : List Line). flat_map text ls) (replies_more t xs ys) ∙ flat_map-append text (own_replies V pass t xs) (own_replies V pass (after_all V t xs) ys)

  replies_none : (t : PlainTree E S) (xs : List Entry) → own pass xs ≡ [] → own_replies V pass t xs ≡ []
  replies_none t [] none = refl
  replies_none t (x ∷ xs) none = none_taken (is_own pass x) x (own pass xs) (reply V t x) (own_replies V pass (step V t x) xs) none (replies_none (step V t x) xs)

  -- entries of others have no lines
  pub output_none : (t : PlainTree E S) (xs : List Entry) → own pass xs ≡ [] → own_output V pass t xs ≡ []
  output_none t xs none = ap (λ (ls : List Line). flat_map text ls) (replies_none t xs none)

  -- one entry of the pass has its reply's line
  pub output_one : (t : PlainTree E S) (e : Entry) → e.pass ≡ pass → own_output V pass t (e ∷ []) ≡ text (reply V t e)
  output_one t e is = ap (λ (ls : List Line). flat_map text ls) (one_taken (is_own pass e) (reply V t e) [] [] (same_is e.pass pass is) refl) ∙ append-nil (text (reply V t e))

  replies_all : (t : PlainTree E S) (xs : List Entry) → AllByRecursion (λ e. e.pass ≡ pass) xs → own_replies V pass t xs ≡ replies V t xs
  replies_all t [] h = refl
  replies_all t (x ∷ xs) h = one_taken (is_own pass x) (reply V t x) (own_replies V pass (step V t x) xs) (replies V (step V t x) xs) (same_is x.pass pass h.0) (replies_all (step V t x) xs h.1)

  -- where all entries are its own, these are all lines
  pub output_all : (t : PlainTree E S) (xs : List Entry) → AllByRecursion (λ e. e.pass ≡ pass) xs → own_output V pass t xs ≡ output_of V t xs
  output_all t xs h = ap (λ (ls : List Line). flat_map text ls) (replies_all t xs h)
