-- Expansion by bodies that agree on a term, and scoped bodies.
use Rattle.std.proofs.Common.{◌≡◌, ℕ, suc, List, Bool, true, ◌||◌, Option, Some, None, refl, sym, ap₂, subst as transport}
use Rattle.std.proofs.lemmas.Bool.{eq-eqb}
use Rattle.ld_trees.specs.Term.{Named, Numbered, Head, Term, Srt, Var, App, Lam, Pi, Con, count, Terms, none, ◌▹◌}
use Rattle.ld_trees.specs.Scoping.{Scoped, AllScoped}
use Rattle.ld_rules.specs.Expansion.{Bodies, expand, expanded, expand_all, BodiesScoped}
use Rattle.ld_rules.proofs.ScopedTerms.{arguments_scoped}
use Rattle.ld_rules.proofs.Removal.{expand_count}
use Rattle.meta_trees.specs.Dependencies.{is_meta, occurs, occurs_in}
use Rattle.meta_trees.proofs.Dependencies.{or_left, or_right}

-- bodies that agree on what occurs in a term expand it alike
module _ (V W : Bodies) (named : (a : List ℕ) (n : ℕ) → V (Named a) n ≡ W (Named a) n) where
  abbrev Agree : (ℕ → Bool) → Type 0
  Agree has = (k : ℕ) (n : ℕ) → has k ≡ true → V (Numbered k) n ≡ W (Numbered k) n

  first_agrees : (a b : ℕ → Bool) → Agree (λ k. a k || b k) → Agree a
  first_agrees a b f k n w = f k n (or_left (a k) (b k) w)

  second_agrees : (a b : ℕ → Bool) → Agree (λ k. a k || b k) → Agree b
  second_agrees a b f k n w = f k n (or_right (a k) (b k) w)

  head_agrees : (h : Head) (n : ℕ) → Agree (λ k. is_meta k h) → V h n ≡ W h n
  head_agrees (Named a) n f = named a n
  head_agrees (Numbered m) n f = f m n (eq-eqb m m refl)

  mutual
    pub expand_agree : (t : Term) → ((k : ℕ) (n : ℕ) → occurs k t ≡ true → V (Numbered k) n ≡ W (Numbered k) n) → expand V t ≡ expand W t
    expand_agree (Srt s) f = refl
    expand_agree (Var i) f = refl
    expand_agree (App g a) f = ap₂ App (expand_agree g (first_agrees (λ k. occurs k g) (λ k. occurs k a) f)) (expand_agree a (second_agrees (λ k. occurs k g) (λ k. occurs k a) f))
    expand_agree (Lam A M) f = ap₂ Lam (expand_agree A (first_agrees (λ k. occurs k A) (λ k. occurs k M) f)) (expand_agree M (second_agrees (λ k. occurs k A) (λ k. occurs k M) f))
    expand_agree (Pi A B) f = ap₂ Pi (expand_agree A (first_agrees (λ k. occurs k A) (λ k. occurs k B) f)) (expand_agree B (second_agrees (λ k. occurs k A) (λ k. occurs k B) f))
    expand_agree (Con h us) f =
        ap₂ (λ o xs. expanded o h xs) (head_agrees h (count us) (first_agrees (λ k. is_meta k h) (λ k. occurs_in k us) f)) (expand_all_agree us (second_agrees (λ k. is_meta k h) (λ k. occurs_in k us) f))

    expand_all_agree : (us : Terms) → ((k : ℕ) (n : ℕ) → occurs_in k us ≡ true → V (Numbered k) n ≡ W (Numbered k) n) → expand_all V us ≡ expand_all W us
    expand_all_agree none f = refl
    expand_all_agree (us ▹ u) f = ap₂ ◌▹◌ (expand_all_agree us (first_agrees (λ k. occurs_in k us) (λ k. occurs k u) f)) (expand_agree u (second_agrees (λ k. occurs_in k us) (λ k. occurs k u) f))

-- scoped bodies keep a term in scope
module _ (V : Bodies) (scoped : BodiesScoped V) where
  expanded_scoped : (h : Head) (n : ℕ) (us : Terms) (o : Option Term) → ((B : Term) → o ≡ Some B → Scoped (count us) B) → AllScoped n us → Scoped n (expanded o h us)
  expanded_scoped h n us None f k = k
  expanded_scoped h n us (Some B) f k = arguments_scoped us B n k (f B refl)

  mutual
    pub expand_scoped : (t : Term) (n : ℕ) → Scoped n t → Scoped n (expand V t)
    expand_scoped (Srt s) n k = tt
    expand_scoped (Var i) n k = k
    expand_scoped (App f a) n k = (expand_scoped f n k.0, expand_scoped a n k.1)
    expand_scoped (Lam A M) n k = (expand_scoped A n k.0, expand_scoped M (suc n) k.1)
    expand_scoped (Pi A B) n k = (expand_scoped A n k.0, expand_scoped B (suc n) k.1)
    expand_scoped (Con h us) n k =
        expanded_scoped h n (expand_all V us) (V h (count us)) (λ B e. transport (λ m. Scoped m B) (sym (expand_count V us)) (scoped h (count us) B e)) (expand_all_scoped us n k)

    expand_all_scoped : (us : Terms) (n : ℕ) → AllScoped n us → AllScoped n (expand_all V us)
    expand_all_scoped none n k = tt
    expand_all_scoped (us ▹ u) n k = (expand_all_scoped us n k.0, expand_scoped u n k.1)
