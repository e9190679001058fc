-- Terms with βδ-equal parts are βδ-equal.
use Rattle.ld_trees.specs.Term.{Head, Term, App, Lam, Pi, Con, Terms, none, ◌▹◌}
use Rattle.ld_rules.specs.Environment.{Env}
use Rattle.ld_rules.specs.Laws.{EqualityIsCongruence}
use Rattle.ld_rules.specs.Reduction.{Step, in_function, in_argument, in_lam_type, in_lam_body, in_domain, in_codomain, in_arguments, Steps, in_last, in_earlier, Equal, by_step, reflexive, symmetric, transitive, EqualAll, no_terms, one_more}

module _ (Δ : Env) where
  pub equal_map : (f : Term → Term) → ((a b : Term) → Step Δ a b → Step Δ (f a) (f b)) → {a b : Term} → Equal Δ a b → Equal Δ (f a) (f b)
  equal_map f h (by_step e) = by_step (h _ _ e)
  equal_map f h reflexive = reflexive
  equal_map f h (symmetric e) = symmetric (equal_map f h e)
  equal_map f h (transitive d e) = transitive (equal_map f h d) (equal_map f h e)

  pub equal_two : (f : Term → Term → Term) → ((a b c : Term) → Step Δ a b → Step Δ (f a c) (f b c)) → ((a b c : Term) → Step Δ b c → Step Δ (f a b) (f a c)) → {a b c d : Term} → Equal Δ a b → Equal Δ c d → Equal Δ (f a c) (f b d)
  equal_two f h k {a} {b} {c} {d} p q = transitive (equal_map (λ x. f x c) (λ x y. h x y c) p) (equal_map (f b) (k b) q)

  pub equal_app : (f g a b : Term) → Equal Δ f g → Equal Δ a b → Equal Δ (App f a) (App g b)
  equal_app f g a b p q = equal_two App (λ _ _ _ s. in_function s) (λ _ _ _ s. in_argument s) p q

  pub equal_lam : (A B M N : Term) → Equal Δ A B → Equal Δ M N → Equal Δ (Lam A M) (Lam B N)
  equal_lam A B M N p q = equal_two Lam (λ _ _ _ s. in_lam_type s) (λ _ _ _ s. in_lam_body s) p q

  pub equal_pi : (A B M N : Term) → Equal Δ A B → Equal Δ M N → Equal Δ (Pi A M) (Pi B N)
  equal_pi A B M N p q = equal_two Pi (λ _ _ _ s. in_domain s) (λ _ _ _ s. in_codomain s) p q

  equal_under : {us vs : Terms} (f : Terms → Term) → ((xs ys : Terms) → Steps Δ xs ys → Step Δ (f xs) (f ys)) → EqualAll Δ us vs → Equal Δ (f us) (f vs)
  equal_under f h no_terms = reflexive
  equal_under f h (one_more {us = us} {vs = vs} {u = u} {v = v} e p) =
      transitive (equal_map (λ x. f (us ▹ x)) (λ x y s. h _ _ (in_last s)) p) (equal_under (λ xs. f (xs ▹ v)) (λ xs ys s. h _ _ (in_earlier s)) e)

  pub equal_con : (h : Head) (us vs : Terms) → EqualAll Δ us vs → Equal Δ (Con h us) (Con h vs)
  equal_con h us vs e = equal_under (Con h) (λ _ _ s. in_arguments s) e

  pub all_itself : (us : Terms) → EqualAll Δ us us
  all_itself none = no_terms
  all_itself (us ▹ u) = one_more (all_itself us) reflexive

pub equality_is_congruence : EqualityIsCongruence
equality_is_congruence Δ = (equal_app Δ, equal_lam Δ, equal_pi Δ, equal_con Δ)
