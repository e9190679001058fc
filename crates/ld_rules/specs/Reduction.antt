-- β-steps and δ-steps, and βδ-equality, after the book's definitions of one-step reduction and of conversion. There is no η.
use Rattle.std.specs.Prelude.{◌≡◌, Some}
use Rattle.ld_trees.specs.Term.{Head, Term, App, Lam, Pi, Con, Terms, none, ◌▹◌, count}
use Rattle.ld_trees.specs.Substitution.{subst_all}
use Rattle.ld_rules.specs.Environment.{Env, Item, item_of}

mutual
  -- one step rewrites one place of a term
  pub data Step (Δ : Env) : Term → Term → Type 0 where
    -- (fun (x : A) => M) N becomes M with N put in for x
    beta : {A M N : Term} → Step Δ (App (Lam A M) N) (subst_all (none ▹ N) M)
    -- a(U) becomes the body of a with U put in at once, where U has exactly one argument per parameter of a
    delta : {h : Head} {us : Terms} (d : Item) (M : Term) → item_of h Δ ≡ Some d → d.body ≡ Some M → count us ≡ count d.params → Step Δ (Con h us) (subst_all us M)
    -- a step in a part of the term
    in_function : {f g a : Term} → Step Δ f g → Step Δ (App f a) (App g a)
    in_argument : {f a b : Term} → Step Δ a b → Step Δ (App f a) (App f b)
    in_lam_type : {A B M : Term} → Step Δ A B → Step Δ (Lam A M) (Lam B M)
    in_lam_body : {A M N : Term} → Step Δ M N → Step Δ (Lam A M) (Lam A N)
    in_domain : {A B M : Term} → Step Δ A B → Step Δ (Pi A M) (Pi B M)
    in_codomain : {A M N : Term} → Step Δ M N → Step Δ (Pi A M) (Pi A N)
    in_arguments : {h : Head} {us vs : Terms} → Steps Δ us vs → Step Δ (Con h us) (Con h vs)

  -- one step in one of the arguments of a constant
  pub data Steps (Δ : Env) : Terms → Terms → Type 0 where
    in_last : {us : Terms} {a b : Term} → Step Δ a b → Steps Δ (us ▹ a) (us ▹ b)
    in_earlier : {us vs : Terms} {a : Term} → Steps Δ us vs → Steps Δ (us ▹ a) (vs ▹ a)

-- βδ-equality: the least equivalence that holds each step
pub data Equal (Δ : Env) : Term → Term → Type 0 where
  by_step : {a b : Term} → Step Δ a b → Equal Δ a b
  reflexive : {a : Term} → Equal Δ a a
  symmetric : {a b : Term} → Equal Δ a b → Equal Δ b a
  transitive : {a b c : Term} → Equal Δ a b → Equal Δ b c → Equal Δ a c

-- two lists of equally many terms, equal one by one
pub data EqualAll (Δ : Env) : Terms → Terms → Type 0 where
  no_terms : EqualAll Δ none none
  one_more : {us vs : Terms} {u v : Term} → EqualAll Δ us vs → Equal Δ u v → EqualAll Δ (us ▹ u) (vs ▹ v)
