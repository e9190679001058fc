-- The context of the entries that are kept speaks of no other metavariables.
use Rattle.std.proofs.Common.{◌≡◌, ℕ, suc, List, [], ◌∷◌, ◌++◌, inl, inr, Bool, true, false, map, length, subst as transport}
use Rattle.ld_trees.specs.Term.{Term, Srt, Var, App, Lam, Pi, Con, Terms, none, ◌▹◌}
use Rattle.ld_trees.specs.Substitution.{lift_name, rename, renames}
use Rattle.ld_rules.specs.Environment.{Env}
use Rattle.ld_terms.specs.Views.{terms_onto}
use Rattle.ld_terms.specs.declared.globals.Local.{Local}
use Rattle.ld_terms.proofs.Arguments.{terms_of_end}
use Rattle.meta_trees.specs.Dependencies.{is_meta, occurs, occurs_in}
use Rattle.meta_trees.proofs.Dependencies.{or_split, or_left, or_right}
use Rattle.meta_context.specs.Plain.{rules_ctx}
use Rattle.unification.specs.Steps.{Gave}
use Rattle.unification.specs.Refusals.{Plain}
use Rattle.unification.specs.Metavariables.{extended, sorted}
use Rattle.unification.specs.Pruning.{thin, name_at, kept_context, kept_variables}
use Rattle.unification.proofs.Gives.{Gives, given, gives_pure, gives_bind, gives_then, gives_any}

-- what occurs in a renamed term occurs in the term
mutual
  pub occurs_renamed : (j : ℕ) (t : Term) (r : ℕ → ℕ) → occurs j (rename r t) ≡ true → occurs j t ≡ true
  occurs_renamed j (Srt s) r w = w
  occurs_renamed j (Var i) r w = w
  occurs_renamed j (App f a) r w = elim (or_split (occurs j (rename r f)) _ w) [ inl e ↦ or_left (occurs j f) _ (occurs_renamed j f r e) | inr e ↦ or_right (occurs j f) _ (occurs_renamed j a r e) ]
  occurs_renamed j (Lam A M) r w = elim (or_split (occurs j (rename r A)) _ w) [ inl e ↦ or_left (occurs j A) _ (occurs_renamed j A r e) | inr e ↦ or_right (occurs j A) _ (occurs_renamed j M (lift_name r) e) ]
  occurs_renamed j (Pi A M) r w = elim (or_split (occurs j (rename r A)) _ w) [ inl e ↦ or_left (occurs j A) _ (occurs_renamed j A r e) | inr e ↦ or_right (occurs j A) _ (occurs_renamed j M (lift_name r) e) ]
  occurs_renamed j (Con h us) r w = elim (or_split (is_meta j h) _ w) [ inl e ↦ or_left (is_meta j h) _ e | inr e ↦ or_right (is_meta j h) _ (all_occur_renamed j us r e) ]

  all_occur_renamed : (j : ℕ) (us : Terms) (r : ℕ → ℕ) → occurs_in j (renames r us) ≡ true → occurs_in j us ≡ true
  all_occur_renamed j none r w = w
  all_occur_renamed j (us ▹ u) r w = elim (or_split (occurs_in j (renames r us)) _ w) [ inl e ↦ or_left (occurs_in j us) _ (all_occur_renamed j us r e) | inr e ↦ or_right (occurs_in j us) _ (occurs_renamed j u r e) ]

-- variables have no metavariable
pub variables_speak : (ks : List Bool) (i j : ℕ) → occurs_in j (kept_variables ks i) ≡ true → ⊥
variables_speak [] i j w = absurd cc
variables_speak (false ∷ ks) i j w = variables_speak ks (suc i) j w
variables_speak (true ∷ ks) i j w = elim (or_split (occurs_in j (kept_variables ks (suc i))) false w) [ inl e ↦ variables_speak ks (suc i) j e | inr e ↦ absurd cc ]

-- ---- the first entry of a context

occurs_onto : (j : ℕ) (us : Terms) (xs : List Term) → occurs_in j us ≡ true → occurs_in j (terms_onto us xs) ≡ true
occurs_onto j us [] w = w
occurs_onto j us (x ∷ xs) w = occurs_onto j (us ▹ x) xs (or_left (occurs_in j us) _ w)

occurs_behind : (j : ℕ) (us vs : Terms) (xs : List Term) → (occurs_in j us ≡ true → occurs_in j vs ≡ true) → occurs_in j (terms_onto us xs) ≡ true → occurs_in j (terms_onto vs xs) ≡ true
occurs_behind j us vs [] f w = f w
occurs_behind j us vs (x ∷ xs) f w =
    occurs_behind j (us ▹ x) (vs ▹ x) xs (λ e. elim (or_split (occurs_in j us) _ e) [ inl a ↦ or_left (occurs_in j vs) _ (f a) | inr a ↦ or_right (occurs_in j vs) _ a ]) w

in_first : (j : ℕ) (l : Local Term) (Γ : List (Local Term)) → occurs j l.ty ≡ true → occurs_in j (rules_ctx (l ∷ Γ)) ≡ true
in_first j l Γ w = occurs_onto j (none ▹ l.ty) (map (λ (l : Local Term). l.ty) Γ) w

in_rest : (j : ℕ) (l : Local Term) (Γ : List (Local Term)) → occurs_in j (rules_ctx Γ) ≡ true → occurs_in j (rules_ctx (l ∷ Γ)) ≡ true
in_rest j l Γ w = occurs_behind j none (none ▹ l.ty) (map (λ (l : Local Term). l.ty) Γ) (λ e. absurd cc) w

-- ---- the context of the kept entries

module _ (Δ : Env) (S : Plain) (P : ℕ → Type 0) where
  -- each metavariable of a context has the property
  Speaks : List (Local Term) → Type 0
  Speaks Γ = (j : ℕ) → occurs_in j (rules_ctx Γ) ≡ true → P j

  extended_speaks : (Γ : List (Local Term)) (x : List ℕ) (A : Term) → Speaks Γ → ((j : ℕ) → occurs j A ≡ true → P j) → Gives Speaks (extended Δ S Γ x A)
  unfolding Speaks
  extended_speaks Γ x A f g = gives_then (gives_any (sorted Δ S Γ A)) (λ u h. gives_pure (Γ ++ record { name = x; ty = A } ∷ []) speak)
    where
      entry : Local Term
      entry = record { name = x; ty = A }

      both : (j : ℕ) → occurs_in j (rules_ctx Γ ▹ A) ≡ true → P j
      both j w = elim (or_split (occurs_in j (rules_ctx Γ)) _ w) [ inl a ↦ f j a | inr a ↦ g j a ]

      speak : (j : ℕ) → occurs_in j (rules_ctx (Γ ++ record { name = x; ty = A } ∷ [])) ≡ true → P j
      speak j w = both j (transport (λ G. occurs_in j G ≡ true) (terms_of_end (λ (l : Local Term). l.ty) Γ (record { name = x; ty = A })) w)

  all_speak : (flags : List Bool) (Γ : List (Local Term)) (before : List Bool) (kept : List (Local Term)) → Speaks Γ → Speaks kept → Gives Speaks (kept_context Δ S flags Γ before kept)
  unfolding Speaks
  all_speak (true ∷ ks) (l ∷ Γ) before kept f g =
      gives_bind (extended_speaks kept (name_at (length kept) l.name) (rename (thin before) l.ty) g (λ j w. f j (in_first j l Γ (occurs_renamed j l.ty (thin before) w)))) (λ more h. all_speak ks Γ (true ∷ before) more (λ j w. f j (in_rest j l Γ w)) h)
  all_speak (false ∷ ks) (l ∷ Γ) before kept f g = all_speak ks Γ (false ∷ before) kept (λ j w. f j (in_rest j l Γ w)) g
  all_speak (true ∷ ks) [] before kept f g = gives_pure kept g
  all_speak (false ∷ ks) [] before kept f g = gives_pure kept g
  all_speak [] Γ before kept f g = gives_pure kept g

  pub kept_speaks : (flags : List Bool) (Γ : List (Local Term)) (before : List Bool) (kept : List (Local Term)) (n left : ℕ) (Γ' : List (Local Term)) → ((j : ℕ) → occurs_in j (rules_ctx Γ) ≡ true → P j)
      → ((j : ℕ) → occurs_in j (rules_ctx kept) ≡ true → P j) → kept_context Δ S flags Γ before kept n ≡ Gave Γ' left → (j : ℕ) → occurs_in j (rules_ctx Γ') ≡ true → P j
  unfolding Speaks
  kept_speaks flags Γ before kept n left Γ' f g e = given (all_speak flags Γ before kept f g) n left Γ' e
