-- Where every dependency has a value, a derivation unfolded holds in the environment alone.
use Rattle.std.proofs.Common.{◌≡◌, ℕ, ◌≤◌, List, [], ◌∷◌, ◌⊎◌, inl, inr, true, false, Some, None, refl, sym, ap, ap₂, ◌∙◌, subst as transport, subst₂ as transport₂, nat_eq, length, arith}
use Rattle.std.proofs.lemmas.Bool.{eqb-true}
use Rattle.std.proofs.lemmas.Option.{same_Some}
use Rattle.ld_trees.specs.Term.{◌▹◌, Meta, Head, Named, Numbered, Term, count, none}
use Rattle.ld_trees.proofs.SubstitutionLaws.{subst_var}
use Rattle.ld_rules.specs.Environment.{Env, Item, item_of, Ctx}
use Rattle.ld_rules.specs.Derivation.{Derives, Fits, no_argument, inst}
use Rattle.ld_rules.specs.Legality.{IsLegalEnvironment}
use Rattle.ld_rules.specs.Scoping.{IsKnown, Known}
use Rattle.ld_rules.specs.Extension.{Refines}
use Rattle.ld_rules.specs.Expansion.{Bodies, BodiesScoped, Stays, expand_all, expand, Goes, Expands}
use Rattle.ld_rules.proofs.ScopedJudgements.{in_scope}
use Rattle.ld_rules.proofs.Validity.{valid}
use Rattle.ld_rules.proofs.Environments.{items_have_types, newest}
use Rattle.ld_rules.proofs.KnownConstants.{known, known_context, known_valid}
use Rattle.ld_rules.proofs.Removal.{removed}
use Rattle.ld_rules.proofs.RemovalOfLast.{expand_all_known, expand_known}
use Rattle.meta_trees.specs.MetaContext.{Metas, item, Decl, decl}
use Rattle.meta_trees.specs.Dependencies.{occurs, occurs_in}
use Rattle.meta_laws.specs.Cut.{items, listed, IsOrdered, with_item, order, cut}
use Rattle.meta_laws.specs.Legality.{IsLegalMetas, HasNoMetas}
use Rattle.meta_laws.specs.Unfolding.{values, value_of_root}
use Rattle.meta_laws.specs.Laws.{UnfoldingRemovesMetas, RootIsProved, SolvedIsProved}
use Rattle.meta_trees.proofs.Dependencies.{or_right, or_split}
use Rattle.meta_laws.proofs.Lists.{is_false}
use Rattle.meta_laws.proofs.Order.{order_is, acyclic, dependency}
use Rattle.meta_laws.proofs.Items.{items_from, IsFrom, known_found}
use Rattle.meta_laws.proofs.Legal.{orders_are_legal, cuts_are_legal}
use Rattle.meta_laws.proofs.Growing.{dependency_found, own_dependency}
use Rattle.meta_laws.proofs.Agreement.{expand_agree}
use Rattle.meta_laws.proofs.Rounds.{values_scoped, no_value, value_now, order_length}

module _ (Δ : Env) (Σ : Metas) (ok : IsLegalMetas Δ Σ) (N : ℕ) where
  abbrev V : Bodies
  V h n = values Σ N h n

  scoped : BodiesScoped V
  scoped = values_scoped Δ Σ ok N

  -- a constant of the environment has no value
  others : (h : Head) (n : ℕ) → IsKnown Δ h n → V h n ≡ None
  others (Named a) n k = no_value Σ N a n
  others (Numbered m) n k = absurd (let p = ok.constants m in let q = k.1 in cc)

  stays : (h : Head) (c : Item) → item_of h Δ ≡ Some c → Stays V Δ h c
  stays h c p =
      let i = items_have_types Δ h c ok.environment p in
      record {
        item = c;
        found = p;
        other = λ n. other h n p;
        params = expand_all_known V Δ others c.params (known_context i.0);
        ty = expand_known V Δ others c.ty (known_valid c.ty i.1);
        body = λ M q. q ∙ ap Some (sym (expand_known V Δ others M (known (i.2 M q))));
      }
    where
      other : (h : Head) (n : ℕ) → item_of h Δ ≡ Some c → V h n ≡ None
      other (Named a) n p = no_value Σ N a n
      other (Numbered m) n p = absurd (let q = ok.constants m in cc)

  -- the listed metavariables have values, and these their types
  abbrev Assigned : List ℕ → Type 0
  Assigned L = (j : ℕ) (e : Decl) → listed j L ≡ true → decl j Σ ≡ Some e → (v : Term) × (e.value ≡ Some v)

  abbrev Typed : List ℕ → Type 0
  Typed L = (j : ℕ) (e : Decl) (v : Term) → listed j L ≡ true → decl j Σ ≡ Some e → e.value ≡ Some v → Derives Δ (expand_all V e.ctx) (expand V v) (expand V e.ty)

  goes : (L : List ℕ) → IsOrdered Σ L → length L ≤ N → Assigned L → Typed L → (h : Head) (c : Item) (j : ℕ) (e : Decl) → h ≡ Numbered j → decl j Σ ≡ Some e → listed j L ≡ true → Refines c (item j e) → Goes V Δ h c
  goes L o l vs ty h c j e r p w f =
      let x = vs j e w p in
      record {
        value = expand V x.0;
        is = ap₂ (λ k n. V k n) r (ap count f.params) ∙ value_now Δ Σ ok N L o l j (count e.ctx) e x.0 refl w p x.1;
        body = λ M q. ap (expand V) (same_Some M x.0 (sym (f.body M q) ∙ x.1));
        derives = transport₂ (λ Γ T. Derives Δ (expand_all V Γ) (expand V x.0) (expand V T)) (sym f.params) (sym f.ty) (ty j e x.0 w p x.1);
      }

  expands : (L : List ℕ) → IsOrdered Σ L → length L ≤ N → Assigned L → Typed L → Expands V (items Σ L Δ) Δ
  expands L o l vs ty h c p = go (items_from Σ Δ (λ k. listed k L ≡ true) L (λ k w. w) h c p)
    where
      go : IsFrom Σ Δ (λ k. listed k L ≡ true) h c → Stays V Δ h c ⊎ Goes V Δ h c
      go (inl q) = inl (stays h c q)
      go (inr q) = inr (goes L o l vs ty h c q.0 q.1 q.2 q.3 q.4 q.5)

  first_typed : (k : ℕ) (L : List ℕ) → IsOrdered Σ (k ∷ L) → length L ≤ N → Assigned L → Typed L → (e : Decl) (v : Term) → decl k Σ ≡ Some e → e.value ≡ Some v → Derives Δ (expand_all V e.ctx) (expand V v) (expand V e.ty)
  first_typed k L o l vs ty e v p q =
      let legal = transport (λ x. IsLegalEnvironment (with_item x k (items Σ L Δ))) p (orders_are_legal Δ Σ (k ∷ L) ok o) in
      removed V scoped Δ ok.environment ((newest legal).1.body v q) (expands L o.0 l vs ty)

  typed : (L : List ℕ) → IsOrdered Σ L → length L ≤ N → Assigned L → Typed L
  typed [] o l vs j e v h p q = absurd cc
  typed (k ∷ L) o l vs j e v h p q =
      let rest : Assigned L = λ i d w. vs i d (or_right (nat_eq k i) _ w) in
      elim (or_split (nat_eq k j) _ h) [
        | inl r ↦ first_typed k L o (omega arith) rest (typed L o.0 (omega arith) rest) e v (ap (λ i. decl i Σ) (eqb-true k j r) ∙ p) q
        | inr r ↦ typed L o.0 (omega arith) rest j e v r p q
      ]

  pub metas_removed : (L : List ℕ) → IsOrdered Σ L → length L ≤ N → Assigned L → {Γ : Ctx} {M B : Term} → Derives (items Σ L Δ) Γ M B → Derives Δ (expand_all V Γ) (expand V M) (expand V B)
  metas_removed L o l vs d = removed V scoped Δ ok.environment d (expands L o l vs (typed L o l vs))

pub unfolding_removes_metas : UnfoldingRemovesMetas
unfolding_removes_metas Δ Σ X Γ M B ok vs d =
    let o = order_is Σ X (acyclic Σ ok.acyclic) in
    metas_removed Δ Σ ok (length Σ) (order Σ X) o.0 (order_length Σ X) (λ j e h p. vs j e (dependency Σ X j (sym (o.1 j) ∙ h)).1 p) d

-- a derived term of the environment has no metavariable
no_meta : {Δ : Env} {Γ : Ctx} {M B : Term} → HasNoMetas Δ → Derives Δ Γ M B → (k : ℕ) → occurs k M ≡ false
no_meta {Δ} {M = M} plain d k = is_false _ (λ w. let f = known_found Δ k M (known d) w in let p = plain k in let q = f.1 in absurd cc)

-- what has no metavariable and is known in some environment stays as it is
kept : (Σ : Metas) (N : ℕ) (E : Env) (t : Term) → Known E t → ((k : ℕ) → occurs k t ≡ true → ⊥) → expand (λ h n. values Σ N h n) t ≡ t
kept Σ N E t k f =
    expand_agree (λ h n. values Σ N h n) (λ h n. None) (no_value Σ N) t (λ i n w. absurd (f i w)) ∙ expand_known (λ h n. None) E (λ h n i. refl) t k

pub root_is_proved : RootIsProved
root_is_proved Δ Σ d ok p closed vs =
    let X = none ▹ Meta 0 none in
    let found = dependency_found Δ Σ X 0 d ok (own_dependency Σ 0 none) p in
    let legal = cuts_are_legal Δ Σ X ok in
    let fits : Fits (cut Σ Δ X) none none d.ctx = transport (Fits (cut Σ Δ X) none none) (sym closed) no_argument in
    let root : Derives (cut Σ Δ X) none (Meta 0 none) d.ty = transport (Derives (cut Σ Δ X) none (Meta 0 none)) (subst_var d.ty) (inst (item 0 d) legal fits found) in
    let same = kept Σ (length Σ) (cut Σ Δ X) d.ty (known_valid d.ty (valid root)) (λ k w. let r = ok.smaller 0 k d p (or_right (occurs_in k d.ctx) _ w) in omega arith) in
    let proved : Derives Δ none (value_of_root Σ) d.ty = transport (Derives Δ none (value_of_root Σ)) same (unfolding_removes_metas Δ Σ X none (Meta 0 none) d.ty ok vs root) in
    (proved, (in_scope proved).term, no_meta ok.constants proved)

pub solved_is_proved : SolvedIsProved
solved_is_proved Δ Σ d ok solved p closed = root_is_proved Δ Σ d ok p closed (λ m e D q. solved m e q)
