-- Removal of the last definition of an environment.
use Rattle.std.proofs.Common.{◌≡◌, ℕ, ◌∷◌, ◌⊎◌, inl, inr, refl, sym, ap, ap₂, ◌∙◌, Some, None, subst as transport, subst₂ as transport₂, Bool, true, false, ◌&&◌, nat_eq, if◌then◌else◌}
use Rattle.std.proofs.lemmas.Bool.{eqb-true, eq-eqb}
use Rattle.std.proofs.lemmas.Option.{same_Some}
use Rattle.ld_trees.specs.Term.{Head, Term, Srt, Var, App, Lam, Pi, Con, Terms, none, ◌▹◌, count, same_head}
use Rattle.ld_trees.proofs.Equality.{same_head_is, and_both, and_right}
use Rattle.ld_rules.specs.Environment.{Ctx, Env, Item, item_of, found_at}
use Rattle.ld_rules.specs.Derivation.{Derives}
use Rattle.ld_rules.specs.Legality.{IsLegalEnvironment, MayBeAdded}
use Rattle.ld_trees.specs.Scoping.{Scoped}
use Rattle.ld_rules.specs.Scoping.{IsKnown, Known, AllKnown}
use Rattle.ld_rules.specs.Expansion.{Bodies, BodiesScoped, expand, expand_all, expanded, body_of, Stays, Goes, Expands}
use Rattle.ld_rules.proofs.ScopedJudgements.{in_scope}
use Rattle.ld_rules.proofs.Environments.{newest, item_legal, item_body}
use Rattle.ld_rules.proofs.Validity.{valid, item_valid}
use Rattle.ld_rules.proofs.KnownConstants.{known, known_context, known_valid}
use Rattle.ld_rules.proofs.Removal.{removed}

-- a term without constants that have a body stays as it is
module _ (V : Bodies) (Δ : Env) (others : (h : Head) (n : ℕ) → IsKnown Δ h n → V h n ≡ None) where
  mutual
    pub expand_known : (t : Term) → Known Δ t → expand V t ≡ t
    expand_known (Srt s) k = refl
    expand_known (Var i) k = refl
    expand_known (App f a) k = ap₂ App (expand_known f k.0) (expand_known a k.1)
    expand_known (Lam A M) k = ap₂ Lam (expand_known A k.0) (expand_known M k.1)
    expand_known (Pi A B) k = ap₂ Pi (expand_known A k.0) (expand_known B k.1)
    expand_known (Con h us) k = ap (λ o. expanded o h (expand_all V us)) (others h (count us) k.0) ∙ ap (Con h) (expand_all_known us k.1)

    pub expand_all_known : (us : Terms) → AllKnown Δ us → expand_all V us ≡ us
    expand_all_known none k = refl
    expand_all_known (us ▹ u) k = ap₂ ◌▹◌ (expand_all_known us k.0) (expand_known u k.1)

-- the body of an item is its own, at as many arguments
body_at : (d : Item) (h : Head) (n : ℕ) (b : Bool) (B : Term) → (same_head h d.name && nat_eq n (count d.params)) ≡ b → (if b then d.body else None) ≡ Some B → (n ≡ count d.params) × (d.body ≡ Some B)
body_at d h n true B e p = (eqb-true _ _ (and_right (same_head h d.name) _ e), p)
body_at d h n false B e p = absurd cc

body_other : (d : Item) (h : Head) (n : ℕ) → same_head h d.name ≡ false → body_of d h n ≡ None
body_other d h n e = ap (λ b. if b && nat_eq n (count d.params) then d.body else None) e

body_own : (d : Item) (h : Head) → same_head h d.name ≡ true → body_of d h (count d.params) ≡ d.body
body_own d h e = ap (λ b. if b then d.body else None) (and_both (same_head h d.name) _ e (eq-eqb (count d.params) _ refl))

-- a name that is found isn't new
is_other : (d : Item) (Δ : Env) (h : Head) (c : Item) → item_of d.name Δ ≡ None → item_of h Δ ≡ Some c → same_head h d.name ≡ false
is_other d Δ h c fresh p = go (same_head h d.name) refl
  where
    go : (b : Bool) → same_head h d.name ≡ b → b ≡ false
    go true e = absurd (let q : item_of h Δ ≡ None = ap (λ k. item_of k Δ) (same_head_is h d.name e) ∙ fresh in cc)
    go false e = refl

module _ (Δ : Env) (d : Item) (N : Term) (is : d.body ≡ Some N) (ok : IsLegalEnvironment Δ) (may : MayBeAdded Δ d) where
  abbrev V : Bodies
  V = body_of d

  typed : Derives Δ d.params N d.ty
  typed = may.body N is

  scoped : BodiesScoped V
  scoped h n B p =
      let q = body_at d h n _ B refl p in
      transport₂ Scoped (sym q.0) (same_Some _ _ (sym is ∙ q.1)) (in_scope typed).term

  others : (h : Head) (n : ℕ) → IsKnown Δ h n → V h n ≡ None
  others h n k = body_other d h n (is_other d Δ h k.0 may.fresh k.1)

  same_term : (t : Term) → Known Δ t → expand V t ≡ t
  same_term t k = expand_known V Δ others t k

  same_terms : (us : Terms) → AllKnown Δ us → expand_all V us ≡ us
  same_terms us k = expand_all_known V Δ others us k

  goes : (h : Head) → same_head h d.name ≡ true → Goes V Δ h d
  goes h e =
      record {
        value = N;
        is = body_own d h e ∙ is;
        body = λ M p. ap (expand V) (same_Some _ _ (sym p ∙ is)) ∙ same_term N (known typed);
        derives = transport₂ (λ Γ T. Derives Δ Γ N T) (sym (same_terms d.params (known_context typed))) (sym (same_term d.ty (known_valid d.ty (valid typed)))) typed;
      }

  stays : (h : Head) (c : Item) → item_of h Δ ≡ Some c → Stays V Δ h c
  stays h c p =
      record {
        item = c;
        found = p;
        other = λ n. body_other d h n (is_other d Δ h c may.fresh p);
        params = same_terms c.params (known_context (item_legal Δ h c ok p));
        ty = same_term c.ty (known_valid c.ty (item_valid ok h c p));
        body = λ M q. q ∙ ap Some (sym (same_term M (known (item_body Δ h c ok p M q))));
      }

  each : Expands V (d ∷ Δ) Δ
  each h c = go (same_head h d.name) refl
    where
      go : (b : Bool) → same_head h d.name ≡ b → found_at b d (item_of h Δ) ≡ Some c → Stays V Δ h c ⊎ Goes V Δ h c
      go true e p = inr (transport (Goes V Δ h) (same_Some _ _ p) (goes h e))
      go false e p = inl (stays h c p)

  pub removed_last : {Γ : Ctx} {M B : Term} → Derives (d ∷ Δ) Γ M B → Derives Δ (expand_all V Γ) (expand V M) (expand V B)
  removed_last dM = removed V scoped Δ ok dM each

pub removal_of_last : (Δ : Env) (d : Item) (N : Term) (Γ : Ctx) (M B : Term) → d.body ≡ Some N → Derives (d ∷ Δ) Γ M B → Derives Δ (expand_all (body_of d) Γ) (expand (body_of d) M) (expand (body_of d) B)
removal_of_last Δ d N Γ M B is dM = let n = newest dM in removed_last Δ d N is n.0 n.1 dM
