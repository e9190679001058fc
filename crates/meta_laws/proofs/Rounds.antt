-- As many rounds of unfolding as there are metavariables are enough.
use Rattle.std.proofs.Common.{◌≡◌, ℕ, zero, suc, ◌+◌, ◌≤◌, List, [], ◌∷◌, ◌++◌, inl, inr, Bool, true, false, Option, Some, None, option_map, refl, sym, ap, ◌∙◌, subst as transport, nat_eq, length, length-append, arith, if◌then◌else◌}
use Rattle.std.proofs.lemmas.Bool.{eqb-true, eq-eqb}
use Rattle.std.proofs.lemmas.Option.{same_Some}
use Rattle.ld_trees.specs.Term.{◌▹◌, Meta, Term, Terms, Named, count, Head, Numbered, none}
use Rattle.ld_rules.specs.Environment.{Env}
use Rattle.ld_rules.specs.Derivation.{Derives}
use Rattle.ld_trees.specs.Scoping.{Scoped}
use Rattle.ld_rules.specs.Expansion.{Bodies, expand, expanded}
use Rattle.ld_rules.proofs.ScopedJudgements.{in_scope}
use Rattle.ld_rules.proofs.Environments.{newest}
use Rattle.meta_trees.specs.MetaContext.{Metas, Decl, decl}
use Rattle.meta_trees.specs.Dependencies.{below, dependencies, depends, parts, occurs, occurs_in, and_value, Depends, direct}
use Rattle.meta_laws.specs.Cut.{arrange, possible, without, chosen, order, cut, listed, IsOrdered}
use Rattle.meta_laws.specs.Legality.{IsLegalMetas}
use Rattle.meta_laws.specs.Unfolding.{values, value_in, unfold_all_metas}
use Rattle.meta_laws.specs.Laws.{UnfoldingIsFixed}
use Rattle.meta_trees.proofs.Dependencies.{or_right, parts_are, or_split, declared_below}
use Rattle.meta_laws.proofs.Order.{order_is, acyclic, is_dependency}
use Rattle.meta_laws.proofs.Growing.{own_dependency}
use Rattle.meta_laws.proofs.Declaring.{parts_declared}
use Rattle.meta_laws.proofs.Agreement.{expand_scoped, expand_agree}

-- an order isn't longer than the metavariable context
arrange_length : (Σ : Metas) (n : ℕ) (rest L : List ℕ) → length (arrange Σ n rest L) ≤ n + length L
arrange_length Σ zero rest L = omega arith
arrange_length Σ (suc n) rest L = go (possible Σ L rest) (λ k. arrange_length Σ n (without k rest) (k ∷ L))
  where
    go : (o : Option ℕ) → ((k : ℕ) → length (arrange Σ n (without k rest) (k ∷ L)) ≤ n + length (k ∷ L)) → length (chosen L (λ k. arrange Σ n (without k rest) (k ∷ L)) o) ≤ suc n + length L
    go None f = omega arith
    go (Some k) f = let h = f k in omega arith

below_length : (p : ℕ → Bool) (n : ℕ) → length (below p n) ≤ n
below_length p zero = omega arith
below_length p (suc n) = go (p n) (below_length p n)
  where
    go : (b : Bool) → length (below p n) ≤ n → length (below p n ++ (if b then n ∷ [] else [])) ≤ suc n
    go true h = omega (arith, length-append (below p n) (n ∷ []))
    go false h = omega (arith, length-append (below p n) [])

pub order_length : (Σ : Metas) (X : Terms) → length (order Σ X) ≤ length Σ
order_length Σ X =
    let a = arrange_length Σ (length (dependencies Σ X)) (dependencies Σ X) [] in
    let b = below_length (depends Σ X) (length Σ) in
    omega arith

-- constants have no value
pub no_value : (Σ : Metas) (r : ℕ) (a : List ℕ) (n : ℕ) → values Σ r (Named a) n ≡ None
no_value Σ zero a n = refl
no_value Σ (suc r) a n = refl

pub same_no_value : (Σ Σ' : Metas) (r q : ℕ) (a : List ℕ) (n : ℕ) → values Σ r (Named a) n ≡ values Σ' q (Named a) n
same_no_value Σ Σ' r q a n = no_value Σ r a n ∙ sym (no_value Σ' q a n)

pub value_agrees : (V W : Bodies) (n : ℕ) (o : Option Decl) → ((d : Decl) (v : Term) → o ≡ Some d → d.value ≡ Some v → expand V v ≡ expand W v) → value_in V n o ≡ value_in W n o
value_agrees V W n None f = refl
value_agrees V W n (Some d) f = go d.value refl
  where
    go : (o : Option Term) → d.value ≡ o → (if nat_eq n (count d.ctx) then option_map (λ v. expand V v) o else None) ≡ (if nat_eq n (count d.ctx) then option_map (λ v. expand W v) o else None)
    go None e = refl
    go (Some v) e = ap (λ x. if nat_eq n (count d.ctx) then Some x else None) (f d v refl e)

pub value_in_parts : (k : ℕ) (d : Decl) (v : Term) → d.value ≡ Some v → occurs k v ≡ true → occurs_in k (parts d) ≡ true
value_in_parts k d v e w = transport (λ o. occurs_in k (and_value (d.ctx ▹ d.ty) o) ≡ true) (sym e) (or_right (occurs_in k (d.ctx ▹ d.ty)) _ w)

module _ (Δ : Env) (Σ : Metas) (ok : IsLegalMetas Δ Σ) where
  abbrev pub At : ℕ → Head → ℕ → Option Term
  At r h n = values Σ r h n

  -- values are scoped
  value_scoped : (V : Bodies) (m n : ℕ) (o : Option Decl) (B : Term) → decl m Σ ≡ o → ((t : Term) (k : ℕ) → Scoped k t → Scoped k (expand V t)) → value_in V n o ≡ Some B → Scoped n B
  value_scoped V m n None B p f e = absurd cc
  value_scoped V m n (Some d) B p f e = go (nat_eq n (count d.ctx)) refl d.value refl e
    where
      go : (b : Bool) → nat_eq n (count d.ctx) ≡ b → (o : Option Term) → d.value ≡ o → (if b then option_map (λ v. expand V v) o else None) ≡ Some B → Scoped n B
      go true q (Some v) w z =
          let dv : Derives (cut Σ Δ (parts d)) d.ctx v d.ty = (newest (ok.items m d p)).1.body v w in
          transport (Scoped n) (same_Some _ _ z) (f v n (transport (λ i. Scoped i v) (sym (eqb-true n (count d.ctx) q)) (in_scope dv).term))
      go true q None w z = absurd cc
      go false q o w z = absurd cc

  pub values_scoped : (r : ℕ) (h : Head) (n : ℕ) (B : Term) → At r h n ≡ Some B → Scoped n B
  values_scoped zero h n B e = absurd cc
  values_scoped (suc r) (Named a) n B e = absurd cc
  values_scoped (suc r) (Numbered m) n B e = value_scoped (At r) m n (decl m Σ) B refl (λ t k. expand_scoped (At r) (values_scoped r) t k) e

  -- the values of listed metavariables stay from a round on
  abbrev Stay : List ℕ → ℕ → Type 0
  Stay L r = (k : ℕ) → listed k L ≡ true → (n : ℕ) → At r (Numbered k) n ≡ At (suc r) (Numbered k) n

  -- what occurs in the parts of the first is listed after it
  parts_listed : (k : ℕ) (L : List ℕ) (d : Decl) → IsOrdered Σ (k ∷ L) → decl k Σ ≡ Some d → (i : ℕ) → occurs_in i (parts d) ≡ true → listed i L ≡ true
  parts_listed k L d o p i w = o.3 i (transport (λ X. Depends Σ X i) (sym (parts_are Σ k d p)) (direct w)) (parts_declared ok k i d p w)

  pub values_stay : (L : List ℕ) → IsOrdered Σ L → (r : ℕ) → length L ≤ r → Stay L r
  values_stay [] o r l k h n = absurd cc
  values_stay (j ∷ L) o zero l k h n = absurd (omega arith)
  values_stay (j ∷ L) o (suc r) l k h n = elim (or_split (nat_eq j k) _ h) [
    | inl e ↦ first (values_stay L o.0 r (omega arith)) (eqb-true j k e)
    | inr e ↦ values_stay L o.0 (suc r) (omega arith) k e n
  ]
    where
      first : Stay L r → j ≡ k → At (suc r) (Numbered k) n ≡ At (suc (suc r)) (Numbered k) n
      first st q =
          value_agrees (At r) (At (suc r)) n (decl k Σ) (λ d v p w.
          expand_agree (At r) (At (suc r)) (same_no_value Σ Σ r (suc r)) v (λ i n' z. st i (parts_listed j L d o (ap (λ x. decl x Σ) q ∙ p) i (value_in_parts i d v w z)) n'))

  -- the value of an assigned metavariable whose dependencies are listed
  pub value_now : (N : ℕ) (L : List ℕ) → IsOrdered Σ L → length L ≤ N → (j n : ℕ) (e : Decl) (v : Term) → n ≡ count e.ctx → listed j L ≡ true → decl j Σ ≡ Some e → e.value ≡ Some v → At N (Numbered j) n ≡ Some (expand (At N) v)
  value_now N L o l j n e v c h p q =
      values_stay L o N l j h n
      ∙ ap (value_in (At N) n) p
      ∙ ap (λ b. if b then option_map (λ v. expand (At N) v) e.value else None) (eq-eqb n (count e.ctx) c)
      ∙ ap (option_map (λ v. expand (At N) v)) q

  -- more rounds than there are metavariables change nothing
  pub one_round_more : (X : Terms) (r k n : ℕ) → Depends Σ X k → length Σ ≤ r → At r (Numbered k) n ≡ At (suc r) (Numbered k) n
  one_round_more X r k n D l = go (decl k Σ) refl
    where
      nothing : (q : ℕ) → decl k Σ ≡ None → At q (Numbered k) n ≡ None
      nothing zero p = refl
      nothing (suc q) p = ap (λ o. value_in (λ h m. values Σ q h m) n o) p

      go : (o : Option Decl) → decl k Σ ≡ o → At r (Numbered k) n ≡ At (suc r) (Numbered k) n
      go None p = nothing r p ∙ sym (nothing (suc r) p)
      go (Some d) p =
          let o = order_is Σ X (acyclic Σ ok.acyclic) in
          let b = order_length Σ X in
          values_stay (order Σ X) o.0 r (omega arith) k (o.1 k ∙ is_dependency Σ X k (declared_below Σ k d p) D) n

pub unfolding_is_fixed : UnfoldingIsFixed
unfolding_is_fixed Δ Σ m d us v ok p q n =
    let X = none ▹ Meta m us in
    let o = order_is Σ X (acyclic Σ ok.acyclic) in
    let h = o.1 m ∙ is_dependency Σ X m (declared_below Σ m d p) (own_dependency Σ m us) in
    ap (λ w. expanded w (Numbered m) (unfold_all_metas Σ us)) (value_now Δ Σ ok (length Σ) (order Σ X) o.0 (order_length Σ X) m (count us) d v n h p q)
