-- What looking up a name means: in a legal environment an item is found by its name exactly where it is in the environment.
use Rattle.std.proofs.Common.{◌≡◌, ◌↔◌, ◌≢◌, zero, suc, [], ◌∷◌, ◌⊎◌, inl, inr, refl, sym, ap, ◌∙◌, Some, None, subst as transport, Bool, true, false, arith}
use Rattle.std.specs.Prelude.{Contains}
use Rattle.std.proofs.lemmas.Option.{same_Some}
use Rattle.ld_trees.specs.Term.{Head, same_head}
use Rattle.ld_trees.proofs.Equality.{same_head_is, same_head_itself}
use Rattle.ld_rules.specs.Environment.{Env, Item, item_of, found_at}
use Rattle.ld_rules.specs.Legality.{IsLegalEnvironment}
use Rattle.ld_rules.proofs.SubstitutionLemma.{found_below}
use Rattle.ld_rules.proofs.Environments.{newest}

first_contained : (d : Item) (Δ : Env) → Contains (d ∷ Δ) d
first_contained d Δ = (0, omega arith, refl)

later_contained : (c d : Item) (Δ : Env) → Contains Δ d → Contains (c ∷ Δ) d
later_contained c d Δ h = (suc h.0, let l = h.1 in omega arith, h.2)

contained_where : (c d : Item) (Δ : Env) → Contains (c ∷ Δ) d → (c ≡ d) ⊎ Contains Δ d
contained_where c d Δ (zero, l, e) = inl e
contained_where c d Δ (suc k, l, e) = inr (k, omega arith, e)

own_name : (h k : Head) → k ≡ h → same_head h k ≡ true
own_name h k e = ap (same_head h) e ∙ same_head_itself h

-- a name is new exactly where no item has it
new_name : (h : Head) (Δ : Env) → item_of h Δ ≡ None → (d : Item) → Contains Δ d → d.name ≢ h
new_name h [] p d (k, l, e) = absurd (omega arith)
new_name h (c ∷ Δ) p d k = go (same_head h c.name) refl p (λ q. new_name h Δ q d) (contained_where c d Δ k)
  where
    go : (b : Bool) → same_head h c.name ≡ b → found_at b c (item_of h Δ) ≡ None → (item_of h Δ ≡ None → Contains Δ d → d.name ≢ h) → (c ≡ d) ⊎ Contains Δ d → d.name ≢ h
    go true e q f w = absurd cc
    go false e q f (inl w) = λ n. absurd (let t : same_head h c.name ≡ true = own_name h c.name (ap (λ x. x.name) w ∙ n) in cc)
    go false e q f (inr w) = f q w

no_name : (h : Head) (Δ : Env) → ((d : Item) → Contains Δ d → d.name ≢ h) → item_of h Δ ≡ None
no_name h [] f = refl
no_name h (c ∷ Δ) f = go (same_head h c.name) refl (no_name h Δ (λ d k. f d (later_contained c d Δ k)))
  where
    go : (b : Bool) → same_head h c.name ≡ b → item_of h Δ ≡ None → found_at b c (item_of h Δ) ≡ None
    go true e q = absurd (f c (first_contained c Δ) (sym (same_head_is h c.name e)))
    go false e q = q

pub names_are_new : (Δ : Env) (h : Head) → (item_of h Δ ≡ None) ↔ ((d : Item) → Contains Δ d → d.name ≢ h)
names_are_new Δ h = (new_name h Δ, no_name h Δ)

-- what is found is in the environment and has the name
pub is_contained : (h : Head) (Δ : Env) (d : Item) → item_of h Δ ≡ Some d → Contains Δ d × (d.name ≡ h)
is_contained h [] d p = absurd cc
is_contained h (c ∷ Δ) d p = go (same_head h c.name) refl (is_contained h Δ d) p
  where
    go : (b : Bool) → same_head h c.name ≡ b → (item_of h Δ ≡ Some d → Contains Δ d × (d.name ≡ h)) → found_at b c (item_of h Δ) ≡ Some d → Contains (c ∷ Δ) d × (d.name ≡ h)
    go true e f q = transport (λ x. Contains (c ∷ Δ) x × (x.name ≡ h)) (same_Some _ _ q) (first_contained c Δ, sym (same_head_is h c.name e))
    go false e f q = let k = f q in (later_contained c d Δ k.0, k.1)

is_found : (Δ : Env) (d : Item) → IsLegalEnvironment Δ → Contains Δ d → item_of d.name Δ ≡ Some d
is_found [] d ok (k, l, e) = absurd (omega arith)
is_found (c ∷ Δ) d ok k = go (is_found Δ d (newest ok).0) (contained_where c d Δ k)
  where
    go : (Contains Δ d → item_of d.name Δ ≡ Some d) → (c ≡ d) ⊎ Contains Δ d → item_of d.name (c ∷ Δ) ≡ Some d
    go f (inl w) = ap (λ b. found_at b c (item_of d.name Δ)) (own_name d.name c.name (ap (λ x. x.name) w)) ∙ ap Some w
    go f (inr w) = found_below c Δ (newest ok).1.fresh d.name d (f w)

pub items_are_found : (Δ : Env) (h : Head) (d : Item) → IsLegalEnvironment Δ → (item_of h Δ ≡ Some d) ↔ (Contains Δ d × (d.name ≡ h))
items_are_found Δ h d ok = (is_contained h Δ d, λ k. transport (λ n. item_of n Δ ≡ Some d) k.1 (is_found Δ d ok k.0))
