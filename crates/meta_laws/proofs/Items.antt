-- Looking up in an environment followed by the items of some metavariables.
use Rattle.std.proofs.Common.{◌≡◌, ℕ, zero, suc, ◌<◌, List, [], ◌∷◌, ◌⊎◌, inl, inr, Bool, true, false, ◌||◌, Option, Some, None, refl, sym, ap, ap₂, ◌∙◌, subst as transport, nat_eq, length, arith}
use Rattle.std.proofs.lemmas.Bool.{eq-eqb, eqb-true}
use Rattle.std.proofs.lemmas.Option.{same_Some}
use Rattle.ld_trees.specs.Term.{◌▹◌, Numbered, Named, Head, Terms, Term, Srt, Var, App, Lam, Pi, Con, none}
use Rattle.ld_rules.specs.Environment.{Env, item_of, found_at, Item}
use Rattle.ld_rules.specs.Scoping.{Known, AllKnown}
use Rattle.ld_rules.specs.Extension.{Refines, Extends}
use Rattle.ld_rules.proofs.SubstitutionLemma.{refines_itself}
use Rattle.meta_trees.specs.MetaContext.{decl, Metas, Decl, item}
use Rattle.meta_trees.specs.Dependencies.{Depends, is_meta, occurs, occurs_in}
use Rattle.meta_laws.specs.Cut.{with_item, listed, items, cut, order}
use Rattle.meta_laws.specs.Legality.{HasNoMetas}
use Rattle.meta_trees.proofs.Dependencies.{or_left, or_right, declared_below, or_split}
use Rattle.meta_laws.proofs.Lists.{is_false, not_both}
use Rattle.meta_laws.proofs.Order.{Acyclic, order_is, dependency}

pub declared_at : (Σ : Metas) (m : ℕ) → m < length Σ → (d : Decl) × (decl m Σ ≡ Some d)
declared_at [] m l = absurd (omega arith)
declared_at (d ∷ Σ) zero l = (d, refl)
declared_at (d ∷ Σ) (suc m) l = declared_at Σ m (omega arith)

-- the last item
last_found : (j k : ℕ) (e : Decl) (E : Env) (o : Option Decl) → o ≡ Some e → k ≡ j → item_of (Numbered j) (with_item o k E) ≡ Some (item j e)
last_found j k e E None p q = absurd cc
last_found j k e E (Some d) p q =
    ap (λ b. found_at b (item k d) (item_of (Numbered j) E)) (eq-eqb j k (sym q)) ∙ ap₂ (λ i x. Some (item i x)) q (same_Some d e p)

-- another number is looked up below the last item
earlier_found : (j k : ℕ) (E : Env) (o : Option Decl) → nat_eq j k ≡ false → item_of (Numbered j) (with_item o k E) ≡ item_of (Numbered j) E
earlier_found j k E None q = refl
earlier_found j k E (Some d) q = ap (λ b. found_at b (item k d) (item_of (Numbered j) E)) q

other_way : (j k : ℕ) → nat_eq k j ≡ false → nat_eq j k ≡ false
other_way j k e = is_false _ (λ p. not_both _ (eq-eqb k j (sym (eqb-true j k p))) e)

-- a listed metavariable is found
pub listed_found : (Σ : Metas) (Δ : Env) (L : List ℕ) (j : ℕ) (e : Decl) → listed j L ≡ true → decl j Σ ≡ Some e → item_of (Numbered j) (items Σ L Δ) ≡ Some (item j e)
listed_found Σ Δ [] j e h p = absurd cc
listed_found Σ Δ (k ∷ L) j e h p = go (nat_eq k j) refl h (listed_found Σ Δ L j e)
  where
    go : (b : Bool) → nat_eq k j ≡ b → (b || listed j L) ≡ true → (listed j L ≡ true → decl j Σ ≡ Some e → item_of (Numbered j) (items Σ L Δ) ≡ Some (item j e)) → item_of (Numbered j) (items Σ (k ∷ L) Δ) ≡ Some (item j e)
    go true q w f = let r = eqb-true k j q in last_found j k e (items Σ L Δ) (decl k Σ) (ap (λ i. decl i Σ) r ∙ p) r
    go false q w f = earlier_found j k (items Σ L Δ) (decl k Σ) (other_way j k q) ∙ f w p

-- constants are those of the environment
pub constant_found : (Σ : Metas) (Δ : Env) (L : List ℕ) (a : List ℕ) → item_of (Named a) (items Σ L Δ) ≡ item_of (Named a) Δ
constant_found Σ Δ [] a = refl
constant_found Σ Δ (k ∷ L) a = go (decl k Σ) ∙ constant_found Σ Δ L a
  where
    go : (o : Option Decl) → item_of (Named a) (with_item o k (items Σ L Δ)) ≡ item_of (Named a) (items Σ L Δ)
    go None = refl
    go (Some d) = refl

-- a number that isn't listed is new
pub unlisted_new : (Σ : Metas) (Δ : Env) (L : List ℕ) (k : ℕ) → HasNoMetas Δ → listed k L ≡ false → item_of (Numbered k) (items Σ L Δ) ≡ None
unlisted_new Σ Δ [] k plain h = plain k
unlisted_new Σ Δ (j ∷ L) k plain h = go (nat_eq j k) refl h (unlisted_new Σ Δ L k plain)
  where
    go : (b : Bool) → nat_eq j k ≡ b → (b || listed k L) ≡ false → (listed k L ≡ false → item_of (Numbered k) (items Σ L Δ) ≡ None) → item_of (Numbered k) (items Σ (j ∷ L) Δ) ≡ None
    go true q w f = absurd cc
    go false q w f = earlier_found k j (items Σ L Δ) (decl j Σ) (other_way k j q) ∙ f w

-- and so is one that isn't declared
pub undeclared_new : (Σ : Metas) (Δ : Env) (L : List ℕ) (k : ℕ) → HasNoMetas Δ → decl k Σ ≡ None → item_of (Numbered k) (items Σ L Δ) ≡ None
undeclared_new Σ Δ [] k plain e = plain k
undeclared_new Σ Δ (j ∷ L) k plain e = go (nat_eq j k) refl (undeclared_new Σ Δ L k plain e)
  where
    skip : (o : Option Decl) → o ≡ None → item_of (Numbered k) (with_item o j (items Σ L Δ)) ≡ item_of (Numbered k) (items Σ L Δ)
    skip None p = refl
    skip (Some d) p = absurd cc

    go : (b : Bool) → nat_eq j k ≡ b → item_of (Numbered k) (items Σ L Δ) ≡ None → item_of (Numbered k) (items Σ (j ∷ L) Δ) ≡ None
    go true q f = skip (decl j Σ) (ap (λ i. decl i Σ) (eqb-true j k q) ∙ e) ∙ f
    go false q f = earlier_found k j (items Σ L Δ) (decl j Σ) (other_way k j q) ∙ f

-- an item is one of the environment, or that of a metavariable with a property, perhaps assigned since
abbrev pub IsFrom : Metas → Env → (ℕ → Type 0) → Head → Item → Type 0
IsFrom Σ Δ P h c = (item_of h Δ ≡ Some c) ⊎ ((j : ℕ) × (e : Decl) × (h ≡ Numbered j) × (decl j Σ ≡ Some e) × P j × Refines c (item j e))

abbrev pub AreFrom : Env → Metas → Env → (ℕ → Type 0) → Type 0
AreFrom E Σ Δ P = (h : Head) (c : Item) → item_of h E ≡ Some c → IsFrom Σ Δ P h c

is_from : (Σ : Metas) (Δ : Env) (P : ℕ → Type 0) (k : ℕ) (E : Env) (h : Head) (c : Item) (o : Option Decl) → decl k Σ ≡ o → P k → (item_of h E ≡ Some c → IsFrom Σ Δ P h c) → item_of h (with_item o k E) ≡ Some c → IsFrom Σ Δ P h c
is_from Σ Δ P k E h c None q w f p = f p
is_from Σ Δ P k E (Named a) c (Some d) q w f p = f p
is_from Σ Δ P k E (Numbered j) c (Some d) q w f p = go (nat_eq j k) refl p
  where
    go : (b : Bool) → nat_eq j k ≡ b → found_at b (item k d) (item_of (Numbered j) E) ≡ Some c → IsFrom Σ Δ P (Numbered j) c
    go true e r = inr (k, d, ap Numbered (eqb-true j k e), q, w, transport (λ x. Refines x (item k d)) (same_Some (item k d) c r) (refines_itself (item k d)))
    go false e r = f r

pub items_from : (Σ : Metas) (Δ : Env) (P : ℕ → Type 0) (L : List ℕ) → ((k : ℕ) → listed k L ≡ true → P k) → AreFrom (items Σ L Δ) Σ Δ P
items_from Σ Δ P [] f h c p = inl p
items_from Σ Δ P (k ∷ L) f h c p =
    is_from Σ Δ P k (items Σ L Δ) h c (decl k Σ) refl (f k (or_left (nat_eq k k) _ (eq-eqb k k refl))) (items_from Σ Δ P L (λ j w. f j (or_right (nat_eq k j) _ w)) h c) p

pub cut_from : (Σ : Metas) (Δ : Env) (X : Terms) → Acyclic Σ → AreFrom (cut Σ Δ X) Σ Δ (Depends Σ X)
cut_from Σ Δ X ac = let o = order_is Σ X ac in items_from Σ Δ (Depends Σ X) (order Σ X) (λ k h. (dependency Σ X k (sym (o.1 k) ∙ h)).1)

-- a list of numbers that has those with the property makes an environment with those items
pub from_extends : (E : Env) (Σ : Metas) (Δ : Env) (P : ℕ → Type 0) (L : List ℕ) → HasNoMetas Δ → AreFrom E Σ Δ P → ((j : ℕ) → P j → j < length Σ → listed j L ≡ true) → Extends E (items Σ L Δ)
from_extends E Σ Δ P L plain b f h c p = go h (b h c p)
  where
    go : (h : Head) → IsFrom Σ Δ P h c → (c' : Item) × (item_of h (items Σ L Δ) ≡ Some c') × Refines c c'
    go (Named a) (inl q) = (c, constant_found Σ Δ L a ∙ q, refines_itself c)
    go (Numbered m) (inl q) = absurd (let r = plain m in cc)
    go h (inr q) =
        (item q.0 q.1, ap (λ k. item_of k (items Σ L Δ)) q.2 ∙ listed_found Σ Δ L q.0 q.1 (f q.0 q.4 (declared_below Σ q.0 q.1 q.3)) q.3, q.5)

-- a number of which an environment has an item
abbrev pub Found : Env → ℕ → Type 0
Found E k = (c : Item) × (item_of (Numbered k) E ≡ Some c)

pub found_from : (E : Env) (Σ : Metas) (Δ : Env) (P : ℕ → Type 0) → HasNoMetas Δ → AreFrom E Σ Δ P → (k : ℕ) → Found E k → (k < length Σ) × P k
found_from E Σ Δ P plain b k f = go (b (Numbered k) f.0 f.1)
  where
    go : IsFrom Σ Δ P (Numbered k) f.0 → (k < length Σ) × P k
    go (inl q) = absurd (let r = plain k in cc)
    go (inr q) =
        let r : q.0 ≡ k = (let s = q.2 in cc) in
        (transport (λ i. i < length Σ) r (declared_below Σ q.0 q.1 q.3), transport P r q.4)

-- a metavariable that occurs in a term whose constants are known is found
known_head : (h : Head) (E : Env) (d : Item) (k : ℕ) → item_of h E ≡ Some d → is_meta k h ≡ true → Found E k
known_head (Named a) E d k p w = absurd cc
known_head (Numbered m) E d k p w = (d, transport (λ i. item_of (Numbered i) E ≡ Some d) (eqb-true m k w) p)

module _ (E : Env) (k : ℕ) where
  mutual
    pub known_found : (t : Term) → Known E t → occurs k t ≡ true → Found E k
    known_found (Srt s) h w = absurd cc
    known_found (Var i) h w = absurd cc
    known_found (App f a) h w = elim (or_split (occurs k f) _ w) [ inl e ↦ known_found f h.0 e | inr e ↦ known_found a h.1 e ]
    known_found (Lam A M) h w = elim (or_split (occurs k A) _ w) [ inl e ↦ known_found A h.0 e | inr e ↦ known_found M h.1 e ]
    known_found (Pi A B) h w = elim (or_split (occurs k A) _ w) [ inl e ↦ known_found A h.0 e | inr e ↦ known_found B h.1 e ]
    known_found (Con c us) h w = elim (or_split (is_meta k c) _ w) [ inl e ↦ known_head c E h.0.0 k h.0.1 e | inr e ↦ all_known_found us h.1 e ]

    pub all_known_found : (us : Terms) → AllKnown E us → occurs_in k us ≡ true → Found E k
    all_known_found none h w = absurd cc
    all_known_found (us ▹ u) h w = elim (or_split (occurs_in k us) _ w) [ inl e ↦ all_known_found us h.0 e | inr e ↦ known_found u h.1 e ]
