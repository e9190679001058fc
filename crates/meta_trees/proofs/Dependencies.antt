-- The dependencies are computed.
use Rattle.std.proofs.Common.{◌≡◌, ◌≢◌, ◌↔◌, ℕ, zero, suc, ◌<◌, [], ◌∷◌, ◌⊎◌, inl, inr, Bool, true, false, ◌&&◌, ◌||◌, Option, Some, None, refl, sym, ap, subst as transport, nat_eq, length, arith}
use Rattle.std.proofs.lemmas.Bool.{eqb-true, eqb-false}
use Rattle.ld_trees.specs.Term.{none, Terms}
use Rattle.ld_trees.proofs.Equality.{and_left, and_right, and_both}
use Rattle.meta_trees.specs.MetaContext.{Metas, Decl, decl}
use Rattle.meta_trees.specs.Dependencies.{occurs_in, depends, Depends, parts, direct, through, parts_of, parts_if, reaches}

pub or_split : (a b : Bool) → (a || b) ≡ true → (a ≡ true) ⊎ (b ≡ true)
or_split true b h = inl refl
or_split false b h = inr h

pub or_left : (a b : Bool) → a ≡ true → (a || b) ≡ true
or_left true b h = refl
or_left false b h = absurd cc

pub or_right : (a b : Bool) → b ≡ true → (a || b) ≡ true
or_right true b h = refl
or_right false b h = h

pub none_has_none : (k : ℕ) → ¬ (occurs_in k none ≡ true)
none_has_none k h = cc

-- dependencies of a dependency
pub depends_more : {Σ : Metas} {X : Terms} (m : ℕ) (d : Decl) {k : ℕ} → decl m Σ ≡ Some d → Depends Σ X m → Depends Σ (parts d) k → Depends Σ X k
depends_more m d p D (direct w) = through d D p w
depends_more m d p D (through e E q w) = through e (depends_more m d p D E) q w

-- what is in more is a dependency of more
pub depends_wider : {Σ : Metas} {X Y : Terms} {k : ℕ} → ((j : ℕ) → occurs_in j X ≡ true → Depends Σ Y j) → Depends Σ X k → Depends Σ Y k
depends_wider f (direct w) = f _ w
depends_wider f (through e E q w) = through e (depends_wider f E) q w

pub nothing_depends : {Σ : Metas} {k : ℕ} → Depends Σ none k → ⊥
nothing_depends (direct w) = absurd cc
nothing_depends (through e E q w) = nothing_depends E

pub depends_parts : {Σ : Metas} {X : Terms} {k : ℕ} (m : ℕ) → Depends Σ X m → Depends Σ (parts_of Σ m) k → Depends Σ X k
depends_parts {Σ} {X} {k} m D = go (decl m Σ) refl
  where
    go : (o : Option Decl) → decl m Σ ≡ o → Depends Σ (parts_if o) k → Depends Σ X k
    go None p E = absurd (nothing_depends E)
    go (Some d) p E = depends_more m d p D E

pub parts_are : (Σ : Metas) (m : ℕ) (d : Decl) → decl m Σ ≡ Some d → parts_of Σ m ≡ parts d
parts_are Σ m d p = ap parts_if p

-- what is computed is a dependency
pub reaches_sound : (Σ : Metas) (n : ℕ) (X : Terms) (k : ℕ) → reaches Σ n X k ≡ true → Depends Σ X k
reaches_sound Σ zero X k h = direct h
reaches_sound Σ (suc n) X k h = elim (or_split (reaches Σ n X k) _ h) [
  | inl e ↦ reaches_sound Σ n X k e
  | inr e ↦ depends_parts n (reaches_sound Σ n X n (and_left (reaches Σ n X n) _ e)) (reaches_sound Σ n (parts_of Σ n) k (and_right (reaches Σ n X n) _ e))
]

reaches_direct : (Σ : Metas) (n : ℕ) (X : Terms) (k : ℕ) → occurs_in k X ≡ true → reaches Σ n X k ≡ true
reaches_direct Σ zero X k h = h
reaches_direct Σ (suc n) X k h = or_left (reaches Σ n X k) _ (reaches_direct Σ n X k h)

pub last_or_less : (i n : ℕ) → i < suc n → (i ≡ n) ⊎ (i < n)
last_or_less i n l = go (nat_eq i n) refl
  where
    go : (b : Bool) → nat_eq i n ≡ b → (i ≡ n) ⊎ (i < n)
    go true e = inl (eqb-true i n e)
    go false e = inr (let f : i ≢ n = eqb-false i n e in omega arith)

reaches_last : (Σ : Metas) (n i : ℕ) (X : Terms) (k : ℕ) → i ≡ n → (reaches Σ n X i ≡ true) ⊎ ((reaches Σ n X n && reaches Σ n (parts_of Σ n) i) ≡ true) → occurs_in k (parts_of Σ i) ≡ true → reaches Σ (suc n) X k ≡ true
reaches_last Σ n i X k q c w =
    or_right (reaches Σ n X k) _ (and_both (reaches Σ n X n) _ (at_end c) (reaches_direct Σ n (parts_of Σ n) k (transport (λ j. occurs_in k (parts_of Σ j) ≡ true) q w)))
  where
    at_end : (reaches Σ n X i ≡ true) ⊎ ((reaches Σ n X n && reaches Σ n (parts_of Σ n) i) ≡ true) → reaches Σ n X n ≡ true
    at_end (inl a) = transport (λ j. reaches Σ n X j ≡ true) q a
    at_end (inr a) = and_left (reaches Σ n X n) _ a

reaches_next : (Σ : Metas) (n i : ℕ) (X : Terms) (k : ℕ) → i < n → reaches Σ n X i ≡ true → occurs_in k (parts_of Σ i) ≡ true → reaches Σ n X k ≡ true
reaches_next Σ zero i X k l h w = absurd (omega arith)
reaches_next Σ (suc n) i X k l h w =
    let c = or_split (reaches Σ n X i) _ h in
    elim (last_or_less i n l) [
      | inl q ↦ reaches_last Σ n i X k q c w
      | inr m ↦ elim c [
        | inl a ↦ or_left (reaches Σ n X k) _ (reaches_next Σ n i X k m a w)
        | inr a ↦ or_right (reaches Σ n X k) _ (and_both (reaches Σ n X n) _ (and_left (reaches Σ n X n) _ a) (reaches_next Σ n i (parts_of Σ n) k m (and_right (reaches Σ n X n) _ a) w))
      ]
    ]

pub declared_below : (Σ : Metas) (m : ℕ) (d : Decl) → decl m Σ ≡ Some d → m < length Σ
declared_below [] m d p = absurd cc
declared_below (e ∷ Σ) zero d p = omega arith
declared_below (e ∷ Σ) (suc m) d p = let h = declared_below Σ m d p in omega arith

-- each dependency is computed
pub reaches_complete : {Σ : Metas} {X : Terms} {k : ℕ} → Depends Σ X k → depends Σ X k ≡ true
reaches_complete {Σ} {X} {k} (direct w) = reaches_direct Σ (length Σ) X k w
reaches_complete {Σ} {X} {k} (through {m = m} e E q w) =
    reaches_next Σ (length Σ) m X k (declared_below Σ m e q) (reaches_complete E) (transport (λ Y. occurs_in k Y ≡ true) (sym (parts_are Σ m e q)) w)

pub depends_is : (Σ : Metas) (X : Terms) (k : ℕ) → Depends Σ X k ↔ (depends Σ X k ≡ true)
depends_is Σ X k = (λ D. reaches_complete D, λ h. reaches_sound Σ (length Σ) X k h)
