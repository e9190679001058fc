-- Scoped items of legal environments, the names of known constants, and scoped terms under substitution.
use Rattle.std.proofs.Common.{ℕ, zero, suc, refl, inl, inr, sym, subst as transport}
use Rattle.std.specs.Prelude.{Contains}
use Rattle.ld_trees.specs.Term.{Head, Term, Srt, Var, App, Lam, Pi, Con, Terms, none, ◌▹◌, count}
use Rattle.ld_trees.specs.Substitution.{lift, subst, substs, instantiate, subst_all}
use Rattle.ld_rules.specs.Environment.{Ctx, Env, Item}
use Rattle.ld_rules.specs.Legality.{IsLegal, IsLegalEnvironment, IsValid}
use Rattle.ld_trees.specs.Scoping.{AllScoped}
use Rattle.ld_rules.specs.Scoping.{Known, AllKnown, IsKnown, IsScoped}
use Rattle.ld_rules.specs.ScopedItems.{IsScopedAt, HasScopedItems, AreScoped, EachHead, EachHeadOfAll, IsNameIn}
use Rattle.ld_rules.proofs.ScopedTerms.{arguments_scoped, last_argument_scoped, substs_count}
use Rattle.ld_rules.proofs.KnownConstants.{known_rename, judgements_are_scoped}
use Rattle.ld_rules.proofs.Environments.{items_have_types, legal_environment}
use Rattle.ld_rules.proofs.Lookup.{is_contained}

-- a valid type is scoped
valid_scoped : (Δ : Env) (Γ : Ctx) (B : Term) → IsValid Δ Γ B → IsScoped Δ Γ B
valid_scoped Δ Γ B (inl e) = transport (IsScoped Δ Γ) (sym e) (tt, tt)
valid_scoped Δ Γ B (inr h) = (judgements_are_scoped Δ Γ B _ h.1).2

pub items_scoped : (Δ : Env) → IsLegalEnvironment Δ → HasScopedItems Δ
items_scoped Δ ok h d e =
    let i = items_have_types Δ h d ok e in
    let p = judgements_are_scoped Δ d.params _ _ i.0 in
    record { params = p.0; params_known = p.1; ty = valid_scoped Δ d.params d.ty i.1; body = λ M q. (judgements_are_scoped Δ d.params M d.ty (i.2 M q)).2 }

pub legal_is_scoped : (Δ : Env) (Γ : Ctx) → IsLegal Δ Γ → AreScoped Δ Γ
legal_is_scoped Δ Γ ok =
    let p = judgements_are_scoped Δ Γ _ _ ok in
    record { items = items_scoped Δ (legal_environment ok); entries = p.0; entries_known = p.1 }

-- ---- the names of known constants

module _ (Δ : Env) (P : Head → Type 0) (named : (d : Item) → Contains Δ d → P d.name) where
  known_head : (h : Head) (n : ℕ) → IsKnown Δ h n → P h
  known_head h n k = let c = is_contained h Δ k.0 k.1 in transport P c.1 (named k.0 c.0)

  mutual
    -- what holds of the names of all items holds of each constant that is known
    pub each_known : (t : Term) → Known Δ t → EachHead P t
    each_known (Srt s) k = tt
    each_known (Var i) k = tt
    each_known (App f a) k = (each_known f k.0, each_known a k.1)
    each_known (Lam A M) k = (each_known A k.0, each_known M k.1)
    each_known (Pi A B) k = (each_known A k.0, each_known B k.1)
    each_known (Con h us) k = (known_head h (count us) k.0, each_known_of_all us k.1)

    pub each_known_of_all : (us : Terms) → AllKnown Δ us → EachHeadOfAll P us
    each_known_of_all none k = tt
    each_known_of_all (us ▹ u) k = (each_known_of_all us k.0, each_known u k.1)

pub known_names : (Δ : Env) (t : Term) → Known Δ t → EachHead (IsNameIn Δ) t
known_names Δ t k = each_known Δ (IsNameIn Δ) (λ d c. (d, c, refl)) t k

-- ---- substitution

module _ (Δ : Env) where
  lift_known : (s : ℕ → Term) → ((i : ℕ) → Known Δ (s i)) → (i : ℕ) → Known Δ (lift s i)
  lift_known s h zero = tt
  lift_known s h (suc i) = known_rename Δ (s i) suc (h i)

  mutual
    pub known_subst : (t : Term) (s : ℕ → Term) → ((i : ℕ) → Known Δ (s i)) → Known Δ t → Known Δ (subst s t)
    known_subst (Srt c) s h k = tt
    known_subst (Var i) s h k = h i
    known_subst (App f a) s h k = (known_subst f s h k.0, known_subst a s h k.1)
    known_subst (Lam A M) s h k = (known_subst A s h k.0, known_subst M (lift s) (lift_known s h) k.1)
    known_subst (Pi A B) s h k = (known_subst A s h k.0, known_subst B (lift s) (lift_known s h) k.1)
    known_subst (Con c us) s h k = (transport (IsKnown Δ c) (sym (substs_count us s)) k.0, known_substs us s h k.1)

    pub known_substs : (us : Terms) (s : ℕ → Term) → ((i : ℕ) → Known Δ (s i)) → AllKnown Δ us → AllKnown Δ (substs s us)
    known_substs none s h k = tt
    known_substs (us ▹ u) s h k = (known_substs us s h k.0, known_subst u s h k.1)

  instantiate_known : (us : Terms) → AllKnown Δ us → (i : ℕ) → Known Δ (instantiate us i)
  instantiate_known none k i = tt
  instantiate_known (us ▹ u) k zero = k.1
  instantiate_known (us ▹ u) k (suc i) = instantiate_known us k.0 i

  -- one argument put in for the last entry
  pub one_put_in : (n : ℕ) (u t : Term) → IsScopedAt Δ n u → IsScopedAt Δ (suc n) t → IsScopedAt Δ n (subst_all (none ▹ u) t)
  one_put_in n u t k l = (last_argument_scoped u t n k.0 l.0, known_subst t _ (instantiate_known (none ▹ u) (tt, k.1)) l.1)

  -- arguments put in for all entries
  pub all_put_in : (n : ℕ) (us : Terms) (t : Term) → AllScoped n us → AllKnown Δ us → IsScopedAt Δ (count us) t → IsScopedAt Δ n (subst_all us t)
  all_put_in n us t k l m = (arguments_scoped us t n k m.0, known_subst t _ (instantiate_known us l) m.1)
