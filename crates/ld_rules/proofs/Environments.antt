-- A derivation in another environment, and the items of a legal environment.
use Rattle.std.proofs.Common.{◌≡◌, ℕ, [], ◌∷◌, refl, sym, ◌∙◌, Some, None, Option, subst as transport, subst₂ as transport₂, Bool, true, false, ◌↔◌}
use Rattle.std.proofs.lemmas.Option.{same_Some}
use Rattle.ld_trees.specs.Term.{Head, Term, Star, Square, Var, none, ◌▹◌, same_head}
use Rattle.ld_trees.specs.Substitution.{subst}
use Rattle.ld_trees.proofs.SubstitutionLaws.{subst_var}
use Rattle.ld_rules.specs.Environment.{Ctx, Env, Item, item_of, found_at}
use Rattle.ld_rules.specs.Reduction.{Equal}
use Rattle.ld_rules.specs.Derivation.{Derives, sort, var, weak, form, appl, abst, conv, def, def_prim, inst}
use Rattle.ld_rules.specs.Legality.{IsLegal, IsLegalEnvironment, IsValid, MayBeAdded}
use Rattle.ld_rules.specs.Extension.{Extends}
use Rattle.ld_rules.proofs.ScopedJudgements.{in_scope}
use Rattle.ld_rules.proofs.SubstitutionLemma.{legal, refines_itself, found_below, equal_subst, substitution}
use Rattle.ld_rules.proofs.Entries.{last, into_itself}
use Rattle.ld_rules.proofs.Validity.{item_valid}

-- another environment, in which the context is legal too
pub in_environment : {Δ Δ' : Env} {Γ : Ctx} {M B : Term} → Derives Δ Γ M B → Extends Δ Δ' → Derives Δ' Γ Star Square → Derives Δ' Γ M B
in_environment {Δ' = Δ'} {Γ = Γ} {M = M} {B = B} dM ext ok =
    transport₂ (λ X Y. Derives Δ' Γ X Y) (subst_var M) (subst_var B) (substitution dM ext ok Var (into_itself Γ ok))

legal_in : {E Δ : Env} (Γ : Ctx) → Derives E Γ Star Square → Extends E Δ → Derives Δ none Star Square → Derives Δ Γ Star Square
legal_in none l ext ok = ok
legal_in (Γ ▹ A) l ext ok =
    let a = last l in
    let g = legal_in Γ (legal a.1) ext ok in
    weak g (in_environment a.1 ext g)

-- a derivation holds in each legal environment that has its items, a primitive perhaps replaced by a definition
pub change_environment : {E Δ : Env} {Γ : Ctx} {M B : Term} → Derives E Γ M B → Extends E Δ → Derives Δ none Star Square → Derives Δ Γ M B
change_environment {Γ = Γ} d ext ok = in_environment d ext (legal_in Γ (legal d) ext ok)

-- the environment of a judgement is legal
pub legal_environment : {Δ : Env} {Γ : Ctx} {M B : Term} → Derives Δ Γ M B → IsLegalEnvironment Δ
legal_environment sort = sort
legal_environment (var dA) = legal_environment dA
legal_environment (weak dM dC) = legal_environment dM
legal_environment (form dA dB) = legal_environment dA
legal_environment (appl dM dN) = legal_environment dM
legal_environment (abst dM dP) = legal_environment dP
legal_environment (conv dM dB e) = legal_environment dM
legal_environment (def d dK e dM fresh) = def d (legal_environment dK) e dM fresh
legal_environment (def_prim d dK e dN fresh) = def_prim d (legal_environment dK) e dN fresh
legal_environment (inst d dS dU p) = legal_environment dS

-- what a judgement says of the last item of its environment
abbrev pub Newest : Env → Type 0
Newest [] = Unit {0}
Newest (d ∷ Δ) = IsLegalEnvironment Δ × MayBeAdded Δ d

pub newest : {Δ : Env} {Γ : Ctx} {M B : Term} → Derives Δ Γ M B → Newest Δ
newest sort = tt
newest (var dA) = newest dA
newest (weak dM dC) = newest dM
newest (form dA dB) = newest dA
newest (appl dM dN) = newest dM
newest (abst dM dP) = newest dP
newest (conv dM dB e) = newest dM
newest (def {Δ = Δ} d dK e dM fresh) =
    (legal_environment dK, record { fresh = fresh; body = λ X p. transport (λ x. Derives Δ d.params x d.ty) (same_Some _ _ (sym e ∙ p)) dM; primitive = λ p. absurd cc })
newest (def_prim {s = s} d dK e dN fresh) =
    (legal_environment dK, record { fresh = fresh; body = λ X p. absurd cc; primitive = λ p. (s, dN) })
newest (inst d dS dU p) = newest dS

pub adding : (Δ : Env) (d : Item) → IsLegalEnvironment Δ → MayBeAdded Δ d → IsLegalEnvironment (d ∷ Δ)
adding Δ d ok m = go d.body refl
  where
    go : (o : Option Term) → d.body ≡ o → IsLegalEnvironment (d ∷ Δ)
    go None p = def_prim d ok p (m.primitive p).1 m.fresh
    go (Some M) p = def d ok p (m.body M p) m.fresh

pub adding_is_exact : (Δ : Env) (d : Item) → IsLegalEnvironment (d ∷ Δ) ↔ (IsLegalEnvironment Δ × MayBeAdded Δ d)
adding_is_exact Δ d = (newest, λ h. adding Δ d h.0 h.1)

-- an item that may be added to one environment may be added to a legal one that has its items, if its name is new there
may_be_added : (E Δ : Env) (d : Item) → IsLegalEnvironment Δ → Extends E Δ → MayBeAdded E d → item_of d.name Δ ≡ None → MayBeAdded Δ d
may_be_added E Δ d ok ext m fresh =
    record { fresh = fresh; body = λ M p. change_environment (m.body M p) ext ok; primitive = λ p. let x = m.primitive p in (x.0, change_environment x.1 ext ok) }

pub adding_from_below : (E Δ : Env) (d : Item) → IsLegalEnvironment Δ → Extends E Δ → MayBeAdded E d → item_of d.name Δ ≡ None → IsLegalEnvironment (d ∷ Δ)
adding_from_below E Δ d ok ext m fresh = adding Δ d ok (may_be_added E Δ d ok ext m fresh)

-- an item of a legal environment was added to a part of it
pub record Added (Δ : Env) (c : Item) : Type 0 where
  pub part : Env
  pub may : MayBeAdded part c
  pub extends : Extends part Δ

pub added : (Δ : Env) (h : Head) (c : Item) → IsLegalEnvironment Δ → item_of h Δ ≡ Some c → Added Δ c
added [] h c ok p = absurd cc
added (d ∷ Δ) h c ok p = go (same_head h d.name) (λ q. added Δ h c (newest ok).0 q) p
  where
    one : Newest (d ∷ Δ)
    one = newest ok

    more : Extends Δ (d ∷ Δ)
    more k b q = (b, found_below d Δ one.1.fresh k b q, refines_itself b)

    go : (b : Bool) → (item_of h Δ ≡ Some c → Added Δ c) → found_at b d (item_of h Δ) ≡ Some c → Added (d ∷ Δ) c
    go true f q = transport (Added (d ∷ Δ)) (same_Some _ _ q) (record { part = Δ; may = one.1; extends = more })
    go false f q =
        let a = f q in
        record { part = a.part; may = a.may; extends = λ k b r. let x = a.extends k b r in (x.0, found_below d Δ one.1.fresh k x.0 x.1, x.2) }

-- an item of a legal environment has its type there
pub item_body : (Δ : Env) (h : Head) (c : Item) → IsLegalEnvironment Δ → item_of h Δ ≡ Some c → (M : Term) → c.body ≡ Some M → Derives Δ c.params M c.ty
item_body Δ h c ok p M e = let a = added Δ h c ok p in change_environment (a.may.body M e) a.extends ok

-- the parameters of an item are a legal context
pub item_legal : (Δ : Env) (h : Head) (c : Item) → IsLegalEnvironment Δ → item_of h Δ ≡ Some c → IsLegal Δ c.params
item_legal Δ h c ok p = change_environment (go c.body refl) a.extends ok
  where
    a : Added Δ c
    a = added Δ h c ok p

    go : (o : Option Term) → c.body ≡ o → IsLegal a.part c.params
    go None e = legal (a.may.primitive e).1
    go (Some M) e = legal (a.may.body M e)

pub items_have_types : (Δ : Env) (h : Head) (d : Item) → IsLegalEnvironment Δ → item_of h Δ ≡ Some d → IsLegal Δ d.params × IsValid Δ d.params d.ty × ((M : Term) → d.body ≡ Some M → Derives Δ d.params M d.ty)
items_have_types Δ h d ok p = (item_legal Δ h d ok p, item_valid ok h d p, item_body Δ h d ok p)

pub judgements_are_legal : (Δ : Env) (Γ : Ctx) (M B : Term) → Derives Δ Γ M B → IsLegalEnvironment Δ × IsLegal Δ Γ
judgements_are_legal Δ Γ M B d = (legal_environment d, legal d)

pub equality_is_kept : (E Δ : Env) (s : ℕ → Term) (a b : Term) → IsLegalEnvironment E → Extends E Δ → Equal E a b → Equal Δ (subst s a) (subst s b)
equality_is_kept E Δ s a b ok ext e = equal_subst (in_scope ok).env ext s e
