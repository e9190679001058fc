-- A judgement is about terms in scope.
use Rattle.std.proofs.Common.{◌≡◌, suc, ◌∷◌, refl, sym, ap, ◌∙◌, Some, subst as transport, arith, Bool, true, false}
use Rattle.std.proofs.lemmas.Option.{same_Some}
use Rattle.ld_trees.specs.Term.{Head, Term, Terms, count, same_head}
use Rattle.ld_rules.specs.Environment.{Ctx, Env, Item, item_of, found_at}
use Rattle.ld_rules.specs.Derivation.{Derives, sort, var, weak, form, appl, abst, conv, def, def_prim, inst, Fits, no_argument, argument}
use Rattle.ld_trees.specs.Scoping.{Scoped, AllScoped}
use Rattle.ld_rules.specs.Scoping.{ContextScoped}
use Rattle.ld_rules.proofs.ScopedTerms.{weaken_scoped, arguments_scoped, last_argument_scoped}

-- an item's type and body have the variables of its parameters
pub record ItemScoped (d : Item) : Type 0 where
  pub params : ContextScoped d.params
  pub ty : Scoped (count d.params) d.ty
  pub body : (M : Term) → d.body ≡ Some M → Scoped (count d.params) M

abbrev pub EnvironmentScoped : Env → Type 0
EnvironmentScoped Δ = (h : Head) (d : Item) → item_of h Δ ≡ Some d → ItemScoped d

-- what a derivation is about is in scope
pub record InScope (Δ : Env) (Γ : Ctx) (M B : Term) : Type 0 where
  pub env : EnvironmentScoped Δ
  pub ctx : ContextScoped Γ
  pub term : Scoped (count Γ) M
  pub ty : Scoped (count Γ) B

-- what each argument's derivation is about
pub record AllInScope (Γ : Ctx) (us ps : Terms) : Type 0 where
  pub terms : AllScoped (count Γ) us
  pub alike : count us ≡ count ps

with_item : (d : Item) (Δ : Env) → ItemScoped d → EnvironmentScoped Δ → EnvironmentScoped (d ∷ Δ)
with_item d Δ i e h c = go (same_head h d.name)
  where
    go : (b : Bool) → found_at b d (item_of h Δ) ≡ Some c → ItemScoped c
    go true p = transport ItemScoped (same_Some _ _ p) i
    go false p = e h c p

mutual
  pub in_scope : {Δ : Env} {Γ : Ctx} {M B : Term} → Derives Δ Γ M B → InScope Δ Γ M B
  in_scope sort = record { env = λ h d p. absurd cc; ctx = tt; term = tt; ty = tt }
  in_scope (var {A = A} dA) =
      let a = in_scope dA in
      record { env = a.env; ctx = (a.ctx, a.term); term = omega arith; ty = weaken_scoped A _ a.term }
  in_scope (weak {M = M} {B = B} dM dC) =
      let m = in_scope dM in
      let c = in_scope dC in
      record { env = m.env; ctx = (m.ctx, c.term); term = weaken_scoped M _ m.term; ty = weaken_scoped B _ m.ty }
  in_scope (form dA dB) =
      let a = in_scope dA in
      let b = in_scope dB in
      record { env = a.env; ctx = a.ctx; term = (a.term, b.term); ty = tt }
  in_scope (appl {N = N} {B = B} dM dN) =
      let m = in_scope dM in
      let n = in_scope dN in
      record { env = m.env; ctx = m.ctx; term = (m.term, n.term); ty = last_argument_scoped N B _ n.term m.ty.1 }
  in_scope (abst dM dP) =
      let m = in_scope dM in
      let p = in_scope dP in
      record { env = m.env; ctx = p.ctx; term = (p.term.0, m.term); ty = p.term }
  in_scope (conv dM dB e) =
      let m = in_scope dM in
      let b = in_scope dB in
      record { env = m.env; ctx = m.ctx; term = m.term; ty = b.term }
  in_scope (def {Δ = Δ} d dK e dM fresh) =
      let k = in_scope dK in
      let m = in_scope dM in
      let i : ItemScoped d = record { params = m.ctx; ty = m.ty; body = λ X p. transport (Scoped (count d.params)) (same_Some _ _ (sym e ∙ p)) m.term } in
      record { env = with_item d Δ i k.env; ctx = k.ctx; term = k.term; ty = k.ty }
  in_scope (def_prim {Δ = Δ} d dK e dN fresh) =
      let k = in_scope dK in
      let n = in_scope dN in
      let i : ItemScoped d = record { params = n.ctx; ty = n.term; body = λ X p. absurd cc } in
      record { env = with_item d Δ i k.env; ctx = k.ctx; term = k.term; ty = k.ty }
  in_scope (inst {h = h} {us = us} d dS dU p) =
      let l = in_scope dS in
      let u = all_in_scope dU in
      record { env = l.env; ctx = l.ctx; term = u.terms; ty = arguments_scoped us d.ty _ u.terms (transport (λ n. Scoped n d.ty) (sym u.alike) (l.env h d p).ty) }

  pub all_in_scope : {Δ : Env} {Γ : Ctx} {us ps : Terms} → Fits Δ Γ us ps → AllInScope Γ us ps
  all_in_scope no_argument = record { terms = tt; alike = refl }
  all_in_scope (argument dU du) =
      let us = all_in_scope dU in
      let u = in_scope du in
      record { terms = (us.terms, u.term); alike = ap suc us.alike }
