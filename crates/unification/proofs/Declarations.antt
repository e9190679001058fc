-- The declaration of a number, while further ones are added and one gets a value; and what is kept meanwhile.
use Rattle.std.proofs.Common.{◌≡◌, ◌≢◌, ℕ, zero, suc, ◌≤◌, List, [], ◌∷◌, length, ◌⊎◌, inl, inr, Bool, true, false, Option, Some, None, option_map, refl, sym, ap, ◌∙◌, nat_eq, arith, subst as transport}
use Rattle.std.specs.Prelude.{slice_get, is_none}
use Rattle.std.proofs.lemmas.Bool.{eqb-true, eqb-false}
use Rattle.std.proofs.lemmas.Option.{same_Some}
use Rattle.ld_trees.specs.Term.{Term}
use Rattle.ld_terms.specs.declared.globals.Local.{Local}
use Rattle.ld_terms.specs.declared.globals.Decl.{Decl}
use Rattle.meta_trees.specs.MetaContext.{Decl as RulesDecl, decl, Keeps, KeepsDecl as RulesKeepsDecl}
use Rattle.meta_context.specs.Stored.{decl_of}
use Rattle.meta_context.specs.Plain.{rules_ctx}
use Rattle.meta_context.specs.Declaring.{unassigned, with_value, declared, assigned}
use Rattle.meta_context.proofs.Stored.{decl_means}
use Rattle.goal_state.specs.State.{rules_metas, is_open, lacks_value}
use Rattle.goal_state.specs.Following.{KeepsDecl, Extend}
use Rattle.unification.specs.Refusals.{Plain}

-- the declaration as the rules have it
abbrev pub plain : Decl Term → RulesDecl
plain d = decl_of (λ t. t) d

pub declares : (ds : Plain) (m : ℕ) (d : Decl Term) → slice_get ds m ≡ Some d → decl m (rules_metas ds) ≡ Some (plain d)
declares ds m d e = decl_means (λ t. t) m ds ∙ ap (option_map plain) e

-- ---- extending

pub extend_itself : (ds : Plain) → Extend ds ds
extend_itself ds m d e = (d, e, record { ctx = refl; ty = refl; value = λ v q. q })

pub extend_more : (ds cs bs : Plain) → Extend ds cs → Extend cs bs → Extend ds bs
extend_more ds cs bs f g m d e =
    let c = f m d e in
    let b = g m c.0 c.1 in
    (b.0, b.1, record { ctx = b.2.ctx ∙ c.2.ctx; ty = b.2.ty ∙ c.2.ty; value = λ v q. b.2.value v (c.2.value v q) })

pub extend_length : (ds cs : Plain) → Extend ds cs → length ds ≤ length cs
extend_length [] cs x = omega arith
extend_length (d ∷ ds) [] x = absurd (let c = x zero d refl in let e = c.1 in cc)
extend_length (d ∷ ds) (c ∷ cs) x = let l = extend_length ds cs (λ m b e. x (suc m) b e) in omega arith

-- a number past the end isn't declared
pub past_the_end : (ds : Plain) (k : ℕ) → slice_get ds k ≡ None → length ds ≤ k
past_the_end [] k e = omega arith
past_the_end (d ∷ ds) zero e = absurd cc
past_the_end (d ∷ ds) (suc k) e = let l = past_the_end ds k e in omega arith

value_kept : (d c : Decl Term) (v : Term) → ((v : Term) → d.value ≡ Some v → c.value ≡ Some v) → option_map (λ (t : Term). t) d.value ≡ Some v → option_map (λ (t : Term). t) c.value ≡ Some v
value_kept d c v f = go d.value refl
  where
    go : (o : Option Term) → d.value ≡ o → option_map (λ (t : Term). t) o ≡ Some v → option_map (λ (t : Term). t) c.value ≡ Some v
    go None p q = absurd cc
    go (Some w) p q = ap (option_map (λ (t : Term). t)) (f w p) ∙ q

pub keeps : (ds cs : Plain) → Extend ds cs → Keeps (rules_metas ds) (rules_metas cs)
keeps ds cs x m d e = go (slice_get ds m) refl (sym (decl_means (λ t. t) m ds) ∙ e)
  where
    go : (o : Option (Decl Term)) → slice_get ds m ≡ o → option_map plain o ≡ Some d → (c : RulesDecl) × (decl m (rules_metas cs) ≡ Some c) × RulesKeepsDecl d c
    go None p q = absurd cc
    go (Some b) p q =
        let c = x m b p in
        (plain c.0, declares cs m c.0 c.1, transport (λ y. RulesKeepsDecl y (plain c.0)) (same_Some (plain b) d q) (record { ctx = ap rules_ctx (sym c.2.ctx); ty = sym c.2.ty; value = λ v r. value_kept b c.0 v c.2.value r }))

-- ---- declaring

pub declared_before : (ds : Plain) (Γ : List (Local Term)) (T : Term) (k : ℕ) (d : Decl Term) → slice_get ds k ≡ Some d → slice_get (declared Γ T ds) k ≡ Some d
declared_before [] Γ T k d e = absurd cc
declared_before (x ∷ ds) Γ T zero d e = e
declared_before (x ∷ ds) Γ T (suc k) d e = declared_before ds Γ T k d e

pub declared_last : (ds : Plain) (Γ : List (Local Term)) (T : Term) → slice_get (declared Γ T ds) (length ds) ≡ Some (unassigned Γ T)
declared_last [] Γ T = refl
declared_last (d ∷ ds) Γ T = declared_last ds Γ T

-- each number is as it was, or is past the end
pub declared_either : (ds : Plain) (Γ : List (Local Term)) (T : Term) (k : ℕ) → (slice_get (declared Γ T ds) k ≡ slice_get ds k) ⊎ (length ds ≤ k)
declared_either [] Γ T k = inr (omega arith)
declared_either (d ∷ ds) Γ T zero = inl refl
declared_either (d ∷ ds) Γ T (suc k) = elim (declared_either ds Γ T k) [ inl e ↦ inl e | inr l ↦ inr (omega arith) ]

-- a declaration is an old one or the new one
pub declared_past : (ds : Plain) (Γ : List (Local Term)) (T : Term) (k : ℕ) (c : Decl Term) → slice_get (declared Γ T ds) k ≡ Some c → (slice_get ds k ≡ Some c) ⊎ ((k ≡ length ds) × (c ≡ unassigned Γ T))
declared_past [] Γ T zero c e = inr (refl, sym (same_Some (unassigned Γ T) c e))
declared_past [] Γ T (suc k) c e = absurd cc
declared_past (d ∷ ds) Γ T zero c e = inl e
declared_past (d ∷ ds) Γ T (suc k) c e = elim (declared_past ds Γ T k c e) [ inl q ↦ inl q | inr q ↦ inr (ap suc q.0, q.1) ]

pub extend_declared : (ds : Plain) (Γ : List (Local Term)) (T : Term) → Extend ds (declared Γ T ds)
extend_declared ds Γ T m d e = (d, declared_before ds Γ T m d e, record { ctx = refl; ty = refl; value = λ v q. q })

-- ---- assigning

pub assigned_other : (m : ℕ) (v : Term) (ds : Plain) (k : ℕ) → k ≢ m → slice_get (assigned m v ds) k ≡ slice_get ds k
assigned_other m v [] k n = refl
assigned_other zero v (d ∷ ds) zero n = absurd (n refl)
assigned_other zero v (d ∷ ds) (suc k) n = refl
assigned_other (suc m) v (d ∷ ds) zero n = refl
assigned_other (suc m) v (d ∷ ds) (suc k) n = assigned_other m v ds k (λ e. n (ap suc e))

pub assigned_here : (m : ℕ) (v : Term) (ds : Plain) (d : Decl Term) → slice_get ds m ≡ Some d → slice_get (assigned m v ds) m ≡ Some (with_value v d)
assigned_here m v [] d e = absurd cc
assigned_here zero v (x ∷ ds) d e = let same : x ≡ d = cc in ap (λ y. Some (with_value v y)) same
assigned_here (suc m) v (x ∷ ds) d e = assigned_here m v ds d e

pub extend_assigned : (m : ℕ) (v : Term) (ds : Plain) (d : Decl Term) → slice_get ds m ≡ Some d → d.value ≡ None → Extend ds (assigned m v ds)
extend_assigned m v ds d e open_yet k c q = go (nat_eq k m) refl
  where
    go : (b : Bool) → nat_eq k m ≡ b → (x : Decl Term) × (slice_get (assigned m v ds) k ≡ Some x) × KeepsDecl c x
    go true b =
        let r : k ≡ m = eqb-true k m b in
        let same : d ≡ c = same_Some d c (sym e ∙ transport (λ i. slice_get ds i ≡ Some c) r q) in
        (with_value v d, transport (λ i. slice_get (assigned m v ds) i ≡ Some (with_value v d)) (sym r) (assigned_here m v ds d e), transport (λ x. KeepsDecl x (with_value v d)) same (record { ctx = refl; ty = refl; value = λ u p. absurd cc }))
    go false b = (c, assigned_other m v ds k (eqb-false k m b) ∙ q, record { ctx = refl; ty = refl; value = λ u p. p })

-- ---- open ones

no_value : (o : Option Term) → is_none o ≡ true → o ≡ None
no_value None e = refl
no_value (Some v) e = absurd cc

open_value : (ds : Plain) (m : ℕ) (d : Decl Term) → is_open ds m ≡ true → slice_get ds m ≡ Some d → d.value ≡ None
open_value ds m d e p = no_value d.value (sym (ap lacks_value p) ∙ e)

not_yet : (o p : Option Term) → ((v : Term) → o ≡ Some v → p ≡ Some v) → p ≡ None → o ≡ None
not_yet None p f e = refl
not_yet (Some v) p f e = absurd (let q = sym (f v refl) ∙ e in cc)

pub same_decl : (d c : Decl Term) → d.ctx ≡ c.ctx → d.ty ≡ c.ty → d.value ≡ c.value → d ≡ c
same_decl d c p q r = λ i. record { ctx = p i; ty = q i; value = r i }

-- what is open later was open, and is as it was
pub still_open : (ds cs : Plain) (m : ℕ) (d : Decl Term) → Extend ds cs → slice_get ds m ≡ Some d → is_open cs m ≡ true → (d.value ≡ None) × (slice_get cs m ≡ Some d)
still_open ds cs m d x e o =
    let c = x m d e in
    let later = open_value cs m c.0 o c.1 in
    let before = not_yet d.value c.0.value c.2.value later in
    (before, c.1 ∙ ap Some (same_decl c.0 d c.2.ctx c.2.ty (later ∙ sym before)))
