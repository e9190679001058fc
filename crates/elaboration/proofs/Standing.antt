-- What elaboration keeps on its way from some metavariables on, and what grows with them. D is a set of numbers in which it stays: each
-- number that isn't declared at its start is one of them.
use Rattle.std.proofs.Common.{◌≡◌, ℕ, ◌<◌, ◌≤◌, List, length, All, Some, arith}
use Rattle.ld_trees.specs.Term.{Head, Named, Numbered, Term, Star, Square}
use Rattle.ld_rules.specs.Environment.{Env, Item as RulesItem, item_of}
use Rattle.ld_rules.specs.Legality.{IsLegal}
use Rattle.ld_rules.specs.Scoping.{Known}
use Rattle.ld_rules.specs.ScopedItems.{IsScopedAt, EachHead, EachHeadOfAll}
use Rattle.ld_confluence.specs.Agreement.{EachHeadOfItem}
use Rattle.ld_terms.specs.declared.globals.Local.{Local}
use Rattle.ld_terms.specs.declared.globals.Item.{Item}
use Rattle.meta_context.specs.Plain.{rules_ctx, rules_env}
use Rattle.meta_laws.specs.Cut.{cut}
use Rattle.meta_laws.specs.Legality.{IsLegalMetas}
use Rattle.meta_laws.proofs.Growing.{cuts_grow}
use Rattle.goal_state.specs.State.{rules_metas, AreDistinct}
use Rattle.goal_state.specs.Following.{Extend}
use Rattle.unification.specs.Steps.{Gave}
use Rattle.unification.specs.Refusals.{Plain}
use Rattle.unification.specs.Metavariables.{reach}
use Rattle.unification.specs.Unification.{unify}
use Rattle.unification.specs.Laws.{Stays}
use Rattle.unification.proofs.Reach.{known_extends}
use Rattle.unification.proofs.Declarations.{extend_itself, extend_more, extend_length, keeps}
use Rattle.elaboration.specs.Elaboration.{Work, Made, Want, Any, Of, AsType}
use Rattle.elaboration.specs.Laws.{IsNew}
use Rattle.elaboration.proofs.Reach.{reach_extends}

-- ---- the set

abbrev pub InSet : (ℕ → Type 0) → Head → Type 0
InSet D (Named a) = Unit {0}
InSet D (Numbered m) = D m

-- each item that is found of the set speaks of the set alone
abbrev pub IsClosed : (ℕ → Type 0) → Env → Type 0
IsClosed D E = (h : Head) (d : RulesItem) → InSet D h → item_of h E ≡ Some d → EachHeadOfItem (InSet D) d

-- what a unification in the set makes of metavariables
pub record Unified (Δ : Env) (D : ℕ → Type 0) (metas after : Plain) : Type 0 where
  pub legal : IsLegalMetas Δ (rules_metas after)
  pub extend : Extend metas after
  pub closed : IsClosed D (reach Δ after)
  pub others : (k : ℕ) → k < length metas → (D k → ⊥) → Stays metas after k

abbrev pub UnifiesWithin : Env → (ℕ → Type 0) → Type 0
UnifiesWithin Δ D = (metas after : Plain) (d n left : ℕ) (a b : Term) → IsLegalMetas Δ (rules_metas metas) → IsClosed D (reach Δ metas) → ((k : ℕ) → length metas ≤ k → D k) → Known (reach Δ metas) a → Known (reach Δ metas) b
    → EachHead (InSet D) a → EachHead (InSet D) b → unify Δ metas d a b n ≡ Gave after left → Unified Δ D metas after

module _ (items : List (Item Term)) (base : Plain) (D : ℕ → Type 0) where
  abbrev Δ : Env
  Δ = rules_env items

  pub record AreGood (metas : Plain) : Type 0 where
    pub legal : IsLegalMetas Δ (rules_metas metas)
    pub extend : Extend base metas
    pub closed : IsClosed D (reach Δ metas)
    pub others : (k : ℕ) → k < length base → (D k → ⊥) → Stays base metas k

  pub record IsGood (w : Work) : Type 0 where
    pub metas : AreGood w.metas
    pub goals : All (IsNew base w.metas) w.goals
    pub once : AreDistinct w.goals
    pub holes : All (λ h. IsNew base w.metas h.0) w.holes

  -- a context
  pub record HasContext (metas : Plain) (Γ : List (Local Term)) : Type 0 where
    pub legal : IsLegal (cut (rules_metas metas) Δ (rules_ctx Γ)) (rules_ctx Γ)
    pub inside : EachHeadOfAll (InSet D) (rules_ctx Γ)

  -- a term in a context of so many entries
  pub record HasTerm (metas : Plain) (n : ℕ) (t : Term) : Type 0 where
    pub scoped : IsScopedAt (reach Δ metas) n t
    pub inside : EachHead (InSet D) t

  -- what is wanted
  abbrev pub HasWant : Plain → ℕ → Want → Type 0
  HasWant metas n Any = Unit {0}
  HasWant metas n (Of T) = HasTerm metas n T
  HasWant metas n AsType = Unit {0}

  -- a work after another one
  pub record IsAfter (w after : Work) : Type 0 where
    pub good : IsGood after
    pub extend : Extend w.metas after.metas

  -- a term with its type after a work
  pub record IsMade (w : Work) (n : ℕ) (m : Made) : Type 0 where
    pub after : IsAfter w m.work
    pub term : HasTerm m.work.metas n m.term
    pub ty : HasTerm m.work.metas n m.ty

  -- ---- growth

  pub term_grows : (metas after : Plain) (n : ℕ) (t : Term) → Extend metas after → HasTerm metas n t → HasTerm after n t
  term_grows metas after n t extend h = record {
    scoped = (h.scoped.0, known_extends (reach Δ metas) (reach Δ after) (reach_extends items metas after extend) t h.scoped.1);
    inside = h.inside;
  }

  pub context_grows : (metas after : Plain) (Γ : List (Local Term)) → AreGood metas → AreGood after → Extend metas after → HasContext metas Γ → HasContext after Γ
  context_grows metas after Γ ok ok' extend h = record {
    legal = cuts_grow Δ (rules_metas metas) (rules_metas after) (rules_ctx Γ) (rules_ctx Γ) (rules_ctx Γ) Star Square ok.legal ok'.legal (keeps metas after extend) (λ k d. d) h.legal;
    inside = h.inside;
  }

  pub want_grows : (metas after : Plain) (n : ℕ) (want : Want) → Extend metas after → HasWant metas n want → HasWant after n want
  want_grows metas after n Any extend h = tt
  want_grows metas after n (Of T) extend h = term_grows metas after n T extend h
  want_grows metas after n AsType extend h = tt

  pub new_grows : (metas after : Plain) (m : ℕ) → Extend metas after → IsNew base metas m → IsNew base after m
  new_grows metas after m extend h = record { later = h.later; declared = (let a = h.declared in let b = extend_length metas after extend in omega arith) }

  pub goals_grow : (metas after : Plain) (ms : List ℕ) → Extend metas after → All (IsNew base metas) ms → All (IsNew base after) ms
  goals_grow metas after ms extend a k d l = new_grows metas after _ extend (a k d l)

  pub holes_grow : (metas after : Plain) (hs : List (ℕ × ℕ)) → Extend metas after → All (λ h. IsNew base metas h.0) hs → All (λ h. IsNew base after h.0) hs
  holes_grow metas after hs extend a k d l = new_grows metas after _ extend (a k d l)

  pub after_itself : (w : Work) → IsGood w → IsAfter w w
  after_itself w ok = record { good = ok; extend = extend_itself w.metas }

  pub after_more : (w v u : Work) → IsAfter w v → IsAfter v u → IsAfter w u
  after_more w v u a b = record { good = b.good; extend = extend_more w.metas v.metas u.metas a.extend b.extend }

  pub made_more : (w v : Work) (n : ℕ) (m : Made) → IsAfter w v → IsMade v n m → IsMade w n m
  made_more w v n m a h = record { after = after_more w v m.work a h.after; term = h.term; ty = h.ty }
