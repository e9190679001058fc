-- What holds of the metavariables that a call gives which makes two terms equal.
use Rattle.std.proofs.Common.{◌≡◌, ℕ, Some, None}
use Rattle.std.specs.Prelude.{slice_get}
use Rattle.ld_trees.specs.Term.{Numbered, Term, Terms}
use Rattle.ld_rules.specs.Environment.{Env, item_of}
use Rattle.ld_rules.specs.Reduction.{Equal, symmetric}
use Rattle.ld_rules.specs.Scoping.{Known}
use Rattle.ld_terms.specs.declared.globals.Decl.{Decl}
use Rattle.meta_trees.specs.MetaContext.{item}
use Rattle.meta_trees.specs.Dependencies.{Depends}
use Rattle.meta_context.specs.Declaring.{with_value}
use Rattle.meta_laws.specs.Cut.{cut}
use Rattle.meta_laws.specs.Legality.{IsLegalMetas}
use Rattle.meta_laws.proofs.Growing.{cut_extends, equality_grows, depends_grow, dependency_found}
use Rattle.goal_state.specs.State.{rules_metas}
use Rattle.goal_state.specs.Following.{Extend}
use Rattle.unification.specs.Refusals.{Plain, Unifies}
use Rattle.unification.proofs.Gives.{Gives}
use Rattle.unification.proofs.Reach.{known_extends}
use Rattle.unification.proofs.Declarations.{plain, declares, keeps, extend_itself}
use Rattle.unification.proofs.Moved.{Moved, moved_itself}

module _ (Δ : Env) where
  -- Z is legal, has what S has, makes a and b equal in the cut to X, and differs from S only as X allows
  pub record Joined (S : Plain) (X : Terms) (a b : Term) (Z : Plain) : Type 0 where
    pub legal : IsLegalMetas Δ (rules_metas Z)
    pub extend : Extend S Z
    pub equal : Equal (cut (rules_metas Z) Δ X) a b
    pub moved : Moved S X Z

  -- a call that joins each two terms
  abbrev pub Joins : Unifies → Type 0
  Joins unify = (S : Plain) (X : Terms) (n : ℕ) (a b : Term) → IsLegalMetas Δ (rules_metas S) → Known (cut (rules_metas S) Δ X) a → Known (cut (rules_metas S) Δ X) b → Gives (Joined S X a b) (unify S n a b)

  -- metavariable m has got a value
  pub record Settled (S : Plain) (X : Terms) (m : ℕ) (d : Decl Term) (v : Term) (Z : Plain) : Type 0 where
    pub legal : IsLegalMetas Δ (rules_metas Z)
    pub extend : Extend S Z
    pub before : d.value ≡ None
    pub now : slice_get Z m ≡ Some (with_value v d)
    pub moved : Moved S X Z

  pub joined_itself : (S : Plain) (X : Terms) (a b : Term) → IsLegalMetas Δ (rules_metas S) → Equal (cut (rules_metas S) Δ X) a b → Joined S X a b S
  joined_itself S X a b ok e = record { legal = ok; extend = extend_itself S; equal = e; moved = moved_itself S X }

  pub joined_back : (S : Plain) (X : Terms) (a b : Term) (Z : Plain) → Joined S X a b Z → Joined S X b a Z
  joined_back S X a b Z j = record { legal = j.legal; extend = j.extend; equal = (let e = j.equal in symmetric e); moved = j.moved }

  module _ (S Z : Plain) (X : Terms) (ok : IsLegalMetas Δ (rules_metas S)) (ok' : IsLegalMetas Δ (rules_metas Z)) (x : Extend S Z) where
    pub known_later : (t : Term) → Known (cut (rules_metas S) Δ X) t → Known (cut (rules_metas Z) Δ X) t
    known_later t k = known_extends (cut (rules_metas S) Δ X) (cut (rules_metas Z) Δ X) (cut_extends Δ (rules_metas S) (rules_metas Z) X X ok ok' (keeps S Z x) (λ k D. D)) t k

    pub equal_later : (a b : Term) → Equal (cut (rules_metas S) Δ X) a b → Equal (cut (rules_metas Z) Δ X) a b
    equal_later a b e = equality_grows Δ (rules_metas S) (rules_metas Z) X X a b ok ok' (keeps S Z x) (λ k D. D) e

  pub depends_later : (S Z : Plain) (X : Terms) (k : ℕ) → Extend S Z → Depends (rules_metas S) X k → Depends (rules_metas Z) X k
  depends_later S Z X k x D = depends_grow (keeps S Z x) D

  pub item_found : (S : Plain) (X : Terms) (m : ℕ) (d : Decl Term) → IsLegalMetas Δ (rules_metas S) → Depends (rules_metas S) X m → slice_get S m ≡ Some d → item_of (Numbered m) (cut (rules_metas S) Δ X) ≡ Some (item m (plain d))
  item_found S X m d ok D e = dependency_found Δ (rules_metas S) X m (plain d) ok D (declares S m d e)
