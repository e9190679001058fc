-- Applying a term, part by part.
use Rattle.std.proofs.Common.{◌≡◌, ◌<◌, ℕ, List, length, Result, Ok, Err, refl, sym, ap, ◌∙◌, subst}
use Rattle.std.specs.Prelude.{IfOk, IsErrAnd}
use Rattle.ld_trees.specs.Term.{Term}
use Rattle.ld_rules.specs.Environment.{Env}
use Rattle.ld_terms.specs.Views.{Keeps}
use Rattle.ld_terms.specs.declared.globals.Decl.{Decl}
use Rattle.unification.specs.Refusals as unification
use Rattle.pattern_unify.specs.Answers.{ShowsUnify}
use Rattle.pattern_unify.specs.declared.fault.UnifyFault.{UnifyFault}
use Rattle.unification.specs.Steps.{Outcome, Gave, Refused, OutOfFuel, go_on, ◌>>=◌, pure, retry, renamed}
use Rattle.unification.specs.Refusals.{Plain}
use Rattle.unification.specs.Metavariables.{declared}
use Rattle.unification.specs.Unification.{unify}
use Rattle.goal_state.proofs.Means.{plain_metas_kept}
use Rattle.pattern_unify.proofs.Follow.{next}
use Rattle.move_set.specs.Refusals.{Refusal, Step, unify_step, from_unification}
use Rattle.move_set.specs.Applying.{Application, longer, product_of, fitted, applied, apply}
use Rattle.move_set.specs.Answers.{Shows, ShowsRefusal, IsApplicationIn, IsTurn, plain_application}
use Rattle.move_set.specs.Faults.{unify_fault}
use Rattle.move_set.specs.declared.applying.Application.{Application as StoredApplication}
use Rattle.move_set.specs.declared.applying.Turn.{Turn}
use Rattle.move_set.specs.declared.fault.MoveFault.{MoveFault}
use Rattle.move_set.proofs.Follow.{renamed_gave, unify_shows, IsNoHalt, refused_of, shows_refusal}
use Rattle.move_set.proofs.Fuel.{fitted_spends, unfolds}

pub same_application : (S Z : Plain) (ms ns : List ℕ) (t u T U : Term) → S ≡ Z → ms ≡ ns → t ≡ u → T ≡ U
    → (let x : Application = record { metas = S; args = ms; term = t; ty = T } in let y : Application = record { metas = Z; args = ns; term = u; ty = U } in x ≡ y)
same_application S Z ms ns t u T U p q r s = λ i. record { metas = p i; args = q i; term = r i; ty = s i }

pub same_longer : (S : Plain) (ms ns : List ℕ) (t u T U : Term) (m k n l : ℕ) → ms ≡ ns → t ≡ u → T ≡ U → m ≡ k → n ≡ l → longer S ms t T m n ≡ longer S ns u U k l
same_longer S ms ns t u T U m k n l p q r s z = λ i. longer S (p i) (q i) (r i) (s i) (z i)

module _ (Δ : Env) (d : Decl Term) (a : Application) where
  -- the metavariables of a refused unification are given up
  abbrev pub in_metas : Plain → Application
  in_metas metas = record { metas = metas; args = a.args; term = a.term; ty = a.ty }

  abbrev pub fits : Plain → Step Application
  fits metas = pure (in_metas metas)

  abbrev pub made : Term × Term → Plain → Step Application
  made p more = pure (longer more a.args a.term p.1 (length a.metas) (length d.ctx))

  abbrev pub after_parts : Term × Term → Step Application
  after_parts p = unify_step (declared Δ a.metas d.ctx p.0) >>= made p

  abbrev pub goes_on : Refusal → Step Application
  goes_on r = applied Δ d r a >>= apply Δ d

  pub declaring : (r : Refusal) (n k : ℕ) (A B : Term) → product_of Δ r a.metas a.ty n ≡ Gave (A, B) k → applied Δ d r a n ≡ go_on (renamed from_unification (declared Δ a.metas d.ctx A k)) (made (A, B))
  declaring r n k A B e = next (applied Δ d r a n) (product_of Δ r a.metas a.ty n) (A, B) k after_parts refl e

  pub longer_made : (r : Refusal) (n k l : ℕ) (A B : Term) (more : Plain) → product_of Δ r a.metas a.ty n ≡ Gave (A, B) k → declared Δ a.metas d.ctx A k ≡ Gave more l → applied Δ d r a n ≡ Gave (longer more a.args a.term B (length a.metas) (length d.ctx)) l
  longer_made r n k l A B more e f = next (applied Δ d r a n) (renamed from_unification (declared Δ a.metas d.ctx A k)) more l (made (A, B)) (declaring r n k A B e) (renamed_gave from_unification (declared Δ a.metas d.ctx A k) more l f)

  -- ---- a turn

  module _ (n : ℕ) where
    abbrev attempt : Outcome Refusal Application
    attempt = fitted Δ d a n

    pub turned : apply Δ d a n ≡ retry attempt goes_on
    turned = unfolds Δ d a n

    pub fitting : (metas : Plain) (k : ℕ) → unify Δ a.metas (length d.ctx) a.ty d.ty n ≡ Gave metas k → apply Δ d a n ≡ Gave (in_metas metas) k
    fitting metas k e = turned ∙ ap (λ o. retry (go_on (renamed from_unification o) fits) goes_on) e

    -- what the unification is refused with
    abbrev pub unified : Outcome Refusal Plain
    unified = renamed from_unification (unify Δ a.metas (length d.ctx) a.ty d.ty n)

    pub refusing : (r : Refusal) (k : ℕ) → unified ≡ Refused r k → apply Δ d a n ≡ goes_on r k
    refusing r k e = turned ∙ ap (λ o. retry (go_on o fits) goes_on) e

    pub spending : (r : Refusal) (k : ℕ) → unified ≡ Refused r k → k < n
    spending r k e = fitted_spends Δ d a n k r (ap (λ o. go_on o fits) e)

    pub short : unified ≡ OutOfFuel → apply Δ d a n ≡ OutOfFuel
    short e = turned ∙ ap (λ o. retry (go_on o fits) goes_on) e

-- ---- what the calls of a turn answer

pub turn_fails : {H : Type 0} (holds : H → Type 0) (means : H → Term) (f : Application → Step Application) (a : Application) (n left : ℕ) (r : Result (Turn H) (MoveFault H)) (e : MoveFault H)
    → IsErrAnd r (λ x. x ≡ e) → Shows holds means (f a n) left e → IsTurn holds means f a n left r
turn_fails holds means f a n left (Ok x) e p s = absurd p
turn_fails holds means f a n left (Err x) e p s = subst (Shows holds means (f a n) left) (sym p) s

pub no_value : {R E : Type 0} (P : R → Type 0) (r : Result R E) (e : E) → IsErrAnd r (λ x. x ≡ e) → IfOk r P
no_value P (Ok x) e p = absurd p
no_value P (Err x) e p = tt

pub refused_turn : {H : Type 0} (holds : H → Type 0) (means : H → Term) (o : Outcome unification.Refusal Plain) (left : ℕ) (e : UnifyFault H) → IsNoHalt {H = H} (unify_fault e) → ShowsUnify (λ r. r) holds means o left e
    → (r : Refusal) × (renamed from_unification o ≡ Refused r left) × ShowsRefusal holds means r (unify_fault e)
refused_turn holds means o left e real h =
    let s = unify_shows holds means o left e h in
    let x = refused_of holds means (renamed from_unification o) left (unify_fault e) real s in
    (x.0, x.1, shows_refusal holds means (renamed from_unification o) left (unify_fault e) x.0 x.1 s)

pub application_kept : {H : Type 0} (p q : H → Type 0) (m n : H → Term) → Keeps p m q n → (a : StoredApplication H) → IsApplicationIn p a → plain_application n a ≡ plain_application m a
application_kept p q m n kept a h = same_application _ _ _ _ _ _ _ _ (plain_metas_kept p m q n kept a.metas h.metas) refl (kept a.term h.term).1 (kept a.ty h.ty).1
