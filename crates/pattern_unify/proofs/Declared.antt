-- Declaring a metavariable, and giving one a value, by what the calls answer.
use Rattle.std.proofs.Common.{◌≡◌, ℕ, Bool, true, false, not, ◌&&◌, List, length, Ok, Err, sym, ap, ap₂, ◌∙◌}
use Rattle.std.proofs.lemmas.Bool.{false≢true}
use Rattle.std.specs.Prelude.{nat_le}
use Rattle.ld_trees.specs.Term.{Term, Terms, none, ◌▹◌}
use Rattle.ld_rules.specs.Environment.{Ctx, Env}
use Rattle.ld_terms.specs.declared.globals.Local.{Local}
use Rattle.ld_terms.specs.declared.globals.Decl.{Decl}
use Rattle.conversion.specs.Globals.{context_of}
use Rattle.meta_trees.specs.MetaContext.{Metas}
use Rattle.meta_trees.specs.Dependencies.{Depends, depends}
use Rattle.meta_trees.proofs.Dependencies.{depends_is}
use Rattle.meta_context.specs.Declaring.{Declares, Assigns}
use Rattle.meta_context.specs.Declaring as plain
use Rattle.meta_context.specs.Limits.{most_metas, is_full, is_too_deep}
use Rattle.meta_context.specs.Plain.{plain_locals, rules_ctx}
use Rattle.meta_context.specs.Stored.{metas_of}
use Rattle.meta_context.specs.declared.fault.MetaFault.{MetaFault}
use Rattle.meta_context.specs.declared.fault.MetaFault.TheVariants as meta
use Rattle.goal_state.specs.State.{plain_metas, rules_metas, is_open}
use Rattle.goal_state.proofs.Means.{metas_again, open_again}
use Rattle.unification.specs.Steps.{Gave, Refused, go_on, pure, demand}
use Rattle.unification.specs.Refusals.{TooManyMetas, TooDeep, Cycle, Step, Plain}
use Rattle.unification.specs.Metavariables.{sorted, declared, assigned}
use Rattle.pattern_unify.specs.Answers.{Shows}
use Rattle.pattern_unify.specs.Faults.{meta_fault}
use Rattle.pattern_unify.proofs.Meanings.{metas_length, metas_assigned, read_ctx}

module _ (Δ : Env) (Σ : Plain) (Γ : List (Local Term)) (A : Term) where
  -- the sort of the type, and then the declaration
  abbrev pub with_sort : Step Plain
  with_sort n = go_on (sorted Δ Σ Γ A n) (λ _. pure (plain.declared Γ A Σ))

  abbrev in_depth : Unit {0} → Step Plain
  in_depth _ n = go_on (demand (not (is_too_deep (rules_ctx Γ ▹ A))) (TooDeep (length Σ)) n) (λ _. with_sort)

  full : (n : ℕ) → is_full Σ ≡ true → declared Δ Σ Γ A n ≡ Refused TooManyMetas n
  full n e = ap (λ b. go_on (demand (not b) TooManyMetas n) in_depth) e

  space : (n : ℕ) → is_full Σ ≡ false → declared Δ Σ Γ A n ≡ in_depth tt n
  space n e = ap (λ b. go_on (demand (not b) TooManyMetas n) in_depth) e

  deep : (n : ℕ) → is_full Σ ≡ false → is_too_deep (rules_ctx Γ ▹ A) ≡ true → declared Δ Σ Γ A n ≡ Refused (TooDeep (length Σ)) n
  deep n e f = space n e ∙ ap (λ b. go_on (demand (not b) (TooDeep (length Σ)) n) (λ _. with_sort)) f

  pub goes_on : (n : ℕ) → is_full Σ ≡ false → is_too_deep (rules_ctx Γ ▹ A) ≡ false → declared Δ Σ Γ A n ≡ with_sort n
  goes_on n e f = space n e ∙ ap (λ b. go_on (demand (not b) (TooDeep (length Σ)) n) (λ _. with_sort)) f

module _ {H : Type 0} (means : H → Term) (ds : List (Decl H)) (ctx : List (Local H)) (ty : H) (Σ : Plain) (Γ : List (Local Term)) (A : Term) (d : plain_metas means ds ≡ Σ) (e : plain_locals means ctx ≡ Γ) (f : means ty ≡ A) where
  as_long : length Σ ≡ length ds
  as_long = ap (λ xs. length xs) (sym d) ∙ metas_length means ds

  pub full_again : is_full Σ ≡ is_full ds
  full_again = ap (nat_le most_metas) as_long

  pub deep_again : is_too_deep (rules_ctx Γ ▹ A) ≡ is_too_deep (context_of means ctx ▹ means ty)
  deep_again = sym (ap₂ (λ (G : Ctx) (t : Term). is_too_deep (G ▹ t)) (read_ctx means ctx Γ e) f)

  pub declare_shows : (holds : H → Type 0) (means' : H → Term) (Δ : Env) (n : ℕ) (x : MetaFault) → Declares means ds ctx ty (Err x) → Shows holds means' (declared Δ Σ Γ A n) n (meta_fault x)
  declare_shows holds means' Δ n meta.TooManyMetas h = full Δ Σ Γ A n (full_again ∙ h)
  declare_shows holds means' Δ n (meta.TooDeep m) h = deep Δ Σ Γ A n (full_again ∙ h.0) (deep_again ∙ h.1) ∙ ap (λ (k : ℕ). Refused (TooDeep k) n) (as_long ∙ sym h.2)
  declare_shows holds means' Δ n meta.Memory h = tt

-- ---- values

module _ (Σ : Plain) (m : ℕ) (v : Term) (n : ℕ) where
  abbrev in_value : Unit {0} → Step Plain
  in_value _ n = go_on (demand (not (is_too_deep (none ▹ v))) (TooDeep m) n) (λ _. pure (plain.assigned m v Σ))

  closed : is_open Σ m ≡ false → assigned Σ m v n ≡ Refused (Cycle m) n
  closed o = ap (λ b. go_on (demand (b && not (depends (rules_metas Σ) (none ▹ v) m)) (Cycle m) n) in_value) o

  may : is_open Σ m ≡ true → assigned Σ m v n ≡ go_on (demand (not (depends (rules_metas Σ) (none ▹ v) m)) (Cycle m) n) in_value
  may o = ap (λ b. go_on (demand (b && not (depends (rules_metas Σ) (none ▹ v) m)) (Cycle m) n) in_value) o

  cycle : is_open Σ m ≡ true → depends (rules_metas Σ) (none ▹ v) m ≡ true → assigned Σ m v n ≡ Refused (Cycle m) n
  cycle o e = may o ∙ ap (λ b. go_on (demand (not b) (Cycle m) n) in_value) e

  apart : is_open Σ m ≡ true → depends (rules_metas Σ) (none ▹ v) m ≡ false → assigned Σ m v n ≡ in_value tt n
  apart o e = may o ∙ ap (λ b. go_on (demand (not b) (Cycle m) n) in_value) e

  deep_value : is_open Σ m ≡ true → depends (rules_metas Σ) (none ▹ v) m ≡ false → is_too_deep (none ▹ v) ≡ true → assigned Σ m v n ≡ Refused (TooDeep m) n
  deep_value o e f = apart o e ∙ ap (λ b. go_on (demand (not b) (TooDeep m) n) (λ _. pure (plain.assigned m v Σ))) f

  gets : is_open Σ m ≡ true → depends (rules_metas Σ) (none ▹ v) m ≡ false → is_too_deep (none ▹ v) ≡ false → assigned Σ m v n ≡ Gave (plain.assigned m v Σ) n
  gets o e f = apart o e ∙ ap (λ b. go_on (demand (not b) (TooDeep m) n) (λ _. pure (plain.assigned m v Σ))) f

module _ {H : Type 0} (means : H → Term) (ds : List (Decl H)) (Σ : Plain) (m : ℕ) (d : plain_metas means ds ≡ Σ) where
  pub open_read : is_open Σ m ≡ is_open ds m
  open_read = ap (λ (S : Plain). is_open S m) (sym d) ∙ open_again means ds m

  pub not_open : (v : Term) (n : ℕ) → is_open ds m ≡ false → assigned Σ m v n ≡ Refused (Cycle m) n
  not_open v n o = closed Σ m v n (open_read ∙ o)

  module _ (value : H) (v : Term) (n : ℕ) (answer : Bool) (o : is_open ds m ≡ true) (e : means value ≡ v) (q : answer ≡ depends (metas_of means ds) (none ▹ means value) m) where
    depends_again : depends (rules_metas Σ) (none ▹ v) m ≡ answer
    depends_again = ap₂ (λ (M : Metas) (t : Term). depends M (none ▹ t) m) (ap rules_metas (sym d) ∙ metas_again means ds) (sym e) ∙ sym q

    pub in_cycle : answer ≡ true → assigned Σ m v n ≡ Refused (Cycle m) n
    in_cycle t = cycle Σ m v n (open_read ∙ o) (depends_again ∙ t)

    deep_as : is_too_deep (none ▹ v) ≡ is_too_deep (none ▹ means value)
    deep_as = ap (λ t. is_too_deep (none ▹ t)) (sym e)

    pub assign_shows : (holds : H → Type 0) (x : MetaFault) → answer ≡ false → Assigns means ds m value (Err x) → Shows holds means (assigned Σ m v n) n (meta_fault x)
    assign_shows holds meta.TooManyMetas f h = absurd h
    assign_shows holds (meta.TooDeep k) f h = deep_value Σ m v n (open_read ∙ o) (depends_again ∙ f) (deep_as ∙ h.0) ∙ ap (λ (k : ℕ). Refused (TooDeep k) n) (sym h.1)
    assign_shows holds meta.Memory f h = tt

    pub assign_gives : (r : List (Decl H)) → answer ≡ false → Assigns means ds m value (Ok r) → assigned Σ m v n ≡ Gave (plain_metas means r) n
    assign_gives r f h =
        gets Σ m v n (open_read ∙ o) (depends_again ∙ f) (deep_as ∙ h.0)
        ∙ ap (λ (ds : Plain). Gave ds n) (sym (ap (plain_metas means) h.1 ∙ metas_assigned means m value ds ∙ ap₂ (λ (t : Term) (S : Plain). plain.assigned m t S) e d))

pub acyclic : (M : Metas) (X : Terms) (m : ℕ) (answer : Bool) → answer ≡ depends M X m → answer ≡ false → ¬ Depends M X m
acyclic M X m answer q f D = false≢true (sym f ∙ q ∙ (depends_is M X m).0 D)
