-- The value of a move on a goal of a state: a further state or a refusal, with the units that are left, or no unit where one was to be
-- spent. It depends on the state, the goal's index, the text, the units and `auto` alone.
use Rattle.std.specs.Prelude.{ℕ, zero, suc, not, Bool, ◌==◌, ◌&&◌, nat_le, if◌then◌else◌, List, [], ◌∷◌, ◌++◌, length, filter, Option, Some, None, option_map, option_and_then, Ok, Err, slice_get}
use Rattle.std.specs.List.{list_any}
use Rattle.std.specs.Str.{bytes_eq}
use Rattle.ld_trees.specs.Term.{Term, Var, App, Lam}
use Rattle.ld_trees.specs.Substitution.{weaken}
use Rattle.ld_rules.specs.Environment.{type_at}
use Rattle.ld_terms.specs.Items.{item_named}
use Rattle.ld_terms.specs.declared.globals.Local.{Local}
use Rattle.ld_terms.specs.declared.globals.Item.{Item}
use Rattle.ld_terms.specs.declared.globals.Decl.{Decl}
use Rattle.term_syntax.specs.Lex.{Text}
use Rattle.term_syntax.specs.Input.{place}
use Rattle.term_syntax.specs.Reading.{Outcome as Parsed}
use Rattle.term_syntax.specs.declared.surface.Surface.{Surface}
use Rattle.move_text.specs.declared.moves.Move.{Move}
use Rattle.move_text.specs.declared.moves.Move.TheVariants as move
use Rattle.move_text.specs.Reading.{read}
use Rattle.meta_trees.specs.Dependencies.{below}
use Rattle.meta_context.specs.Plain.{rules_ctx, rules_env}
use Rattle.meta_laws.specs.Cut.{listed}
use Rattle.meta_laws.specs.Unfolding.{unfold_metas}
use Rattle.goal_state.specs.State.{State, is_open, rules_metas}
use Rattle.unification.specs.Steps.{pure, refuse, ◌>>=◌, ◌>>◌, demand, or_else, spend_each}
use Rattle.unification.specs.Refusals.{Plain}
use Rattle.unification.specs.Metavariables.{extended, declared}
use Rattle.unification.specs.Patterns.{over_all}
use Rattle.unification.specs.Unification.{unify, settle}
use Rattle.elaboration.specs.Elaboration.{synth, check, check_type}
use Rattle.move_set.specs.Refusals.{Refusal, Syntax, NoGoal, NameTaken, NotProduct, NoAssumption, NotDefined, NoOccurrence, Unsolved, Outcome, Step, elab_step, unify_step}
use Rattle.move_set.specs.Asked.{first_asked}
use Rattle.move_set.specs.Replacing.{occurrences, replaced}
use Rattle.move_set.specs.Applying.{product_of, apply}

-- what a move has come to: the metavariables, the new goals in order, and the metavariables of the `_` of its text with their places
pub record Moved : Type 0 where
  pub metas : Plain
  pub fresh : List ℕ
  pub holes : List (ℕ × ℕ)

abbrev pub moved_to : Plain → List ℕ → List (ℕ × ℕ) → Moved
moved_to metas fresh holes = record { metas = metas; fresh = fresh; holes = holes }

-- whether an entry has a name
abbrev pub has_entry : {H : Type 0} → List (Local H) → Text → Bool
has_entry Γ x = list_any (λ l. bytes_eq l.name x) Γ

-- the body of a definition, or a refusal
abbrev pub body_or : Refusal → Option Term → Step Term
body_or r None = refuse r
body_or r (Some M) = pure M

-- a term with the body M in place of each constant a, for a unit each, or a refusal where there is none
abbrev pub opened : Text → Term → Term → Step Term
opened a M t = do
  spend_each (occurrences a t)
  demand (not (occurrences a t == 0)) (NoOccurrence a)
  pure (replaced a M t)

-- no such hole
abbrev pub none_open : Option ℕ → Step (Unit {0})
none_open None = pure tt
none_open (Some at) = refuse (Unsolved at)

-- ---- the moves on goal g, which has the declaration d

module _ (items : List (Item Term)) (metas : Plain) (g : ℕ) (d : Decl Term) where
  -- goal g is settled by a term
  abbrev pub settled : Plain → Term → List ℕ → List (ℕ × ℕ) → Step Moved
  settled more v fresh holes = do
    after ← unify_step (settle (rules_env items) more g v)
    pure (moved_to after fresh holes)

  -- a metavariable is declared over a context with type B, and the goal is settled by its abstraction, over all variables, over A
  abbrev pub abstracted : Term → Term → List (Local Term) → Step Moved
  abstracted A B Γ = do
    more ← unify_step (declared (rules_env items) metas Γ B)
    settled more (Lam A (over_all (length metas) (length Γ))) (length metas ∷ []) []

  -- `intro x`: the context is extended by x with the domain, a metavariable is declared there with the codomain, and the goal is settled
  -- by the abstraction of that metavariable over all variables
  abbrev pub intro : Text → Step Moved
  intro x = do
    demand (not (has_entry d.ctx x)) (NameTaken x)
    (A, B) ← product_of (rules_env items) NotProduct metas d.ty
    Γ ← unify_step (extended (rules_env items) metas d.ctx x A)
    abstracted A B Γ

  -- `refine t`: the goal is settled by the term, checked against its type; the new goals are the `?`
  abbrev pub refine : Surface → Step Moved
  refine t = do
    m ← elab_step (check items metas d.ctx t d.ty)
    settled m.work.metas m.term m.work.goals m.work.holes

  -- `exact t`: the same without `?`
  abbrev pub exact : Surface → Step Moved
  exact t = none_open (first_asked t) >> refine t

  -- `apply t`: the term is applied to new metavariables until its type is the goal's; the new goals are the `?` and then the arguments
  abbrev pub apply_to : Surface → Step Moved
  apply_to t = do
    m ← elab_step (synth items metas d.ctx t)
    a ← apply (rules_env items) d (record { metas = m.work.metas; args = []; term = m.term; ty = m.ty })
    settled a.metas a.term (m.work.goals ++ a.args) m.work.holes

  -- where a metavariable with type A has been declared over the context: one with the goal's type is declared over the context extended
  -- by A, and the goal is settled by the abstraction of the second over A, applied to the first
  abbrev pub cut_over : Plain → Plain → List (Local Term) → Term → List (ℕ × ℕ) → Step Moved
  cut_over first more Γ A holes = do
    second ← unify_step (declared (rules_env items) more Γ (weaken d.ty))
    settled second (App (Lam A (over_all (length more) (length Γ))) (over_all (length first) (length d.ctx))) (length first ∷ length more ∷ []) holes

  abbrev pub cut : Plain → Text → Term → List (ℕ × ℕ) → Step Moved
  cut first x A holes = do
    more ← unify_step (declared (rules_env items) first d.ctx A)
    Γ ← unify_step (extended (rules_env items) more d.ctx x A)
    cut_over first more Γ A holes

  -- by the type that a text says
  abbrev pub cut_by : Text → Surface → Step Moved
  cut_by x t = do
    m ← elab_step (check_type items metas d.ctx t)
    cut m.work.metas x m.term m.work.holes

  -- `have x : t`: the goal is cut in two by the type, with an entry x for it before the goal's type
  abbrev pub have : Text → Surface → Step Moved
  have x t = do
    demand (not (has_entry d.ctx x)) (NameTaken x)
    none_open (first_asked t)
    cut_by x t

  -- the type of an entry unified with the goal's
  abbrev pub fitting : ℕ → Option Term → Step (ℕ × Plain)
  fitting i None = refuse NoAssumption
  fitting i (Some A) = do
    more ← unify_step (unify (rules_env items) metas (length d.ctx) A d.ty)
    pure (i, more)

  -- the first of so many entries, from variable i on towards the first one entered, of which the type unifies; each refused one is given up
  abbrev pub first_fitting : ℕ → ℕ → Step (ℕ × Plain)
  first_fitting i zero = refuse NoAssumption
  first_fitting i (suc n) = or_else (fitting i (type_at (rules_ctx d.ctx) i)) (λ r. first_fitting (suc i) n)

  -- `assumption`: the goal is settled by the last entry of which the type unifies with the goal's
  abbrev pub assumption : Step Moved
  assumption = do
    (i, more) ← first_fitting 0 (length d.ctx)
    settled more (Var i) [] []

  -- a metavariable is declared over the context with another type, and the goal is settled by it over all variables
  abbrev pub restated : Plain → Term → List (ℕ × ℕ) → Step Moved
  restated first A holes = do
    more ← unify_step (declared (rules_env items) first d.ctx A)
    settled more (over_all (length first) (length d.ctx)) (length first ∷ []) holes

  -- the goal as the type that a text says
  abbrev pub change_to : Surface → Step Moved
  change_to t = do
    m ← elab_step (check_type items metas d.ctx t)
    restated m.work.metas m.term m.work.holes

  -- `change t`: the same without `?`
  abbrev pub change : Surface → Step Moved
  change t = none_open (first_asked t) >> change_to t

  -- the goal's type with assigned metavariables unfolded
  abbrev pub target : Term
  target = unfold_metas (rules_metas metas) d.ty

  -- the goal as that type with the body M in place of each a
  abbrev pub unfold_by : Text → Term → Step Moved
  unfold_by a M = do
    A ← opened a M target
    restated metas A []

  -- `unfold a`: the body of the definition a
  abbrev pub unfold_constant : Text → Step Moved
  unfold_constant a = do
    M ← body_or (NotDefined a) (option_and_then (λ i. i.body) (item_named items a))
    unfold_by a M

  abbrev pub step : Move → Step Moved
  step (move.Intro x) = intro x
  step (move.Exact t) = exact t
  step (move.Refine t) = refine t
  step (move.Apply t) = apply_to t
  step (move.Have x t) = have x t
  step move.Assumption = assumption
  step (move.Change t) = change t
  step (move.Unfold a) = unfold_constant a

-- ---- the end of a move

-- the place of the first hole that is open
abbrev pub first_open : {H : Type 0} → List (Decl H) → List (ℕ × ℕ) → Option ℕ
first_open metas [] = None
first_open metas (h ∷ hs) = if is_open metas h.0 then Some h.1 else first_open metas hs

-- the open metavariables from a number on that aren't listed, the least number first
abbrev pub unlisted : {H : Type 0} → List (Decl H) → ℕ → List ℕ → List ℕ
unlisted metas first goals = below (λ m. nat_le first m && is_open metas m && not (listed m goals)) (length metas)

-- the new goals that are open, and then the other open ones that the move declared, where so many were declared before
abbrev pub new_goals : {H : Type 0} → List (Decl H) → ℕ → List ℕ → List ℕ
new_goals metas before fresh = let stated = filter (is_open metas) fresh in stated ++ unlisted metas before stated

-- the new goals, and with `auto` the others that were active, as far as they are open now
abbrev pub next_goals : {H : Type 0} → List (Decl H) → ℕ → List ℕ → List ℕ → Bool → List ℕ
next_goals metas before fresh goals auto = new_goals metas before fresh ++ filter (is_open metas) (if auto then goals else [])

-- ---- a move in a state

-- the goal at an index, with its declaration
abbrev pub declared_goal : Plain → Option ℕ → Option (ℕ × Decl Term)
declared_goal metas None = None
declared_goal metas (Some g) = option_map (λ d. (g, d)) (slice_get metas g)

abbrev pub goal_at : State → ℕ → Option (ℕ × Decl Term)
goal_at s index = declared_goal s.metas (slice_get s.goals index)

-- the state behind a move
abbrev pub after_move : State → Bool → Moved → State
after_move s auto moved = record { items = s.items; metas = moved.metas; goals = next_goals moved.metas (length s.metas) moved.fresh s.goals auto }

-- the end of a move: no hole of its text is open
abbrev pub ended : State → Bool → Moved → Step State
ended s auto moved = none_open (first_open moved.metas moved.holes) >> pure (after_move s auto moved)

-- a move on the goal at an index, if there is one
abbrev pub at_goal : State → ℕ → Bool → Move → Option (ℕ × Decl Term) → Step State
at_goal s index auto m None = refuse (NoGoal index (length s.goals))
at_goal s index auto m (Some p) = step s.items s.metas p.0 p.1 m >>= ended s auto

-- the move that was read, or the place at which its text is refused
abbrev pub read_at_goal : State → ℕ → Bool → Parsed Move → Step State
read_at_goal s index auto (Ok p) = at_goal s index auto p.0 (goal_at s index)
read_at_goal s index auto (Err i) = refuse (Syntax (place i))

-- the move of a text on the goal at an index, with so many units
unfoldable pub moved : State → ℕ → Text → ℕ → Bool → Outcome State
moved s index text units auto = read_at_goal s index auto (read text) units
