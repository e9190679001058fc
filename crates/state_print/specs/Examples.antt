-- The states of a worked session: a proof of (A : *) -> A -> A by `intro A`, `intro x` and `exact x`; and states whose goals mention
-- assigned metavariables or names that stand twice, or need a common goal.
use Rattle.std.specs.Prelude.{ℕ, List, [], ◌∷◌, Some, None, false, codes}
use Rattle.ld_trees.specs.Term.{Term, Star, Var, Lam, Pi, Meta, none, ◌▹◌}
use Rattle.ld_rules.specs.Examples.{identity_type}
use Rattle.ld_terms.specs.declared.globals.Local.{Local}
use Rattle.ld_terms.specs.declared.globals.Decl.{Decl}
use Rattle.repl_json.specs.declared.reply.Body.{Body}
use Rattle.goal_state.specs.State.{State}
use Rattle.goal_state.specs.Starting.{first_state}
use Rattle.coupling.specs.Examples.{between}

abbrev pub entry : List ℕ → Term → Local Term
entry name ty = record { name = name; ty = ty }

abbrev pub goal : List (Local Term) → Term → Decl Term
goal ctx ty = record { ctx = ctx; ty = ty; value = None }

abbrev pub assigned : List (Local Term) → Term → Term → Decl Term
assigned ctx ty value = record { ctx = ctx; ty = ty; value = Some value }

abbrev pub state : List (Decl Term) → List ℕ → State
state metas goals = record { items = []; metas = metas; goals = goals }

abbrev pub started : State
started = first_state [] identity_type

abbrev pub the_type : List (Local Term)
the_type = entry (codes "A") Star ∷ []

abbrev pub both : List (Local Term)
both = entry (codes "A") Star ∷ entry (codes "x") (Var 0) ∷ []

abbrev pub first_introduced : Decl Term
first_introduced = assigned [] identity_type (Lam Star (Meta 1 (none ▹ Var 0)))

abbrev pub second_introduced : Decl Term
second_introduced = assigned the_type (Pi (Var 0) (Var 1)) (Lam (Var 0) (Meta 2 (none ▹ Var 1 ▹ Var 0)))

-- A : * |- ?1 : A -> A
abbrev pub one_entry : State
one_entry = state (first_introduced ∷ goal the_type (Pi (Var 0) (Var 1)) ∷ []) (1 ∷ [])

-- A : *, x : A |- ?2 : A
abbrev pub two_entries : State
two_entries = state (first_introduced ∷ second_introduced ∷ goal both (Var 1) ∷ []) (2 ∷ [])

-- ?2 := x
abbrev pub proved : State
proved = state (first_introduced ∷ second_introduced ∷ assigned both (Var 1) (Var 0) ∷ []) []

-- the same metavariables, where the open goal is dormant
abbrev pub dormant : State
dormant = state (first_introduced ∷ second_introduced ∷ goal both (Var 1) ∷ []) []

-- |- ?0 : * is dormant, and A : * |- ?1 := A; the goals are A : *, x : ?1[A] |- ?2 : ?1[A] and, before it in their order,
-- A : *, A : A |- ?3 : A' -> ?0[], where A' is the first of the two entries named A
abbrev pub two_goals : State
two_goals =
    state
    (goal [] Star
    ∷ assigned the_type Star (Var 0)
    ∷ goal (entry (codes "A") Star ∷ entry (codes "x") (Meta 1 (none ▹ Var 0)) ∷ []) (Meta 1 (none ▹ Var 1))
    ∷ goal (entry (codes "A") Star ∷ entry (codes "A") (Var 0) ∷ []) (Pi (Var 1) (Meta 0 none))
    ∷ [])
    (3 ∷ 2 ∷ [])

-- ?1 : N(), ?2 : le(a(), ?1[]) and ?3 : le(?1[], b()) are active
abbrev pub three_goals : State
three_goals = state between (1 ∷ 2 ∷ 3 ∷ [])

-- a reply whose pieces are these, with the number of entries behind the first one
abbrev pub body : List ℕ → List ℕ → List ℕ → Body
body first second third = record { first = first; second = second; third = third; id_first = false }
