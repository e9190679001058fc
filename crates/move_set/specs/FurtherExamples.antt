-- States of worked examples of `have`, `assumption`, `change` and `unfold`: over the book of negation, and two with several entries that are
-- tried.
use Rattle.std.specs.Prelude.{◌≡◌, ℕ, List, [], ◌∷◌, codes}
use Rattle.ld_trees.specs.Term.{Term, Star, Var, App, Lam, Pi, Meta, none, ◌▹◌}
use Rattle.ld_terms.specs.declared.globals.Local.{Local}
use Rattle.ld_terms.specs.declared.globals.Decl.{Decl}
use Rattle.goal_state.specs.State.{State}
use Rattle.unification.specs.Steps.{Gave}
use Rattle.elaboration.specs.Examples.{entry, N, s, eq, falsum, not_of, cycle_book, negation_book, open_in, valued, with_A, with_x}
use Rattle.move_set.specs.Refusals.{Outcome}
use Rattle.move_set.specs.Examples.{x_alone}

-- a state is given, whatever units are left
abbrev pub Makes : Outcome State → State → Type 0
Makes o s = (left : ℕ) × (o ≡ Gave s left)

-- ---- a double negation: (A : *) -> A -> not(not(A)) after `intro A` and `intro x`

abbrev pub not_not : Term
not_not = not_of (not_of (Var 1))

abbrev pub double_introduced : List (Decl Term) → List (Decl Term)
double_introduced rest = valued [] (Pi Star (Pi (Var 0) not_not)) (Lam Star (Meta 1 (none ▹ Var 0))) ∷ valued with_A (Pi (Var 0) not_not) (Lam (Var 0) (Meta 2 (none ▹ Var 1 ▹ Var 0))) ∷ rest

abbrev pub doubled : State
doubled = record { items = negation_book; metas = double_introduced (open_in with_x not_not ∷ []); goals = 2 ∷ [] }

-- goal 2 stated anew as goal 3
abbrev pub restated : List (Decl Term) → List (Decl Term)
restated rest = double_introduced (valued with_x not_not (Meta 3 (none ▹ Var 1 ▹ Var 0)) ∷ rest)

-- after `unfold not`: (A -> falsum()) -> falsum()
abbrev pub refutes : Term
refutes = Pi (Var 1) falsum

abbrev pub unfolded : State
unfolded = record { items = negation_book; metas = restated (open_in with_x (Pi refutes falsum) ∷ []); goals = 3 ∷ [] }

-- and `intro h`
abbrev pub with_x_and_h : List (Local Term)
with_x_and_h = entry (codes "A") Star ∷ entry (codes "x") (Var 0) ∷ entry (codes "h") refutes ∷ []

abbrev pub h_introduced : List (Decl Term) → List (Decl Term)
h_introduced rest = restated (valued with_x (Pi refutes falsum) (Lam refutes (Meta 4 (none ▹ Var 2 ▹ Var 1 ▹ Var 0))) ∷ rest)

abbrev pub with_refutation : State
with_refutation = record { items = negation_book; metas = h_introduced (open_in with_x_and_h falsum ∷ []); goals = 4 ∷ [] }

-- and `apply h x`
abbrev pub not_not_proved : State
not_not_proved = record { items = negation_book; metas = h_introduced (valued with_x_and_h falsum (App (Var 0) (Var 1)) ∷ []); goals = [] }

-- after `change not(A) -> falsum()`
abbrev pub changed : State
changed = record { items = negation_book; metas = restated (open_in with_x (Pi (not_of (Var 1)) falsum) ∷ []); goals = 3 ∷ [] }

-- after `have y : A`
abbrev pub with_x_and_y : List (Local Term)
with_x_and_y = entry (codes "A") Star ∷ entry (codes "x") (Var 0) ∷ entry (codes "y") (Var 1) ∷ []

abbrev pub cut_by_A : Decl Term → List (Decl Term)
cut_by_A first = double_introduced (valued with_x not_not (App (Lam (Var 1) (Meta 4 (none ▹ Var 2 ▹ Var 1 ▹ Var 0))) (Meta 3 (none ▹ Var 1 ▹ Var 0))) ∷ first ∷ open_in with_x_and_y (not_of (not_of (Var 2))) ∷ [])

abbrev pub with_cut : State
with_cut = record { items = negation_book; metas = cut_by_A (open_in with_x (Var 1)); goals = 3 ∷ 4 ∷ [] }

-- and `assumption`
abbrev pub with_cut_assumed : State
with_cut_assumed = record { items = negation_book; metas = cut_by_A (valued with_x (Var 1) (Var 0)); goals = 4 ∷ [] }

-- ---- falsum() itself, and as the value of a metavariable

abbrev pub false_itself : State
false_itself = record { items = negation_book; metas = open_in [] falsum ∷ []; goals = 0 ∷ [] }

abbrev pub false_unfolded : State
false_unfolded = record { items = negation_book; metas = valued [] falsum (Meta 1 none) ∷ open_in [] (Pi Star (Var 0)) ∷ []; goals = 1 ∷ [] }

abbrev pub false_by_value : State
false_by_value = record { items = negation_book; metas = valued [] Star falsum ∷ open_in [] (Meta 0 none) ∷ []; goals = 1 ∷ [] }

abbrev pub value_unfolded : State
value_unfolded = record { items = negation_book; metas = valued [] Star falsum ∷ valued [] (Meta 0 none) (Meta 2 none) ∷ open_in [] (Pi Star (Var 0)) ∷ []; goals = 2 ∷ [] }

-- ---- entries that are tried

-- (A : *) -> A -> A -> A after `intro A`, `intro x` and `intro y`: both x and y fit
abbrev pub both_given : Decl Term → State
both_given last = record {
  items = [];
  metas =
      valued [] (Pi Star (Pi (Var 0) (Pi (Var 1) (Var 2)))) (Lam Star (Meta 1 (none ▹ Var 0)))
      ∷ valued with_A (Pi (Var 0) (Pi (Var 1) (Var 2))) (Lam (Var 0) (Meta 2 (none ▹ Var 1 ▹ Var 0)))
      ∷ valued with_x (Pi (Var 1) (Var 2)) (Lam (Var 1) (Meta 3 (none ▹ Var 2 ▹ Var 1 ▹ Var 0)))
      ∷ last
      ∷ [];
  goals = 3 ∷ [];
}

abbrev pub both_open : State
both_open = both_given (open_in with_x_and_y (Var 2))

abbrev pub by_y : State
by_y = let s = both_given (valued with_x_and_y (Var 2) (Var 0)) in record { items = s.items; metas = s.metas; goals = [] }

-- q : eq(?0, ?0) fits. p : eq(s(?1[x]), x), which is tried first, doesn't: ?1 would be pruned for ?0, and then x isn't s of anything
abbrev pub tried : List (Local Term)
tried = entry (codes "x") N ∷ entry (codes "q") (eq (Meta 0 none) (Meta 0 none)) ∷ entry (codes "p") (eq (s (Meta 1 (none ▹ Var 1))) (Var 1)) ∷ []

abbrev pub with_tries : State
with_tries = record { items = cycle_book; metas = open_in [] N ∷ open_in x_alone N ∷ open_in tried (eq (Meta 0 none) (Meta 0 none)) ∷ []; goals = 2 ∷ 0 ∷ 1 ∷ [] }

abbrev pub by_q : State
by_q = record { items = cycle_book; metas = open_in [] N ∷ open_in x_alone N ∷ valued tried (eq (Meta 0 none) (Meta 0 none)) (Var 1) ∷ []; goals = 0 ∷ 1 ∷ [] }
