-- States of worked examples: the way to a proof of `(A : *) -> A -> A`, and states with holes over the books of the examples of
-- elaboration.
use Rattle.std.specs.Prelude.{List, [], ◌∷◌, codes}
use Rattle.ld_trees.specs.Term.{Term, Star, Var, App, Lam, Pi, Const, Meta, none, ◌▹◌}
use Rattle.ld_terms.specs.declared.globals.Local.{Local}
use Rattle.ld_terms.specs.declared.globals.Item.{Item}
use Rattle.ld_terms.specs.declared.globals.Decl.{Decl}
use Rattle.goal_state.specs.State.{State}
use Rattle.elaboration.specs.Examples.{entry, primitive, N, a, b, c, s, K, le, eq, refl_of, falsum, not_of, order_book, cycle_book, negation_book, open_in, valued}
use Rattle.elaboration.specs.Examples as texts

-- (A : *) -> A -> A
abbrev pub identity_type : Term
identity_type = Pi Star (Pi (Var 0) (Var 1))

-- metavariables 0 and 1 after `intro A` and `intro x`
abbrev pub root_settled : Decl Term
root_settled = valued [] identity_type (Lam Star (Meta 1 (none ▹ Var 0)))

abbrev pub behind_A_settled : Decl Term
behind_A_settled = valued texts.with_A (Pi (Var 0) (Var 1)) (Lam (Var 0) (Meta 2 (none ▹ Var 1 ▹ Var 0)))

abbrev pub started : State
started = record { items = []; metas = open_in [] identity_type ∷ []; goals = 0 ∷ [] }

abbrev pub with_A : State
with_A = record { items = []; metas = root_settled ∷ open_in texts.with_A (Pi (Var 0) (Var 1)) ∷ []; goals = 1 ∷ [] }

abbrev pub with_x : State
with_x = record { items = []; metas = root_settled ∷ behind_A_settled ∷ open_in texts.with_x (Var 1) ∷ []; goals = 2 ∷ [] }

-- after `exact t`, where t is this term
abbrev pub solved_by : Term → State
solved_by t = record { items = []; metas = root_settled ∷ behind_A_settled ∷ valued texts.with_x (Var 1) t ∷ []; goals = [] }

-- ---- an order: `prim cb : le(c(), b());` behind its book

abbrev pub order : List (Item Term)
order = primitive (codes "cb") [] (le c b) ∷ order_book

abbrev pub transitive : Decl Term
transitive = valued [] (le a b) (Const (codes "trans") (none ▹ a ▹ Meta 1 none ▹ b ▹ Meta 2 none ▹ Meta 3 none))

abbrev pub of_order : State
of_order = record { items = order; metas = open_in [] (le a b) ∷ []; goals = 0 ∷ [] }

-- after `refine trans(a(), ?, b(), ?, ?)`
abbrev pub with_middle : State
with_middle = record { items = order; metas = transitive ∷ open_in [] N ∷ open_in [] (le a (Meta 1 none)) ∷ open_in [] (le (Meta 1 none) b) ∷ []; goals = 1 ∷ 2 ∷ 3 ∷ [] }

-- and `exact ac()` on the second goal, by which ?1 is `c()`
abbrev pub lower_half : List (Decl Term)
lower_half = transitive ∷ valued [] N c ∷ valued [] (le a (Meta 1 none)) (Const (codes "ac") none) ∷ open_in [] (le (Meta 1 none) b) ∷ []

abbrev pub with_lower : State
with_lower = record { items = order; metas = lower_half; goals = 3 ∷ [] }

-- the same without `auto`
abbrev pub with_lower_alone : State
with_lower_alone = record { items = order; metas = lower_half; goals = [] }

-- and `exact cb()`
abbrev pub with_both : State
with_both = record {
  items = order;
  metas = transitive ∷ valued [] N c ∷ valued [] (le a (Meta 1 none)) (Const (codes "ac") none) ∷ valued [] (le (Meta 1 none) b) (Const (codes "cb") none) ∷ [];
  goals = [];
}

-- ---- a negation: (A : *) -> not(A) -> A -> falsum() after `intro A`, `intro h` and `intro x`

abbrev pub with_h : List (Local Term)
with_h = entry (codes "A") Star ∷ entry (codes "h") (not_of (Var 0)) ∷ []

abbrev pub with_h_and_x : List (Local Term)
with_h_and_x = entry (codes "A") Star ∷ entry (codes "h") (not_of (Var 0)) ∷ entry (codes "x") (Var 1) ∷ []

abbrev pub introduced : List (Decl Term) → List (Decl Term)
introduced rest =
    valued [] (Pi Star (Pi (not_of (Var 0)) (Pi (Var 1) falsum))) (Lam Star (Meta 1 (none ▹ Var 0)))
    ∷ valued texts.with_A (Pi (not_of (Var 0)) (Pi (Var 1) falsum)) (Lam (not_of (Var 0)) (Meta 2 (none ▹ Var 1 ▹ Var 0)))
    ∷ valued with_h (Pi (Var 1) falsum) (Lam (Var 1) (Meta 3 (none ▹ Var 2 ▹ Var 1 ▹ Var 0)))
    ∷ rest

abbrev pub refuted : State
refuted = record { items = negation_book; metas = introduced (open_in with_h_and_x falsum ∷ []); goals = 3 ∷ [] }

-- after `apply h`
abbrev pub with_argument : State
with_argument = record {
  items = negation_book;
  metas = introduced (valued with_h_and_x falsum (App (Var 1) (Meta 4 (none ▹ Var 2 ▹ Var 1 ▹ Var 0))) ∷ open_in with_h_and_x (Var 2) ∷ []);
  goals = 4 ∷ [];
}

-- ---- a cycle through a type: `prim mk (x : N()) (w : K(x)) (p : eq(x, s(w))) : N();` behind its book

abbrev pub making : List (Item Term)
making = primitive (codes "mk") (entry (codes "x") N ∷ entry (codes "w") (K (Var 0)) ∷ entry (codes "p") (eq (Var 1) (s (Var 0))) ∷ []) N ∷ cycle_book

abbrev pub a_number : State
a_number = record { items = making; metas = open_in [] N ∷ []; goals = 0 ∷ [] }

-- after `refine mk(?, ?, ?)`
abbrev pub made : State
made = record {
  items = making;
  metas =
      valued [] N (Const (codes "mk") (none ▹ Meta 1 none ▹ Meta 2 none ▹ Meta 3 none))
      ∷ open_in [] N
      ∷ open_in [] (K (Meta 1 none))
      ∷ open_in [] (eq (Meta 1 none) (s (Meta 2 none)))
      ∷ [];
  goals = 1 ∷ 2 ∷ 3 ∷ [];
}

-- ---- pruning: `prim all (y : N()) (p : N() -> eq(y, y)) : N();` behind the same book, and a proof of N() after `refine all(?, ?)` and
-- `intro x` on the second goal

abbrev pub over_all_x : List (Item Term)
over_all_x = primitive (codes "all") (entry (codes "y") N ∷ entry (codes "p") (Pi N (eq (Var 1) (Var 1))) ∷ []) N ∷ cycle_book

abbrev pub x_alone : List (Local Term)
x_alone = entry (codes "x") N ∷ []

abbrev pub all_of : Decl Term
all_of = valued [] N (Const (codes "all") (none ▹ Meta 1 none ▹ Meta 2 none))

abbrev pub of_each : Decl Term
of_each = valued [] (Pi N (eq (Meta 1 none) (Meta 1 none))) (Lam N (Meta 3 (none ▹ Var 0)))

abbrev pub for_each : State
for_each = record { items = over_all_x; metas = all_of ∷ open_in [] N ∷ of_each ∷ open_in x_alone (eq (Meta 1 none) (Meta 1 none)) ∷ []; goals = 3 ∷ 1 ∷ [] }

-- after `exact refl(s(_))`, whose hole ?4 mustn't depend on x: it is a new ?5 over the empty context, which is a goal
abbrev pub pruned : State
pruned = record {
  items = over_all_x;
  metas =
      all_of
      ∷ valued [] N (s (Meta 5 none))
      ∷ of_each
      ∷ valued x_alone (eq (Meta 1 none) (Meta 1 none)) (refl_of (s (Meta 4 (none ▹ Var 0))))
      ∷ valued x_alone N (Meta 5 none)
      ∷ open_in [] N
      ∷ [];
  goals = 5 ∷ [];
}
