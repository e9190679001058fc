-- Worked states whose goals are coupled.
use Rattle.std.specs.Prelude.{List, [], ◌∷◌, codes, Option, Some, None}
use Rattle.ld_trees.specs.Term.{Term, Const, Meta, none, ◌▹◌}
use Rattle.ld_terms.specs.declared.globals.Decl.{Decl}
use Rattle.goal_state.specs.State.{State}

-- a metavariable over the empty context
abbrev pub closed : Term → Option Term → Decl Term
closed T v = record { ctx = []; ty = T; value = v }

-- `N()`, `a()`, `b()`, `c()`, and `le(x, y)`
abbrev pub N : Term
N = Const (codes "N") none

abbrev pub a : Term
a = Const (codes "a") none

abbrev pub b : Term
b = Const (codes "b") none

abbrev pub c : Term
c = Const (codes "c") none

abbrev pub le : Term → Term → Term
le x y = Const (codes "le") (none ▹ x ▹ y)

-- `le(a(), b())` by transitivity: ?0 := trans(a(), ?1[], b(), ?2[], ?3[])
abbrev pub root : Decl Term
root = closed (le a b) (Some (Const (codes "trans") (none ▹ a ▹ Meta 1 none ▹ b ▹ Meta 2 none ▹ Meta 3 none)))

-- ?1 : N(), ?2 : le(a(), ?1[]) and ?3 : le(?1[], b()), of which none has a value
abbrev pub between : List (Decl Term)
between = root ∷ closed N None ∷ closed (le a (Meta 1 none)) None ∷ closed (le (Meta 1 none) b) None ∷ []

-- the same with ?2 := ac() and ?1 := c()
abbrev pub by_c : List (Decl Term)
by_c = root ∷ closed N (Some c) ∷ closed (le a (Meta 1 none)) (Some (Const (codes "ac") none)) ∷ closed (le (Meta 1 none) b) None ∷ []

-- the first, where metavariable 2 alone is active
abbrev pub one_active : State
one_active = record { items = []; metas = between; goals = 2 ∷ [] }

-- ?0 := ?1[], where ?1 : N(), ?2 : le(?0[], b()) and ?3 : N() have no value: ?2 needs ?1 by the value of ?0
abbrev pub by_a_value : List (Decl Term)
by_a_value = closed N (Some (Meta 1 none)) ∷ closed N None ∷ closed (le (Meta 0 none) b) None ∷ closed N None ∷ []
