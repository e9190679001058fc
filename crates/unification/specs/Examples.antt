-- A book, metavariables over it and their values, for worked examples of unification.
use Rattle.std.specs.Prelude.{ℕ, List, [], ◌∷◌, codes, Some, None}
use Rattle.ld_trees.specs.Term.{Named, Term, Star, Var, App, Lam, Pi, Const, Meta, Terms, none, ◌▹◌}
use Rattle.ld_rules.specs.Environment.{Env, Item}
use Rattle.ld_terms.specs.declared.globals.Local.{Local}
use Rattle.ld_terms.specs.declared.globals.Decl.{Decl}
use Rattle.unification.specs.Refusals.{Plain}

-- ---- prim N : *; prim z : N(); prim s (x : N()) : N(); prim eq (x : N()) (y : N()) : *; def K (x : N()) := N() : *;
-- ---- def K2 (x : N()) (y : N()) := N() : *; prim all (y : N()) (p : N() -> eq(y, y)) : N();

abbrev pub prim : List ℕ → Terms → Term → Item
prim name params T = record { name = Named name; params = params; ty = T; body = None }

abbrev pub def : List ℕ → Terms → Term → Term → Item
def name params M T = record { name = Named name; params = params; ty = T; body = Some M }

abbrev pub N : Term
N = Const (codes "N") none

abbrev pub z : Term
z = Const (codes "z") none

abbrev pub s : Term → Term
s t = Const (codes "s") (none ▹ t)

abbrev pub eq : Term → Term → Term
eq t u = Const (codes "eq") (none ▹ t ▹ u)

abbrev pub K : Term → Term
K t = Const (codes "K") (none ▹ t)

abbrev pub K2 : Term → Term → Term
K2 t u = Const (codes "K2") (none ▹ t ▹ u)

abbrev pub all : Term → Term → Term
all t u = Const (codes "all") (none ▹ t ▹ u)

abbrev pub book : Env
book =
    prim (codes "all") (none ▹ N ▹ Pi N (eq (Var 1) (Var 1))) N
    ∷ def (codes "K2") (none ▹ N ▹ N) N Star
    ∷ def (codes "K") (none ▹ N) N Star
    ∷ prim (codes "eq") (none ▹ N ▹ N) Star
    ∷ prim (codes "s") (none ▹ N) N
    ∷ prim (codes "z") none N
    ∷ prim (codes "N") none Star
    ∷ []

-- ---- metavariables

abbrev pub entry : List ℕ → Term → Local Term
entry name T = record { name = name; ty = T }

-- one without a value, and one with one
abbrev pub goal : List (Local Term) → Term → Decl Term
goal Γ T = record { ctx = Γ; ty = T; value = None }

abbrev pub solved : List (Local Term) → Term → Term → Decl Term
solved Γ T v = record { ctx = Γ; ty = T; value = Some v }

-- ?m[] and ?m[t]
abbrev pub bare : ℕ → Term
bare m = Meta m none

abbrev pub at : ℕ → Term → Term
at m t = Meta m (none ▹ t)

-- x : N()
abbrev pub x_alone : List (Local Term)
x_alone = entry (codes "x") N ∷ []

-- ?0 : N() over the empty context, and ?0 : N(), ?1 : N()
abbrev pub one : Plain
one = goal [] N ∷ []

abbrev pub two : Plain
two = goal [] N ∷ goal [] N ∷ []

-- ?0 : N() over x : N(), and ?0 : N() -> * over it
abbrev pub over_x : Plain
over_x = goal x_alone N ∷ []

abbrev pub kind_over_x : Plain
kind_over_x = goal x_alone (Pi N Star) ∷ []

-- fun (y : N()) => eq(y, x), where x has a number
abbrev pub equal_to : ℕ → Term
equal_to i = Lam N (eq (Var 0) (Var i))

-- ?0 : N() -> N() over the empty context
abbrev pub function : Plain
function = goal [] (Pi N N) ∷ []

-- ?0 : N() -> * over the empty context
abbrev pub predicate : Plain
predicate = goal [] (Pi N Star) ∷ []

-- ?0 : N() and ?1 : K(?0[]), so that a value of ?0 that holds ?1 depends on ?0
abbrev pub typed_by : Plain
typed_by = goal [] N ∷ goal [] (K (bare 0)) ∷ []

-- ?0 : N() and ?1 : eq(x, x) over x : N(), whose type holds the entry
abbrev pub type_holds_x : Plain
type_holds_x = goal [] N ∷ goal x_alone (eq (Var 0) (Var 0)) ∷ []

-- ---- pruning

-- ?0 : N() over w : N(), and ?1 : N() over x : N() and an entry that is named by its level
abbrev pub w_alone : List (Local Term)
w_alone = entry (codes "w") N ∷ []

abbrev pub x_and_level : List (Local Term)
x_and_level = entry (codes "x") N ∷ entry (codes "%1") N ∷ []

abbrev pub two_entries : Plain
two_entries = goal w_alone N ∷ goal x_and_level N ∷ []

-- the entry that is kept has the name of its new level
abbrev pub one_kept : Plain
one_kept = solved w_alone N (s (at 2 (Var 0))) ∷ solved x_and_level N (at 2 (Var 0)) ∷ goal (entry (codes "%0") N ∷ []) N ∷ []

-- ?0 : N() over q : eq(z(), z()), and ?1 : N() over x : N() and an entry p : eq(x, x), whose type holds x
abbrev pub q_alone : List (Local Term)
q_alone = entry (codes "q") (eq z z) ∷ []

abbrev pub x_and_p : List (Local Term)
x_and_p = entry (codes "x") N ∷ entry (codes "p") (eq (Var 0) (Var 0)) ∷ []

abbrev pub entry_holds_x : Plain
entry_holds_x = goal q_alone N ∷ goal x_and_p N ∷ []

-- under q and y : N(), the argument (fun (n : N()) => z()) y, which is z(), so that q is an argument for p
abbrev pub z_at_y : Term
z_at_y = App (Lam N z) (Var 0)

-- without x there is no p: ?1 is a new ?2 : N() over the empty context
abbrev pub neither_kept : Plain
neither_kept = solved q_alone N (s (bare 2)) ∷ solved x_and_p N (bare 2) ∷ goal [] N ∷ []

-- a proof of N() after `refine all(?, ?)` and `intro x`, and with a `_` over x : N() for `exact refl(s(_))`
abbrev pub before : Plain
before =
    solved [] N (all (bare 1) (bare 2))
    ∷ goal [] N
    ∷ solved [] (Pi N (eq (bare 1) (bare 1))) (Lam N (at 3 (Var 0)))
    ∷ goal x_alone (eq (bare 1) (bare 1))
    ∷ goal x_alone N
    ∷ []

-- ?4 doesn't depend on x: it is a new ?5 : N() over the empty context, and ?1 is s(?5[])
abbrev pub pruned : Plain
pruned =
    solved [] N (all (bare 1) (bare 2))
    ∷ solved [] N (s (bare 5))
    ∷ solved [] (Pi N (eq (bare 1) (bare 1))) (Lam N (at 3 (Var 0)))
    ∷ goal x_alone (eq (bare 1) (bare 1))
    ∷ solved x_alone N (bare 5)
    ∷ goal [] N
    ∷ []
