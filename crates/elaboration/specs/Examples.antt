-- Items, contexts and texts of worked examples.
use Rattle.std.specs.Prelude.{ℕ, List, [], ◌∷◌, codes, Some, None}
use Rattle.ld_trees.specs.Term.{Term, Star, Var, App, Pi, Const, none, ◌▹◌}
use Rattle.ld_terms.specs.declared.globals.Local.{Local}
use Rattle.ld_terms.specs.declared.globals.Item.{Item}
use Rattle.ld_terms.specs.declared.globals.Decl.{Decl}
use Rattle.term_syntax.specs.declared.surface.Label.TheVariants as label
use Rattle.term_syntax.specs.declared.surface.Surface.{Surface}
use Rattle.term_syntax.specs.declared.surface.Shape.TheVariants as shape
use Rattle.term_syntax.specs.Grammar.{node}
use Rattle.term_syntax.specs.Lex.{Text}
use Rattle.elaboration.specs.Elaboration.{Made}

-- ---- three books

abbrev pub entry : Text → Term → Local Term
entry x A = record { name = x; ty = A }

abbrev pub primitive : Text → List (Local Term) → Term → Item Term
primitive a ps T = record { name = a; params = ps; ty = T; body = None }

abbrev pub definition : Text → List (Local Term) → Term → Term → Item Term
definition a ps M T = record { name = a; params = ps; ty = T; body = Some M }

-- terms: `N()`, `a()`, `b()`, `c()`, `z()`, `s(t)`, `K(t)`, `le(t, u)`, `eq(t, u)`, `refl(t)`, `falsum()`, `not(t)`
abbrev pub N : Term
N = Const (codes "N") none

abbrev pub a : Term
a = Const (codes "a") none

abbrev pub b : Term
b = Const (codes "b") none

abbrev pub c : Term
c = Const (codes "c") none

abbrev pub z : Term
z = Const (codes "z") none

abbrev pub s : Term → Term
s t = Const (codes "s") (none ▹ t)

abbrev pub K : Term → Term
K t = Const (codes "K") (none ▹ t)

abbrev pub le : Term → Term → Term
le t u = Const (codes "le") (none ▹ t ▹ u)

abbrev pub eq : Term → Term → Term
eq t u = Const (codes "eq") (none ▹ t ▹ u)

abbrev pub refl_of : Term → Term
refl_of t = Const (codes "refl") (none ▹ t)

abbrev pub falsum : Term
falsum = Const (codes "falsum") none

abbrev pub not_of : Term → Term
not_of t = Const (codes "not") (none ▹ t)

-- prim N : *; prim a : N(); prim b : N(); prim c : N(); prim le (x : N()) (y : N()) : *;
-- prim trans (x : N()) (y : N()) (z : N()) (p : le(x, y)) (q : le(y, z)) : le(x, z); prim ac : le(a(), c());
-- prim app (F : N() -> *) (x : N()) : F x;
abbrev pub order_book : List (Item Term)
order_book =
    primitive (codes "app") (entry (codes "F") (Pi N Star) ∷ entry (codes "x") N ∷ []) (App (Var 1) (Var 0))
    ∷ primitive (codes "ac") [] (le a c)
    ∷ primitive (codes "trans") (entry (codes "x") N ∷ entry (codes "y") N ∷ entry (codes "z") N ∷ entry (codes "p") (le (Var 2) (Var 1)) ∷ entry (codes "q") (le (Var 2) (Var 1)) ∷ []) (le (Var 4) (Var 2))
    ∷ primitive (codes "le") (entry (codes "x") N ∷ entry (codes "y") N ∷ []) Star
    ∷ primitive (codes "c") [] N
    ∷ primitive (codes "b") [] N
    ∷ primitive (codes "a") [] N
    ∷ primitive (codes "N") [] Star
    ∷ []

-- prim N : *; prim z : N(); prim s (x : N()) : N(); prim eq (x : N()) (y : N()) : *; prim refl (x : N()) : eq(x, x); def K (x : N()) := N() : *;
abbrev pub cycle_book : List (Item Term)
cycle_book =
    definition (codes "K") (entry (codes "x") N ∷ []) N Star
    ∷ primitive (codes "refl") (entry (codes "x") N ∷ []) (eq (Var 0) (Var 0))
    ∷ primitive (codes "eq") (entry (codes "x") N ∷ entry (codes "y") N ∷ []) Star
    ∷ primitive (codes "s") (entry (codes "x") N ∷ []) N
    ∷ primitive (codes "z") [] N
    ∷ primitive (codes "N") [] Star
    ∷ []

-- def falsum := (A : *) -> A : *; def not (A : *) := A -> falsum() : *;
abbrev pub negation_book : List (Item Term)
negation_book = definition (codes "not") (entry (codes "A") Star ∷ []) (Pi (Var 0) falsum) Star ∷ definition (codes "falsum") [] (Pi Star (Var 0)) Star ∷ []

-- ---- metavariables and contexts

abbrev pub open_in : List (Local Term) → Term → Decl Term
open_in Γ T = record { ctx = Γ; ty = T; value = None }

abbrev pub valued : List (Local Term) → Term → Term → Decl Term
valued Γ T v = record { ctx = Γ; ty = T; value = Some v }

-- A : *, and then x : A
abbrev pub with_A : List (Local Term)
with_A = entry (codes "A") Star ∷ []

abbrev pub with_x : List (Local Term)
with_x = entry (codes "A") Star ∷ entry (codes "x") (Var 0) ∷ []

-- A : *, and then h : falsum()
abbrev pub with_h : List (Local Term)
with_h = entry (codes "A") Star ∷ entry (codes "h") falsum ∷ []

-- y : K(z())
abbrev pub with_y : List (Local Term)
with_y = entry (codes "y") (K z) ∷ []

-- what elaboration gives: metavariables, the numbers of the `?`, those of the `_` with their places, a term and its type
abbrev pub given : List (Decl Term) → List ℕ → List (ℕ × ℕ) → Term → Term → Made
given metas goals holes t T = record { work = record { metas = metas; goals = goals; holes = holes }; term = t; ty = T }

-- ---- texts, with the places of their nodes

abbrev pub star : ℕ → Surface
star at = node at shape.Star

abbrev pub wild : ℕ → Surface
wild at = node at shape.Wild

abbrev pub asked : ℕ → Surface
asked at = node at shape.Asked

abbrev pub named : ℕ → Text → Surface
named at x = node at (shape.Named (label.Plain x))

abbrev pub level : ℕ → ℕ → Surface
level at k = node at (shape.Named (label.Level k))

abbrev pub call : ℕ → Text → List Surface → Surface
call at x us = node at (shape.Const x us)

abbrev pub function : ℕ → Text → Surface → Surface → Surface
function at x A M = node at (shape.Lam (label.Plain x) A M)

abbrev pub arrow : ℕ → Surface → Surface → Surface
arrow at A B = node at (shape.Pi None A B)

abbrev pub product : ℕ → Text → Surface → Surface → Surface
product at x A B = node at (shape.Pi (Some (label.Plain x)) A B)

abbrev pub applied : ℕ → Surface → List Surface → Surface
applied at f us = node at (shape.App f us)
