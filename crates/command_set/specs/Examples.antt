-- Environments and replies of worked examples.
use Rattle.std.specs.Prelude.{ℕ, List, [], ◌∷◌, Some, None, false, codes}
use Rattle.ld_trees.specs.Term.{Term, Star, Var, App, Lam, Pi, Const, Meta, none, ◌▹◌}
use Rattle.ld_terms.specs.declared.globals.Local.{Local}
use Rattle.ld_terms.specs.declared.globals.Item.{Item}
use Rattle.repl_json.specs.declared.reply.Body.{Body}
use Rattle.goal_state.specs.State.{State}
use Rattle.state_print.specs.Examples.{both, first_introduced, second_introduced, goal, assigned, state}

-- a reply that makes nothing: its text before the value of `seq`, and its text behind it
abbrev pub reply : List ℕ → List ℕ → Body
reply first second = record { first = first; second = second; third = []; id_first = false }

abbrev pub param : List ℕ → Term → Local Term
param name ty = record { name = name; ty = ty }

abbrev pub prim : List ℕ → List (Local Term) → Term → Item Term
prim name params ty = record { name = name; params = params; ty = ty; body = None }

abbrev pub define : List ℕ → List (Local Term) → Term → Term → Item Term
define name params body ty = record { name = name; params = params; ty = ty; body = Some body }

-- a constant without arguments
abbrev pub closed : List ℕ → Term
closed name = Const name none

abbrev pub le : Term → Term → Term
le x y = Const (codes "le") (none ▹ x ▹ y)

-- numbers with an order: `prim N : *; prim a : N(); prim b : N(); prim c : N(); prim le (x : N()) (y : N()) : *;
-- prim trans (x : N()) (y : N()) (z : N()) (p : le(x, y)) (q : le(y, z)) : le(x, z); prim ac : le(a(), c()); prim cb : le(c(), b());`
abbrev pub order : List (Item Term)
order =
    prim (codes "cb") [] (le (closed (codes "c")) (closed (codes "b")))
    ∷ prim (codes "ac") [] (le (closed (codes "a")) (closed (codes "c")))
    ∷ prim (codes "trans") (param (codes "x") (closed (codes "N")) ∷ param (codes "y") (closed (codes "N")) ∷ param (codes "z") (closed (codes "N")) ∷ param (codes "p") (le (Var 2) (Var 1)) ∷ param (codes "q") (le (Var 2) (Var 1)) ∷ []) (le (Var 4) (Var 2))
    ∷ prim (codes "le") (param (codes "x") (closed (codes "N")) ∷ param (codes "y") (closed (codes "N")) ∷ []) Star
    ∷ prim (codes "c") [] (closed (codes "N"))
    ∷ prim (codes "b") [] (closed (codes "N"))
    ∷ prim (codes "a") [] (closed (codes "N"))
    ∷ prim (codes "N") [] Star
    ∷ []

-- `prim app (F : N() -> *) (x : N()) : F x;`
abbrev pub app : Item Term
app = prim (codes "app") (param (codes "F") (Pi (closed (codes "N")) Star) ∷ param (codes "x") (closed (codes "N")) ∷ []) (App (Var 1) (Var 0))

-- `def falsum := (A : *) -> A : *; def not (A : *) := A -> falsum() : *;`
abbrev pub negation : List (Item Term)
negation =
    define (codes "not") (param (codes "A") Star ∷ []) (Pi (Var 0) (closed (codes "falsum"))) Star
    ∷ define (codes "falsum") [] (Pi Star (Var 0)) Star
    ∷ []

-- A : *, x : A |- ?2 : A after `refine ?`, with the new goal A : *, x : A |- ?3 : A
abbrev pub refined : State
refined = state (first_introduced ∷ second_introduced ∷ assigned both (Var 1) (Meta 3 (none ▹ Var 1 ▹ Var 0)) ∷ goal both (Var 1) ∷ []) (3 ∷ [])

-- the same after `apply fun (y : A) => y`
abbrev pub applied : State
applied = state (first_introduced ∷ second_introduced ∷ assigned both (Var 1) (App (Lam (Var 1) (Var 0)) (Meta 3 (none ▹ Var 1 ▹ Var 0))) ∷ goal both (Var 1) ∷ []) (3 ∷ [])
