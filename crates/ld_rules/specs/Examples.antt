-- The items of two small books: `prim a : *;` and `def falsum := (A : *) -> A : *; def not (A : *) := A -> falsum() : *;`.
use Rattle.std.specs.Prelude.{ℕ, List, [], ◌∷◌, Some, None}
use Rattle.ld_trees.specs.Term.{Term, Named, Star, Var, Lam, Pi, Const, none, ◌▹◌}
use Rattle.ld_rules.specs.Environment.{Env, Item}

-- the bytes of the names `a`, `falsum` and `not`
abbrev pub a_name : List ℕ
a_name = 97 ∷ []

abbrev pub falsum_name : List ℕ
falsum_name = 102 ∷ 97 ∷ 108 ∷ 115 ∷ 117 ∷ 109 ∷ []

abbrev pub not_name : List ℕ
not_name = 110 ∷ 111 ∷ 116 ∷ []

abbrev pub a_item : Item
a_item = record { name = Named a_name; params = none; ty = Star; body = None }

abbrev pub falsum_item : Item
falsum_item = record { name = Named falsum_name; params = none; ty = Star; body = Some (Pi Star (Var 0)) }

abbrev pub falsum : Term
falsum = Const falsum_name none

abbrev pub not_item : Item
not_item = record { name = Named not_name; params = none ▹ Star; ty = Star; body = Some (Pi (Var 0) falsum) }

abbrev pub not_of : Term → Term
not_of A = Const not_name (none ▹ A)

abbrev pub negation_book : Env
negation_book = not_item ∷ falsum_item ∷ []

-- fun (A : *) => fun (x : A) => x, and its type (A : *) -> A -> A
abbrev pub identity : Term
identity = Lam Star (Lam (Var 0) (Var 0))

abbrev pub identity_type : Term
identity_type = Pi Star (Pi (Var 0) (Var 1))
