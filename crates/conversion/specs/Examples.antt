-- Small books and terms for worked examples.
use Rattle.std.specs.Prelude.{[], ◌∷◌, codes, Some, None}
use Rattle.ld_trees.specs.Term.{Named, Numbered, Term, Star, Var, App, Lam, Pi, Const, none, ◌▹◌}
use Rattle.ld_rules.specs.Environment.{Env, Item}

-- prim a : *
abbrev pub a : Term
a = Const (codes "a") none

abbrev pub a_item : Item
a_item = record { name = Named (codes "a"); params = none; ty = Star; body = None }

-- def falsum := (A : *) -> A : *
abbrev pub falsum : Term
falsum = Const (codes "falsum") none

abbrev pub falsum_item : Item
falsum_item = record { name = Named (codes "falsum"); params = none; ty = Star; body = Some (Pi Star (Var 0)) }

-- def not (A : *) := A -> falsum() : *
abbrev pub not_of : Term → Term
not_of A = Const (codes "not") (none ▹ A)

abbrev pub not_item : Item
not_item = record { name = Named (codes "not"); params = none ▹ Star; ty = Star; body = Some (Pi (Var 0) falsum) }

-- the metavariable 0, which has the value a(), and 1, which has none
abbrev pub assigned_item : Item
assigned_item = record { name = Numbered 0; params = none; ty = Star; body = Some a }

abbrev pub unassigned_item : Item
unassigned_item = record { name = Numbered 1; params = none; ty = Star; body = None }

abbrev pub book : Env
book = unassigned_item ∷ assigned_item ∷ not_item ∷ falsum_item ∷ a_item ∷ []

-- (fun (A : *) => A) A
abbrev pub redex_of : Term → Term
redex_of A = App (Lam Star (Var 0)) A
