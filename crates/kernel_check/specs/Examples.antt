-- A term of the book of negation, for a worked example: what it applies is equal to what is wanted once the arguments of `not` are compared.
use Rattle.ld_trees.specs.Term.{Term, Star, Var, App, Lam, Pi}
use Rattle.ld_rules.specs.Examples.{not_of}

-- not((fun (B : *) => B) A), where A is the entry before the last one
abbrev pub negation_of_redex : Term
negation_of_redex = not_of (App (Lam Star (Var 0)) (Var 1))

-- fun (A : *) => fun (f : not(A) -> *) => fun (h : not((fun (B : *) => B) A)) => f h
abbrev pub applied_negation : Term
applied_negation = Lam Star (Lam (Pi (not_of (Var 0)) Star) (Lam negation_of_redex (App (Var 1) (Var 0))))

-- (A : *) -> (not(A) -> *) -> not((fun (B : *) => B) A) -> *
abbrev pub applied_negation_type : Term
applied_negation_type = Pi Star (Pi (Pi (not_of (Var 0)) Star) (Pi negation_of_redex Star))
