-- States of worked examples.
use Rattle.std.specs.Prelude.{ℕ, zero, suc, [], ◌∷◌, Some, None, codes}
use Rattle.ld_trees.specs.Term.{Term, Star, Var, Lam, Pi, Meta, none, ◌▹◌}
use Rattle.ld_rules.specs.Examples.{identity_type}
use Rattle.goal_state.specs.State.{State}

-- n products round `*`
abbrev pub deep : ℕ → Term
deep zero = Star
deep (suc n) = Pi Star (deep n)

-- ?0 := ?1[] -> ?2[], where ?2 alone is active
abbrev pub halved : State
halved = record {
  items = [];
  metas =
      record { ctx = []; ty = Star; value = Some (Pi (Meta 1 none) (Meta 2 none)) }
      ∷ record { ctx = []; ty = Star; value = None }
      ∷ record { ctx = []; ty = Star; value = None }
      ∷ [];
  goals = 2 ∷ [];
}

-- ?0 := fun (A : *) => ?1[A], and in A : * the value ?1 := fun (x : A) => x
abbrev pub proved : State
proved = record {
  items = [];
  metas =
      record { ctx = []; ty = identity_type; value = Some (Lam Star (Meta 1 (none ▹ Var 0))) }
      ∷ record { ctx = record { name = codes "A"; ty = Star } ∷ []; ty = Pi (Var 0) (Var 1); value = Some (Lam (Var 0) (Var 0)) }
      ∷ [];
  goals = [];
}
