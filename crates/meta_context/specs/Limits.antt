-- The limits of metavariable contexts.
use Rattle.std.specs.Prelude.{ℕ, List, Bool, nat_lt, nat_le, length}
use Rattle.ld_trees.specs.Term.{Terms, depth_all}

-- how many metavariables there can be
abbrev pub most_metas : ℕ
most_metas = 65536

-- how deep a declared type, the type of an entry and a value can be
abbrev pub most_depth : ℕ
most_depth = 4096

-- no further metavariable can be declared
abbrev pub is_full : {D : Type 0} → List D → Bool
is_full ds = nat_le most_metas (length ds)

-- some of the terms is deeper than that
abbrev pub is_too_deep : Terms → Bool
is_too_deep X = nat_lt most_depth (depth_all X)
