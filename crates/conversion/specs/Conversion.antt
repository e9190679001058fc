-- Conversion, with units of fuel: whether two terms are βδ-equal. The same defined constant at both heads is compared by its arguments
-- first, and only then unfolded.
use Rattle.std.specs.Prelude.{ℕ, zero, suc, List, [], ◌∷◌, ◌++◌, Bool, true, false, ◌&&◌, nat_eq, Option, Some, None}
use Rattle.ld_trees.specs.Term.{Named, Term, Srt, Var, App, Lam, Pi, Con, Terms, ◌▹◌, count, same_sort, same_head, same}
use Rattle.ld_rules.specs.Environment.{Env, Item, item_of}
use Rattle.conversion.specs.Runs.{OutOfFuel, Run, pure, spend, ◌>>=◌, ◌>>◌, choose}
use Rattle.conversion.specs.WeakHead.{whnf}

-- the same kind of head, and the same number of arguments
abbrev pub alike : Term → Term → Bool
alike (Srt s) (Srt z) = same_sort s z
alike (Var i) (Var j) = nat_eq i j
alike (App f a) (App g b) = alike f g
alike (Lam A M) (Lam B N) = true
alike (Pi A M) (Pi B N) = true
alike (Con h us) (Con k vs) = same_head h k && nat_eq (count us) (count vs)
alike _ _ = false

abbrev pub both : Run Bool → Run Bool → Run Bool
both m k = do
  equal ← m
  choose equal k (pure false)

-- the parts of two terms of one kind, from left to right: those of the heads, type before body, and then the arguments
abbrev pub argument_pairs : Terms → Terms → List (Term × Term)
argument_pairs (us ▹ u) (vs ▹ v) = argument_pairs us vs ++ (u, v) ∷ []
argument_pairs _ _ = []

abbrev pub part_pairs : Term → Term → List (Term × Term)
part_pairs (App f a) (App g b) = part_pairs f g ++ (a, b) ∷ []
part_pairs (Lam A M) (Lam B N) = (A, B) ∷ (M, N) ∷ []
part_pairs (Pi A M) (Pi B N) = (A, B) ∷ (M, N) ∷ []
part_pairs (Con h us) (Con k vs) = argument_pairs us vs
part_pairs _ _ = []

-- each pair in turn, up to the first that is not equal
abbrev pub convert_each : (Term → Term → Run Bool) → List (Term × Term) → Run Bool
convert_each conv [] = pure true
convert_each conv (p ∷ ps) = both (conv p.0 p.1) (convert_each conv ps)

-- whether the head is a constant with a body
abbrev pub has_value : {A : Type 0} → Option A → Bool
has_value (Some M) = true
has_value None = false

abbrev pub has_body : Option Item → Bool
has_body (Some d) = has_value d.body
has_body None = false

abbrev pub is_defined_at_head : Env → Term → Bool
is_defined_at_head Δ (App f a) = is_defined_at_head Δ f
is_defined_at_head Δ (Con (Named c) us) = has_body (item_of (Named c) Δ)
is_defined_at_head Δ _ = false

-- the same defined constant at both heads as they stand, with equally many further arguments
abbrev pub are_twins : Env → Term → Term → Bool
are_twins Δ a b = is_defined_at_head Δ a && alike a b

-- Conversion, in terms of the conversion of parts: equal trees at no cost; else one unit, the parts of equal defined constants, and where
-- that is no Yes the weak head forms and their parts.
abbrev pub conv_step : Env → (Term → Term → Run Bool) → Term → Term → Run Bool
conv_step Δ conv a b = choose (same a b) (pure true) do
  spend
  done ← choose (are_twins Δ a b) (convert_each conv (part_pairs a b)) (pure false)
  choose done (pure true) do
    a' ← whnf Δ a
    b' ← whnf Δ b
    choose (alike a' b') (convert_each conv (part_pairs a' b')) (pure false)

-- Conversion at most so many levels deep. Each level spends a unit, so the units at hand bound the levels.
abbrev pub conv_deep : Env → ℕ → Term → Term → Run Bool
conv_deep Δ zero = conv_step Δ (λ a b n. OutOfFuel)
conv_deep Δ (suc g) = conv_step Δ (λ a b. conv_deep Δ g a b)

abbrev pub conv : Env → Term → Term → Run Bool
conv Δ a b n = conv_deep Δ n a b n
