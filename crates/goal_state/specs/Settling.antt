-- What so many rounds of unfolding give, and from how many rounds on it stays so. Inner: how unfolding works; no public clause cites this.
use Rattle.std.specs.Prelude.{◌≡◌, ℕ, ◌+◌, ◌≤◌, max, Option, Some, None, option_map, IfSome}
use Rattle.std.specs.BTreeMap.{BTreeMap, get}
use Rattle.std.specs.declared.cmp.Ordering.{Ordering}
use Rattle.ld_trees.specs.Term.{Term}
use Rattle.meta_trees.specs.MetaContext.{Metas}
use Rattle.goal_state.specs.Rounds.{unfolded}

-- x is what n rounds give, and what any more give
abbrev pub Settles : {X : Type 0} → (ℕ → X) → ℕ → X → Type 0
Settles f n x = (k : ℕ) → n ≤ k → f k ≡ x

-- x is what r rounds give. Where a number is told, it is r at most, and so many rounds give x too, as any more do.
pub record Reaches {X : Type 0} (f : ℕ → X) (r : ℕ) (told : Option ℕ) (x : X) : Type 0 where
  pub value : f r ≡ x
  pub settled : IfSome told (λ n. (n ≤ r) × Settles f n x)

-- the number from which on two parts stay as they are
abbrev pub later : Option ℕ → Option ℕ → Option ℕ
later None o = None
later (Some a) None = None
later (Some a) (Some b) = Some (max a b)

-- one round more
abbrev pub one_more : Option ℕ → Option ℕ
one_more o = option_map (λ n. n + 1) o

module _ {H : Type 0} (holds : H → Type 0) (means : H → Term) (Σ : Metas) where
  -- n rounds of unfolding h give r, and so do any more
  pub record IsUnfolding (h r : H) (n : ℕ) : Type 0 where
    pub term : holds h
    pub held : holds r
    pub settles : Settles (λ k. unfolded Σ k (means h)) n (means r)

  -- each entry of a table names what its key is unfolded to, and the rounds from which on that stays so
  abbrev pub AreUnfoldings : (H → H → Ordering) → BTreeMap H (H × ℕ) → Type 0
  AreUnfoldings cmp known = (h r : H) (n : ℕ) → get cmp known h ≡ Some (r, n) → IsUnfolding h r n
