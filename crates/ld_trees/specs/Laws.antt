-- The laws of terms and substitution that this crate proves.
use Rattle.std.specs.Prelude.{◌≡◌, ◌↔◌, ℕ, true}
use Rattle.ld_trees.specs.Term.{Term, Var, Terms, none, ◌▹◌, same}
use Rattle.ld_trees.specs.Substitution.{rename, weaken, subst, lift, subst_all, raise, shift, subst_at}

-- the test of equality decides it
abbrev pub EqualityIsDecided : Type 0
EqualityIsDecided = (t u : Term) → (same t u ≡ true) ↔ (t ≡ u)

-- one substitution after another is the substitution of their composition
abbrev pub SubstitutionsCompose : Type 0
SubstitutionsCompose = (s z : ℕ → Term) (t : Term) → subst s (subst z t) ≡ subst (λ i. subst s (z i)) t

-- variables put in for themselves change nothing
abbrev pub VariablesAreNeutral : Type 0
VariablesAreNeutral = (t : Term) → subst Var t ≡ t

-- a renaming is the substitution of renamed variables
abbrev pub RenamingsAreSubstitutions : Type 0
RenamingsAreSubstitutions = (r : ℕ → ℕ) (t : Term) → rename r t ≡ subst (λ i. Var (r i)) t

-- an argument put in for an entry that doesn't occur changes nothing
abbrev pub WeakeningIsUndone : Type 0
WeakeningIsUndone = (u t : Term) → subst_all (none ▹ u) (weaken t) ≡ t

-- the substitution lemma: an argument put in, before and after another substitution
abbrev pub SubstitutionLemma : Type 0
SubstitutionLemma = (s : ℕ → Term) (u t : Term) → subst s (subst_all (none ▹ u) t) ≡ subst_all (none ▹ subst s u) (subst (lift s) t)

-- the recursion `shift` is the renaming that raises the variables from a place on
abbrev pub ShiftIsRenaming : Type 0
ShiftIsRenaming = (t : Term) (from by : ℕ) → shift from by t ≡ rename (raise from by) t

-- the recursion `subst_at`, under no binder, puts all arguments in at once
abbrev pub RecursionPutsIn : Type 0
RecursionPutsIn = (t : Term) (us : Terms) → subst_at 0 us t ≡ subst_all us t
