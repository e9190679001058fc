-- A term with its variables changed, and tables of such terms. Inner: how unfolding puts arguments in; no public clause cites this.
use Rattle.std.specs.Prelude.{◌≡◌, ℕ, All, map, Some}
use Rattle.std.specs.BTreeMap.{BTreeMap, get}
use Rattle.std.specs.Ordering.{ordering_then, nat_cmp}
use Rattle.std.specs.declared.cmp.Ordering.{Ordering}
use Rattle.ld_trees.specs.Term.{Term, Terms}
use Rattle.ld_trees.specs.Substitution.{shift, shifts, subst_at, substs_at}
use Rattle.ld_terms.specs.Views.{terms_of}
use Rattle.goal_state.specs.declared.changing.Change.{Change}
use Rattle.goal_state.specs.declared.changing.Change.TheVariants as change

-- a term that stands under so many binders, with the variables above these changed
abbrev pub changed : {H : Type 0} → (H → Term) → Change H → ℕ → Term → Term
changed means (change.Shift by) under t = shift under by t
changed means (change.Put args) under t = subst_at under (terms_of (map means args.now)) t

-- the same of each term of a list
abbrev pub changed_all : {H : Type 0} → (H → Term) → Change H → ℕ → Terms → Terms
changed_all means (change.Shift by) under us = shifts under by us
changed_all means (change.Put args) under us = substs_at under (terms_of (map means args.now)) us

-- the arguments that are put in are of the store
abbrev pub ArgsIn : {H : Type 0} → (H → Type 0) → Change H → Type 0
ArgsIn holds (change.Shift by) = Unit {0}
ArgsIn holds (change.Put args) = All holds args.now

-- the order of a table's keys: a handle, and how many binders it stands under
abbrev pub by_both : {H : Type 0} → (H → H → Ordering) → H × ℕ → H × ℕ → Ordering
by_both cmp x y = ordering_then (cmp x.0 y.0) (nat_cmp x.1 y.1)

module _ {H : Type 0} (holds : H → Type 0) (means : H → Term) (c : Change H) where
  -- r means what h is changed to under so many binders
  pub record IsChange (h : H) (under : ℕ) (r : H) : Type 0 where
    pub term : holds h
    pub held : holds r
    pub is : means r ≡ changed means c under (means h)

  -- each entry of a table names what its handle is changed to under its number of binders
  abbrev pub AreChanges : (H → H → Ordering) → BTreeMap (H × ℕ) H → Type 0
  AreChanges cmp known = (h r : H) (under : ℕ) → get (by_both cmp) known (h, under) ≡ Some r → IsChange h under r

-- a term that no change touches under so many binders
abbrev pub IsUntouched : {H : Type 0} → (H → Term) → ℕ → Term → Type 0
IsUntouched {H} means under t = (c : Change H) → changed means c under t ≡ t
