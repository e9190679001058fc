-- Pruning: a metavariable in whose arguments a variable stands that may not be there is settled by a smaller new one.
use Rattle.std.specs.Prelude.{ℕ, zero, suc, ◌+◌, ◌-◌, List, [], ◌∷◌, ◌++◌, reverse, Bool, true, false, ◌&&◌, ◌||◌, nat_lt, length, slice_get, Option, Some, None, if◌then◌else◌}
use Rattle.ld_trees.specs.Term.{Head, Numbered, Term, Srt, Var, App, Lam, Pi, Con, Meta, Terms, none, ◌▹◌}
use Rattle.ld_trees.specs.Substitution.{rename, subst_all}
use Rattle.ld_rules.specs.Environment.{Env}
use Rattle.ld_terms.specs.Names.{is_text_name, level_name}
use Rattle.ld_terms.specs.declared.globals.Local.{Local}
use Rattle.ld_terms.specs.declared.globals.Decl.{Decl}
use Rattle.meta_trees.specs.Dependencies.{is_meta}
use Rattle.goal_state.specs.State.{is_open}
use Rattle.unification.specs.Steps.{pure, refuse, ◌>>=◌, ◌>>◌, demand, spend_each}
use Rattle.unification.specs.Refusals.{Refusal, Step, Plain, Unifies}
use Rattle.unification.specs.Metavariables.{extended, declared, settled}
use Rattle.unification.specs.Patterns.{holds_only}

-- ---- the first bad variable of a term

-- where it stands: nowhere; in no argument of an unassigned metavariable; or in one of the outermost such metavariable, of whose
-- arguments those without a bad variable are marked, the first one first
pub data Spot : Type 0 where
  Nowhere : Spot
  Outside : (variable : ℕ) → Spot
  Inside : (variable m : ℕ) (marks : List Bool) → Spot

-- what stands round a part of a term: no unassigned metavariable, or the outermost one with its marks
pub data Around : Type 0 where
  Free : Around
  Within : (m : ℕ) (marks : List Bool) → Around

abbrev pub spot_in : ℕ → Around → Spot
spot_in i Free = Outside i
spot_in i (Within m marks) = Inside i m marks

abbrev pub or_spot : Spot → Spot → Spot
or_spot Nowhere s = s
or_spot s _ = s

abbrev pub marks_of : (ℕ → Bool) → ℕ → Terms → List Bool
marks_of good k none = []
marks_of good k (us ▹ u) = marks_of good k us ++ holds_only good k u ∷ []

abbrev pub around : Plain → (ℕ → Bool) → ℕ → Around → Head → Terms → Around
around metas good k Free (Numbered m) us = if is_open metas m then Within m (marks_of good k us) else Free
around metas good k a _ us = a

-- under k binders, the first one in preorder
abbrev mutual
  pub first_bad : Plain → (ℕ → Bool) → ℕ → Around → Term → Spot
  first_bad metas good k a (Srt s) = Nowhere
  first_bad metas good k a (Var i) = if nat_lt i k || good (i - k) then Nowhere else spot_in (i - k) a
  first_bad metas good k a (App f u) = or_spot (first_bad metas good k a f) (first_bad metas good k a u)
  first_bad metas good k a (Lam A M) = or_spot (first_bad metas good k a A) (first_bad metas good (suc k) a M)
  first_bad metas good k a (Pi A B) = or_spot (first_bad metas good k a A) (first_bad metas good (suc k) a B)
  first_bad metas good k a (Con h us) = first_bad_of metas good k (around metas good k a h us) us

  pub first_bad_of : Plain → (ℕ → Bool) → ℕ → Around → Terms → Spot
  first_bad_of metas good k a none = Nowhere
  first_bad_of metas good k a (us ▹ u) = or_spot (first_bad_of metas good k a us) (first_bad metas good k a u)

-- ---- the entries that are kept

-- whether the entry of a variable is kept, by flags of which the last entry's is first
abbrev pub is_kept : List Bool → ℕ → Bool
is_kept [] i = false
is_kept (k ∷ ks) zero = k
is_kept (k ∷ ks) (suc i) = is_kept ks i

-- From the first entry on: an entry is kept where its argument is marked and its type holds no entry that isn't kept. The flags of the
-- entries before are given, the last one first.
abbrev pub kept_entries : List Bool → List (Local Term) → List Bool → List Bool
kept_entries (b ∷ bs) (l ∷ Γ) before = let k = b && holds_only (is_kept before) 0 l.ty in k ∷ kept_entries bs Γ (k ∷ before)
kept_entries _ _ before = []

-- the number that the variable of a kept entry has among the kept ones
abbrev pub thin : List Bool → ℕ → ℕ
thin (true ∷ ks) (suc i) = suc (thin ks i)
thin (false ∷ ks) (suc i) = thin ks i
thin _ i = 0

-- the name of an entry that comes to stand at a level: its own, or where it is named by a level the name of the new one
abbrev pub name_at : ℕ → List ℕ → List ℕ
name_at level name = if is_text_name name then name else level_name level

-- The kept entries as a context, the empty one extended by each in turn. Flags and entries go from the first one on; those before are
-- given by their flags, the last one first, and by the context so far.
abbrev pub kept_context : Env → Plain → List Bool → List (Local Term) → List Bool → List (Local Term) → Step (List (Local Term))
kept_context Δ metas (true ∷ ks) (l ∷ Γ) before kept = do
  more ← extended Δ metas kept (name_at (length kept) l.name) (rename (thin before) l.ty)
  kept_context Δ metas ks Γ (true ∷ before) more
kept_context Δ metas (false ∷ ks) (l ∷ Γ) before kept = kept_context Δ metas ks Γ (false ∷ before) kept
kept_context Δ metas _ _ before kept = pure kept

-- the variables of the kept entries, the last of all entries having number i
abbrev pub kept_variables : List Bool → ℕ → Terms
kept_variables [] i = none
kept_variables (true ∷ ks) i = kept_variables ks (suc i) ▹ Var i
kept_variables (false ∷ ks) i = kept_variables ks (suc i)

-- ---- the occurrences of a metavariable

-- each occurrence of m, also in arguments of another one, replaced by a value with its arguments put in
abbrev pub put_in : Bool → Term → Head → Terms → Term
put_in true v h us = subst_all us v
put_in false v h us = Con h us

abbrev mutual
  pub replace : ℕ → Term → Term → Term
  replace m v (Srt s) = Srt s
  replace m v (Var i) = Var i
  replace m v (App f a) = App (replace m v f) (replace m v a)
  replace m v (Lam A M) = Lam (replace m v A) (replace m v M)
  replace m v (Pi A B) = Pi (replace m v A) (replace m v B)
  replace m v (Con h us) = put_in (is_meta m h) v h (replace_all m v us)

  pub replace_all : ℕ → Term → Terms → Terms
  replace_all m v none = none
  replace_all m v (us ▹ u) = replace_all m v us ▹ replace m v u

-- how many they are
abbrev mutual
  pub occurrences : ℕ → Term → ℕ
  occurrences m (Srt s) = 0
  occurrences m (Var i) = 0
  occurrences m (App f a) = occurrences m f + occurrences m a
  occurrences m (Lam A M) = occurrences m A + occurrences m M
  occurrences m (Pi A B) = occurrences m A + occurrences m B
  occurrences m (Con h us) = (if is_meta m h then 1 else 0) + occurrences_in m us

  pub occurrences_in : ℕ → Terms → ℕ
  occurrences_in m none = 0
  occurrences_in m (us ▹ u) = occurrences_in m us + occurrences m u

-- ---- pruning

-- a call that goes on with metavariables and a term
abbrev pub Goes : Type 0
Goes = Plain → Term → Step Plain

-- Metavariable p of t, with its declaration, is settled by a new metavariable over the entries that are kept. Then each occurrence of p
-- in t is replaced, for a unit each, and it goes on. A type of p that holds an entry that isn't kept is the given refusal.
abbrev pub pruned_by : Env → Unifies → Plain → Refusal → ℕ → List Bool → Term → Goes → Option (Decl Term) → Step Plain
pruned_by Δ unify metas r p marks t again None = refuse r
pruned_by Δ unify metas r p marks t again (Some d) = do
  let flags = kept_entries marks d.ctx []
  let ks = reverse flags
  demand (holds_only (is_kept ks) 0 d.ty) r
  Γ ← kept_context Δ metas flags d.ctx [] []
  more ← declared Δ metas Γ (rename (thin ks) d.ty)
  let v = Meta (length metas) (kept_variables ks 0)
  after ← settled Δ unify more p v
  spend_each (occurrences p t)
  again after (replace p v t)

abbrev pub pruned : Env → Unifies → Plain → Refusal → ℕ → List Bool → Term → Goes → Step Plain
pruned Δ unify metas r p marks t again = pruned_by Δ unify metas r p marks t again (slice_get metas p)
