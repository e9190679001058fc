-- Weak head form, with units of fuel. A term is a head with arguments.
use Rattle.std.specs.Prelude.{ℕ, zero, suc, Bool, true, nat_eq, Option, Some, None, option_map}
use Rattle.ld_trees.specs.Term.{Term, App, Lam, Con, Terms, none, ◌▹◌, count}
use Rattle.ld_trees.specs.Substitution.{subst_all}
use Rattle.ld_rules.specs.Environment.{Env, Item, item_of}
use Rattle.conversion.specs.Runs.{Outcome, Gave, OutOfFuel, Run}

-- the body with the arguments put in, where there is a body and each parameter has an argument
abbrev pub unfold_if : Bool → Option Term → Terms → Option Term
unfold_if true (Some M) us = Some (subst_all us M)
unfold_if _ _ us = None

abbrev pub unfolded : Option Item → Terms → Option Term
unfolded None us = None
unfolded (Some d) us = unfold_if (nat_eq (count us) (count d.params)) d.body us

-- One step at the head: where the head is an abstraction with an argument, the first argument is put in; where it is a defined
-- constant or an assigned metavariable, it is replaced by its body.
abbrev pub apply_step : Term → Term → Option Term → Option Term
apply_step (Lam A M) a o = Some (subst_all (none ▹ a) M)
apply_step f a o = option_map (λ g. App g a) o

abbrev pub head_step : Env → Term → Option Term
head_step Δ (App f a) = apply_step f a (head_step Δ f)
head_step Δ (Con h us) = unfolded (item_of h Δ) us
head_step Δ _ = None

-- as long as there is a step at the head, spend one unit and make it
abbrev pub whnf_units : Env → ℕ → Term → Outcome Term
whnf_units Δ zero t = elim (head_step Δ t) [ None ↦ Gave t zero | Some t' ↦ OutOfFuel ]
whnf_units Δ (suc n) t = elim (head_step Δ t) [ None ↦ Gave t (suc n) | Some t' ↦ whnf_units Δ n t' ]

abbrev pub whnf : Env → Term → Run Term
whnf Δ t n = whnf_units Δ n t
