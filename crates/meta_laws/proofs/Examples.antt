-- The worked metavariable context of three is legal, by declaring and assigning one after the other, and the cycle is not.
use Rattle.std.proofs.Common.{◌≡◌, ℕ, [], ◌∷◌, false, refl}
use Rattle.ld_trees.specs.Term.{Term, Terms, Star, Var, Pi, Meta, none, ◌▹◌}
use Rattle.ld_rules.specs.Environment.{Env}
use Rattle.ld_rules.specs.Derivation.{Derives, sort, var, weak, form, def, def_prim, inst, no_argument, argument}
use Rattle.ld_rules.specs.Legality.{IsLegalEnvironment}
use Rattle.meta_trees.specs.MetaContext.{Decl, Metas, item, assign, declare, unassigned, with_value}
use Rattle.meta_trees.specs.Dependencies.{Depends, depends, parts}
use Rattle.meta_laws.specs.Legality.{IsLegalMetas}
use Rattle.meta_trees.specs.Examples.{three, cycle}
use Rattle.meta_trees.proofs.Dependencies.{reaches_sound, reaches_complete}
use Rattle.meta_laws.proofs.Lists.{not_both}
use Rattle.meta_laws.proofs.Legal.{empty_is_legal}
use Rattle.meta_laws.proofs.Assigning.{assigning_keeps_legality}
use Rattle.meta_laws.proofs.Declaring.{declaring_keeps_legality}

independent : (Σ : Metas) (X : Terms) (k : ℕ) → depends Σ X k ≡ false → ¬ Depends Σ X k
independent Σ X k e D = not_both _ (reaches_complete D) e

-- the declarations
abbrev declared : Metas
declared = declare (none ▹ Star) Star (declare none Star (declare none Star []))

declared_legal : IsLegalMetas [] declared
declared_legal =
    let a = (declaring_keeps_legality [] [] none Star _ (empty_is_legal [] (λ m. refl) sort) sort).0 in
    let b = (declaring_keeps_legality [] (declare none Star []) none Star _ a sort).0 in
    (declaring_keeps_legality [] (declare none Star (declare none Star [])) (none ▹ Star) Star _ b (weak sort sort)).0

-- the value of 2
abbrev function : Term
function = Pi (Var 0) (Meta 1 none)

abbrev second : Decl
second = unassigned none Star

abbrev one : Env
one = item 1 second ∷ []

one_legal : IsLegalEnvironment one
one_legal = def_prim (item 1 second) sort refl sort refl

function_typed : Derives one (none ▹ Star) function Star
function_typed =
    let entry : Derives one (none ▹ Star) (Var 0) Star = var one_legal in
    form entry (inst (item 1 second) (weak (weak one_legal one_legal) entry) no_argument refl)

abbrev assigned : Metas
assigned = assign 2 function declared

assigned_legal : IsLegalMetas [] assigned
assigned_legal = (assigning_keeps_legality [] declared 2 (unassigned (none ▹ Star) Star) function declared_legal refl refl function_typed (independent declared (none ▹ function) 2 refl)).0

-- the value of 0
abbrev call : Term
call = Meta 2 (none ▹ Meta 1 none)

abbrev third : Decl
third = with_value function (unassigned (none ▹ Star) Star)

abbrev two : Env
two = item 2 third ∷ one

two_legal : IsLegalEnvironment two
two_legal = def (item 2 third) one_legal refl function_typed refl

call_typed : Derives two none call Star
call_typed =
    let argument_typed : Derives two none (Meta 1 none) Star = inst (item 1 second) two_legal no_argument refl in
    inst (item 2 third) two_legal (argument no_argument argument_typed) refl

pub three_legal : IsLegalMetas [] three
three_legal = (assigning_keeps_legality [] assigned 0 (unassigned none Star) call assigned_legal refl refl call_typed (independent assigned (none ▹ call) 0 refl)).0

pub cycle_refused : ¬ IsLegalMetas [] cycle
cycle_refused ok = ok.acyclic 0 (with_value (Meta 1 none) (unassigned none Star)) refl (reaches_sound cycle 2 (parts (with_value (Meta 1 none) (unassigned none Star))) 0 refl)
