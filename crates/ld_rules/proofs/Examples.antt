-- Worked derivations.
use Rattle.std.proofs.Common.{[], ◌∷◌, refl}
use Rattle.ld_trees.specs.Term.{Star, Var, App, Lam, Pi, Const, none, ◌▹◌}
use Rattle.ld_rules.specs.Reduction.{Step, beta, delta, by_step}
use Rattle.ld_rules.specs.Derivation.{Derives, sort, var, weak, form, appl, abst, conv, def, def_prim, inst, no_argument, argument}
use Rattle.ld_rules.specs.Legality.{IsLegalEnvironment}
use Rattle.ld_rules.proofs.Environments.{change_environment}
use Rattle.ld_rules.specs.Examples.{a_name, a_item, falsum, falsum_item, not_item, not_of, negation_book, identity, identity_type}

arrow_derived : Derives [] (none ▹ Star) (Pi (Var 0) (Var 1)) Star
arrow_derived = form (var sort) (weak (var sort) (var sort))

pub identity_derived : Derives [] none identity identity_type
identity_derived = abst (abst (var (var sort)) arrow_derived) (form sort arrow_derived)

pub primitive_legal : IsLegalEnvironment (a_item ∷ [])
primitive_legal = def_prim a_item sort refl sort refl

pub primitive_typed : Derives (a_item ∷ []) none (Const a_name none) Star
primitive_typed = inst a_item primitive_legal no_argument refl

falsum_legal : IsLegalEnvironment (falsum_item ∷ [])
falsum_legal = def falsum_item sort refl (form sort (var sort)) refl

not_typed : Derives (falsum_item ∷ []) (none ▹ Star) (Pi (Var 0) falsum) Star
not_typed = form (var falsum_legal) (inst falsum_item (weak (weak falsum_legal falsum_legal) (var falsum_legal)) no_argument refl)

pub book_legal : IsLegalEnvironment negation_book
book_legal = def not_item falsum_legal refl not_typed refl

falsum_typed : Derives negation_book none falsum Star
falsum_typed = inst falsum_item book_legal no_argument refl

pub negation_typed : Derives negation_book none (not_of falsum) Star
negation_typed = inst not_item book_legal (argument no_argument falsum_typed) refl

pub negation_unfolds : Step negation_book (not_of falsum) (Pi falsum falsum)
negation_unfolds = delta not_item (Pi (Var 0) falsum) refl refl refl

-- x : not(falsum()) has the type falsum() -> falsum() too
pub converted : Derives negation_book (none ▹ not_of falsum) (Var 0) (Pi falsum falsum)
converted =
    let weaker : Derives negation_book (none ▹ not_of falsum) falsum Star = weak falsum_typed negation_typed in
    conv (var negation_typed) (form weaker (weak weaker weaker)) (by_step negation_unfolds)

-- (fun (A : *) => fun (x : A) => x) falsum()
pub identity_applied : Derives negation_book none (App identity falsum) (Pi falsum falsum)
identity_applied = appl (change_environment identity_derived (λ h d p. absurd cc) book_legal) falsum_typed

pub identity_steps : Step negation_book (App identity falsum) (Lam falsum (Var 0))
identity_steps = beta
