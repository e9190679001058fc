-- What scoping answers, over a store of terms.
use denote.Bor.{Bor}
use Rattle.std.specs.Prelude.{◌≡◌, Bool, false, List, [], ◌∷◌, length, Option, Some, None, Result, Ok, Err, All, map}
use Rattle.std.specs.Option.{option_map, option_copied}
use Rattle.ld_trees.specs.Term.{Term, Terms}
use Rattle.ld_terms.specs.declared.globals.Item.{Item}
use Rattle.ld_terms.specs.Items.{item_named}
use Rattle.ld_terms.specs.Views.{terms_of}
use Rattle.term_syntax.specs.declared.surface.Label.{Label}
use Rattle.term_syntax.specs.declared.scope_fault.ScopeFault.{ScopeFault}
use Rattle.term_syntax.specs.declared.scope_fault.ScopeFault.TheVariants.{Memory}
use Rattle.term_syntax.specs.Scoping.{Arities, Bound, Resolved, same_label}

-- how many parameters each constant of an environment has
abbrev pub arities : {H : Type 0} → List (Item H) → Arities
arities items a = option_map (λ i. length i.params) (item_named items a)

-- the binders passed, of which a list has the outermost first
abbrev pub bound_onto : Bound → List (Option (Bor Label)) → Bound
bound_onto outer [] = outer
bound_onto outer (label ∷ labels) = bound_onto (option_copied label ∷ outer) labels

abbrev pub bound_of : List (Option (Bor Label)) → Bound
bound_of labels = bound_onto [] labels

-- whether a binder has a label
abbrev pub is_bound_by : Option (Bor Label) → Label → Bool
is_bound_by None x = false
is_bound_by (Some y) x = same_label x y.now

-- a refusal is the outcome's, unless memory ran out
abbrev pub Refuses : {A : Type 0} → Resolved A → ScopeFault → Type 0
Refuses outcome Memory = Unit {0}
Refuses outcome fault = outcome ≡ Err fault

-- the answer is the outcome: a handle that means the outcome's term, or its refusal
abbrev pub IsResolved : {H : Type 0} → (H → Type 0) → (H → Term) → Resolved Term → Result H ScopeFault → Type 0
IsResolved holds means outcome (Ok h) = holds h × (outcome ≡ Ok (means h))
IsResolved holds means outcome (Err fault) = Refuses outcome fault

-- handles that mean the outcome's terms
abbrev pub AreResolved : {H : Type 0} → (H → Type 0) → (H → Term) → Resolved Terms → List H → Type 0
AreResolved holds means outcome us = All holds us × (outcome ≡ Ok (terms_of (map means us)))

-- the answer of a test
abbrev pub IsChecked : Resolved (Unit {0}) → Result (Unit {0}) ScopeFault → Type 0
IsChecked outcome (Ok u) = outcome ≡ Ok tt
IsChecked outcome (Err fault) = Refuses outcome fault
