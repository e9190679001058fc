-- The replies that refuse: the error's name, and what it shows. `item` is the number of the item of a book or of added items that is
-- refused. Terms are shown with every variable by its level.
use Rattle.std.specs.Prelude.{ℕ, List, [], ◌∷◌, ◌++◌, Option, Some, None, codes}
use Rattle.ld_trees.specs.Term.{Term}
use Rattle.term_syntax.specs.declared.scope_fault.ScopeFault.{ScopeFault}
use Rattle.term_syntax.specs.declared.scope_fault.ScopeFault.TheVariants as scope
use Rattle.conversion.specs.Runs.{Refusal, NotType, NotFunction, Mismatch, ReductIllTyped}
use Rattle.reply_text.specs.Members.{Member, Members, number, string}
use Rattle.reply_text.specs.Shown.{term_json, level_names}

abbrev pub error : List ℕ → Member
error name = string (codes "error") name

abbrev pub place : ℕ → Member
place at = number (codes "at") at

abbrev pub item_number : Option ℕ → List Member
item_number None = []
item_number (Some item) = number (codes "item") item ∷ []

-- a term below so many entries, each shown by its level
abbrev pub level_term : List ℕ → ℕ → Term → Member
level_term key depth t = record { key = key; value = term_json (level_names depth) t }

-- a text that is none of the grammar
abbrev pub syntax : ℕ → Members
syntax at = record { before = place at ∷ error (codes "syntax") ∷ []; after = [] }

-- an error that shows nothing more
abbrev pub plain : List ℕ → Option ℕ → Members
plain name item = record { before = error name ∷ item_number item; after = [] }

-- a name that is taken
abbrev pub name_taken : Option ℕ → List ℕ → Members
name_taken item name = record { before = error (codes "nameTaken") ∷ item_number item ++ string (codes "name") name ∷ []; after = [] }

-- a name that no item of the environment has
abbrev pub no_item : List ℕ → Members
no_item name = record { before = error (codes "unknownName") ∷ string (codes "name") name ∷ []; after = [] }

-- a name that no variable and no item has
abbrev pub unknown_name : Option ℕ → ℕ → List ℕ → Members
unknown_name item at name = record { before = place at ∷ error (codes "unknownName") ∷ item_number item ++ string (codes "name") name ∷ []; after = [] }

-- a constant with another number of arguments than it has parameters
abbrev pub wrong_count : Option ℕ → ℕ → List ℕ → ℕ → ℕ → Members
wrong_count item at name given wanted = record { before = place at ∷ error (codes "wrongCount") ∷ number (codes "given") given ∷ item_number item ++ string (codes "name") name ∷ []; after = number (codes "wanted") wanted ∷ [] }

-- a hole
abbrev pub unsolved : Option ℕ → ℕ → Members
unsolved item at = record { before = place at ∷ error (codes "unsolved") ∷ item_number item; after = [] }

-- a hole where no type is wanted
abbrev pub no_expected : ℕ → Members
no_expected at = record { before = place at ∷ error (codes "noExpected") ∷ []; after = [] }

-- a refusal that names a metavariable
abbrev pub of_goal : List ℕ → ℕ → Members
of_goal name m = record { before = error name ∷ number (codes "goal") m ∷ []; after = [] }

-- a metavariable that would be solved by a term with a variable of this level, which isn't among its arguments
abbrev pub out_of_scope : ℕ → ℕ → Members
out_of_scope m level = record { before = error (codes "scope") ∷ number (codes "goal") m ∷ number (codes "level") level ∷ []; after = [] }

-- an index that isn't below the number of active goals
abbrev pub no_goal : ℕ → ℕ → Members
no_goal index count = record { before = number (codes "count") count ∷ error (codes "noGoal") ∷ number (codes "index") index ∷ []; after = [] }

-- want of memory is no refusal, and shows nothing
abbrev pub nothing : Members
nothing = record { before = []; after = [] }

-- names that could not be resolved
unfoldable pub scoping : Option ℕ → ScopeFault → Members
scoping item (scope.UnknownName at name) = unknown_name item at name
scoping item (scope.WrongCount at name given wanted) = wrong_count item at name given wanted
scoping item (scope.Unsolved at) = unsolved item at
scoping item scope.Memory = nothing

-- a refusal of the kernel
unfoldable pub kernel : Option ℕ → Refusal → Members
kernel item (NotType depth t) = record { before = error (codes "notType") ∷ item_number item; after = level_term (codes "term") depth t ∷ [] }
kernel item (NotFunction depth t found) = record { before = error (codes "notFunction") ∷ item_number item; after = level_term (codes "term") depth t ∷ level_term (codes "type") depth found ∷ [] }
kernel item (Mismatch depth found wanted) = record { before = error (codes "mismatch") ∷ level_term (codes "found") depth found ∷ item_number item; after = level_term (codes "wanted") depth wanted ∷ [] }
kernel item (ReductIllTyped depth t reduct) = record { before = error (codes "reductIllTyped") ∷ item_number item ++ level_term (codes "reduct") depth reduct ∷ []; after = level_term (codes "term") depth t ∷ [] }

-- a unit of fuel was wanted and none was left
abbrev pub out_of_fuel : Option ℕ → Members
out_of_fuel item = plain (codes "fuel") item
