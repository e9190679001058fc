-- Contexts and environments of λD, after Nederpelt and Geuvers, Type Theory and Formal Proof (2014), chapters 9 and 10.
use Rattle.std.specs.Prelude.{ℕ, zero, suc, List, [], ◌∷◌, Bool, true, false, Option, Some, None, option_map}
use Rattle.ld_trees.specs.Term.{Head, Term, Terms, none, ◌▹◌, same_head}
use Rattle.ld_trees.specs.Substitution.{weaken}

-- a context: the types of its entries, the first entered first, each in the entries before it
abbrev pub Ctx : Type 0
Ctx = Terms

-- the type of a variable, as a term of the whole context
abbrev pub type_at : Ctx → ℕ → Option Term
type_at none i = None
type_at (Γ ▹ A) zero = Some (weaken A)
type_at (Γ ▹ A) (suc i) = option_map weaken (type_at Γ i)

-- An item `name(params) := body : ty`: a definition where it has a body, and else a primitive. The parameters are a context,
-- in which the type and the body stand. A metavariable is read as an item whose parameters are its context.
pub record Item : Type 0 where
  pub name : Head
  pub params : Ctx
  pub ty : Term
  pub body : Option Term

-- an environment: its items, the last one first
abbrev pub Env : Type 0
Env = List Item

abbrev pub found_at : Bool → Item → Option Item → Option Item
found_at true d rest = Some d
found_at false d rest = rest

-- the item of a name, and None where the name is new
abbrev pub item_of : Head → Env → Option Item
item_of h [] = None
item_of h (d ∷ Δ) = found_at (same_head h d.name) d (item_of h Δ)
