-- Words for the private calls of elaboration, each of which stands for one part of its definition.
use Rattle.std.specs.Prelude.{ℕ, suc, List, length, ◌==◌, Option, Some, None, option_map}
use Rattle.ld_trees.specs.Term.{Term, Square, Var, App, Lam, Pi, none, ◌▹◌}
use Rattle.ld_trees.specs.Substitution.{subst_all}
use Rattle.ld_rules.specs.Environment.{Ctx, type_at}
use Rattle.ld_terms.specs.declared.globals.Item.{Item}
use Rattle.term_syntax.specs.Lex.{Text}
use Rattle.term_syntax.specs.declared.surface.Label.{Label}
use Rattle.term_syntax.specs.declared.surface.Surface.{Surface, fold-Surface}
use Rattle.term_syntax.specs.declared.surface.Shape.TheOpen.{Shape-F}
use Rattle.unification.specs.Steps.{pure, refuse, ◌>>=◌, ◌>>◌, demand, spend_each}
use Rattle.elaboration.specs.Refusals.{UnknownName, WrongCount, NotFunction, NotType, Step}
use Rattle.elaboration.specs.Elaboration.{Work, Made, made, Want, Any, Of, Surroundings, depth_of, Elaborates, with_goal, with_hole, parts_or, product_or, reduced, entered, unified, meet}

-- ---- units

abbrev pub node_cost : Shape-F ℕ ℕ → ℕ
node_cost (Shape-F.App f us) = length us
node_cost _ = 1

-- how many units a node takes: an application one for each argument, and any other node one
unfoldable pub cost : Surface → ℕ
cost = fold-Surface ℕ ℕ node_cost (λ t. t.shape)

-- so many units
abbrev pub paid : ℕ → Step (Unit {0})
paid k = spend_each k

-- ---- leaves

-- a hole `?`, or a hole `_` with its place
abbrev pub noted_of : Option ℕ → ℕ → Work → Work
noted_of None = with_goal
noted_of (Some at) = with_hole at

-- a variable with its type
abbrev pub typed_at : Ctx → Option ℕ → Option (Term × Term)
typed_at Γ None = None
typed_at Γ (Some i) = option_map (λ T. (Var i, T)) (type_at Γ i)

-- the item of a name, which has as many parameters as arguments are given
abbrev pub known : ℕ → Text → ℕ → Option (Item Term) → Step (Item Term)
known at a given None = refuse (UnknownName at a)
known at a given (Some i) = demand (given == length i.params) (WrongCount at a given (length i.params)) >> pure i

-- ---- products

-- a type that is wanted, and its weak head form, a product of these parts
pub record Product : Type 0 where
  pub whole : Term
  pub domain : Term
  pub codomain : Term

abbrev pub product_of : Term → Term → Option Product
product_of T (Pi C B) = Some (record { whole = T; domain = C; codomain = B })
product_of T _ = None

module _ (items : List (Item Term)) where
  -- the type that is wanted, where its weak head form is a product
  abbrev pub wanted_product : Want → Work → Step (Option Product)
  wanted_product (Of T) w = do
    T' ← reduced items w T
    pure (product_of T T')
  wanted_product _ w = pure None

  -- a domain meets that of the product that is wanted: what is then wanted of the body
  abbrev pub met_domain : Option Product → Made → Surroundings → Step (Work × Want)
  met_domain None a here = pure (a.work, Any)
  met_domain (Some p) a here = do
    w ← unified items a.work here a.term p.domain
    pure (w, Of p.codomain)

  -- a text behind one more binder of that type
  abbrev pub under : Option Label → Elaborates → Want → Work → Term → Surroundings → Step Made
  under x M want w A here = do
    inner ← entered items x A w here
    M want w inner

  -- the abstraction over a domain of a body
  abbrev pub abstracted : Want → Option Product → Term → Made → Surroundings → Step Made
  abstracted want None A m here = do
    T ← product_or (NotType (suc (depth_of here)) Square) A m.ty
    meet items want m.work here (Lam A m.term) T
  abstracted want (Some p) A m here = pure (made m.work (Lam A m.term) p.whole)

  -- ---- applications

  -- the domain and the codomain of the type of a function
  abbrev pub function_parts : Made → Surroundings → Step (Term × Term)
  function_parts f here = do
    F ← reduced items f.work f.ty
    parts_or (NotFunction (depth_of here) f.term f.ty) F

  -- a function applied to one argument
  abbrev pub applied_to : Elaborates → Made → Surroundings → Step Made
  applied_to u f here = do
    (A, B) ← function_parts f here
    a ← u (Of A) f.work here
    pure (made a.work (App f.term a.term) (subst_all (none ▹ a.term) B))
