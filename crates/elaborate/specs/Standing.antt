-- What the values mean that the calls of elaboration pass along, and that they are of a store.
use Rattle.std.specs.Prelude.{◌≡◌, List, All, Option, Some, None}
use Rattle.ld_trees.specs.Term.{Term}
use Rattle.ld_terms.specs.declared.globals.Item.{Item}
use Rattle.term_syntax.specs.ReadsBack.{IsContext}
use Rattle.term_text.specs.Scoped.{bound_of}
use Rattle.conversion.specs.Globals.{AreGlobalsOf, AreLocals, IsDeclOf}
use Rattle.meta_context.specs.Entered.{names_of}
use Rattle.meta_context.specs.Plain.{plain_items, plain_locals}
use Rattle.goal_state.specs.State.{plain_metas}
use Rattle.elaboration.specs.Elaboration.{Work, Made, Surroundings, Want, Any, Of, AsType}
use Rattle.elaborate.specs.Steps.{Product}
use Rattle.elaborate.specs.declared.standing.Work.{Work as StoredWork}
use Rattle.elaborate.specs.declared.standing.Typed.{Typed}
use Rattle.elaborate.specs.declared.standing.Here.{Here}
use Rattle.elaborate.specs.declared.standing.Product.{Product as StoredProduct}
use Rattle.elaborate.specs.declared.standing.Want.{Want as StoredWant}
use Rattle.elaborate.specs.declared.standing.Want.TheVariants as want

-- ---- the trees that handles mean

abbrev pub plain_work : {H : Type 0} → (H → Term) → StoredWork H → Work
plain_work means w = record { metas = plain_metas means w.metas; goals = w.goals; holes = w.holes }

abbrev pub plain_typed : {H : Type 0} → (H → Term) → Typed H → Made
plain_typed means r = record { work = plain_work means r.work; term = means r.term; ty = means r.ty }

abbrev pub plain_here : {H : Type 0} → (H → Term) → Here H → Surroundings
plain_here means here = record { outer = here.outer.now; bound = bound_of here.bound.now; entries = plain_locals means here.entries.now }

abbrev pub plain_want : {H : Type 0} → (H → Term) → StoredWant H → Want
plain_want means want.Any = Any
plain_want means (want.Of h) = Of (means h)
plain_want means want.AsType = AsType

abbrev pub plain_product : {H : Type 0} → (H → Term) → StoredProduct H → Product
plain_product means p = record { whole = means p.whole; domain = means p.domain; codomain = means p.codomain }

abbrev pub pair_trees : {H : Type 0} → (H → Term) → H × H → Term × Term
pair_trees means p = (means p.0, means p.1)

-- items, what elaboration has come to and surroundings mean plain ones
pub record IsRead {H : Type 0} (means : H → Term) (items : List (Item H)) (work : StoredWork H) (here : Here H) (Δ : List (Item Term)) (w : Work) (h : Surroundings) : Type 0 where
  pub items_are : plain_items means items ≡ Δ
  pub work_is : plain_work means work ≡ w
  pub here_is : plain_here means here ≡ h

-- ---- handles of the store

pub record IsHeld {H : Type 0} (holds : H → Type 0) (items : List (Item H)) (work : StoredWork H) (here : Here H) : Type 0 where
  pub globals : AreGlobalsOf holds items work.metas
  pub entries : AreLocals holds here.entries.now
  pub names : IsContext (names_of here.entries.now)

pub record IsTypedIn {H : Type 0} (holds : H → Type 0) (r : Typed H) : Type 0 where
  pub metas : All (IsDeclOf holds) r.work.metas
  pub term : holds r.term
  pub ty : holds r.ty

abbrev pub IsWantIn : {H : Type 0} → (H → Type 0) → StoredWant H → Type 0
IsWantIn holds (want.Of h) = holds h
IsWantIn holds _ = Unit {0}

pub record IsProductIn {H : Type 0} (holds : H → Type 0) (p : StoredProduct H) : Type 0 where
  pub whole : holds p.whole
  pub domain : holds p.domain
  pub codomain : holds p.codomain

abbrev pub MayBeProductIn : {H : Type 0} → (H → Type 0) → Option (StoredProduct H) → Type 0
MayBeProductIn holds None = Unit {0}
MayBeProductIn holds (Some p) = IsProductIn holds p
