-- Elaboration: the term that a text means in a context, where the text may have holes, in both directions of typing (Pierce and Turner
-- 2000), with units of fuel. One unit is spent at each node of the text, first of all.
use Rattle.std.specs.Prelude.{ℕ, List, [], ◌∷◌, ◌++◌, length, ◌==◌, Option, Some, None}
use Rattle.ld_trees.specs.Term.{square, Term, Srt, Star, Square, Var, App, Lam, Pi, Const, Terms, none, ◌▹◌}
use Rattle.ld_trees.specs.Substitution.{subst_all}
use Rattle.ld_rules.specs.Environment.{type_at}
use Rattle.ld_terms.specs.Names.{level_name}
use Rattle.ld_terms.specs.Items.{item_named}
use Rattle.ld_terms.specs.declared.globals.Local.{Local}
use Rattle.ld_terms.specs.declared.globals.Item.{Item}
use Rattle.term_syntax.specs.Lex.{Text}
use Rattle.term_syntax.specs.Printing.{Names}
use Rattle.term_syntax.specs.Scoping.{Bound, index_of, label_text}
use Rattle.term_syntax.specs.declared.surface.Label.{Label}
use Rattle.term_syntax.specs.declared.surface.Label.TheVariants as label
use Rattle.term_syntax.specs.declared.surface.Surface.{Surface, fold-Surface}
use Rattle.term_syntax.specs.declared.surface.Shape.TheOpen.{Shape-F}
use Rattle.conversion.specs.WeakHead.{whnf}
use Rattle.meta_context.specs.Plain.{rules_ctx, rules_env}
use Rattle.meta_context.specs.Entered.{names_of}
use Rattle.unification.specs.Steps.{pure, refuse, spend, spend_each, ◌>>=◌, ◌>>◌, demand}
use Rattle.unification.specs.Refusals.{Plain}
use Rattle.unification.specs.Metavariables.{reach, extended, declared}
use Rattle.unification.specs.Patterns.{over_all}
use Rattle.unification.specs.Pruning.{name_at}
use Rattle.unification.specs.Unification.{unify}
use Rattle.elaboration.specs.Refusals.{Refusal, UnknownName, WrongCount, NoExpected, NotFunction, NotType, Step, unify_step, kernel_step}

-- what elaboration has come to: the metavariables; those of the `?`; and those of the `_` with their places. Both lists are in text order.
pub record Work : Type 0 where
  pub metas : Plain
  pub goals : List ℕ
  pub holes : List (ℕ × ℕ)

-- a term, with its type, the type that was wanted of it, or its sort where it was to be a type
pub record Made : Type 0 where
  pub work : Work
  pub term : Term
  pub ty : Term

abbrev pub made : Work → Term → Term → Made
made w t T = record { work = w; term = t; ty = T }

-- what is wanted of a text: a term; a term of a type; or a type
pub data Want : Type 0 where
  Any : Want
  Of : Term → Want
  AsType : Want

-- Where a part of a text stands: behind these binders of the text, the innermost first, which stand in the context of the whole text with
-- its names; the whole context there.
pub record Surroundings : Type 0 where
  pub outer : Names
  pub bound : Bound
  pub entries : List (Local Term)

abbrev pub depth_of : Surroundings → ℕ
depth_of here = length here.entries

abbrev pub Elaborates : Type 0
Elaborates = Want → Work → Surroundings → Step Made

-- the name of a binder's entry at level k: the binder's own where that is a name of the texts, or else the level name of its own level
abbrev pub entry_name : ℕ → Option Label → Text
entry_name k (Some (label.Plain x)) = name_at k x
entry_name k _ = level_name k

-- the surroundings behind one more binder, given the context there
abbrev pub behind : Option Label → List (Local Term) → Surroundings → Surroundings
behind x Γ here = record { outer = here.outer; bound = x ∷ here.bound; entries = Γ }

abbrev pub with_metas : Plain → Work → Work
with_metas metas w = record { metas = metas; goals = w.goals; holes = w.holes }

-- the metavariable of a `?`, and that of a `_` with its place
abbrev pub with_goal : ℕ → Work → Work
with_goal m w = record { metas = w.metas; goals = w.goals ++ m ∷ []; holes = w.holes }

abbrev pub with_hole : ℕ → ℕ → Work → Work
with_hole at m w = record { metas = w.metas; goals = w.goals; holes = w.holes ++ (m, at) ∷ [] }

-- a term that is a sort
abbrev pub sort_or : Refusal → Term → Step Term
sort_or r (Srt s) = pure (Srt s)
sort_or r _ = refuse r

-- the domain and the codomain of a product
abbrev pub parts_or : Refusal → Term → Step (Term × Term)
parts_or r (Pi A B) = pure (A, B)
parts_or r _ = refuse r

-- the product of an abstraction's domain and its body's type, unless that is `□`
abbrev pub product_or : Refusal → Term → Term → Step Term
product_or r A (Srt square) = refuse r
product_or r A B = pure (Pi A B)

module _ (items : List (Item Term)) where
  abbrev pub reduced : Work → Term → Step Term
  reduced w t = kernel_step (whnf (reach (rules_env items) w.metas) t)

  -- a context extended by an entry for a binder, of a type that has a sort
  abbrev pub entered : Option Label → Term → Work → Surroundings → Step Surroundings
  entered x A w here = do
    Γ ← unify_step (extended (rules_env items) w.metas here.entries (entry_name (depth_of here) x) A)
    pure (behind x Γ here)

  -- two types are unified
  abbrev pub unified : Work → Surroundings → Term → Term → Step Work
  unified w here found wanted = do
    metas ← unify_step (unify (rules_env items) w.metas (depth_of here) found wanted)
    pure (with_metas metas w)

  -- ---- a term with its type comes to what is wanted

  abbrev pub sort_of : Work → Surroundings → Term → Term → Step Term
  sort_of w here t (Srt s) = pure (Srt s)
  sort_of w here t T = do
    T' ← reduced w T
    sort_or (NotType (depth_of here) t) T'

  abbrev pub meet : Want → Work → Surroundings → Term → Term → Step Made
  meet Any w here t T = pure (made w t T)
  meet (Of wanted) w here t T = do
    w' ← unified w here T wanted
    pure (made w' t wanted)
  meet AsType w here t T = do
    s ← sort_of w here t T
    pure (made w t s)

  -- ---- the nodes of a text

  -- a hole: a new metavariable over the whole context, applied to all its variables
  abbrev pub opened : (ℕ → Work → Work) → Term → Work → Surroundings → Step Made
  opened noted T w here = do
    metas ← unify_step (declared (rules_env items) w.metas here.entries T)
    pure (made (noted (length w.metas) (with_metas metas w)) (over_all (length w.metas) (depth_of here)) T)

  abbrev pub hole : ℕ → (ℕ → Work → Work) → Elaborates
  hole at noted Any w here = refuse (NoExpected at)
  hole at noted (Of T) w here = opened noted T w here
  hole at noted AsType w here = opened noted Star w here

  -- a variable has the type of its entry
  abbrev pub typed_variable : ℕ → Refusal → Option Term → Elaborates
  typed_variable i r None want w here = refuse r
  typed_variable i r (Some T) want w here = meet want w here (Var i) T

  abbrev pub variable : Refusal → Option ℕ → Elaborates
  variable r None want w here = refuse r
  variable r (Some i) want w here = typed_variable i r (type_at (rules_ctx here.entries) i) want w here

  -- arguments from left to right, each checked against the declared type with the earlier ones put in
  abbrev pub arguments : List Elaborates → List (Local Term) → Terms → Work → Surroundings → Step (Work × Terms)
  arguments (u ∷ us) (l ∷ ls) done w here = do
    m ← u (Of (subst_all done l.ty)) w here
    arguments us ls (done ▹ m.term) m.work here
  arguments _ _ done w here = pure (w, done)

  abbrev pub constant : ℕ → Text → List Elaborates → Option (Item Term) → Elaborates
  constant at a us None want w here = refuse (UnknownName at a)
  constant at a us (Some i) want w here = do
    demand (length us == length i.params) (WrongCount at a (length us) (length i.params))
    (w', vs) ← arguments us i.params none w here
    meet want w' here (Const a vs) (subst_all vs i.ty)

  -- a function with its type, applied to arguments from left to right
  abbrev pub applied : List Elaborates → Work → Surroundings → Term → Term → Step Made
  applied [] w here f F = pure (made w f F)
  applied (u ∷ us) w here f F = do
    F' ← reduced w F
    (A, B) ← parts_or (NotFunction (depth_of here) f F) F'
    m ← u (Of A) w here
    applied us m.work here (App f m.term) (subst_all (none ▹ m.term) B)

  abbrev pub application : Elaborates → List Elaborates → Elaborates
  application f us want w here = do
    m ← f Any w here
    m' ← applied us m.work here m.term m.ty
    meet want m'.work here m'.term m'.ty

  -- an abstraction by itself
  abbrev pub abstraction : Label → Elaborates → Elaborates → Elaborates
  abstraction x A M want w here = do
    a ← A AsType w here
    inner ← entered (Some x) a.term a.work here
    m ← M Any a.work inner
    T ← product_or (NotType (depth_of inner) Square) a.term m.ty
    meet want m.work here (Lam a.term m.term) T

  -- an abstraction of which a type is wanted that has this weak head form: where that is a product, the domains are unified
  abbrev pub abstraction_of : Label → Elaborates → Elaborates → Term → Work → Surroundings → Term → Step Made
  abstraction_of x A M T w here (Pi C B) = do
    a ← A AsType w here
    w' ← unified a.work here a.term C
    inner ← entered (Some x) a.term w' here
    m ← M (Of B) w' inner
    pure (made m.work (Lam a.term m.term) T)
  abstraction_of x A M T w here _ = abstraction x A M (Of T) w here

  abbrev pub function : Label → Elaborates → Elaborates → Elaborates
  function x A M (Of T) w here = do
    T' ← reduced w T
    abstraction_of x A M T w here T'
  function x A M want w here = abstraction x A M want w here

  -- a product has the sort of its codomain
  abbrev pub product : Option Label → Elaborates → Elaborates → Elaborates
  product x A B want w here = do
    a ← A AsType w here
    inner ← entered x a.term a.work here
    b ← B AsType a.work inner
    meet want b.work here (Pi a.term b.term) b.ty

  -- one node of a text at its place, with what each child elaborates to; an application with n arguments stands for n nodes
  abbrev pub node : Shape-F (ℕ → Elaborates) Elaborates → ℕ → Elaborates
  node Shape-F.Star at want w here = spend >> meet want w here Star Square
  node Shape-F.Wild at want w here = spend >> hole at (with_hole at) want w here
  node Shape-F.Asked at want w here = spend >> hole at with_goal want w here
  node (Shape-F.Named x) at want w here = spend >> variable (UnknownName at (label_text x)) (index_of here.outer x here.bound) want w here
  node (Shape-F.Const a us) at want w here = spend >> constant at a us (item_named items a) want w here
  node (Shape-F.App f us) at want w here = spend_each (length us) >> application f us want w here
  node (Shape-F.Lam x A M) at want w here = spend >> function x A M want w here
  node (Shape-F.Pi x A B) at want w here = spend >> product x A B want w here

  unfoldable pub elaborate : Surface → Elaborates
  elaborate = fold-Surface (ℕ → Elaborates) Elaborates node (λ t. t.shape t.at)

  -- ---- the three calls, on a text in a context

  abbrev pub started : Plain → Work
  started metas = record { metas = metas; goals = []; holes = [] }

  abbrev pub standing : List (Local Term) → Surroundings
  standing Γ = record { outer = names_of Γ; bound = []; entries = Γ }

  -- a term with its type
  abbrev pub synth : Plain → List (Local Term) → Surface → Step Made
  synth metas Γ t = elaborate t Any (started metas) (standing Γ)

  -- a term of a type
  abbrev pub check : Plain → List (Local Term) → Surface → Term → Step Made
  check metas Γ t T = elaborate t (Of T) (started metas) (standing Γ)

  -- a type with its sort
  abbrev pub check_type : Plain → List (Local Term) → Surface → Step Made
  check_type metas Γ t = elaborate t AsType (started metas) (standing Γ)
