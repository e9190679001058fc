-- `goal.start`, `goal.move` and `goal.print`: a state is made, by a theorem or by a move, and shown.
use Rattle.std.specs.Prelude.{ℕ, List, [], ◌∷◌, Bool, None, Ok, Err, codes}
use Rattle.ld_trees.specs.Term.{Term}
use Rattle.ld_terms.specs.declared.globals.Item.{Item}
use Rattle.term_syntax.specs.Lex.{Text}
use Rattle.term_syntax.specs.Input.{place}
use Rattle.term_syntax.specs.Reading.{Outcome as Parsed, read}
use Rattle.term_syntax.specs.Scoping.{Resolved, scope}
use Rattle.term_syntax.specs.declared.surface.Surface.{Surface}
use Rattle.term_text.specs.Scoped.{arities}
use Rattle.conversion.specs.Runs as kernel
use Rattle.goal_state.specs.State.{State}
use Rattle.goal_state.specs.Starting.{Started, TooDeep, Inferred, started}
use Rattle.unification.specs.Steps as steps
use Rattle.unification.specs.Refusals as unification
use Rattle.elaboration.specs.Refusals as elaboration
use Rattle.move_set.specs.Refusals as move
use Rattle.move_set.specs.Moves.{moved}
use Rattle.state_print.specs.Pieces.{state_text}
use Rattle.state_print.specs.Bodies.{made_body, printed_body}
use Rattle.repl_json.specs.declared.reply.Body.{Body}
use Rattle.reply_text.specs.declared.members.Members.{Members}
use Rattle.reply_text.specs.Members.{string, body_text}
use Rattle.reply_text.specs.Refusals as reply
use Rattle.state_tree.specs.Value.{Value, Says, MakesState}

-- why two terms aren't unified
abbrev pub unify_refusal : unification.Refusal → Members
unify_refusal (unification.Kernel r) = reply.kernel None r
unify_refusal (unification.Mismatch depth found wanted) = reply.kernel None (kernel.Mismatch depth found wanted)
unify_refusal (unification.NotPattern m) = reply.of_goal (codes "notPattern") m
unify_refusal (unification.Scope m level) = reply.out_of_scope m level
unify_refusal (unification.Cycle m) = reply.of_goal (codes "cycle") m
unify_refusal (unification.TooDeep m) = reply.of_goal (codes "tooDeep") m
unify_refusal unification.TooManyMetas = reply.plain (codes "tooManyMetas") None

-- why a text isn't elaborated
abbrev pub elab_refusal : elaboration.Refusal → Members
elab_refusal (elaboration.Unify r) = unify_refusal r
elab_refusal (elaboration.UnknownName at name) = reply.unknown_name None at name
elab_refusal (elaboration.WrongCount at name given wanted) = reply.wrong_count None at name given wanted
elab_refusal (elaboration.NoExpected at) = reply.no_expected at
elab_refusal (elaboration.NotFunction depth t found) = reply.kernel None (kernel.NotFunction depth t found)
elab_refusal (elaboration.NotType depth t) = reply.kernel None (kernel.NotType depth t)
elab_refusal elaboration.TooManyMetas = reply.plain (codes "tooManyMetas") None

-- a refusal that names a constant
abbrev pub of_name : List ℕ → Text → Members
of_name error name = record { before = reply.error error ∷ string (codes "name") name ∷ []; after = [] }

-- why a move makes no state
unfoldable pub move_refusal : move.Refusal → Members
move_refusal (move.Syntax at) = reply.syntax at
move_refusal (move.NoGoal index count) = reply.no_goal index count
move_refusal (move.NameTaken name) = reply.name_taken None name
move_refusal move.NotProduct = reply.plain (codes "notProduct") None
move_refusal move.NoAssumption = reply.plain (codes "noAssumption") None
move_refusal (move.NotDefined name) = of_name (codes "notDefined") name
move_refusal (move.NoOccurrence name) = of_name (codes "noOccurrence") name
move_refusal (move.Unsolved at) = reply.unsolved None at
move_refusal (move.Elab r) = elab_refusal r
move_refusal move.TooManyMetas = reply.plain (codes "tooManyMetas") None

-- the reply that prints a state
abbrev pub printed : State → Body
printed s = printed_body (state_text s)

-- what commands say and make, over plain environments and states
abbrev pub Given : Type 0
Given = Value (List (Item Term)) State

-- a new state, and the reply that shows it
abbrev pub makes : State → Given
makes s = MakesState s (made_body (state_text s))

-- what these members say, and nothing is made
abbrev pub says : Members → Given
says m = Says (body_text m)

-- ---- `goal.start`

-- what the inference of the theorem's sort leads to
abbrev pub inferred : kernel.Outcome State → Given
inferred (kernel.Gave s left) = makes s
inferred (kernel.Refused r left) = says (reply.kernel None r)
inferred kernel.OutOfFuel = says (reply.out_of_fuel None)

-- the first state of a theorem, or why there is none
abbrev pub begun : Started → Given
begun (TooDeep m) = says (reply.of_goal (codes "tooDeep") m)
begun (Inferred o) = inferred o

module _ (items : List (Item Term)) (fuel : ℕ) where
  -- a theorem whose names were resolved, or the first that couldn't be
  abbrev pub resolved : Resolved Term → Given
  resolved (Ok t) = begun (started items t fuel)
  resolved (Err fault) = says (reply.scoping None fault)

  -- a tree of the grammar, or the place at which the text is refused
  abbrev pub parsed : Parsed Surface → Given
  parsed (Ok p) = resolved (scope (arities items) [] p.0 [])
  parsed (Err input) = says (reply.syntax (place input))

-- the first state of the theorem that a text is as a closed term, with so many units of fuel
unfoldable pub start : List (Item Term) → Text → ℕ → Given
start items expr fuel = parsed items fuel (read expr)

-- ---- `goal.move`

-- the state behind a move, or why there is none
abbrev pub made : move.Outcome State → Given
made (steps.Gave s left) = makes s
made (steps.Refused r left) = says (move_refusal r)
made steps.OutOfFuel = says (reply.out_of_fuel None)

-- a move on the active goal at an index of a state
abbrev pub move_on : State → ℕ → Text → ℕ → Bool → Given
move_on s goal text fuel auto = made (moved s goal text fuel auto)
