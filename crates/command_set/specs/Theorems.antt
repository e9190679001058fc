-- What a printed proof is worth. Whenever `goal.print` shows a state as solved, the text under `term` is a proof of the theorem:
-- it reads, in the state's environment and without names, as a closed term without metavariables, which the rules of λD derive, in that
-- environment alone and the empty context, to have the state's type; and that type is what the text of the `goal.start` from which the
-- state comes reads as. Where the term is too large to be printed, its size stands in its place, and the derivation is of the term itself.
use Rattle.std.specs.Prelude.{◌≡◌, ◌⊎◌, ℕ, List, [], ◌∷◌, ◌++◌, All, true, Option, None, Some, Ok, slice_get, unwrap_or}
use Rattle.json.specs.Print.{quoted}
use Rattle.ld_trees.specs.Term.{Term, nodes, depth}
use Rattle.ld_rules.specs.Legality.{IsLegalEnvironment}
use Rattle.ld_terms.specs.Names.{IsTextName}
use Rattle.ld_terms.specs.declared.globals.Item.{Item}
use Rattle.term_syntax.specs.Lex.{Text}
use Rattle.term_syntax.specs.Grammar.{IsText}
use Rattle.term_syntax.specs.Scoping.{scope}
use Rattle.term_syntax.specs.declared.surface.Surface.{Surface}
use Rattle.term_text.specs.Printed.{is_large, shown}
use Rattle.term_text.specs.Scoped.{arities}
use Rattle.meta_context.specs.Plain.{rules_env}
use Rattle.goal_state.specs.State.{State, IsLegalState, root_type, root_value}
use Rattle.goal_state.specs.Laws.{IsProof}
use Rattle.state_print.specs.Pieces.{is_solved, proof_json}
use Rattle.reply_text.specs.Shown.{size_json}
use Rattle.repl_json.specs.declared.reply.Line.TheVariants as line
use Rattle.repl_json.specs.declared.request.Ask.{Ask}
use Rattle.repl_json.specs.declared.request.Ask.TheVariants.{Start, Print}
use Rattle.state_tree.specs.declared.work.Entry.{Entry}
use Rattle.state_tree.specs.declared.work.Gave.TheVariants.{Answer}
use Rattle.state_tree.specs.Server.{seq_of, state_at, early_case, reply, replay}
use Rattle.state_tree.specs.Marks.{marks_of}
use Rattle.command_set.specs.Goals.{printed}
use Rattle.command_set.specs.Values.{value}

-- a text is one of the grammar that means the closed term, in an environment and without names
abbrev pub ReadsAs : List (Item Term) → Text → Term → Type 0
ReadsAs items text t = (s : Surface) × IsText text s × (scope (arities items) [] s [] ≡ Ok t)

-- ---- where a state comes from

-- the text of the `goal.start` from which a state comes, where the state that the request names first comes from that one
abbrev pub theorem_text : Ask → Option Text → Text
theorem_text (Start env expr fuel) named = expr
theorem_text ask named = unwrap_or named []

-- for each state of a history, in the order of their ids
abbrev pub theorem_texts : List (Item Term) → List Entry → List Text
theorem_texts book history = marks_of value theorem_text book history

-- ---- what environments and states have in every history over a legal book

-- a legal environment, whose items have names of the texts
pub record IsSound (items : List (Item Term)) : Type 0 where
  pub legal : IsLegalEnvironment (rules_env items)
  pub named : All (λ i. IsTextName i.name) items

-- a legal state over such an environment, of the theorem that the text is
pub record Proves (text : Text) (s : State) : Type 0 where
  pub legal : IsLegalState s
  pub sound : IsSound s.items
  pub theorem : ReadsAs s.items text (root_type s)

-- ---- what is shown of a solved state

-- the JSON text is a string that reads as the term; or the term is too large, and it is its size
abbrev pub ShowsTerm : List (Item Term) → Term → List ℕ → Type 0
ShowsTerm items t json =
    ((text : Text) × (json ≡ quoted text) × ReadsAs items text t)
    ⊎ ((is_large t ≡ true) × (json ≡ size_json (shown (depth t)) (shown (nodes t))))

-- a proof of the theorem is shown
abbrev pub ShowsProof : State → Option (List ℕ) → Type 0
ShowsProof s None = ⊥
ShowsProof s (Some json) = IsProof s (root_value s) × ShowsTerm s.items (root_value s) json

-- The reply prints the state of the id, as `state_print` says it. The state is legal, and of the theorem that the text of its
-- `goal.start` is. Where it is solved, the reply shows a proof of that theorem.
pub record Prints (book : List (Item Term)) (before : List Entry) (entry : Entry) (id : ℕ) : Type 0 where
  pub state : State
  pub held : state_at (replay value book before) (Some id) ≡ Some state
  pub line_is : reply value (replay value book before) entry ≡ line.Given (printed state) (seq_of (replay value book before)) None
  pub text : Text
  pub begun : slice_get (theorem_texts book before) id ≡ Some text
  pub proves : Proves text state
  pub proof : is_solved state ≡ true → ShowsProof state (proof_json state)

-- The entry asks for a state, and is refused neither by its number nor by the state that it names nor for want of memory: it prints it so.
abbrev pub PrintsSoundly : List (Item Term) → List Entry → Entry → Type 0
PrintsSoundly book before entry = (id : ℕ) → entry.request.ask ≡ Print id → early_case (replay value book before) entry.request ≡ None → entry.gave ≡ Answer → Prints book before entry id

-- each entry of a history does
abbrev pub AllPrintSoundly : List (Item Term) → List Entry → Type 0
AllPrintSoundly book history = (before after : List Entry) (entry : Entry) → history ≡ before ++ entry ∷ after → PrintsSoundly book before entry

-- ---- the laws

-- in every history over a sound book each environment is sound, and each state is legal and of the theorem of its `goal.start`
abbrev pub StatesProve : Type 0
StatesProve = (book : List (Item Term)) (history : List Entry) → IsSound book → (id : ℕ) (s : State) → state_at (replay value book history) (Some id) ≡ Some s
    → (text : Text) × (slice_get (theorem_texts book history) id ≡ Some text) × Proves text s

-- every history over a sound book prints soundly
abbrev pub PrintedProofsAreProofs : Type 0
PrintedProofsAreProofs = (book : List (Item Term)) (history : List Entry) → IsSound book → AllPrintSoundly book history
