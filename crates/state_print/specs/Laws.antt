-- The laws of printed states that this crate proves.
use Rattle.std.specs.Prelude.{◌≡◌, ◌↔◌, true, length}
use Rattle.repl_json.specs.OneLine.{IsReply}
use Rattle.goal_state.specs.State.{State, IsLegalState, IsSolved, root_type}
use Rattle.state_print.specs.Pieces.{unfolded, goal_texts, is_solved, state_text}
use Rattle.state_print.specs.Bodies.{made_body, printed_body}

-- a legal state shows each of its active goals
abbrev pub EachGoalIsShown : Type 0
EachGoalIsShown = (s : State) → IsLegalState s → length (goal_texts s.metas s.goals) ≡ length s.goals

-- a state is shown as solved exactly where no goal is open
abbrev pub SolvedIsShown : Type 0
SolvedIsShown = (s : State) → (is_solved s ≡ true) ↔ IsSolved s

-- no metavariable of a legal state's theorem is left to be unfolded, so it prints as it stands
abbrev pub TheoremIsUnfolded : Type 0
TheoremIsUnfolded = (s : State) → IsLegalState s → unfolded s.metas (root_type s) ≡ root_type s

-- the replies that show a state are lines, and none is the memory line
abbrev pub ShownStatesAreReplies : Type 0
ShownStatesAreReplies = (s : State) → IsReply (made_body (state_text s)) × IsReply (printed_body (state_text s))
