-- Replies that show a state: the one that makes it, and the one that prints it.
use Rattle.std.specs.Prelude.{ℕ, List, [], ◌∷◌, ◌++◌, Bool, true, false, Option, Some, None, codes}
use Rattle.repl_json.specs.declared.reply.Body.{Body}
use Rattle.reply_text.specs.Member.{Member}
use Rattle.reply_text.specs.declared.members.Members.{Members}
use Rattle.reply_text.specs.Members.{member_text, behind_comma, body_text}
use Rattle.state_print.specs.declared.text.StateText.{StateText}

abbrev pub bool_text : Bool → List ℕ
bool_text true = codes "true"
bool_text false = codes "false"

abbrev pub dormant_member : List ℕ → Member
dormant_member dormant = record { key = codes "dormant"; value = dormant }

abbrev pub goals_member : List ℕ → Member
goals_member goals = record { key = codes "goals"; value = goals }

abbrev pub solved_member : Bool → Member
solved_member b = record { key = codes "solved"; value = bool_text b }

-- the proof, where there is one
abbrev pub term_member : Option (List ℕ) → List Member
term_member None = []
term_member (Some term) = record { key = codes "term"; value = term } ∷ []

-- The reply that makes the state: its dormant goals, its active goals, a gap for `seq`, whether it is solved, and a gap for the new id,
-- `stateId`.
abbrev pub made_front : List ℕ → List ℕ → List ℕ
made_front dormant goals = 123 ∷ (member_text (dormant_member dormant) ++ (behind_comma (goals_member goals) ++ codes ",\"seq\":"))

abbrev pub made_middle : Bool → List ℕ
made_middle solved = behind_comma (solved_member solved) ++ codes ",\"stateId\":"

abbrev pub made_body : StateText → Body
made_body t = record {
  first = made_front t.dormant t.goals;
  second = made_middle t.solved;
  third = codes "}";
  id_first = false;
}

abbrev pub printed_members : StateText → Members
printed_members t = record { before = dormant_member t.dormant ∷ goals_member t.goals ∷ []; after = solved_member t.solved ∷ (term_member t.term ++ record { key = codes "type"; value = t.ty } ∷ []) }

-- The reply that prints the state: its dormant goals, its active goals, a gap for `seq`, whether it is solved, its proof where there is one, and the theorem.
abbrev pub printed_body : StateText → Body
printed_body t = body_text (printed_members t)
