-- What replies show of a state: its active goals, its dormant goals, whether it is solved, the proof of a solved one, and the theorem.
-- Each term prints with assigned metavariables unfolded and nothing else reduced.
use Rattle.std.specs.Prelude.{ℕ, List, [], ◌∷◌, map, flat_map, Bool, true, false, Option, Some, None, slice_get, if◌then◌else◌, codes, decimal}
use Rattle.ld_trees.specs.Term.{Term}
use Rattle.ld_terms.specs.declared.globals.Local.{Local}
use Rattle.ld_terms.specs.declared.globals.Decl.{Decl}
use Rattle.meta_context.specs.Entered.{names_of}
use Rattle.meta_laws.specs.Unfolding.{unfold_metas}
use Rattle.goal_state.specs.State.{State, rules_metas, open_goals, dormant, root_type, root_value}
use Rattle.coupling.specs.Coupling.{coupled}
use Rattle.reply_text.specs.Member.{Member}
use Rattle.reply_text.specs.declared.members.Members.{Members}
use Rattle.reply_text.specs.Members.{number, object_text}
use Rattle.reply_text.specs.Shown.{term_json}
use Rattle.reply_text.specs.Context.{array_text, shown_names, context_json}
use Rattle.state_print.specs.declared.text.StateText.{StateText}

-- a term with each assigned metavariable replaced by its value, repeatedly
abbrev pub unfolded : List (Decl Term) → Term → Term
unfolded metas t = unfold_metas (rules_metas metas) t

-- numbers as a JSON list
abbrev pub numbers_json : List ℕ → List ℕ
numbers_json ms = array_text (map decimal ms)

-- ---- goals

abbrev pub unfolded_entry : List (Decl Term) → Local Term → Local Term
unfolded_entry metas l = record { name = l.name; ty = unfolded metas l.ty }

-- the open goals that are coupled with a goal
abbrev pub coupled_member : List ℕ → Member
coupled_member ms = record { key = codes "coupled"; value = numbers_json ms }

-- The goal of a number over a context: the goals coupled with it, the number, its type in the whole context, and the entries of the
-- context, each with its name and its type in the entries before it. A variable prints by the name that its entry has among them.
abbrev pub goal_over : List ℕ → ℕ → List (Local Term) → Term → Members
goal_over others m ctx ty = record {
  before =
      coupled_member others
      ∷ number (codes "goal") m
      ∷ record { key = codes "target"; value = term_json (shown_names (names_of ctx)) ty }
      ∷ record { key = codes "vars"; value = context_json (names_of ctx) (map (λ l. l.ty) ctx) }
      ∷ [];
  after = [];
}

-- the metavariable of a number as a goal, coupled with others
abbrev pub goal_json : List ℕ → List (Decl Term) → ℕ → Decl Term → List ℕ
goal_json others metas m d = object_text (goal_over others m (map (unfolded_entry metas) d.ctx) (unfolded metas d.ty))

abbrev pub found_goal : List (Decl Term) → ℕ → Option (Decl Term) → List (List ℕ)
found_goal metas m None = []
found_goal metas m (Some d) = goal_json (coupled metas m) metas m d ∷ []

-- goals of these numbers, in their order
abbrev pub goal_texts : List (Decl Term) → List ℕ → List (List ℕ)
goal_texts metas goals = flat_map (λ m. found_goal metas m (slice_get metas m)) goals

-- the active goals in their order, each of which is declared
unfoldable pub goals_json : State → List ℕ
goals_json s = array_text (goal_texts s.metas s.goals)

-- the numbers of the dormant goals, the least first
unfoldable pub dormant_json : State → List ℕ
dormant_json s = numbers_json (dormant s)

-- ---- the proof and the theorem

abbrev pub is_none_of : List ℕ → Bool
is_none_of [] = true
is_none_of (m ∷ ms) = false

-- whether no goal is open, active or dormant
abbrev pub is_solved : State → Bool
is_solved s = is_none_of (open_goals s)

-- the value of metavariable 0 in the empty context, where the state is solved
unfoldable pub proof_json : State → Option (List ℕ)
proof_json s = if is_solved s then Some (term_json [] (root_value s)) else None

-- the type of metavariable 0 in the empty context, in which no metavariable occurs
unfoldable pub theorem_json : State → List ℕ
theorem_json s = term_json [] (root_type s)

-- all that replies show of a state
abbrev pub state_text : State → StateText
state_text s = record { goals = goals_json s; dormant = dormant_json s; solved = is_solved s; term = proof_json s; ty = theorem_json s }
