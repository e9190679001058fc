-- The replies that show a state are lines, and none is the memory line.
use Rattle.std.proofs.Common.{◌≡◌, ℕ, Bool, true, false, List, [], ◌∷◌, ◌++◌, map, Option, Some, None, codes, decimal, refl}
use Rattle.std.specs.Prelude.{slice_get, if◌then◌else◌}
use Rattle.ld_trees.specs.Term.{Term}
use Rattle.ld_terms.specs.declared.globals.Local.{Local}
use Rattle.ld_terms.specs.declared.globals.Decl.{Decl}
use Rattle.meta_context.specs.Entered.{names_of}
use Rattle.repl_json.specs.OneLine.{is_unbroken, IsReply}
use Rattle.repl_json.proofs.OneLineLemmas.{unbroken-append, unbroken-decimal}
use Rattle.reply_text.specs.Context.{shown_names}
use Rattle.reply_text.specs.Shown.{term_json}
use Rattle.reply_text.proofs.ReplyLines.{ArePlain, plain-append, reply_of, number_plain, term_unbroken, AreUnbroken, array_unbroken, context_unbroken, object_unbroken}
use Rattle.goal_state.specs.State.{State, dormant, root_type, root_value}
use Rattle.coupling.specs.Coupling.{coupled}
use Rattle.state_print.specs.declared.text.StateText.{StateText}
use Rattle.state_print.specs.Pieces.{unfolded, numbers_json, unfolded_entry, goal_over, found_goal, goal_texts, goals_json, dormant_json, is_solved, proof_json, theorem_json, state_text}
use Rattle.state_print.specs.Bodies.{bool_text, term_member, made_body, printed_members, printed_body}
use Rattle.state_print.specs.Laws.{ShownStatesAreReplies}

-- ---- goals

digits_unbroken : (ms : List ℕ) → AreUnbroken (map decimal ms)
digits_unbroken [] = tt
digits_unbroken (m ∷ ms) = (unbroken-decimal m, digits_unbroken ms)

numbers_unbroken : (ms : List ℕ) → is_unbroken (numbers_json ms) ≡ true
numbers_unbroken ms = array_unbroken (map decimal ms) (digits_unbroken ms)

goal_unbroken : (others : List ℕ) (m : ℕ) (ctx : List (Local Term)) (ty : Term) → ArePlain (goal_over others m ctx ty).before
goal_unbroken others m ctx ty =
    ((refl, numbers_unbroken others), (number_plain (codes "goal") m refl, ((refl, term_unbroken (shown_names (names_of ctx)) ty), ((refl, context_unbroken (names_of ctx) (map (λ l. l.ty) ctx)), tt))))

all-append : (xs ys : List (List ℕ)) → AreUnbroken xs → AreUnbroken ys → AreUnbroken (xs ++ ys)
all-append [] ys p q = q
all-append (x ∷ xs) ys p q = (p.0, all-append xs ys p.1 q)

found_unbroken : (metas : List (Decl Term)) (m : ℕ) (o : Option (Decl Term)) → AreUnbroken (found_goal metas m o)
found_unbroken metas m None = tt
found_unbroken metas m (Some d) =
    let others = coupled metas m in
    (object_unbroken (goal_over others m (map (unfolded_entry metas) d.ctx) (unfolded metas d.ty)) (goal_unbroken others m (map (unfolded_entry metas) d.ctx) (unfolded metas d.ty)) tt, tt)

texts_unbroken : (metas : List (Decl Term)) (goals : List ℕ) → AreUnbroken (goal_texts metas goals)
texts_unbroken metas [] = tt
texts_unbroken metas (m ∷ ms) = all-append (found_goal metas m (slice_get metas m)) (goal_texts metas ms) (found_unbroken metas m (slice_get metas m)) (texts_unbroken metas ms)

-- ---- replies of pieces in one line

pub record IsOneLine (t : StateText) : Type 0 where
  pub goals : is_unbroken t.goals ≡ true
  pub dormant : is_unbroken t.dormant ≡ true
  pub term : ArePlain (term_member t.term)
  pub ty : is_unbroken t.ty ≡ true

bool_unbroken : (b : Bool) → is_unbroken (bool_text b) ≡ true
bool_unbroken true = refl
bool_unbroken false = refl

made_reply : (t : StateText) → IsOneLine t → IsReply (made_body t)
made_reply t p = record {
  other = refl;
  first = unbroken-append t.dormant _ p.dormant (unbroken-append t.goals (codes ",\"seq\":") p.goals refl);
  second = unbroken-append (bool_text t.solved) (codes ",\"stateId\":") (bool_unbroken t.solved) refl;
  third = refl;
}

printed_reply : (t : StateText) → IsOneLine t → IsReply (printed_body t)
printed_reply t p = reply_of (printed_members t) ((refl, p.dormant), ((refl, p.goals), tt)) ((refl, bool_unbroken t.solved), plain-append (term_member t.term) _ p.term ((refl, p.ty), tt)) refl

-- ---- the pieces of a state

proof_plain : (s : State) → ArePlain (term_member (proof_json s))
unfolding proof_json
proof_plain s = by (is_solved s) where
  by : (b : Bool) → ArePlain (term_member (if b then Some (term_json [] (root_value s)) else None))
  by true = ((refl, term_unbroken [] (root_value s)), tt)
  by false = tt

one_line : (s : State) → IsOneLine (state_text s)
unfolding goals_json dormant_json theorem_json
one_line s = record { goals = array_unbroken (goal_texts s.metas s.goals) (texts_unbroken s.metas s.goals); dormant = numbers_unbroken (dormant s); term = proof_plain s; ty = term_unbroken [] (root_type s) }

pub shown_states_are_replies : ShownStatesAreReplies
shown_states_are_replies s = (made_reply (state_text s) (one_line s), printed_reply (state_text s) (one_line s))
