-- In every history over a sound book the states are legal and prove the theorems of their `goal.start`, and printed proofs are proofs.
use Rattle.std.proofs.Common.{◌≡◌, ℕ, List, [], ◌∷◌, Bool, true, false, if◌then◌else◌, Option, None, Some, Result, Ok, Err, slice_get, option_map, refl, sym, ap, ◌∙◌, subst}
use Rattle.std.specs.Prelude.{unwrap_or}
use Rattle.std.proofs.lemmas.Option.{same_Some}
use Rattle.ld_trees.specs.Term.{Sort, Term, none, ◌▹◌}
use Rattle.ld_terms.specs.declared.globals.Item.{Item}
use Rattle.ld_terms.specs.declared.globals.Decl.{Decl}
use Rattle.term_syntax.specs.Lex.{Text}
use Rattle.term_syntax.specs.Grammar.{IsText}
use Rattle.term_syntax.specs.Reading.{Outcome as Parsed, read}
use Rattle.term_syntax.specs.Scoping.{Resolved, scope}
use Rattle.term_syntax.specs.declared.surface.Surface.{Surface}
use Rattle.term_syntax.proofs.Texts.{read_sound}
use Rattle.term_text.specs.Scoped.{arities}
use Rattle.conversion.specs.Runs as kernel
use Rattle.kernel_check.specs.Inference.{infer_sort}
use Rattle.meta_context.specs.Limits.{is_too_deep}
use Rattle.meta_context.specs.Plain.{rules_env}
use Rattle.book_reader.specs.Book.{BookRefusal, book_value}
use Rattle.book_reader.proofs.Whole.{legal_all, book_named}
use Rattle.book_reader.specs.Reading as books
use Rattle.goal_state.specs.State.{State, IsLegalState, HasRoot, root_type, root_value}
use Rattle.goal_state.specs.Starting.{Started, TooDeep, Inferred, first_state, started}
use Rattle.goal_state.specs.Following.{Extend}
use Rattle.goal_state.proofs.Starts.{starting_is_legal}
use Rattle.goal_state.proofs.Rooted.{solved_is_proved}
use Rattle.unification.specs.Steps as steps
use Rattle.move_set.specs.Refusals as move
use Rattle.move_set.specs.Moves.{moved}
use Rattle.move_set.proofs.States.{moving_is_legal, moving_keeps}
use Rattle.continue_resume.specs.Continuing.{Continued, TargetHasGoals, RootDiffers, Continues, continued}
use Rattle.continue_resume.specs.Resuming.{Resumed, GoalUndeclared, GoalAssigned, Resumes, resumed}
use Rattle.continue_resume.proofs.Legal.{continuing_is_legal, resuming_is_legal}
use Rattle.state_print.specs.Pieces.{is_solved, proof_json}
use Rattle.state_print.proofs.Shown.{solved_is_shown}
use Rattle.reply_text.specs.Shown.{term_json}
use Rattle.repl_json.specs.declared.reply.Line.TheVariants as line
use Rattle.repl_json.specs.declared.request.Ask.{Ask}
use Rattle.repl_json.specs.declared.request.Ask.TheVariants.{Echo, EnvAdd, EnvInspect, EnvCatalog, Start, Move, Continue, Resume, Print}
use Rattle.state_tree.specs.declared.slot.Slot.{Slot}
use Rattle.state_tree.specs.declared.work.Entry.{Entry}
use Rattle.state_tree.specs.declared.work.Gave.TheVariants.{Answer}
use Rattle.state_tree.specs.Server.{PlainTree, Stepped, ◌or◌, or_else, seq_of, unless_live, state_at, found_in, bad_case, ahead_case, unknown_case, unknown_state, flag_case, early_case, memory_case, value_case, answer, reply, replay}
use Rattle.state_tree.specs.Value.{Says}
use Rattle.state_tree.specs.Marks.{HasIt, IsIt, Makes, IsInherited}
use Rattle.state_tree.proofs.Inherited.{replay_holds, has_state}
use Rattle.command_set.specs.Goals.{Given, printed, begun, resolved, parsed, start, made, move_on}
use Rattle.command_set.specs.Branches.{went_on, continue_with, made_active, resume_with}
use Rattle.command_set.specs.Values.{on, added_value, value}
use Rattle.command_set.specs.Theorems.{ReadsAs, theorem_text, theorem_texts, IsSound, Proves, ShowsProof, Prints, StatesProve, PrintedProofsAreProofs}
use Rattle.command_set.proofs.ReadBack.{proof_reads}

-- what a value makes is sound, or proves the text
abbrev MakesSo : Text → Given → Type 0
MakesSo text v = Makes IsSound Proves text v

-- ---- `goal.start`

same_start : (b : Bool) (o : kernel.Outcome Sort) (S s : State) (left : ℕ) → (if b then TooDeep 0 else Inferred (kernel.go_on o (λ _. kernel.pure S))) ≡ Inferred (kernel.Gave s left) → S ≡ s
same_start true o S s left e = absurd cc
same_start false (kernel.Gave z k) S s left e = cc
same_start false (kernel.Refused r k) S s left e = absurd cc
same_start false kernel.OutOfFuel S s left e = absurd cc

module _ (items : List (Item Term)) (expr : Text) (fuel : ℕ) (sound : IsSound items) where
  first_proves : (t : Term) → ReadsAs items expr t → (s : State) (left : ℕ) → started items t fuel ≡ Inferred (kernel.Gave s left) → Proves expr s
  first_proves t reads s left e =
      let same : first_state items t ≡ s = same_start (is_too_deep (none ▹ t)) (infer_sort (rules_env items) none t fuel) (first_state items t) s left e in
      record {
        legal = starting_is_legal items t fuel left s sound.legal e;
        sound = subst (λ (s : State). IsSound s.items) same sound;
        theorem = subst (λ (s : State). ReadsAs s.items expr (root_type s)) same reads;
      }

  begun_proves : (t : Term) → ReadsAs items expr t → (o : Started) → started items t fuel ≡ o → MakesSo expr (begun o)
  begun_proves t reads (TooDeep m) e = tt
  begun_proves t reads (Inferred (kernel.Gave s left)) e = first_proves t reads s left e
  begun_proves t reads (Inferred (kernel.Refused r left)) e = tt
  begun_proves t reads (Inferred kernel.OutOfFuel) e = tt

  resolved_proves : (s : Surface) → IsText expr s → (r : Resolved Term) → scope (arities items) [] s [] ≡ r → MakesSo expr (resolved items fuel r)
  resolved_proves s text (Ok t) e = begun_proves t (s, text, e) (started items t fuel) refl
  resolved_proves s text (Err fault) e = tt

  parsed_proves : (o : Parsed Surface) → read expr ≡ o → MakesSo expr (parsed items fuel o)
  parsed_proves (Ok p) e = resolved_proves p.0 (read_sound expr p.0 p.1 e) (scope (arities items) [] p.0 []) refl
  parsed_proves (Err i) e = tt

  start_proves : MakesSo expr (start items expr fuel)
  unfolding start
  start_proves = parsed_proves (read expr) refl

-- ---- `goal.move`

-- the type of metavariable 0 stays
root_kept : (Δ Δ' : List (Item Term)) (g g' : List ℕ) (ds cs : List (Decl Term)) → HasRoot ds → Extend ds cs
    → root_type (record { items = Δ'; metas = cs; goals = g' }) ≡ root_type (record { items = Δ; metas = ds; goals = g })
root_kept Δ Δ' g g' [] cs root extend = absurd root
root_kept Δ Δ' g g' (d ∷ ds) [] root extend = let x = extend 0 d refl in absurd (cc x.1)
root_kept Δ Δ' g g' (d ∷ ds) (c ∷ cs) root extend = let x = extend 0 d refl in ap (λ (c : Decl Term). c.ty) (same_Some _ _ x.1) ∙ x.2.ty

move_proves : (text : Text) (s : State) (goal : ℕ) (by : Text) (fuel : ℕ) (auto : Bool) → Proves text s → MakesSo text (move_on s goal by fuel auto)
move_proves text s goal by fuel auto proves = case (moved s goal by fuel auto) refl where
  case : (o : move.Outcome State) → moved s goal by fuel auto ≡ o → MakesSo text (made o)
  case (steps.Gave s' left) e =
      let keeps = moving_keeps s s' goal by fuel left auto proves.legal e in
      let root : root_type s' ≡ root_type s = root_kept s.items s'.items s.goals s'.goals s.metas s'.metas proves.legal.root keeps.1 in
      record {
        legal = moving_is_legal s s' goal by fuel left auto proves.legal e;
        sound = subst IsSound (sym keeps.0) proves.sound;
        theorem = subst (λ is. ReadsAs is text (root_type s')) (sym keeps.0) (subst (ReadsAs s.items text) (sym root) proves.theorem);
      }
  case (steps.Refused r left) e = tt
  case steps.OutOfFuel e = tt

-- ---- `goal.continue` and `goal.resume`

-- a state with the items and the metavariables of another one proves what that one proves, where it is legal
same_proves : (text : Text) (s s' : State) → Proves text s → IsLegalState s' → s'.items ≡ s.items → s'.metas ≡ s.metas → Proves text s'
same_proves text s s' proves legal items metas =
    let root : root_type s' ≡ root_type s = same_root s.items s'.items s.goals s'.goals s.metas s'.metas metas in
    record {
      legal = legal;
      sound = subst IsSound (sym items) proves.sound;
      theorem = subst (λ is. ReadsAs is text (root_type s')) (sym items) (subst (ReadsAs s.items text) (sym root) proves.theorem);
    }
  where
    same_root : (Δ Δ' : List (Item Term)) (g g' : List ℕ) (ds cs : List (Decl Term)) → cs ≡ ds → root_type (record { items = Δ'; metas = cs; goals = g' }) ≡ root_type (record { items = Δ; metas = ds; goals = g })
    same_root Δ Δ' g g' [] [] e = refl
    same_root Δ Δ' g g' [] (c ∷ cs) e = absurd cc
    same_root Δ Δ' g g' (d ∷ ds) [] e = absurd cc
    same_root Δ Δ' g g' (d ∷ ds) (c ∷ cs) e = ap (λ (ds : List (Decl Term)). root_type (record { items = Δ; metas = ds; goals = g })) e

continue_proves : (text : Text) (s t : State) → Proves text s → IsLegalState t → MakesSo text (continue_with s t)
continue_proves text s t proves legal = case (continued s t) refl where
  case : (o : Continued) → continued s t ≡ o → MakesSo text (went_on o)
  case (TargetHasGoals count) e = tt
  case RootDiffers e = tt
  case (Continues s') e = let l = continuing_is_legal s t s' proves.legal legal e in same_proves text s s' proves l.0 l.1 l.2

resume_proves : (text : Text) (s : State) (goals : List ℕ) → Proves text s → MakesSo text (resume_with s goals)
resume_proves text s goals proves = case (resumed s goals) refl where
  case : (o : Resumed) → resumed s goals ≡ o → MakesSo text (made_active o)
  case (GoalUndeclared m) e = tt
  case (GoalAssigned m) e = tt
  case (Resumes s') e = let l = resuming_is_legal s s' goals proves.legal e in same_proves text s s' proves l.0 l.1 l.2

-- ---- `env.add`

added_sound : (text : Text) (items : List (Item Term)) (fuel : ℕ) (book : Text) → IsSound items → MakesSo text (added_value (book_value items fuel book))
added_sound text items fuel book sound = case (book_value items fuel book) refl where
  case : (r : Result (List (Item Term)) BookRefusal) → book_value items fuel book ≡ r → MakesSo text (added_value r)
  case (Ok all) e = record { legal = legal_all fuel items (books.read book) all sound.legal e; named = book_named fuel items book all sound.named e }
  case (Err r) e = tt

-- ---- every command

on_makes : {A : Type 0} (text : Text) (o : Option A) (f : A → Given) → ((x : A) → o ≡ Some x → MakesSo text (f x)) → MakesSo text (on o f)
on_makes text None f h = tt
on_makes text (Some x) f h = h x refl

moved_on : (m : Option Text) (s : State) (goal : ℕ) (by : Text) (fuel : ℕ) (auto : Bool) → IsIt IsSound Proves (Some s) m → MakesSo (unwrap_or m []) (move_on s goal by fuel auto)
moved_on None s goal by fuel auto h = absurd h
moved_on (Some x) s goal by fuel auto h = move_proves x s goal by fuel auto h

continued_on : (m n : Option Text) (s t : State) → IsIt IsSound Proves (Some s) m → IsIt IsSound Proves (Some t) n → MakesSo (unwrap_or m []) (continue_with s t)
continued_on None n s t h k = absurd h
continued_on (Some x) None s t h k = absurd k
continued_on (Some x) (Some y) s t h k = continue_proves x s t h k.legal

resumed_on : (m : Option Text) (s : State) (goals : List ℕ) → IsIt IsSound Proves (Some s) m → MakesSo (unwrap_or m []) (resume_with s goals)
resumed_on None s goals h = absurd h
resumed_on (Some x) s goals h = resume_proves x s goals h

inherited : IsInherited IsSound Proves value theorem_text
unfolding value
inherited (Echo env expr fuel) found m n p q r = on_makes _ found.env _ (λ items e. tt)
inherited (EnvAdd env text fuel) found m n p q r = on_makes _ found.env _ (λ items e. added_sound _ items fuel text (subst (HasIt IsSound Proves) e p))
inherited (EnvInspect env name) found m n p q r = on_makes _ found.env _ (λ items e. tt)
inherited (EnvCatalog env) found m n p q r = on_makes _ found.env _ (λ items e. tt)
inherited (Start env expr fuel) found m n p q r = on_makes _ found.env _ (λ items e. start_proves items expr fuel (subst (HasIt IsSound Proves) e p))
inherited (Move state goal by fuel auto) found m n p q r = on_makes _ found.one _ (λ s e. moved_on m s goal by fuel auto (subst (λ o. IsIt IsSound Proves o m) e q))
inherited (Continue target branch) found m n p q r =
    on_makes _ found.one _
    (λ s e. on_makes _ found.two _ (λ t f. continued_on m n s t (subst (λ o. IsIt IsSound Proves o m) e q) (subst (λ o. IsIt IsSound Proves o n) f r)))
inherited (Resume state goals) found m n p q r = on_makes _ found.one _ (λ s e. resumed_on m s goals (subst (λ o. IsIt IsSound Proves o m) e q))
inherited (Print state) found m n p q r = on_makes _ found.one _ (λ s e. tt)
inherited ask found m n p q r = tt

-- ---- the states of a history

pub states_prove : StatesProve
states_prove book history sound id s e =
    let hold = replay_holds IsSound Proves value theorem_text inherited book history sound in
    let it = has_state IsSound Proves (replay value book history) (theorem_texts book history) (Some id) hold.each_state in
    case (slice_get (theorem_texts book history) id) refl (subst (λ o. IsIt IsSound Proves o (slice_get (theorem_texts book history) id)) e it)
  where
    case : (o : Option Text) → slice_get (theorem_texts book history) id ≡ o → IsIt IsSound Proves (Some s) o → (text : Text) × (slice_get (theorem_texts book history) id ≡ Some text) × Proves text s
    case None at h = absurd h
    case (Some text) at h = (text, at, h)

-- ---- what is printed

-- a proof is shown of a solved state
proof_is_shown : (text : Text) (s : State) → Proves text s → is_solved s ≡ true → ShowsProof s (proof_json s)
unfolding proof_json
proof_is_shown text s proves e =
    let p = solved_is_proved s proves.legal ((solved_is_shown s).0 e) in
    subst (λ b. ShowsProof s (if b then Some (term_json [] (root_value s)) else None)) (sym e) (p, proof_reads s.items proves.sound.named (root_type s) (root_value s) p.derives p.whole p.closed)

both_none : {A : Type 0} (x y : Option A) → (x or y) ≡ None → (x ≡ None) × (y ≡ None)
both_none None y e = (refl, e)
both_none (Some x) y e = absurd cc

live_slot : (t : PlainTree (List (Item Term)) State) (id : ℕ) (o : Option (Slot State)) → slice_get t.states id ≡ o → unless_live t id o ≡ None → (slot : Slot State) × (slice_get t.states id ≡ Some slot)
live_slot t id None at e = absurd cc
live_slot t id (Some slot) at e = (slot, at)

-- a state that may be printed is there
printable : (t : PlainTree (List (Item Term)) State) (after id : ℕ) → early_case t (record { after = after; ask = Print id }) ≡ None → (s : State) × (state_at t (Some id) ≡ Some s)
printable t after id e =
    let a = both_none (bad_case t (Print id)) _ e in
    let b = both_none (ahead_case t after) _ a.1 in
    let c = both_none (unknown_case t (Print id)) (flag_case t (Print id)) b.1 in
    let d = both_none (unknown_state t (Some id)) None c.0 in
    let slot = live_slot t id (slice_get t.states id) refl d.0 in
    (slot.0.state, ap (option_map (λ slot. slot.state)) slot.1)

-- and is printed
printed_line : (t : PlainTree (List (Item Term)) State) (pass after id : ℕ) (s : State) → early_case t (record { after = after; ask = Print id }) ≡ None → state_at t (Some id) ≡ Some s
    → reply value t (record { pass = pass; request = record { after = after; ask = Print id }; gave = Answer }) ≡ line.Given (printed s) (seq_of t) None
unfolding answer value
printed_line t pass after id s early at =
    ap (λ (o : Option (Stepped (List (Item Term)) State)). (or_else (o or memory_case t Answer) (value_case t (value (Print id) (found_in t (Print id))))).line) early
    ∙ ap (λ o. (value_case t (on o (λ (s : State). Says (printed s)))).line) at

prints_at : (book : List (Item Term)) (before : List Entry) (pass after id : ℕ) → IsSound book → early_case (replay value book before) (record { after = after; ask = Print id }) ≡ None
    → Prints book before (record { pass = pass; request = record { after = after; ask = Print id }; gave = Answer }) id
prints_at book before pass after id sound early =
    let t = replay value book before in
    let s = printable t after id early in
    let p = states_prove book before sound id s.0 s.1 in
    record {
      state = s.0;
      held = s.1;
      line_is = printed_line t pass after id s.0 early s.1;
      text = p.0;
      begun = p.1;
      proves = p.2;
      proof = proof_is_shown p.0 s.0 p.2;
    }

pub printed_proofs_are_proofs : PrintedProofsAreProofs
printed_proofs_are_proofs book history sound before after entry e id ask early gave =
    let same : record { pass = entry.pass; request = record { after = entry.request.after; ask = Print id }; gave = Answer } ≡ entry = λ i. record { pass = entry.pass; request = record { after = entry.request.after; ask = sym ask i }; gave = sym gave i } in
    let early' = subst (λ (a : Ask). early_case (replay value book before) (record { after = entry.request.after; ask = a }) ≡ None) ask early in
    subst (λ (x : Entry). Prints book before x id) same (prints_at book before entry.pass entry.request.after id sound early')
