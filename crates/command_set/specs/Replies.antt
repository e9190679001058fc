-- What each command says is a reply: one line, and no memory line.
use Rattle.std.proofs.Common.{◌≡◌, ℕ, true, List, [], ◌∷◌, map, reverse, Option, Some, None, Result, Ok, Err, codes, refl}
use Rattle.json.specs.Print.{escape_byte, quoted}
use Rattle.ld_trees.specs.Term.{Term, none}
use Rattle.ld_terms.specs.Items.{item_named}
use Rattle.ld_terms.specs.declared.globals.Item.{Item}
use Rattle.term_syntax.specs.Lex.{Text}
use Rattle.term_syntax.specs.Input.{place}
use Rattle.term_syntax.specs.Reading.{Outcome as Parsed, read}
use Rattle.term_syntax.specs.Printing.{Names}
use Rattle.term_syntax.specs.Scoping.{Resolved, scope}
use Rattle.term_syntax.specs.declared.surface.Surface.{Surface}
use Rattle.term_text.specs.Scoped.{arities}
use Rattle.conversion.specs.Runs.{Outcome, Gave, Refused, OutOfFuel}
use Rattle.conversion.specs.Runs as runs
use Rattle.kernel_check.specs.Inference.{infer}
use Rattle.goal_state.specs.State.{State}
use Rattle.goal_state.specs.Starting.{Started, TooDeep, Inferred, started}
use Rattle.unification.specs.Steps as steps
use Rattle.unification.specs.Refusals as unification
use Rattle.elaboration.specs.Refusals as elaboration
use Rattle.move_set.specs.Refusals as move
use Rattle.move_set.specs.Moves.{moved}
use Rattle.state_print.proofs.Lines.{shown_states_are_replies}
use Rattle.continue_resume.specs.Continuing.{Continued, TargetHasGoals, RootDiffers, Continues, continued}
use Rattle.continue_resume.specs.Resuming.{Resumed, GoalUndeclared, GoalAssigned, Resumes, resumed}
use Rattle.book_reader.specs.Items.{ItemRefusal, NameTaken, Scope, Kernel, Fuel}
use Rattle.book_reader.specs.Book.{BookRefusal, Syntax, AtItem, book_value}
use Rattle.meta_context.specs.Entered.{names_of}
use Rattle.meta_context.specs.Plain.{rules_env}
use Rattle.repl_json.specs.OneLine.{memory_front, differ, IsReply}
use Rattle.repl_json.proofs.OneLineLemmas.{unbroken-quoted, bad_is_reply}
use Rattle.repl_json.specs.declared.request.Ask.{Ask}
use Rattle.repl_json.specs.declared.request.Ask.TheVariants.{Echo, EnvAdd, EnvInspect, EnvCatalog, Start, Move, Continue, Resume, Print}
use Rattle.repl_json.specs.declared.request.Bad.TheVariants.{Json}
use Rattle.reply_text.specs.Members.{body_text}
use Rattle.reply_text.specs.Context.{shown_names}
use Rattle.reply_text.proofs.ReplyLines.{ArePlain, AreUnbroken, reply_of, number_plain, string_plain, term_unbroken, array_unbroken, context_unbroken, syntax_reply, fuel_reply, taken_reply, no_item_reply, plain_reply, goal_reply, out_of_scope_reply, no_goal_reply, unknown_name_reply, wrong_count_reply, unsolved_reply, no_expected_reply, scoping_reply, kernel_reply}
use Rattle.state_tree.specs.declared.work.Found.{Found}
use Rattle.state_tree.specs.Replies.{SaysReply}
use Rattle.command_set.specs.Echo.{typed, inferred, resolved, parsed, echo}
use Rattle.command_set.specs.Books.{item_refusal, book_refusal, added}
use Rattle.command_set.specs.Inspect.{kind_of, value_of, front, back, item_members, found_item, inspect, catalog}
use Rattle.command_set.specs.Goals.{Given, unify_refusal, elab_refusal, of_name, move_refusal, printed, makes, inferred as first_inferred, begun, resolved as first_resolved, parsed as first_parsed, start, made}
use Rattle.command_set.specs.Branches.{target_has_goals, went_on, made_active}
use Rattle.command_set.specs.Values.{on, added_value, value}

-- ---- `expr.echo`

typed_reply : (t T : Term) → IsReply (body_text (typed t T))
typed_reply t T = reply_of (typed t T) ((refl, term_unbroken [] t), tt) ((refl, term_unbroken [] T), tt) refl

inferred_reply : (t : Term) (o : Outcome Term) → IsReply (body_text (inferred t o))
inferred_reply t (Gave T left) = typed_reply t T
inferred_reply t (Refused r left) = kernel_reply None r
inferred_reply t OutOfFuel = fuel_reply None

resolved_reply : (items : List (Item Term)) (fuel : ℕ) (r : Resolved Term) → IsReply (body_text (resolved items fuel r))
resolved_reply items fuel (Ok t) = inferred_reply t (infer (rules_env items) none t fuel)
resolved_reply items fuel (Err fault) = scoping_reply None fault

parsed_reply : (items : List (Item Term)) (fuel : ℕ) (p : Parsed Surface) → IsReply (body_text (parsed items fuel p))
parsed_reply items fuel (Ok p) = resolved_reply items fuel (scope (arities items) [] p.0 [])
parsed_reply items fuel (Err input) = syntax_reply (place input)

echo_reply : (items : List (Item Term)) (expr : Text) (fuel : ℕ) → IsReply (body_text (echo items expr fuel))
unfolding echo
echo_reply items expr fuel = parsed_reply items fuel (read expr)

-- ---- `env.add`

item_reply : (k : ℕ) (r : ItemRefusal) → IsReply (body_text (item_refusal k r))
item_reply k (NameTaken name) = taken_reply (Some k) name
item_reply k (Scope fault) = scoping_reply (Some k) fault
item_reply k (Kernel r) = kernel_reply (Some k) r
item_reply k Fuel = fuel_reply (Some k)

book_reply : (r : BookRefusal) → IsReply (body_text (book_refusal r))
unfolding book_refusal
book_reply (Syntax at) = syntax_reply at
book_reply (AtItem k r) = item_reply k r

added_reply : IsReply added
added_reply = record { other = refl; first = refl; second = refl; third = refl }

-- ---- `env.inspect` and `env.catalog`

value_plain : (names : Names) (body : Option Term) → ArePlain (value_of names body)
value_plain names None = tt
value_plain names (Some body) = ((refl, term_unbroken names body), tt)

item_shown : (i : Item Term) → IsReply (body_text (item_members i))
unfolding item_members
item_shown i =
    reply_of (record { before = front i; after = back i })
    (string_plain (codes "kind") (kind_of i.body) refl, ((refl, context_unbroken (names_of i.params) (map (λ l. l.ty) i.params)), tt))
    ((refl, term_unbroken (shown_names (names_of i.params)) i.ty), value_plain (shown_names (names_of i.params)) i.body) refl

found_reply : (name : Text) (o : Option (Item Term)) → IsReply (body_text (found_item name o))
found_reply name None = no_item_reply name
found_reply name (Some i) = item_shown i

inspect_reply : (items : List (Item Term)) (name : Text) → IsReply (body_text (inspect items name))
unfolding inspect
inspect_reply items name = found_reply name (item_named items name)

names_unbroken : (is : List (Item Term)) → AreUnbroken (map (λ i. quoted i.name) is)
names_unbroken [] = tt
names_unbroken (i ∷ is) = (unbroken-quoted i.name, names_unbroken is)

catalog_reply : (items : List (Item Term)) → IsReply (body_text (catalog items))
unfolding catalog
catalog_reply items = reply_of (catalog items) ((refl, array_unbroken (map (λ i. quoted i.name) (reverse items)) (names_unbroken (reverse items))), tt) tt refl

-- ---- `goal.start`, `goal.move` and `goal.print`

makes_reply : (s : State) → SaysReply (makes s)
makes_reply s = (shown_states_are_replies s).0

printed_reply : (s : State) → IsReply (printed s)
printed_reply s = (shown_states_are_replies s).1

first_inferred_reply : (o : Outcome State) → SaysReply (first_inferred o)
first_inferred_reply (Gave s left) = makes_reply s
first_inferred_reply (Refused r left) = kernel_reply None r
first_inferred_reply OutOfFuel = fuel_reply None

begun_reply : (o : Started) → SaysReply (begun o)
unfolding escape_byte
begun_reply (TooDeep m) = goal_reply (codes "tooDeep") m refl
begun_reply (Inferred o) = first_inferred_reply o

first_resolved_reply : (items : List (Item Term)) (fuel : ℕ) (r : Resolved Term) → SaysReply (first_resolved items fuel r)
first_resolved_reply items fuel (Ok t) = begun_reply (started items t fuel)
first_resolved_reply items fuel (Err fault) = scoping_reply None fault

first_parsed_reply : (items : List (Item Term)) (fuel : ℕ) (p : Parsed Surface) → SaysReply (first_parsed items fuel p)
first_parsed_reply items fuel (Ok p) = first_resolved_reply items fuel (scope (arities items) [] p.0 [])
first_parsed_reply items fuel (Err input) = syntax_reply (place input)

start_reply : (items : List (Item Term)) (expr : Text) (fuel : ℕ) → SaysReply (start items expr fuel)
unfolding start
start_reply items expr fuel = first_parsed_reply items fuel (read expr)

unify_reply : (r : unification.Refusal) → IsReply (body_text (unify_refusal r))
unfolding escape_byte
unify_reply (unification.Kernel r) = kernel_reply None r
unify_reply (unification.Mismatch depth found wanted) = kernel_reply None (runs.Mismatch depth found wanted)
unify_reply (unification.NotPattern m) = goal_reply (codes "notPattern") m refl
unify_reply (unification.Scope m level) = out_of_scope_reply m level
unify_reply (unification.Cycle m) = goal_reply (codes "cycle") m refl
unify_reply (unification.TooDeep m) = goal_reply (codes "tooDeep") m refl
unify_reply unification.TooManyMetas = plain_reply (codes "tooManyMetas") refl

elab_reply : (r : elaboration.Refusal) → IsReply (body_text (elab_refusal r))
unfolding escape_byte
elab_reply (elaboration.Unify r) = unify_reply r
elab_reply (elaboration.UnknownName at name) = unknown_name_reply None at name
elab_reply (elaboration.WrongCount at name given wanted) = wrong_count_reply None at name given wanted
elab_reply (elaboration.NoExpected at) = no_expected_reply at
elab_reply (elaboration.NotFunction depth t found) = kernel_reply None (runs.NotFunction depth t found)
elab_reply (elaboration.NotType depth t) = kernel_reply None (runs.NotType depth t)
elab_reply elaboration.TooManyMetas = plain_reply (codes "tooManyMetas") refl

name_reply : (error name : List ℕ) → differ (body_text (of_name error name)).first memory_front ≡ true → IsReply (body_text (of_name error name))
name_reply error name other = reply_of (of_name error name) (string_plain (codes "error") error refl, (string_plain (codes "name") name refl, tt)) tt other

move_reply : (r : move.Refusal) → IsReply (body_text (move_refusal r))
unfolding move_refusal escape_byte
move_reply (move.Syntax at) = syntax_reply at
move_reply (move.NoGoal index count) = no_goal_reply index count
move_reply (move.NameTaken name) = taken_reply None name
move_reply move.NotProduct = plain_reply (codes "notProduct") refl
move_reply move.NoAssumption = plain_reply (codes "noAssumption") refl
move_reply (move.NotDefined name) = name_reply (codes "notDefined") name refl
move_reply (move.NoOccurrence name) = name_reply (codes "noOccurrence") name refl
move_reply (move.Unsolved at) = unsolved_reply None at
move_reply (move.Elab r) = elab_reply r
move_reply move.TooManyMetas = plain_reply (codes "tooManyMetas") refl

made_reply : (o : move.Outcome State) → SaysReply (made o)
made_reply (steps.Gave s left) = makes_reply s
made_reply (steps.Refused r left) = move_reply r
made_reply steps.OutOfFuel = fuel_reply None

-- ---- `goal.continue` and `goal.resume`

target_reply : (count : ℕ) → IsReply (body_text (target_has_goals count))
target_reply count = reply_of (target_has_goals count) (number_plain (codes "count") count refl, (string_plain (codes "error") (codes "targetHasGoals") refl, tt)) tt refl

went_on_reply : (o : Continued) → SaysReply (went_on o)
unfolding escape_byte
went_on_reply (TargetHasGoals count) = target_reply count
went_on_reply RootDiffers = plain_reply (codes "rootDiffers") refl
went_on_reply (Continues s) = makes_reply s

active_reply : (o : Resumed) → SaysReply (made_active o)
unfolding escape_byte
active_reply (GoalUndeclared m) = goal_reply (codes "goalUndeclared") m refl
active_reply (GoalAssigned m) = goal_reply (codes "goalAssigned") m refl
active_reply (Resumes s) = makes_reply s

-- ---- the value of each command

added_is_reply : (r : Result (List (Item Term)) BookRefusal) → SaysReply {E = List (Item Term)} {S = State} (added_value r)
added_is_reply (Ok items) = added_reply
added_is_reply (Err r) = book_reply r

on_reply : {A : Type 0} (o : Option A) (f : A → Given) → ((x : A) → SaysReply (f x)) → SaysReply (on o f)
on_reply None f h = bad_is_reply Json
on_reply (Some x) f h = h x

pub value_reply : (ask : Ask) (found : Found (List (Item Term)) State) → SaysReply (value ask found)
unfolding value
value_reply (Echo env expr fuel) found = on_reply found.env _ (λ items. echo_reply items expr fuel)
value_reply (EnvAdd env text fuel) found = on_reply found.env _ (λ items. added_is_reply (book_value items fuel text))
value_reply (EnvInspect env name) found = on_reply found.env _ (λ items. inspect_reply items name)
value_reply (EnvCatalog env) found = on_reply found.env _ (λ items. catalog_reply items)
value_reply (Start env expr fuel) found = on_reply found.env _ (λ items. start_reply items expr fuel)
value_reply (Move state goal text fuel auto) found = on_reply found.one _ (λ s. made_reply (moved s goal text fuel auto))
value_reply (Continue target branch) found = on_reply found.one _ (λ s. on_reply found.two _ (λ t. went_on_reply (continued s t)))
value_reply (Resume state goals) found = on_reply found.one _ (λ s. active_reply (resumed s goals))
value_reply (Print state) found = on_reply found.one _ (λ s. printed_reply s)
value_reply ask found = bad_is_reply Json
