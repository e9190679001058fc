-- How many requests the lines of a generated session have.
use Rattle.std.proofs.Common.{◌≡◌, ℕ, zero, suc, ◌+◌, ◌*◌, ◌^◌, ◌<◌, ◌≤◌, Bool, true, false, not, ◌&&◌, cond, List, [], ◌∷◌, ◌++◌, length, get_or, All, Option, Some, None, Ok, Err, codes, decimal, refl, sym, ap, ◌∙◌, arith, subst, append_assoc, length-append, map, ◌-◌, ◌==◌, take, option_map, option_and_then}
use Rattle.std.specs.List.{AllByRecursion as ByRecursion}
use Rattle.std.specs.Str.Lines.{strip_carriage_return}
use Rattle.std.specs.Str.{is_utf8}
use Rattle.std.proofs.lemmas.List.Elements.{All-from_recursion}
use Rattle.std.proofs.lemmas.List.Folds.{list_all-append}
use Rattle.std.proofs.lemmas.Bool.{ne_eqb}
use Rattle.std.proofs.lemmas.Fmt.{decimal_is_IsNumeral, decimal_digit}
use Rattle.std.proofs.lemmas.Str.Parse.{digit_at}
use Rattle.json.specs.Token.{Token, begin_object, end_object, begin_array, end_array, key, string, number}
use Rattle.json.specs.Lex.{lex, tokens}
use Rattle.json.specs.Json as json
use Rattle.json.specs.Json.{items, members, value}
use Rattle.json.specs.Print.{ArePrintable, IsNumber, escape_byte, print, print_from}
use Rattle.json.proofs.Printed.Tokens.{tokens-print}
use Rattle.json.proofs.Printed.Decimals.{IsNumber-decimal}
use Rattle.serde_json.specs.Data.{Data, Num, put}
use Rattle.serde_json.specs.Data as kinds
use Rattle.serde_json.specs.Read.{of_json, of_members, number_of, read}
use Rattle.pan_io.specs.Text.{is_line_end, lines_of}
use Rattle.pan_io.proofs.TextLemmas.{lines_of-line}
use Rattle.repl_json.specs.OneLine.{is_unbroken}
use Rattle.repl_json.specs.Json.{if_object, object_of}
use Rattle.repl_json.specs.Field.{value_in}
use Rattle.repl_json.specs.Fields as field
use Rattle.repl_json.specs.Fields.{try_of}
use Rattle.repl_json.specs.Command.{command_named, goal_command_named}
use Rattle.repl_json.specs.Table.{Reading, ◌>>=◌, need, with_after, all_or_refused, asked, try_all}
use Rattle.repl_json.specs.Request.{of_payload, payload_of, requests_by, requests_of}
use Rattle.repl_json.specs.declared.command.Command.TheVariants as command
use Rattle.repl_json.specs.declared.request.Request.{Request}
use Rattle.session_server.specs.Input.{requests_of_line, requests_of_lines}
use Rattle.session_maker.specs.Generator.{arrows}
use Rattle.session_maker.specs.Session.{repeated, start_line, move_line, hypothesis, intro_lines, tries_line, print_line, delete_line}

-- ---- bytes without a line end

is_not : (b : Bool) → not b ≡ true → b ≡ false
is_not true h = sym h
is_not false h = refl

left_of : (a b : Bool) → (a && b) ≡ true → a ≡ true
left_of true b h = refl
left_of false b h = h

right_of : (a b : Bool) → (a && b) ≡ true → b ≡ true
right_of true b h = h
right_of false b h = absurd cc

both : (a b : Bool) → a ≡ true → b ≡ true → (a && b) ≡ true
both true b p q = q
both false b p q = p

abbrev Open : List ℕ → Type 0
Open bytes = is_unbroken bytes ≡ true

by_recursion : (xs : List ℕ) → Open xs → ByRecursion (λ b. is_line_end b ≡ false) xs
by_recursion [] h = tt
by_recursion (x ∷ xs) h = (is_not (is_line_end x) (left_of (not (is_line_end x)) (is_unbroken xs) h), by_recursion xs (right_of (not (is_line_end x)) (is_unbroken xs) h))

none_ends : (xs : List ℕ) → Open xs → All (λ b. is_line_end b ≡ false) xs
none_ends xs h = All-from_recursion (λ b. is_line_end b ≡ false) xs (by_recursion xs h)

open_both : (xs ys : List ℕ) → Open xs → Open ys → Open (xs ++ ys)
open_both xs ys p q = list_all-append (λ b. not (is_line_end b)) xs ys ∙ both (is_unbroken xs) (is_unbroken ys) p q

open_digits : (ds : List ℕ) → ((i : ℕ) → i < length ds → (48 ≤ get_or ds i 0) × (get_or ds i 0 ≤ 57)) → Open ds
open_digits [] h = refl
open_digits (d ∷ ds) h =
    let first : 48 ≤ d = (h 0 (omega arith)).0 in
    both (not (is_line_end d)) (is_unbroken ds) (ap not (ne_eqb d 10 (λ e. omega (arith, e, first)))) (open_digits ds (λ i l. h (suc i) (omega (arith, l))))

open_decimal : (n : ℕ) → n < 2 ^ 64 → Open (decimal n)
open_decimal n h = open_digits (decimal n) (λ i l. digit_at (decimal n) i (decimal_is_IsNumeral n h).0.1 l)

-- ---- lines

last_is : (front : List ℕ) (x : ℕ) → get_or (front ++ x ∷ []) (length front) 0 ≡ x
last_is [] x = refl
last_is (y ∷ front) x = last_is front x

-- a line that ends in a brace has no carriage return to lose
strip_closed : (front : List ℕ) → strip_carriage_return (front ++ 125 ∷ []) ≡ front ++ 125 ∷ []
strip_closed front =
    let here : length (front ++ 125 ∷ []) - 1 ≡ length front = omega (arith, length-append front (125 ∷ [])) in
    let last : get_or (front ++ 125 ∷ []) (length (front ++ 125 ∷ []) - 1) 0 ≡ 125 = ap (λ i. get_or (front ++ 125 ∷ []) i 0) here ∙ last_is front 125 in
    ap (λ x. cond (x == 13) (take (length (front ++ 125 ∷ []) - 1) (front ++ 125 ∷ [])) (front ++ 125 ∷ [])) last

abbrev pub count : List ℕ → ℕ
count text = length (requests_of_lines (lines_of text))

-- a line that ends in a brace, in front of a text
count_line : (front rest : List ℕ) → Open front → count (front ++ 125 ∷ 10 ∷ rest) ≡ length (requests_of_line (front ++ 125 ∷ [])) + count rest
count_line front rest h =
    let raw = front ++ 125 ∷ [] in
    ap count (sym (append_assoc front (125 ∷ []) (10 ∷ rest)))
    ∙ ap (λ ls. length (requests_of_lines ls)) (lines_of-line raw rest (none_ends raw (open_both front (125 ∷ []) h refl)))
    ∙ length-append (requests_of_line (strip_carriage_return raw)) (requests_of_lines (lines_of rest))
    ∙ ap (λ l. length (requests_of_line l) + count rest) (strip_closed front)

few_by : (n k most : ℕ) → n ≡ k → k ≤ most → n ≤ most
few_by n k most is few = omega (arith, is, few)

by_length : (long blank : Bool) (one : Request) (rs : List Request) (most : ℕ) → 1 ≤ most → length rs ≤ most → length (cond long (one ∷ []) (cond blank [] rs)) ≤ most
by_length true blank one rs most some few = some
by_length false true one rs most some few = few_by 0 0 most refl (omega arith)
by_length false false one rs most some few = few

line_few : (line : List ℕ) (most : ℕ) → 1 ≤ most → length (requests_of line) ≤ most → length (requests_of_line line) ≤ most
unfolding requests_of_line
line_few line most some few = by_length _ _ _ (requests_of line) most some few

-- ---- the requests of a line of one request

start_one : (payload : Option Data) → length (of_payload (codes "goal.start") payload) ≡ 1
unfolding requests_by command_named goal_command_named asked
start_one None = refl
start_one (Some whole) = refl

start_few : (rest : List ℕ) → length (requests_of_line (codes "goal.start" ++ 32 ∷ rest)) ≤ 1
unfolding requests_of
start_few rest = line_few (codes "goal.start" ++ 32 ∷ rest) 1 (omega arith) (few_by _ 1 1 (start_one (payload_of (32 ∷ rest))) (omega arith))

move_one : (payload : Option Data) → length (of_payload (codes "goal.move") payload) ≡ 1
unfolding requests_by command_named goal_command_named asked
move_one None = refl
move_one (Some whole) = refl

move_few : (rest : List ℕ) → length (requests_of_line (codes "goal.move" ++ 32 ∷ rest)) ≤ 1
unfolding requests_of
move_few rest = line_few (codes "goal.move" ++ 32 ∷ rest) 1 (omega arith) (few_by _ 1 1 (move_one (payload_of (32 ∷ rest))) (omega arith))

print_one : (payload : Option Data) → length (of_payload (codes "goal.print") payload) ≡ 1
unfolding requests_by command_named goal_command_named asked
print_one None = refl
print_one (Some whole) = refl

print_few : (rest : List ℕ) → length (requests_of_line (codes "goal.print" ++ 32 ∷ rest)) ≤ 1
unfolding requests_of
print_few rest = line_few (codes "goal.print" ++ 32 ∷ rest) 1 (omega arith) (few_by _ 1 1 (print_one (payload_of (32 ∷ rest))) (omega arith))

delete_one : (payload : Option Data) → length (of_payload (codes "goal.delete") payload) ≡ 1
unfolding requests_by command_named goal_command_named asked
delete_one None = refl
delete_one (Some whole) = refl

delete_few : (rest : List ℕ) → length (requests_of_line (codes "goal.delete" ++ 32 ∷ rest)) ≤ 1
unfolding requests_of
delete_few rest = line_few (codes "goal.delete" ++ 32 ∷ rest) 1 (omega arith) (few_by _ 1 1 (delete_one (payload_of (32 ∷ rest))) (omega arith))

-- ---- the requests of the line of tries

-- the tokens of its payload, in which the state is written so
abbrev try_tokens : List ℕ → List Token → List Token
try_tokens text rest = begin_object ∷ key (codes "move") ∷ string text ∷ end_object ∷ rest

abbrev tries_tokens : List ℕ → List ℕ → List Token
tries_tokens state move =
    begin_object ∷ key (codes "stateId") ∷ number state ∷ key (codes "tries") ∷ begin_array
    ∷ try_tokens (codes "assumption") (try_tokens move (end_array ∷ end_object ∷ []))

abbrev try_json : List ℕ → json.Json
try_json text = json.object (json.member (codes "move") (json.string text) json.no_members)

abbrev tries_json : List ℕ → List ℕ → json.Json
tries_json state move =
    json.object (json.member (codes "stateId") (json.number state)
    (json.member (codes "tries") (json.array (json.item (try_json (codes "assumption")) (json.item (try_json move) json.no_items))) json.no_members))

abbrev try_data : List ℕ → Data
try_data text = kinds.object (kinds.member (codes "move") (kinds.string text) kinds.no_members)

abbrev tries_data : Num → List ℕ → Data
tries_data state move =
    kinds.object (kinds.member (codes "stateId") (kinds.number state)
    (kinds.member (codes "tries") (kinds.array (kinds.item (try_data (codes "assumption")) (kinds.item (try_data move) kinds.no_items))) kinds.no_members))

parsed : (state move : List ℕ) → value 127 (tries_tokens state move) ≡ Some (tries_json state move, [])
unfolding items members value
parsed state move = refl

abbrev with_state : List ℕ → Option Num → Option Data
with_state move None = None
with_state move (Some n) = Some (tries_data n move)

abbrev made : List ℕ → Option Num → Option Data
made move state =
    option_map kinds.object (option_and_then (λ d. of_members (json.member (codes "tries") (json.array (json.item (try_json (codes "assumption")) (json.item (try_json move) json.no_items))) json.no_members) (put (codes "stateId") d kinds.no_members))
    (option_map kinds.number state))

made_is : (move : List ℕ) (state : Option Num) → made move state ≡ with_state move state
made_is move None = refl
made_is move (Some n) = refl

read_is : (state move : List ℕ) → of_json (tries_json state move) ≡ with_state move (number_of state)
read_is state move = made_is move (number_of state)

-- what is asked once the state is read
abbrev tries_on : Data → Reading ℕ → Reading (List Request)
tries_on payload state = do
  s ← state
  asks ← need (field.tries s) payload
  after ← need field.after payload
  Ok (map (with_after after) asks)

two_tries : (n : Num) (move : List ℕ) (state : Reading ℕ) → length (all_or_refused (tries_on (tries_data n move) state)) ≤ 2
unfolding value_in try_of
two_tries n move (Err name) = few_by _ 1 2 refl (omega arith)
two_tries n move (Ok s) = few_by _ 2 2 refl (omega arith)

asked_few : (n : Num) (move : List ℕ) → length (asked command.Tries (tries_data n move)) ≤ 2
unfolding asked try_all
asked_few n move = two_tries n move (need field.state_id (tries_data n move))

payload_few : (move : List ℕ) (n : Option Num) (valid : Bool) → length (of_payload (codes "goal.tries") (option_and_then if_object (cond valid (with_state move n) None))) ≤ 2
unfolding requests_by command_named goal_command_named
payload_few move n false = few_by _ 1 2 refl (omega arith)
payload_few move None true = few_by _ 1 2 refl (omega arith)
payload_few move (Some n) true = asked_few n move

-- the payload's text
abbrev tries_text : List ℕ → List ℕ → List ℕ
tries_text state move = print (tries_tokens state move)

tokens_of : (state move : List ℕ) → IsNumber state → tokens (32 ∷ tries_text state move) ≡ tries_tokens state move
unfolding lex ArePrintable
tokens_of state move h = tokens-print (tries_tokens state move) (tt, (tt, (h, (tt, (tt, (tt, (tt, (tt, (tt, (tt, (tt, (tt, (tt, (tt, (tt, tt)))))))))))))))

text_few : (state move : List ℕ) → IsNumber state → length (of_payload (codes "goal.tries") (object_of (32 ∷ tries_text state move))) ≤ 2
unfolding object_of
text_few state move h =
    let text = 32 ∷ tries_text state move in
    let is : read text ≡ with_state move (number_of state) =
    ap (λ ts. option_and_then of_json (option_and_then (λ p. json.if_last p.0 p.1) (value 127 ts))) (tokens_of state move h)
    ∙ ap (λ o. option_and_then of_json (option_and_then (λ p. json.if_last p.0 p.1) o)) (parsed state move)
    ∙ read_is state move in
    subst (λ o. length (of_payload (codes "goal.tries") (option_and_then if_object (cond (is_utf8 text) o None))) ≤ 2) (sym is) (payload_few move (number_of state) (is_utf8 text))

-- ---- each line in front of a text

as_line : (front end rest : List ℕ) → (front ++ (end ++ 125 ∷ 10 ∷ [])) ++ rest ≡ (front ++ end) ++ 125 ∷ 10 ∷ rest
as_line front end rest =
    append_assoc front (end ++ 125 ∷ 10 ∷ []) rest ∙ ap (λ l. front ++ l) (append_assoc end (125 ∷ 10 ∷ []) rest) ∙ sym (append_assoc front end (125 ∷ 10 ∷ rest))

counted : (front end rest : List ℕ) (most : ℕ) → Open (front ++ end) → length (requests_of_line ((front ++ end) ++ 125 ∷ [])) ≤ most → count ((front ++ (end ++ 125 ∷ 10 ∷ [])) ++ rest) ≤ most + count rest
counted front end rest most h few = omega (arith, ap count (as_line front end rest), count_line (front ++ end) rest h, few)

open_repeated : (n : ℕ) → Open (repeated (codes " -> A") n)
open_repeated zero = refl
open_repeated (suc n) = open_both (repeated (codes " -> A") n) (codes " -> A") (open_repeated n) refl

pub start_count : (n : ℕ) (rest : List ℕ) → count (start_line n ++ rest) ≤ 1 + count rest
unfolding start_line
start_count n rest =
    let arrows = repeated (codes " -> A") n in
    let front = codes "goal.start {\"expr\":\"(A : *) -> A" ++ arrows in
    counted front (34 ∷ []) rest 1 (open_both front (34 ∷ []) (open_both (codes "goal.start {\"expr\":\"(A : *) -> A") arrows refl (open_repeated n)) refl)
    (start_few (((codes "{\"expr\":\"(A : *) -> A" ++ arrows) ++ 34 ∷ []) ++ 125 ∷ []))

pub move_count : (state : ℕ) (move rest : List ℕ) → state < 2 ^ 64 → Open move → count (move_line state move ++ rest) ≤ 1 + count rest
unfolding move_line
move_count state move rest small h =
    let a = codes "goal.move {\"stateId\":" in
    let b = codes ",\"move\":\"" in
    let front = ((a ++ decimal state) ++ b) ++ move in
    counted front (34 ∷ []) rest 1
    (open_both front (34 ∷ []) (open_both ((a ++ decimal state) ++ b) move (open_both (a ++ decimal state) b (open_both a (decimal state) refl (open_decimal state small)) refl) h) refl)
    (move_few (((((codes "{\"stateId\":" ++ decimal state) ++ b) ++ move) ++ 34 ∷ []) ++ 125 ∷ []))

open_intro : (k : ℕ) → k < 2 ^ 64 → Open (codes "intro " ++ hypothesis k)
open_intro k small = open_both (codes "intro ") (hypothesis k) refl (open_both (codes "x") (decimal k) refl (open_decimal k small))

pub intros_count : (start n : ℕ) (rest : List ℕ) → start + n < 2 ^ 63 → count (intro_lines start n ++ rest) ≤ n + count rest
intros_count start zero rest small = omega arith
intros_count start (suc n) rest small =
    let line = move_line (start + n + 1) (codes "intro " ++ hypothesis (n + 1)) in
    omega (
      arith,
      ap count (append_assoc (intro_lines start n) line rest),
      intros_count start n (line ++ rest) (omega (arith, small)),
      move_count (start + n + 1) (codes "intro " ++ hypothesis (n + 1)) rest (omega (arith, small)) (open_intro (n + 1) (omega (arith, small))),
    )

pub print_count : (state : ℕ) (rest : List ℕ) → state < 2 ^ 64 → count (print_line state ++ rest) ≤ 1 + count rest
unfolding print_line
print_count state rest small =
    let front = codes "goal.print {\"stateId\":" ++ decimal state in
    counted front [] rest 1 (open_both front [] (open_both (codes "goal.print {\"stateId\":") (decimal state) refl (open_decimal state small)) refl)
    (print_few (((codes "{\"stateId\":" ++ decimal state) ++ []) ++ 125 ∷ []))

pub delete_count : (state : ℕ) (rest : List ℕ) → state < 2 ^ 64 → count (delete_line state ++ rest) ≤ 1 + count rest
unfolding delete_line
delete_count state rest small =
    let front = codes "goal.delete {\"stateId\":" ++ decimal state in
    counted front [] rest 1 (open_both front [] (open_both (codes "goal.delete {\"stateId\":") (decimal state) refl (open_decimal state small)) refl)
    (delete_few (((codes "{\"stateId\":" ++ decimal state) ++ []) ++ 125 ∷ []))

-- six pieces
pub regroup : (a b c d e f : List ℕ) → a ++ b ++ c ++ d ++ e ++ f ≡ a ++ (b ++ (c ++ (d ++ (e ++ f))))
regroup a b c d e f =
    append_assoc (a ++ b ++ c ++ d) e f ∙ append_assoc (a ++ b ++ c) d (e ++ f) ∙ append_assoc (a ++ b) c (d ++ (e ++ f)) ∙ append_assoc a b (c ++ (d ++ (e ++ f)))

-- the line of tries, without its end
abbrev tries_front : List ℕ → List ℕ → List ℕ
tries_front state hypothesis = codes "goal.tries {\"stateId\":" ++ state ++ codes ",\"tries\":[{\"move\":\"assumption\"},{\"move\":\"exact " ++ hypothesis ++ codes "\"}]"

abbrev IsTries : List ℕ → List ℕ → Type 0
IsTries state hypothesis = tries_front state hypothesis ++ 125 ∷ [] ≡ codes "goal.tries" ++ 32 ∷ tries_text state (codes "exact " ++ hypothesis)

with_1 : (state : List ℕ) → IsTries state (codes "x1")
unfolding print_from escape_byte
with_1 state = regroup (codes "goal.tries {\"stateId\":") state (codes ",\"tries\":[{\"move\":\"assumption\"},{\"move\":\"exact ") (codes "x1") (codes "\"}]") (125 ∷ [])

with_2 : (state : List ℕ) → IsTries state (codes "x2")
unfolding print_from escape_byte
with_2 state = regroup (codes "goal.tries {\"stateId\":") state (codes ",\"tries\":[{\"move\":\"assumption\"},{\"move\":\"exact ") (codes "x2") (codes "\"}]") (125 ∷ [])

with_3 : (state : List ℕ) → IsTries state (codes "x3")
unfolding print_from escape_byte
with_3 state = regroup (codes "goal.tries {\"stateId\":") state (codes ",\"tries\":[{\"move\":\"assumption\"},{\"move\":\"exact ") (codes "x3") (codes "\"}]") (125 ∷ [])

with_4 : (state : List ℕ) → IsTries state (codes "x4")
unfolding print_from escape_byte
with_4 state = regroup (codes "goal.tries {\"stateId\":") state (codes ",\"tries\":[{\"move\":\"assumption\"},{\"move\":\"exact ") (codes "x4") (codes "\"}]") (125 ∷ [])

tries_line_few : (state hypothesis : List ℕ) → IsNumber state → IsTries state hypothesis → length (requests_of_line (tries_front state hypothesis ++ 125 ∷ [])) ≤ 2
unfolding requests_of print_from
tries_line_few state hypothesis h is =
    let line = codes "goal.tries" ++ 32 ∷ tries_text state (codes "exact " ++ hypothesis) in
    subst (λ l. length (requests_of_line l) ≤ 2) (sym is) (line_few line 2 (omega arith) (text_few state (codes "exact " ++ hypothesis) h))

is_tries : (state : List ℕ) (index : ℕ) → 0 < index → index ≤ 4 → IsTries state (hypothesis index)
is_tries state zero some few = absurd (omega (arith, some))
is_tries state (suc zero) some few = subst (λ ds. IsTries state (codes "x" ++ ds)) (sym (decimal_digit 1 (omega arith))) (with_1 state)
is_tries state (suc (suc zero)) some few = subst (λ ds. IsTries state (codes "x" ++ ds)) (sym (decimal_digit 2 (omega arith))) (with_2 state)
is_tries state (suc (suc (suc zero))) some few = subst (λ ds. IsTries state (codes "x" ++ ds)) (sym (decimal_digit 3 (omega arith))) (with_3 state)
is_tries state (suc (suc (suc (suc zero)))) some few = subst (λ ds. IsTries state (codes "x" ++ ds)) (sym (decimal_digit 4 (omega arith))) (with_4 state)
is_tries state (suc (suc (suc (suc (suc n))))) some few = absurd (omega (arith, few))

pub tries_count : (state index : ℕ) (rest : List ℕ) → state < 2 ^ 64 → 0 < index → index ≤ 4 → count (tries_line state index ++ rest) ≤ 2 + count rest
unfolding tries_line
tries_count state index rest small some few =
    let a = codes "goal.tries {\"stateId\":" in
    let b = codes ",\"tries\":[{\"move\":\"assumption\"},{\"move\":\"exact " in
    let front = a ++ decimal state ++ b ++ hypothesis index in
    let whole = open_both front (codes "\"}]")
    (open_both (a ++ decimal state ++ b) (hypothesis index) (open_both (a ++ decimal state) b (open_both a (decimal state) refl (open_decimal state small)) refl)
    (open_both (codes "x") (decimal index) refl (open_decimal index (omega (arith, few)))))
    refl in
    counted front (codes "\"}]") rest 2 whole (tries_line_few (decimal state) (hypothesis index) (IsNumber-decimal state small) (is_tries (decimal state) index some few))
