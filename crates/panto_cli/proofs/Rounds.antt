-- A generated session has at most ten requests in a round.
use Rattle.std.proofs.Common.{◌≡◌, ℕ, zero, suc, ◌+◌, ◌*◌, ◌/◌, ◌^◌, ◌<◌, ◌≤◌, inr, List, [], ◌∷◌, ◌++◌, length, codes, decimal, refl, sym, ap, ◌∙◌, arith, subst, append_assoc, append-nil, length-append}
use Rattle.std.proofs.lemmas.List.Concat.{flat_map-append}
use Rattle.std.proofs.lemmas.Nat.{mod_below}
use Rattle.pan_io.specs.Text.{lines_of}
use Rattle.pan_io.specs.History.{IsWhole}
use Rattle.pan_io.proofs.TextLemmas.{lines_of-nil, lines_behind, nothing_is_whole}
use Rattle.session_server.specs.Input.{requests_of_line, requests_of_lines, requests_of_input}
use Rattle.session_maker.specs.Generator.{arrows, chosen, draw, number as drawn, states_before}
use Rattle.session_maker.specs.Session.{start_line, move_line, intro_lines, tries_line, print_line, delete_line, round_text, session}
use Rattle.panto_cli.specs.Demo.{room_of}
use Rattle.panto_cli.proofs.LineCounts.{count, start_count, move_count, intros_count, print_count, delete_count, tries_count, regroup}

pub few_arrows : (x : ℕ) → arrows x ≤ 4
unfolding arrows
few_arrows x = omega (arith, mod_below (draw x) 4 (omega arith))

some_chosen : (x : ℕ) → 0 < chosen x
unfolding chosen
some_chosen x = omega arith

some_arrows : (x : ℕ) → 0 < arrows x
unfolding arrows
some_arrows x = omega arith

pub few_chosen : (x : ℕ) → chosen x ≤ 4
unfolding chosen
few_chosen x = omega (arith, mod_below (draw x / 4) (arrows x) (some_arrows x), few_arrows x)

round_count : (start x : ℕ) → start < 2 ^ 62 → count (round_text start x) ≤ 10
unfolding round_text
round_count start x small =
    let k = arrows x in
    let e = chosen x in
    let kf : k ≤ 4 = few_arrows x in
    let f = delete_line start in
    let p = print_line (start + k + 3) in
    let t = tries_line (start + k + 1) e in
    let i = intro_lines start k in
    let m = move_line start (codes "intro A") in
    let none : count [] ≡ 0 = ap (λ ls. length (requests_of_lines ls)) lines_of-nil in
    let last : count f ≤ 1 + count [] = subst (λ l. count l ≤ 1 + count []) (append-nil f) (delete_count start [] (omega (arith, small))) in
    omega (
      arith,
      ap count (regroup (start_line k) m i t p f),
      start_count k (m ++ (i ++ (t ++ (p ++ f)))),
      move_count start (codes "intro A") (i ++ (t ++ (p ++ f))) (omega (arith, small)) refl,
      intros_count start k (t ++ (p ++ f)) (omega (arith, small, kf)),
      tries_count (start + k + 1) e (p ++ f) (omega (arith, small, kf)) (some_chosen x) (few_chosen x),
      print_count (start + k + 3) f (omega (arith, small, kf)),
      last,
      none,
      kf,
    )

delete_end : (state : ℕ) → (front : List ℕ) × (delete_line state ≡ front ++ 10 ∷ [])
unfolding delete_line
delete_end state = let front = codes "goal.delete {\"stateId\":" ++ decimal state in (front ++ 125 ∷ [], sym (append_assoc front (125 ∷ []) (10 ∷ [])))

round_end : (start x : ℕ) → (front : List ℕ) × (round_text start x ≡ front ++ 10 ∷ [])
unfolding round_text
round_end start x =
    let (front, is) = delete_end start in
    let before = start_line (arrows x) ++ move_line start (codes "intro A") ++ intro_lines start (arrows x) ++ tries_line (start + arrows x + 1) (chosen x) ++ print_line (start + arrows x + 3) in
    (before ++ front, ap (λ l. before ++ l) is ∙ sym (append_assoc before front (10 ∷ [])))

session_is_whole : (seed rounds : ℕ) → IsWhole (session seed rounds)
session_is_whole seed zero = nothing_is_whole
session_is_whole seed (suc n) =
    let (front, is) = round_end (states_before seed n) (drawn seed (suc n)) in
    inr (session seed n ++ front, ap (λ l. session seed n ++ l) is ∙ sym (append_assoc (session seed n) front (10 ∷ [])))

count_both : (seen more : List ℕ) → IsWhole seen → count (seen ++ more) ≡ count seen + count more
count_both seen more w =
    ap (λ ls. length (requests_of_lines ls)) (lines_behind seen more w) ∙ ap length (flat_map-append requests_of_line (lines_of seen) (lines_of more))
    ∙ length-append (requests_of_lines (lines_of seen)) (requests_of_lines (lines_of more))

pub few_states : (seed rounds : ℕ) → states_before seed rounds ≤ 8 * rounds
few_states seed zero = omega arith
few_states seed (suc n) = omega (arith, few_states seed n, few_arrows (drawn seed (suc n)))

session_count : (seed rounds : ℕ) → rounds ≤ 10000 → count (session seed rounds) ≤ 10 * rounds
session_count seed zero few = omega (arith, ap (λ ls. length (requests_of_lines ls)) lines_of-nil)
session_count seed (suc n) few =
    let text = round_text (states_before seed n) (drawn seed (suc n)) in
    omega (arith, count_both (session seed n) text (session_is_whole seed n), session_count seed n (omega (arith, few)), round_count (states_before seed n) (drawn seed (suc n)) (omega (arith, few, few_states seed n)))

-- the tree of so many rounds has room for every request
pub session_has_room : (seed rounds entries : ℕ) (text : List ℕ) → rounds ≤ 10000 → entries ≡ room_of rounds → text ≡ session seed rounds → length (requests_of_input text) ≤ entries
session_has_room seed rounds entries text few room is = omega (arith, ap count is, session_count seed rounds few, room)
