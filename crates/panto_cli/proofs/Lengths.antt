-- A generated session is short.
use Rattle.std.proofs.Common.{◌≡◌, ℕ, zero, suc, ◌+◌, ◌*◌, ◌^◌, ◌<◌, ◌≤◌, List, ◌++◌, length, codes, decimal, refl, ap, arith, length-append}
use Rattle.std.proofs.lemmas.Fmt.{length-decimal-le}
use Rattle.session_maker.specs.Generator.{arrows, chosen, number as drawn, states_before}
use Rattle.session_maker.specs.Session.{repeated, start_line, move_line, hypothesis, intro_lines, tries_line, print_line, delete_line, round_text, session}
use Rattle.panto_cli.proofs.Rounds.{few_arrows, few_chosen, few_states}

decimal_short : (n : ℕ) → n < 2 ^ 63 → length (decimal n) ≤ 20
decimal_short n small = length-decimal-le 20 n (omega arith) (omega (arith, small)) (omega (arith, small))

repeated_length : (n : ℕ) → length (repeated (codes " -> A") n) ≡ n * 5
repeated_length zero = refl
repeated_length (suc n) = omega (arith, length-append (repeated (codes " -> A") n) (codes " -> A"), repeated_length n, five)
  where
    five : length (codes " -> A") ≡ 5
    five = refl

hypothesis_short : (k : ℕ) → k < 2 ^ 63 → length (hypothesis k) ≤ 21
hypothesis_short k small = omega (arith, length-append (codes "x") (decimal k), decimal_short k small, one)
  where
    one : length (codes "x") ≡ 1
    one = refl

intro_short : (k : ℕ) → k < 2 ^ 63 → length (codes "intro " ++ hypothesis k) ≤ 27
intro_short k small = omega (arith, length-append (codes "intro ") (hypothesis k), hypothesis_short k small, six)
  where
    six : length (codes "intro ") ≡ 6
    six = refl

start_short : (n : ℕ) → n ≤ 4 → length (start_line n) ≤ 100
unfolding start_line
start_short n few =
    let l0 : length (codes "goal.start {\"expr\":\"(A : *) -> A") ≡ 32 = refl in
    let l2 : length (codes "\"}\n") ≡ 3 = refl in
    omega (arith, length-append (codes "goal.start {\"expr\":\"(A : *) -> A") (repeated (codes " -> A") n), length-append (codes "goal.start {\"expr\":\"(A : *) -> A" ++ repeated (codes " -> A") n) (codes "\"}\n"), l0, l2, few, repeated_length n)

move_short : (state : ℕ) (move : List ℕ) → state < 2 ^ 63 → length move ≤ 27 → length (move_line state move) ≤ 100
unfolding move_line
move_short state move small few =
    let l0 : length (codes "goal.move {\"stateId\":") ≡ 21 = refl in
    let l2 : length (codes ",\"move\":\"") ≡ 9 = refl in
    let l4 : length (codes "\"}\n") ≡ 3 = refl in
    omega (arith, length-append (codes "goal.move {\"stateId\":") (decimal state), length-append (codes "goal.move {\"stateId\":" ++ decimal state) (codes ",\"move\":\""), length-append (codes "goal.move {\"stateId\":" ++ decimal state ++ codes ",\"move\":\"") (move), length-append (codes "goal.move {\"stateId\":" ++ decimal state ++ codes ",\"move\":\"" ++ move) (codes "\"}\n"), l0, l2, l4, decimal_short state small, few)

tries_short : (state index : ℕ) → state < 2 ^ 63 → index < 2 ^ 63 → length (tries_line state index) ≤ 200
unfolding tries_line
tries_short state index small few =
    let l0 : length (codes "goal.tries {\"stateId\":") ≡ 22 = refl in
    let l2 : length (codes ",\"tries\":[{\"move\":\"assumption\"},{\"move\":\"exact ") ≡ 47 = refl in
    let l4 : length (codes "\"}]}\n") ≡ 5 = refl in
    omega (arith, length-append (codes "goal.tries {\"stateId\":") (decimal state), length-append (codes "goal.tries {\"stateId\":" ++ decimal state) (codes ",\"tries\":[{\"move\":\"assumption\"},{\"move\":\"exact "), length-append (codes "goal.tries {\"stateId\":" ++ decimal state ++ codes ",\"tries\":[{\"move\":\"assumption\"},{\"move\":\"exact ") (hypothesis index), length-append (codes "goal.tries {\"stateId\":" ++ decimal state ++ codes ",\"tries\":[{\"move\":\"assumption\"},{\"move\":\"exact " ++ hypothesis index) (codes "\"}]}\n"), l0, l2, l4, decimal_short state small, hypothesis_short index few)

print_short : (state : ℕ) → state < 2 ^ 63 → length (print_line state) ≤ 100
unfolding print_line
print_short state small =
    let l0 : length (codes "goal.print {\"stateId\":") ≡ 22 = refl in
    let l2 : length (codes "}\n") ≡ 2 = refl in
    omega (arith, length-append (codes "goal.print {\"stateId\":") (decimal state), length-append (codes "goal.print {\"stateId\":" ++ decimal state) (codes "}\n"), l0, l2, decimal_short state small)

delete_short : (state : ℕ) → state < 2 ^ 63 → length (delete_line state) ≤ 100
unfolding delete_line
delete_short state small =
    let l0 : length (codes "goal.delete {\"stateId\":") ≡ 23 = refl in
    let l2 : length (codes "}\n") ≡ 2 = refl in
    omega (arith, length-append (codes "goal.delete {\"stateId\":") (decimal state), length-append (codes "goal.delete {\"stateId\":" ++ decimal state) (codes "}\n"), l0, l2, decimal_short state small)

intros_short : (start n : ℕ) → start + n < 2 ^ 62 → length (intro_lines start n) ≤ n * 100
intros_short start zero small = omega arith
intros_short start (suc n) small =
    omega (
      arith,
      length-append (intro_lines start n) (move_line (start + n + 1) (codes "intro " ++ hypothesis (n + 1))),
      intros_short start n (omega (arith, small)),
      move_short (start + n + 1) (codes "intro " ++ hypothesis (n + 1)) (omega (arith, small)) (intro_short (n + 1) (omega (arith, small))),
    )

round_short : (start x : ℕ) → start < 2 ^ 61 → length (round_text start x) ≤ 1000
unfolding round_text
round_short start x small =
    let k = arrows x in
    let kf : k ≤ 4 = few_arrows x in
    let s = start_line k in
    let m = move_line start (codes "intro A") in
    let i = intro_lines start k in
    let t = tries_line (start + k + 1) (chosen x) in
    let p = print_line (start + k + 3) in
    let seven : length (codes "intro A") ≡ 7 = refl in
    omega (
      arith,
      length-append (s ++ m ++ i ++ t ++ p) (delete_line start),
      length-append (s ++ m ++ i ++ t) p,
      length-append (s ++ m ++ i) t,
      length-append (s ++ m) i,
      length-append s m,
      start_short k kf,
      move_short start (codes "intro A") (omega (arith, small)) (omega (arith, seven)),
      intros_short start k (omega (arith, small, kf)),
      tries_short (start + k + 1) (chosen x) (omega (arith, small, kf)) (omega (arith, few_chosen x)),
      print_short (start + k + 3) (omega (arith, small, kf)),
      delete_short start (omega (arith, small)),
      kf,
    )

session_length : (seed rounds : ℕ) → rounds ≤ 10000 → length (session seed rounds) ≤ rounds * 1000
session_length seed zero few = omega arith
session_length seed (suc n) few =
    let text = round_text (states_before seed n) (drawn seed (suc n)) in
    omega (arith, length-append (session seed n) text, session_length seed n (omega (arith, few)), round_short (states_before seed n) (drawn seed (suc n)) (omega (arith, few, few_states seed n)))

pub session_is_short : (seed rounds : ℕ) (text : List ℕ) → rounds ≤ 10000 → text ≡ session seed rounds → length text ≤ 2 ^ 40
session_is_short seed rounds text few is = omega (arith, ap length is, session_length seed rounds few)
