-- One round more.
use Rattle.std.proofs.Common.{◌≡◌, ℕ, suc, ◌+◌, List, ◌++◌, ap, sym, ◌∙◌, arith}
use Rattle.std.specs.Prelude.{codes}
use Rattle.session_maker.specs.Generator.{next_number, arrows, chosen, number, states_before}
use Rattle.session_maker.specs.Session.{repeated, start_line, move_line, hypothesis, intro_lines, tries_line, print_line, delete_line, round_text, session}

next : (n : ℕ) → n + 1 ≡ suc n
next n = omega arith

pub repeated_next : (text : List ℕ) (n : ℕ) → repeated text (n + 1) ≡ repeated text n ++ text
repeated_next text n = ap (repeated text) (next n)

pub intro_lines_next : (start n : ℕ) → intro_lines start (n + 1) ≡ intro_lines start n ++ move_line (start + n + 1) (codes "intro " ++ hypothesis (n + 1))
intro_lines_next start n = ap (intro_lines start) (next n)

pub number_next : (seed n : ℕ) → number seed (n + 1) ≡ next_number (number seed n)
number_next seed n = ap (number seed) (next n)

pub states_next : (seed n start count x : ℕ) → start ≡ states_before seed n → count ≡ arrows x → x ≡ number seed (n + 1) → start + (count + 4) ≡ states_before seed (n + 1)
states_next seed n start count x start_is count_is x_is =
    let here : count ≡ arrows (number seed (suc n)) = count_is ∙ ap arrows (x_is ∙ ap (number seed) (next n)) in
    let more : states_before seed (n + 1) ≡ states_before seed n + (arrows (number seed (suc n)) + 4) = ap (states_before seed) (next n) in
    omega (arith, start_is, here, more)

pub session_next : (seed n start x : ℕ) (t u : List ℕ) → t ≡ session seed n → start ≡ states_before seed n → x ≡ number seed (n + 1) → u ≡ t ++ round_text start x → u ≡ session seed (n + 1)
session_next seed n start x t u t_is start_is x_is u_is =
    u_is ∙ ap (λ l. l ++ round_text start x) t_is
    ∙ ap (λ s. session seed n ++ round_text s x) start_is
    ∙ ap (λ y. session seed n ++ round_text (states_before seed n) y) (x_is ∙ ap (number seed) (next n))
    ∙ sym (ap (session seed) (next n))

-- the lines of the round of x, where its numbers are known by other names
pub round_is : (start x count index : ℕ) → count ≡ arrows x → index ≡ chosen x
    → start_line count ++ move_line start (codes "intro A") ++ intro_lines start count ++ tries_line (start + count + 1) index ++ print_line (start + count + 3) ++ delete_line start ≡ round_text start x
unfolding round_text
round_is start x count index count_is index_is =
    ap (λ n. start_line n ++ move_line start (codes "intro A") ++ intro_lines start n ++ tries_line (start + n + 1) index ++ print_line (start + n + 3) ++ delete_line start) count_is
    ∙ ap (λ e. start_line (arrows x) ++ move_line start (codes "intro A") ++ intro_lines start (arrows x) ++ tries_line (start + arrows x + 1) e ++ print_line (start + arrows x + 3) ++ delete_line start) index_is
