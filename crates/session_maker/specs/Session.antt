-- The text of a generated session: lines of requests, each ended by 0x0A.
use Rattle.std.specs.Prelude.{ℕ, zero, suc, ◌+◌, ◌==◌, List, [], ◌++◌, codes, decimal, count_by}
use Rattle.session_maker.specs.Generator.{arrows, chosen, number, states_before}

-- a text, n times
abbrev pub repeated : List ℕ → ℕ → List ℕ
repeated text zero = []
repeated text (suc n) = repeated text n ++ text

-- starts a goal with n arrows after the first one
unfoldable pub start_line : ℕ → List ℕ
start_line n = codes "goal.start {\"expr\":\"(A : *) -> A" ++ repeated (codes " -> A") n ++ codes "\"}\n"

-- one move on a state
unfoldable pub move_line : ℕ → List ℕ → List ℕ
move_line state move = codes "goal.move {\"stateId\":" ++ decimal state ++ codes ",\"move\":\"" ++ move ++ codes "\"}\n"

-- the name of the hypothesis with this index, from 1
abbrev pub hypothesis : ℕ → List ℕ
hypothesis index = codes "x" ++ decimal index

-- The moves `intro x1` to `intro xn`, each on the state that the line before made. The state of the first is the one after `start`.
abbrev pub intro_lines : ℕ → ℕ → List ℕ
intro_lines start zero = []
intro_lines start (suc n) = intro_lines start n ++ move_line (start + n + 1) (codes "intro " ++ hypothesis (n + 1))

-- two tries on a state, the second with a hypothesis
unfoldable pub tries_line : ℕ → ℕ → List ℕ
tries_line state index = codes "goal.tries {\"stateId\":" ++ decimal state ++ codes ",\"tries\":[{\"move\":\"assumption\"},{\"move\":\"exact " ++ hypothesis index ++ codes "\"}]}\n"

unfoldable pub print_line : ℕ → List ℕ
print_line state = codes "goal.print {\"stateId\":" ++ decimal state ++ codes "}\n"

unfoldable pub delete_line : ℕ → List ℕ
delete_line state = codes "goal.delete {\"stateId\":" ++ decimal state ++ codes "}\n"

-- The round of x, whose first line makes the state `start`. Each move makes the next state, and then the two tries make two.
unfoldable pub round_text : ℕ → ℕ → List ℕ
round_text start x =
    start_line (arrows x)
    ++ move_line start (codes "intro A")
    ++ intro_lines start (arrows x)
    ++ tries_line (start + arrows x + 1) (chosen x)
    ++ print_line (start + arrows x + 3)
    ++ delete_line start

-- The session of so many rounds. State ids run on over the rounds.
abbrev pub session : ℕ → ℕ → List ℕ
session seed zero = []
session seed (suc round) = session seed round ++ round_text (states_before seed round) (number seed (suc round))

-- how many replies so many rounds have: one to each line, and in each round one more, to the second try
abbrev pub replies : ℕ → ℕ → ℕ
replies seed rounds = count_by (λ byte. byte == 10) (session seed rounds) + rounds
