-- The numbers of a generated session.
use Rattle.std.specs.Prelude.{ℕ, zero, suc, ◌+◌, ◌*◌, ◌/◌, ◌%◌, ◌^◌}

-- The number after x: a linear congruential step modulo 2 ^ 64, by the multiplier and the increment of Knuth's MMIX.
unfoldable pub next_number : ℕ → ℕ
next_number x = (x * 6364136223846793005 + 1442695040888963407) % 2 ^ 64

-- the upper 31 bits of a number, from which a round is made
unfoldable pub draw : ℕ → ℕ
draw x = x / 2 ^ 33

-- how many arrows follow the first one in the round of x, and so how many hypotheses its session names: 1 to 4
unfoldable pub arrows : ℕ → ℕ
arrows x = draw x % 4 + 1

-- which of these hypotheses closes the goal in the round of x, from 1
unfoldable pub chosen : ℕ → ℕ
chosen x = draw x / 4 % arrows x + 1

-- the number of the round with this index, counted from 1; the seed stands before the first round
abbrev pub number : ℕ → ℕ → ℕ
number seed zero = seed
number seed (suc round) = next_number (number seed round)

-- how many states the round of x makes
abbrev pub states : ℕ → ℕ
states x = arrows x + 4

-- how many states so many rounds make, which is also the id of the first state of the next round
abbrev pub states_before : ℕ → ℕ → ℕ
states_before seed zero = 0
states_before seed (suc round) = states_before seed round + states (number seed (suc round))
