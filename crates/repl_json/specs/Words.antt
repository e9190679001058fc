-- The words of a line. A blank is a space or a tab.
use Rattle.std.specs.Prelude.{ℕ, ◌==◌, ◌||◌, not, Bool, false, List, [], ◌∷◌, take, drop}
use Rattle.std.specs.List.{prefix_len, list_all}

abbrev pub is_blank : ℕ → Bool
is_blank b = (b == 32) || (b == 9)

-- nothing but blanks
abbrev pub is_blank_line : List ℕ → Bool
is_blank_line line = list_all is_blank line

-- without the blanks at its front
abbrev pub from_word : List ℕ → List ℕ
from_word line = drop (prefix_len is_blank line) line

-- the first byte is `{`
abbrev pub begins_object : List ℕ → Bool
begins_object [] = false
begins_object (b ∷ rest) = b == 123

abbrev pub word_length : List ℕ → ℕ
word_length front = prefix_len (λ b. not (is_blank b)) front

-- of what has no blanks at its front the first word, up to a space or a tab
abbrev pub word_of : List ℕ → List ℕ
word_of front = take (word_length front) front

-- what stands behind it
abbrev pub rest_of : List ℕ → List ℕ
rest_of front = drop (word_length front) front
