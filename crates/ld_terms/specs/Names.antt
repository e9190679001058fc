-- The names of the texts, as ASCII bytes: names of items, and of entries of a context. An entry without a name of its own has its level name.
use Rattle.std.specs.Prelude.{◌≡◌, ℕ, List, [], ◌∷◌, Bool, false, ◌&&◌, ◌||◌, ◌==◌, not, nat_le, length, codes, decimal, ◌⊎◌, IsTrue}
use Rattle.std.specs.Char.{is_ascii_alphabetic, is_ascii_alphanumeric}
use Rattle.std.specs.List.{list_all, list_any}
use Rattle.std.specs.Str.{bytes_eq}

-- a letter, a digit or `_`
abbrev pub is_name_byte : ℕ → Bool
is_name_byte b = is_ascii_alphanumeric b || b == 95

-- a letter followed by letters, digits and `_`
abbrev pub is_word : List ℕ → Bool
is_word [] = false
is_word (b ∷ bs) = is_ascii_alphabetic b && list_all is_name_byte bs

-- the words that are no names
abbrev pub reserved_words : List (List ℕ)
reserved_words = codes "fun" ∷ codes "def" ∷ codes "prim" ∷ []

abbrev pub is_reserved : List ℕ → Bool
is_reserved name = list_any (bytes_eq name) reserved_words

-- how many bytes a name of the texts has at most
abbrev pub longest_name : ℕ
longest_name = 64

-- a name of the texts: a word of at most 64 bytes that isn't reserved
abbrev pub is_text_name : List ℕ → Bool
is_text_name name = is_word name && nat_le (length name) longest_name && not (is_reserved name)

abbrev pub IsTextName : List ℕ → Type 0
IsTextName name = IsTrue (is_text_name name)

-- the level name of the entry at level k, which is its place in the context counted from 0: `%` and the decimal digits of k
abbrev pub level_name : ℕ → List ℕ
level_name k = 37 ∷ decimal k

-- what an entry at level k may be called
abbrev pub IsEntryName : ℕ → List ℕ → Type 0
IsEntryName k name = IsTextName name ⊎ (name ≡ level_name k)
