-- The tokens of a text.
--
-- They are `*`, `_`, `?`, `(`, `)`, `,`, `:`, `;`, `->`, `=>`, `:=`, names, level names and the reserved names `fun`, `def`, `prim`.
-- Blanks separate them. The longest token wins. A byte that begins no token is a token of the kind Bad, and so is the first byte of
-- a name or level name that is too long.
use Rattle.std.specs.Prelude.{ℕ, zero, suc, ◌+◌, ◌-◌, Bool, ◌||◌, if◌then◌else◌, ◌==◌, nat_lt, List, [], ◌∷◌, take, drop, slice_index}
use Rattle.std.specs.Char.{is_ascii_alphabetic, is_ascii_digit}
use Rattle.std.specs.List.{prefix_len}
use Rattle.std.specs.Str.{bytes_eq}
use Rattle.ld_terms.specs.Names.{longest_name, reserved_words, is_name_byte}
use Rattle.term_syntax.specs.declared.kind.Kind.{Kind}
use Rattle.term_syntax.specs.declared.kind.Kind.TheVariants.{Bad, Star, Wild, Asked, Open, Close, Comma, Colon, Semi, Arrow, FatArrow, Assign, Name, Call, Level, Fun, Def, Prim}

-- the bytes of a text
abbrev pub Text : Type 0
Text = List ℕ

-- space, tab, carriage return, line feed
abbrev pub is_blank : ℕ → Bool
is_blank b = b == 32 || b == 9 || b == 13 || b == 10

-- a kind, and a length in bytes
abbrev pub Cut : Type 0
Cut = Kind × ℕ

-- the kind that stands where the list of words has this one, else another
abbrev pub kind_among : List Text → List Kind → Text → Kind → Kind
kind_among (w ∷ ws) (k ∷ ks) word other = if bytes_eq word w then k else kind_among ws ks word other
kind_among _ _ word other = other

-- The kind of a name: it is reserved, or a constant's where `(` follows directly, or a plain one.
abbrev pub word_kind : Text → ℕ → Kind
word_kind word next = kind_among reserved_words (Fun ∷ Def ∷ Prim ∷ []) word (if next == 40 then Call else Name)

-- a name of at most 64 bytes
abbrev pub word : Text → Cut
word z =
    let end = prefix_len is_name_byte z in
    if nat_lt longest_name end then (Bad, 1) else (word_kind (take end z) (slice_index z end), end)

-- a level name: `%0`, or `%` and one to nine digits of which the first is not 0
abbrev pub level : Text → Cut
level z =
    let end = 1 + prefix_len is_ascii_digit (drop 1 z) in
    if slice_index z 1 == 48 then (Level, 2)
    else (if end == 1 || nat_lt 10 end then (Bad, 1) else (Level, end))

-- two bytes where the second is the wanted one, else what the first is alone
abbrev pub by_second : ℕ → ℕ → Kind → Cut → Cut
by_second next wanted long short = if next == wanted then (long, 2) else short

-- the token that is no name and no level name, by its first byte and the next
abbrev pub punctuation : ℕ → ℕ → Cut
punctuation b next =
    if b == 42 then (Star, 1)
    else (if b == 95 then (Wild, 1)
    else (if b == 63 then (Asked, 1)
    else (if b == 40 then (Open, 1)
    else (if b == 41 then (Close, 1)
    else (if b == 44 then (Comma, 1)
    else (if b == 59 then (Semi, 1)
    else (if b == 58 then by_second next 61 Assign (Colon, 1)
    else (if b == 45 then by_second next 62 Arrow (Bad, 1)
    else (if b == 61 then by_second next 62 FatArrow (Bad, 1)
    else (Bad, 1))))))))))

-- the token at the front of a text that begins with no blank
unfoldable pub token : Text → Cut
token z =
    let b = slice_index z 0 in
    if is_ascii_alphabetic b then word z else (if b == 37 then level z else punctuation b (slice_index z 1))

-- a token: its kind, its place and its text
pub record Lexeme : Type 0 where
  pub kind : Kind
  pub at : ℕ
  pub text : Text

-- the token at the front of a text that begins at a place
abbrev pub lexeme : ℕ → Text → Lexeme
lexeme at z = record { kind = (token z).0; at = at; text = take (token z).1 z }

-- The tokens of a text that begins at a place. The first number counts the bytes that are left of a token.
abbrev pub lexemes_from : ℕ → ℕ → Text → List Lexeme
lexemes_from left at [] = []
lexemes_from (suc left) at (b ∷ z) = lexemes_from left (at + 1) z
lexemes_from zero at (b ∷ z) =
    if is_blank b then lexemes_from zero (at + 1) z
    else lexeme at (b ∷ z) ∷ lexemes_from ((token (b ∷ z)).1 - 1) (at + 1) z

-- the tokens of a text that begins at a place
unfoldable pub lexemes : ℕ → Text → List Lexeme
lexemes at z = lexemes_from zero at z
