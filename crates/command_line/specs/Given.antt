-- The words of a command line: which are refused at once, what options and places they fill, and the numbers in them.
use Rattle.std.specs.Prelude.{ℕ, List, [], ◌∷◌, ◌++◌, Option, Some, None, Bool, not, ◌&&◌, if◌then◌else◌, ◌==◌, ◌-◌, slice_index, codes, length, nat_le, option_map, option_and_then, find}
use Rattle.std.specs.Str.{bytes_eq}
use Rattle.std.specs.Char.{is_ascii_digit}
use Rattle.std.specs.Str.Parse.{digits_value}
use Rattle.std.specs.List.{list_any, list_all, before_first, after_first}
use Rattle.std.specs.Option.{option_map_or}

abbrev pub Text : Type 0
Text = List ℕ

-- the first byte of the text is this one; the last byte is
abbrev pub begins_with : ℕ → Text → Bool
begins_with c t = slice_index t 0 == c

abbrev pub ends_in : ℕ → Text → Bool
ends_in c t = slice_index t (length t - 1) == c

-- the word is not empty, `-` or `--`, and does not end in `=` (0x3D)
abbrev pub is_word : Text → Bool
is_word w = not (bytes_eq w []) && (not (bytes_eq w (codes "-")) && (not (bytes_eq w (codes "--")) && not (ends_in 61 w)))

abbrev pub are_words : List Text → Bool
are_words words = list_all is_word words

-- a value that is a word of its own does not begin with `-` (0x2D)
abbrev pub is_value : Text → Bool
is_value w = not (begins_with 45 w)

-- what stands before the first `=`, and what stands after it if there is one
abbrev pub cut_at_equals : Text → Text × Option Text
cut_at_equals t = (before_first (λ x. x == 61) t, if list_any (λ x. x == 61) t then Some (after_first (λ x. x == 61) t) else None)

-- what follows two hyphens
abbrev pub after_hyphens : Text → Option Text
after_hyphens [] = None
after_hyphens (x ∷ []) = None
after_hyphens (x ∷ y ∷ rest) = if (x == 45) && (y == 45) then Some rest else None

-- a word `--name` or `--name=value`
abbrev pub option_of : Text → Option (Text × Option Text)
option_of w = option_map cut_at_equals (after_hyphens w)

-- the options that a subcommand has: their names, and whether each takes a value
abbrev pub Known : Type 0
Known = List (Text × Bool)

-- whether the option of this name takes a value, where there is one
abbrev pub kind_of_option : Known → Text → Option Bool
kind_of_option known name = option_map (λ k. k.1) (find (λ k. bytes_eq k.0 name) known)

-- the options that were given, in the order of the words; one that takes no value has the empty text
abbrev pub Given : Type 0
Given = List (Text × Text)

abbrev pub has : Text → Given → Bool
has name given = list_any (λ g. bytes_eq g.0 name) given

abbrev pub value : Text → Given → Option Text
value name given = option_map (λ g. g.1) (find (λ g. bytes_eq g.0 name) given)

-- one more option, where it was not given before
abbrev pub once : {X : Type 0} → Text → Given → Option X → Option X
once name given more = if has name given then None else more

module _ (known : Known) where
  abbrev mutual
    -- the options of all the words, after those that were given: each at most once, in any order, as
    -- two words or with `=`
    pub options : Given → List Text → Option Given
    options given [] = Some given
    options given (w ∷ ws) = option_map_or (λ o. option_map_or (λ takes. if takes
        then option_map_or (λ v. once o.0 given (options (given ++ (o.0, v) ∷ []) ws)) o.1 (next_value given o.0 ws)
        else option_map_or (λ v. None) o.1 (once o.0 given (options (given ++ (o.0, []) ∷ []) ws)))
        (kind_of_option known o.0) None) (option_of w) None

    -- the same, where the value of this option is the next word
    pub next_value : Given → Text → List Text → Option Given
    next_value given name [] = None
    next_value given name (v ∷ ws) = if is_value v then once name given (options (given ++ (name, v) ∷ []) ws) else None

-- the words, one for each of these names in their order
abbrev pub places : List Text → List Text → Option Given
places [] [] = Some []
places [] (w ∷ ws) = None
places (n ∷ ns) [] = None
places (n ∷ ns) (w ∷ ws) = if is_value w then option_map (λ g. (n, w) ∷ g) (places ns ws) else None

-- a number of 1 to `digits` decimal digits
abbrev pub number : ℕ → Text → Option ℕ
number digits t = if list_all is_ascii_digit t && (nat_le 1 (length t) && nat_le (length t) digits) then Some (digits_value 10 t) else None

-- the number, where it lies in this range
abbrev pub ranged : ℕ → ℕ → Option ℕ → Option ℕ
ranged least most n = option_and_then (λ k. if nat_le least k && nat_le k most then Some k else None) n

-- the number of an option that may be missing
abbrev pub number_or : ℕ → ℕ → Option Text → Option ℕ
number_or default most v = option_map_or (λ t. ranged 1 most (number 7 t)) v (Some default)
