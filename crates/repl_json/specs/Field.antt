-- The reading of one field of an object.
use Rattle.std.specs.Prelude.{ℕ, List, [], ◌∷◌, nat_le, if◌then◌else◌, Option, Some, None, option_map, option_and_then, Bool}
use Rattle.serde_json.specs.Data.{Data, null, Items, no_items, item}
use Rattle.serde_json.specs.Find.{get, as_str, as_bool, as_number, as_u64, as_array}

-- its name, what stands for it where it is missing, and what is read of it
pub record Field (A : Type 0) : Type 0 where
  pub name : List ℕ
  pub default : Option A
  pub reads : Data → Option A

-- null counts as missing
abbrev pub unless_null : Option Data → Option Data
unless_null None = None
unless_null (Some null) = None
unless_null (Some d) = Some d

abbrev pub read_found : {A : Type 0} → Field A → Option Data → Option A
read_found field None = field.default
read_found field (Some d) = field.reads d

-- the field's value in an object: nothing where it is to be refused
unfoldable pub value_in : {A : Type 0} → Field A → Data → Option A
value_in field whole = read_found field (unless_null (get field.name whole))

-- each thing is read, or nothing is
abbrev pub each : {A B : Type 0} → (A → Option B) → List A → Option (List B)
each reads [] = Some []
each reads (a ∷ rest) = option_and_then (λ b. option_map (λ bs. b ∷ bs) (each reads rest)) (reads a)

abbrev pub listed : Items → List Data
listed no_items = []
listed (item d ds) = d ∷ listed ds

-- the things of the list under a name
unfoldable pub things_under : List ℕ → Data → Option (List Data)
things_under name whole = option_map listed (option_and_then as_array (unless_null (get name whole)))

abbrev pub up_to : ℕ → ℕ → Option ℕ
up_to greatest n = if nat_le n greatest then Some n else None

-- a number is written as decimal digits alone: JSON's other forms, and greater ones, are negative numbers and floats
abbrev pub whole_number : ℕ → Data → Option ℕ
whole_number greatest d = option_and_then (up_to greatest) (option_and_then as_u64 (as_number d))

-- the greatest number of 64 bits
abbrev pub greatest_number : ℕ
greatest_number = 18446744073709551615

-- the kinds of fields

abbrev pub text_field : List ℕ → Field (List ℕ)
text_field name = record { name = name; default = None; reads = as_str }

abbrev pub number_field : List ℕ → Option ℕ → ℕ → Field ℕ
number_field name default greatest = record { name = name; default = default; reads = whole_number greatest }

abbrev pub flag_field : List ℕ → Bool → Field Bool
flag_field name default = record { name = name; default = Some default; reads = as_bool }

-- a list, whose things are read together
abbrev pub list_field : {B : Type 0} → List ℕ → (List Data → Option B) → Field B
list_field name reads = record { name = name; default = None; reads = λ d. option_and_then (λ items. reads (listed items)) (as_array d) }
