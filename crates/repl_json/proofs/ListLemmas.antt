-- The things of a list, and what is read of them.
use Rattle.std.proofs.Common.{◌≡◌, ℕ, Bool, true, false, cond, codes, Bor, length, List, [], ◌∷◌, map, Option, Some, None, option_map, option_and_then, refl, sym, ◌∙◌, ap}
use Rattle.std.proofs.lemmas.List.{length-map}
use Rattle.serde_json.specs.Data.{Data}
use Rattle.serde_json.specs.Find.{get, as_array}
use Rattle.serde_json.specs.View.{view, items_view}
use Rattle.serde_json.specs.declared.value.Value.{Value}
use Rattle.repl_json.specs.Field.{value_in, list_field, listed, things_under, unless_null, read_found, each, whole_number, greatest_number}
use Rattle.repl_json.specs.Fields as field
use Rattle.repl_json.specs.Fields.{try_of, tries_of, may_be_tried}
use Rattle.repl_json.specs.Table.{with_after}
use Rattle.repl_json.specs.declared.request.Request.{Request}

pub listed_items : (vs : List Value) → listed (items_view vs) ≡ map view vs
listed_items [] = refl
listed_items (v ∷ vs) = ap (λ ds. view v ∷ ds) (listed_items vs)

list_found : {B : Type 0} (name : List ℕ) (reads : List Data → Option B) (o : Option Data)
    → read_found (list_field name reads) o ≡ option_and_then reads (option_map listed (option_and_then as_array o))
list_found name reads None = refl
list_found name reads (Some d) = array_found (as_array d)
  where
    array_found : (o : Option _) → option_and_then (λ items. reads (listed items)) o ≡ option_and_then reads (option_map listed o)
    array_found None = refl
    array_found (Some items) = refl

-- a field that is a list
pub list_in : {B : Type 0} (name : List ℕ) (reads : List Data → Option B) (d : Data) → value_in (list_field name reads) d ≡ option_and_then reads (things_under name d)
unfolding value_in things_under
list_in name reads d = list_found name reads (unless_null (get name d))

pub each-map : {A B C : Type 0} (f : A → B) (reads : B → Option C) (xs : List A) → each reads (map f xs) ≡ each (λ x. reads (f x)) xs
each-map f reads [] = refl
each-map f reads (x ∷ xs) = ap (λ o. option_and_then (λ c. option_map (λ cs. c ∷ cs) o) (reads (f x))) (each-map f reads xs)

with_both : {B C : Type 0} (g : B → C) (o : Option B) (p : Option (List B))
    → option_and_then (λ c. option_map (λ cs. c ∷ cs) (option_map (map g) p)) (option_map g o) ≡ option_map (map g) (option_and_then (λ b. option_map (λ bs. b ∷ bs) p) o)
with_both g None p = refl
with_both g (Some b) None = refl
with_both g (Some b) (Some bs) = refl

-- what is made of each thing that is read
pub each-option_map : {A B C : Type 0} (g : B → C) (reads : A → Option B) (xs : List A) → each (λ x. option_map g (reads x)) xs ≡ option_map (map g) (each reads xs)
each-option_map g reads [] = refl
each-option_map g reads (x ∷ xs) =
    ap (λ o. option_and_then (λ c. option_map (λ cs. c ∷ cs) o) (option_map g (reads x))) (each-option_map g reads xs) ∙ with_both g (reads x) (each reads xs)

-- a field that is a list, where its things were looked for
pub list_read : {B : Type 0} (name : List ℕ) (reads : List Data → Option B) (d : Data) (o : Option (Bor (List Value)))
    → option_map (λ things. map view things.now) o ≡ things_under name d → value_in (list_field name reads) d ≡ option_and_then (λ things. reads (map view things.now)) o
list_read name reads d None e = list_in name reads d ∙ ap (option_and_then reads) (sym e)
list_read name reads d (Some things) e = list_in name reads d ∙ ap (option_and_then reads) (sym e)

-- the numbers of a list
pub goals_read : (d : Data) (o : Option (Bor (List Value))) → option_map (λ things. map view things.now) o ≡ things_under (codes "goals") d
    → value_in field.goals d ≡ option_and_then (λ things. each (λ v. whole_number greatest_number (view v)) things.now) o
goals_read d None e = list_read (codes "goals") (each (whole_number greatest_number)) d None e
goals_read d (Some things) e = list_read (codes "goals") (each (whole_number greatest_number)) d (Some things) e ∙ each-map view (whole_number greatest_number) things.now

-- the tries of a list
abbrev pub tries_read_of : ℕ → ℕ → List Value → Option (List Request)
tries_read_of state after vs =
    cond (may_be_tried (length vs)) (each (λ v. option_map (with_after after) (try_of state (view v))) vs) None

some_tries : (state after : ℕ) (vs : List Value) → option_map (map (with_after after)) (tries_of state (map view vs)) ≡ tries_read_of state after vs
some_tries state after vs = rw (length-map vs view) (by_count (may_be_tried (length vs)))
  where
    by_count : (b : Bool) → option_map (map (with_after after)) (cond b (each (try_of state) (map view vs)) None) ≡ cond b (each (λ v. option_map (with_after after) (try_of state (view v))) vs) None
    by_count false = refl
    by_count true = ap (option_map (map (with_after after))) (each-map view (try_of state) vs) ∙ sym (each-option_map (with_after after) (λ v. try_of state (view v)) vs)

pub tries_read : (state after : ℕ) (d : Data) (o : Option (Bor (List Value))) → option_map (λ things. map view things.now) o ≡ things_under (codes "tries") d
    → option_map (map (with_after after)) (value_in (field.tries state) d) ≡ option_and_then (λ things. tries_read_of state after things.now) o
tries_read state after d None e = ap (option_map (map (with_after after))) (list_read (codes "tries") (tries_of state) d None e)
tries_read state after d (Some things) e = ap (option_map (map (with_after after))) (list_read (codes "tries") (tries_of state) d (Some things) e) ∙ some_tries state after things.now
