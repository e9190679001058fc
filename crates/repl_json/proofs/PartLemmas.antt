-- Parts that go one after another.
use Rattle.std.proofs.Common.{◌≡◌, ℕ, ◌+◌, ◌<◌, List, [], ◌∷◌, ◌++◌, length, take, drop, get_or, Option, refl, sym, ◌∙◌, ap, append_assoc}
use Rattle.std.proofs.lemmas.List.{drop_more, take_more, append-nil, take-append-drop}
use Rattle.std.proofs.KnownBytes.{Appends-trans}
use Rattle.std.specs.List.{flat_map}
use Rattle.std.specs.Io.KnownBytes.{Appends}
use Rattle.pan_io.specs.Put.{AppendsPrefix}

flat_map-append : {X : Type 0} (f : X → List ℕ) (xs ys : List X) → flat_map f (xs ++ ys) ≡ flat_map f xs ++ flat_map f ys
flat_map-append f [] ys = refl
flat_map-append f (x ∷ xs) ys = ap (λ l. f x ++ l) (flat_map-append f xs ys) ∙ sym (append_assoc (f x) (flat_map f xs) (flat_map f ys))

split_at : {X : Type 0} (f : X → List ℕ) (xs : List X) (i : ℕ) (d : X) → i < length xs → flat_map f xs ≡ flat_map f (take i xs) ++ (f (get_or xs i d) ++ flat_map f (drop (i + 1) xs))
split_at f xs i d within =
    ap (flat_map f) (sym (take-append-drop i xs)) ∙ flat_map-append f (take i xs) (drop i xs) ∙ ap (λ l. flat_map f (take i xs) ++ flat_map f l) (drop_more xs i d within)

pub flat_map_more : {X : Type 0} (f : X → List ℕ) (xs : List X) (i : ℕ) (d : X) → i < length xs → flat_map f (take (i + 1) xs) ≡ flat_map f (take i xs) ++ f (get_or xs i d)
flat_map_more f xs i d h = ap (flat_map f) (take_more xs i d h) ∙ flat_map-append f (take i xs) (get_or xs i d ∷ []) ∙ ap (λ ys. flat_map f (take i xs) ++ ys) (append-nil (f (get_or xs i d)))

-- a part failed
pub stops_in : {X : Type 0} (f : X → List ℕ) (old mid new : Option (List ℕ)) (xs : List X) (i : ℕ) (d : X) → i < length xs → Appends old mid (flat_map f (take i xs)) → AppendsPrefix mid new (f (get_or xs i d))
    → AppendsPrefix old new (flat_map f xs)
stops_in f old mid new xs i d within before (front, rest, parts, put) = (
  flat_map f (take i xs) ++ front,
  rest ++ flat_map f (drop (i + 1) xs),
  split_at f xs i d within ∙ ap (λ l. flat_map f (take i xs) ++ (l ++ flat_map f (drop (i + 1) xs))) parts
      ∙ ap (λ l. flat_map f (take i xs) ++ l) (append_assoc front rest (flat_map f (drop (i + 1) xs)))
      ∙ sym (append_assoc (flat_map f (take i xs)) front (rest ++ flat_map f (drop (i + 1) xs))),
  Appends-trans old mid new (flat_map f (take i xs)) front before put,
)
