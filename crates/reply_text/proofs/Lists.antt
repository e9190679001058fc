-- Texts that are put together in a loop, and names that are looked for.
use Rattle.std.proofs.Common.{◌≡◌, ℕ, ◌+◌, ◌||◌, List, [], ◌∷◌, ◌++◌, map, refl, ap, add-one}
use Rattle.std.specs.Prelude.{flat_map}
use Rattle.std.specs.List.{list_any}
use Rattle.std.specs.Str.{bytes_eq}
use Rattle.ld_terms.specs.Names.{level_name}
use Rattle.ld_terms.specs.declared.globals.Local.{Local}
use Rattle.reply_text.specs.Shown.{level_names}

pub levels_more : (n : ℕ) → level_names (n + 1) ≡ level_names n ++ level_name n ∷ []
levels_more n = ap level_names (add-one n)

pub named_among : {H : Type 0} (name : List ℕ) (ls : List (Local H)) → list_any (λ l. bytes_eq name l.name) ls ≡ list_any (bytes_eq name) (map (λ l. l.name) ls)
named_among name [] = refl
named_among name (l ∷ ls) = ap (λ b. bytes_eq name l.name || b) (named_among name ls)

pub behind_commas : {A : Type 0} (f : A → List ℕ) (xs : List A) → flat_map (λ x. 44 ∷ f x) xs ≡ flat_map (λ y. 44 ∷ y) (map f xs)
behind_commas f [] = refl
behind_commas f (x ∷ xs) = ap (λ ys. 44 ∷ (f x ++ ys)) (behind_commas f xs)
