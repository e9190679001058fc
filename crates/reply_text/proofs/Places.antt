-- What stands at a place of a context.
use Rattle.std.proofs.Common.{◌≡◌, ℕ, zero, suc, ◌<◌, List, [], ◌∷◌, length, map, get_or, refl, arith}
use Rattle.ld_trees.specs.Term.{Term}
use Rattle.ld_terms.specs.declared.globals.Local.{Local}

pub default_free : {A : Type 0} (xs : List A) (i : ℕ) (d e : A) → i < length xs → get_or xs i d ≡ get_or xs i e
default_free [] i d e h = absurd (omega arith)
default_free (x ∷ xs) zero d e h = refl
default_free (x ∷ xs) (suc i) d e h = default_free xs i d e (omega arith)

-- the tree that the type of the entry at a place means
pub type_at : {H : Type 0} (means : H → Term) (i : ℕ) (ls : List (Local H)) (d : Local H) (e : Term) → i < length ls → get_or (map (λ l. means l.ty) ls) i e ≡ means (get_or ls i d).ty
type_at means i [] d e h = absurd (omega arith)
type_at means zero (l ∷ ls) d e h = refl
type_at means (suc i) (l ∷ ls) d e h = type_at means i ls d e (omega arith)
