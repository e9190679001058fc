-- The text of an entry of a context, found at its place in the list of names.
use Rattle.std.proofs.Common.{◌≡◌, ℕ, zero, suc, ◌+◌, ◌<◌, ◌≤◌, Bool, true, false, cond, eqb, ◌&&◌, inl, inr, ◌⊎◌, List, [], ◌∷◌, length, get_or, drop, refl, ap, sym, ◌∙◌, arith, subst}
use Rattle.std.specs.Prelude.{not, slice_index_or}
use Rattle.std.specs.List.{list_any}
use Rattle.std.specs.Str.{bytes_eq}
use Rattle.std.proofs.lemmas.Bool.Decides.{nat_tests}
use Rattle.ld_terms.specs.Names.{IsEntryName, is_text_name, level_name}
use Rattle.term_syntax.specs.Lex.{Text}
use Rattle.term_syntax.specs.Printing.{Names, entry_text, level_text}
use Rattle.term_syntax.specs.ReadsBack.{NamedFrom}
use Rattle.term_syntax.proofs.Entries.{beyond}

-- whether a later entry has the name of the entry at a place
abbrev pub hidden : Names → ℕ → Bool
hidden names j = list_any (bytes_eq (slice_index_or names j [])) (drop (j + 1) names)

by_name : (level : ℕ) (name : Text) (b : Bool) → IsEntryName level name → cond (is_text_name name && not b) name (level_name level) ≡ cond b (level_name level) name
by_name level name true (inl h) = rw h refl
by_name level name false (inl h) = rw h refl
by_name level name true (inr e) = at (is_text_name name) where
  at : (a : Bool) → cond (a && not true) name (level_name level) ≡ level_name level
  at true = refl
  at false = refl
by_name level name false (inr e) = at (is_text_name name) where
  at : (a : Bool) → cond (a && not false) name (level_name level) ≡ name
  at true = refl
  at false = sym e

pub entry_at : (names : Names) (first j : ℕ) → NamedFrom first names → j < length names → level_text first names (first + j) ≡ cond (hidden names j) (level_name (first + j)) (get_or names j [])
entry_at [] first j named h = absurd (omega arith)
entry_at (name ∷ names) first zero named h =
    let e : first + 0 ≡ first = omega arith in
    let t : eqb first first ≡ true = grind (arith, nat_tests) in
    subst (λ l. level_text first (name ∷ names) l ≡ cond (hidden (name ∷ names) 0) (level_name l) name) (sym e)
    (ap (λ b. cond b (entry_text first name names) (level_text (first + 1) names first)) t ∙ by_name first name (list_any (bytes_eq name) names) named.0)
entry_at (name ∷ names) first (suc j) named h =
    let t : eqb (first + suc j) first ≡ false = grind (arith, nat_tests) in
    let e : first + 1 + j ≡ first + suc j = omega arith in
    let s : suc j + 1 ≡ suc (j + 1) = omega arith in
    let same : hidden names j ≡ hidden (name ∷ names) (suc j) = ap (λ n. list_any (bytes_eq (get_or names j [])) (drop n (name ∷ names))) (sym s) in
    ap (λ b. cond b (entry_text (first + suc j) name names) (level_text (first + 1) names (first + suc j))) t
    ∙ (subst (λ l. level_text (first + 1) names l ≡ cond (hidden names j) (level_name l) (get_or names j [])) e (entry_at names (first + 1) j named.1 (omega arith))
    ∙ ap (λ b. cond b (level_name (first + suc j)) (get_or names j [])) same)

-- an entry that is hidden, or a bound variable
pub level_shown : (names : Names) (level : ℕ) → NamedFrom 0 names → (level < length names → hidden names level ≡ true) → level_text 0 names level ≡ level_name level
level_shown names level named h = elim (within level (length names)) [
  | inl low ↦ (let e : 0 + level ≡ level = omega arith in
      subst (λ l. level_text 0 names l ≡ level_name l) e (entry_at names 0 level named low ∙ ap (λ b. cond b (level_name (0 + level)) (get_or names level [])) (h low)))
  | inr high ↦ beyond names 0 level (omega (arith, high))
] where
  within : (a b : ℕ) → (a < b) ⊎ (b ≤ a)
  within a b = grind arith

pub name_shown : (names : Names) (level : ℕ) → NamedFrom 0 names → level < length names → hidden names level ≡ false → level_text 0 names level ≡ get_or names level []
name_shown names level named low h =
    let e : 0 + level ≡ level = omega arith in
    subst (λ l. level_text 0 names l ≡ get_or names level []) e (entry_at names 0 level named low ∙ ap (λ b. cond b (level_name (0 + level)) (get_or names level [])) h)

pub default_free : {A : Type 0} (xs : List A) (i : ℕ) (d e : A) → i < length xs → get_or xs i d ≡ get_or xs i e
default_free [] i d e h = absurd (omega arith)
default_free (x ∷ xs) zero d e h = refl
default_free (x ∷ xs) (suc i) d e h = default_free xs i d e (omega arith)
