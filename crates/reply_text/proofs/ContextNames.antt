-- Level names, and the names that a context's variables print as, are names of contexts.
use Rattle.std.proofs.Common.{◌≡◌, ℕ, zero, suc, ◌+◌, ◌<◌, Bool, true, false, cond, ◌&&◌, inl, inr, List, [], ◌∷◌, ◌++◌, length, take, refl, ap, sym, ◌∙◌, arith, subst, length-append, map}
use Rattle.std.proofs.lemmas.List.{length-map, append-nil}
use Rattle.std.specs.Prelude.{not}
use Rattle.std.specs.List.{list_any}
use Rattle.std.specs.Str.{bytes_eq}
use Rattle.ld_terms.specs.Names.{IsEntryName, is_text_name, level_name}
use Rattle.ld_terms.specs.declared.globals.Local.{Local}
use Rattle.term_syntax.specs.Lex.{Text}
use Rattle.term_syntax.specs.Printing.{Names, entry_text}
use Rattle.term_syntax.specs.ReadsBack.{NamedFrom, IsContext}
use Rattle.reply_text.specs.Shown.{level_names}
use Rattle.reply_text.specs.Context.{shown_from, shown_names}
use Rattle.reply_text.specs.Laws.{LevelNamesFit, ShownNamesFit}

-- ---- level names

named_push : (k : ℕ) (names : Names) (name : Text) → NamedFrom k names → IsEntryName (k + length names) name → NamedFrom k (names ++ name ∷ [])
named_push k [] name n e = let z : k + 0 ≡ k = omega arith in (subst (λ j. IsEntryName j name) z e, tt)
named_push k (x ∷ xs) name n e =
    let z : k + suc (length xs) ≡ k + 1 + length xs = omega arith in
    (n.0, named_push (k + 1) xs name n.1 (subst (λ j. IsEntryName j name) z e))

pub levels_counted : (n : ℕ) → length (level_names n) ≡ n
levels_counted zero = refl
levels_counted (suc n) = length-append (level_names n) (level_name n ∷ []) ∙ (let e = levels_counted n in omega arith)

levels_named : (n : ℕ) → NamedFrom 0 (level_names n)
levels_named zero = tt
levels_named (suc n) =
    let e : n ≡ 0 + length (level_names n) = omega (arith, levels_counted n) in
    named_push 0 (level_names n) (level_name n) (levels_named n) (inr (ap level_name e))

pub levels_fit : LevelNamesFit
levels_fit n h = (record { named = levels_named n; few = subst (λ k. k < 999999000) (sym (levels_counted n)) h }, levels_counted n)

pub levels_context : (n : ℕ) → n < 999999000 → IsContext (level_names n)
levels_context n h = (levels_fit n h).0

-- ---- what variables print as

entry_named : (level : ℕ) (name : Text) (later : Names) → IsEntryName level (entry_text level name later)
entry_named level name later = at (is_text_name name) (not (list_any (bytes_eq name) later)) refl where
  at : (a b : Bool) → is_text_name name ≡ a → IsEntryName level (cond (a && b) name (level_name level))
  at true true e = inl e
  at true false e = inr refl
  at false b e = inr refl

shown_named : (level : ℕ) (names : Names) → NamedFrom level (shown_from level names)
shown_named level [] = tt
shown_named level (name ∷ later) = (entry_named level name later, shown_named (level + 1) later)

pub shown_counted : (level : ℕ) (names : Names) → length (shown_from level names) ≡ length names
shown_counted level [] = refl
shown_counted level (name ∷ later) = ap (λ n. suc n) (shown_counted (level + 1) later)

pub shown_fit : ShownNamesFit
unfolding shown_names
shown_fit names h = (record { named = shown_named 0 names; few = subst (λ k. k < 999999000) (sym (shown_counted 0 names)) h.few }, shown_counted 0 names)

-- ---- the first entries

named_take : (level k : ℕ) (names : Names) → NamedFrom level names → NamedFrom level (take k names)
named_take level zero names h = tt
named_take level (suc k) [] h = tt
named_take level (suc k) (name ∷ names) h = (h.0, named_take (level + 1) k names h.1)

few_taken : (k n : ℕ) (names : Names) → length names < n → length (take k names) < n
few_taken zero n names h = omega arith
few_taken (suc k) n [] h = h
few_taken (suc k) zero (name ∷ names) h = absurd (omega arith)
few_taken (suc k) (suc n) (name ∷ names) h = let e = few_taken k n names (omega arith) in omega arith

pub context_taken : (k : ℕ) (names : Names) → IsContext names → IsContext (take k names)
context_taken k names h = record { named = named_take 0 k names h.named; few = few_taken k 999999000 names h.few }

-- ---- an entry's text, where another entry behind it has its name or none has

pub by_name : (level : ℕ) (name : Text) (b : Bool) → IsEntryName level name → cond (is_text_name name && not b) name (level_name level) ≡ cond b (level_name level) name
by_name level name true (inl h) = rw h refl
by_name level name false (inl h) = rw h refl
by_name level name true (inr e) = at (is_text_name name) where
  at : (a : Bool) → cond (a && not true) name (level_name level) ≡ level_name level
  at true = refl
  at false = refl
by_name level name false (inr e) = at (is_text_name name) where
  at : (a : Bool) → cond (a && not false) name (level_name level) ≡ name
  at true = refl
  at false = sym e

-- ---- the names that are shown

pub shown_context : (names : Names) → IsContext names → IsContext (shown_from 0 names)
unfolding shown_names
shown_context names h = (shown_fit names h).0

pub shown_length : {H : Type 0} (ls : List (Local H)) → length (shown_from 0 (map (λ l. l.name) ls)) ≡ length ls
shown_length ls = shown_counted 0 (map (λ l. l.name) ls) ∙ length-map ls (λ l. l.name)

-- the names that are shown so far, where no entry is left
pub all_shown : {H : Type 0} (done : Names) (level : ℕ) (rest : List (Local H)) (whole : Names) → length rest < 1 → done ++ shown_from level (map (λ l. l.name) rest) ≡ whole → done ≡ whole
all_shown done level [] whole low e = sym (append-nil done) ∙ e
all_shown done level (l ∷ ls) whole low e = absurd (omega (arith, low))
