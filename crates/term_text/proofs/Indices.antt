-- The index of a name, counted from the innermost binder or the last entry.
use denote.Bor.{Bor}
use Rattle.std.proofs.Common.{◌≡◌, ℕ, zero, suc, ◌+◌, ◌-◌, ◌<◌, ◌≤◌, Bool, true, false, cond, List, [], ◌∷◌, length, get_or, take, drop, Option, Some, None, refl, ap, sym, ◌∙◌, arith, drop-cons}
use Rattle.std.specs.Option.{option_copied}
use Rattle.std.specs.Str.{bytes_eq}
use Rattle.std.proofs.lemmas.List.{length-drop, take_more}
use Rattle.term_syntax.specs.declared.surface.Label.{Label}
use Rattle.term_syntax.specs.Lex.{Text}
use Rattle.term_syntax.specs.Printing.{Names}
use Rattle.term_syntax.specs.Scoping.{Bound, later, or_else, index_named, index_of}
use Rattle.term_text.specs.Scoped.{bound_of, is_bound_by}
use Rattle.term_text.proofs.ScopeLaws.{pushed}

-- an index below so many more binders
abbrev pub raised : ℕ → Option ℕ → Option ℕ
raised n None = None
raised n (Some i) = Some (i + n)

or_else_none : (o : Option ℕ) → or_else o None ≡ o
or_else_none None = refl
or_else_none (Some i) = refl

or_else_assoc : (a b c : Option ℕ) → or_else (or_else a b) c ≡ or_else a (or_else b c)
or_else_assoc None b c = refl
or_else_assoc (Some a) b c = refl

named_next : (x : Text) (names : Names) (i : ℕ) (d : Text) → i < length names
    → index_named x (drop i names) ≡ or_else (index_named x (drop (i + 1) names)) (cond (bytes_eq x (get_or names i d)) (Some (length names - 1 - i)) None)
named_next x names i d h =
    let e : suc i ≡ i + 1 = omega arith in
    let n : length (drop (suc i) names) ≡ length names - 1 - i = length-drop (suc i) names ∙ omega arith in
    ap (index_named x) (drop-cons names i d h)
    ∙ ap (λ n. or_else (index_named x (drop (suc i) names)) (cond (bytes_eq x (get_or names i d)) (Some n) None)) n
    ∙ ap (λ m. or_else (index_named x (drop m names)) (cond (bytes_eq x (get_or names i d)) (Some (length names - 1 - i)) None)) e

pub named_start : (x : Text) (names : Names) → or_else (index_named x (drop 0 names)) None ≡ index_named x names
named_start x [] = refl
named_start x (name ∷ names) = or_else_none (index_named x (name ∷ names))

pub named_turn : (x : Text) (names : Names) (i : ℕ) (d : Text) (found : Option ℕ) (b : Bool) → i < length names → bytes_eq x (get_or names i d) ≡ b
    → or_else (index_named x (drop i names)) found ≡ index_named x names
    → or_else (index_named x (drop (i + 1) names)) (or_else (cond b (Some (length names - 1 - i)) None) found) ≡ index_named x names
named_turn x names i d found b h is e =
    sym (or_else_assoc (index_named x (drop (i + 1) names)) (cond b (Some (length names - 1 - i)) None) found)
    ∙ ap (λ c. or_else (or_else (index_named x (drop (i + 1) names)) (cond c (Some (length names - 1 - i)) None)) found) (sym is)
    ∙ ap (λ o. or_else o found) (sym (named_next x names i d h))
    ∙ e

pub named_end : (x : Text) (names : Names) (i : ℕ) (found : Option ℕ) → length names ≤ i → or_else (index_named x (drop i names)) found ≡ index_named x names → found ≡ index_named x names
named_end x [] zero found h e = e
named_end x [] (suc i) found h e = e
named_end x (name ∷ names) i found h e = ap (λ (ns : Names). or_else (index_named x ns) found) (sym (over (name ∷ names) i h)) ∙ e where
  over : (ns : Names) (i : ℕ) → length ns ≤ i → drop i ns ≡ []
  over [] zero h = refl
  over [] (suc i) h = refl
  over (n ∷ ns) zero h = absurd (omega arith)
  over (n ∷ ns) (suc i) h = over ns i (omega arith)

-- ---- binders

by_binder : (names : Names) (x : Label) (y : Option (Bor Label)) (bound : Bound) → index_of names x (option_copied y ∷ bound) ≡ cond (is_bound_by y x) (Some 0) (later (index_of names x bound))
by_binder names x None bound = refl
by_binder names x (Some y) bound = refl

one_binder : (names : Names) (x : Label) (bound : List (Option (Bor Label))) (i : ℕ) (d : Option (Bor Label)) → i < length bound
    → index_of names x (bound_of (take (i + 1) bound)) ≡ cond (is_bound_by (get_or bound i d) x) (Some 0) (later (index_of names x (bound_of (take i bound))))
one_binder names x bound i d h = ap (λ ls. index_of names x (bound_of ls)) (take_more bound i d h) ∙ ap (index_of names x) (pushed (take i bound) (get_or bound i d)) ∙ by_binder names x (get_or bound i d) (bound_of (take i bound))

later_raised : (n : ℕ) (o : Option ℕ) → raised n (later o) ≡ raised (n + 1) o
later_raised n None = refl
later_raised n (Some i) = ap (λ (j : ℕ). Some j) (omega arith)

pub bound_here : (names : Names) (x : Label) (bound : List (Option (Bor Label))) (passed i : ℕ) (d : Option (Bor Label)) (whole : Option ℕ) → i < length bound → is_bound_by (get_or bound i d) x ≡ true
    → whole ≡ raised passed (index_of names x (bound_of (take (i + 1) bound))) → whole ≡ Some passed
bound_here names x bound passed i d whole h is e = e ∙ ap (raised passed) (one_binder names x bound i d h ∙ ap (λ b. cond b (Some 0) (later (index_of names x (bound_of (take i bound))))) is) ∙ ap (λ (j : ℕ). Some j) (omega arith)

pub not_bound : (names : Names) (x : Label) (bound : List (Option (Bor Label))) (passed i : ℕ) (d : Option (Bor Label)) (whole : Option ℕ) → i < length bound → is_bound_by (get_or bound i d) x ≡ false
    → whole ≡ raised passed (index_of names x (bound_of (take (i + 1) bound))) → whole ≡ raised (passed + 1) (index_of names x (bound_of (take i bound)))
not_bound names x bound passed i d whole h is e =
    e ∙ ap (raised passed) (one_binder names x bound i d h ∙ ap (λ b. cond b (Some 0) (later (index_of names x (bound_of (take i bound))))) is) ∙ later_raised passed (index_of names x (bound_of (take i bound)))
