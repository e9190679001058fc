-- The lines of joined bytes.
use Rattle.std.proofs.Common.{◌≡◌, ℕ, ◌<◌, List, [], ◌∷◌, ◌++◌, length, All, false, true, refl, sym, ◌∙◌, ap, arith, cond, Bool, map, inl, inr, append_assoc, append-nil, length-append}
use Rattle.std.specs.List.{onto_first}
use Rattle.std.proofs.lemmas.List.Splits.{slice_split_at, slice_split_none, slice_split-cons_yes, slice_split-cons_no, length-slice_split}
use Rattle.std.proofs.lemmas.Bool.{ne_eqb}
use Rattle.std.specs.Str.Lines.{strip_carriage_return}
use Rattle.pan_io.specs.Text.{is_line_end, parts, lines_of_parts, whole_of_parts, lines_of, whole_lines_of}
use Rattle.pan_io.specs.History.{IsWhole}

some_parts : (bs : List ℕ) → 0 < length (parts bs)
some_parts bs = omega (arith, length-slice_split is_line_end bs)

lines_of_parts-cons : (x : List ℕ) (ps : List (List ℕ)) → 0 < length ps → lines_of_parts (x ∷ ps) ≡ strip_carriage_return x ∷ lines_of_parts ps
lines_of_parts-cons x [] h = absurd (omega arith)
lines_of_parts-cons x (y ∷ more) h = refl

whole_of_parts-cons : (x : List ℕ) (ps : List (List ℕ)) → 0 < length ps → whole_of_parts (x ∷ ps) ≡ strip_carriage_return x ∷ whole_of_parts ps
whole_of_parts-cons x [] h = absurd (omega arith)
whole_of_parts-cons x (y ∷ more) h = refl

pub lines_of-line : (raw rest : List ℕ) → All (λ b. is_line_end b ≡ false) raw → lines_of (raw ++ 10 ∷ rest) ≡ strip_carriage_return raw ∷ lines_of rest
unfolding lines_of
lines_of-line raw rest h = ap lines_of_parts (slice_split_at is_line_end raw 10 rest h refl) ∙ lines_of_parts-cons raw (parts rest) (some_parts rest)

pub whole_lines_of-line : (raw rest : List ℕ) → All (λ b. is_line_end b ≡ false) raw → whole_lines_of (raw ++ 10 ∷ rest) ≡ strip_carriage_return raw ∷ whole_lines_of rest
unfolding whole_lines_of
whole_lines_of-line raw rest h = ap whole_of_parts (slice_split_at is_line_end raw 10 rest h refl) ∙ whole_of_parts-cons raw (parts rest) (some_parts rest)

pub lines_of-last : (raw : List ℕ) → All (λ b. is_line_end b ≡ false) raw → 0 < length raw → lines_of raw ≡ strip_carriage_return raw ∷ []
unfolding lines_of
lines_of-last raw h some =
    ap lines_of_parts (slice_split_none is_line_end raw h)
    ∙ ap (λ b. cond b [] (strip_carriage_return raw ∷ [])) (ne_eqb (length raw) 0 (λ e. omega arith))

pub whole_lines_of-open : (raw : List ℕ) → All (λ b. is_line_end b ≡ false) raw → whole_lines_of raw ≡ []
unfolding whole_lines_of
whole_lines_of-open raw h = ap whole_of_parts (slice_split_none is_line_end raw h)

pub lines_of-nil : lines_of [] ≡ []
unfolding lines_of
lines_of-nil = refl

pub whole_lines_of-nil : whole_lines_of [] ≡ []
unfolding whole_lines_of
whole_lines_of-nil = refl

-- ---- bytes behind which no line is open

onto_first-append : (x : ℕ) (ps qs : List (List ℕ)) → 0 < length ps → onto_first x (ps ++ qs) ≡ onto_first x ps ++ qs
onto_first-append x [] qs some = absurd (omega arith)
onto_first-append x (p ∷ ps) qs some = refl

-- a line end cuts there, whatever stands before it
parts-joined : (front more : List ℕ) → parts (front ++ 10 ∷ more) ≡ parts front ++ parts more
parts-joined [] more = slice_split-cons_yes is_line_end 10 more refl
parts-joined (x ∷ front) more = by_byte (is_line_end x) refl (parts-joined front more)
  where
    by_byte : (b : Bool) → is_line_end x ≡ b → parts (front ++ 10 ∷ more) ≡ parts front ++ parts more → parts (x ∷ (front ++ 10 ∷ more)) ≡ parts (x ∷ front) ++ parts more
    by_byte true e ih =
        slice_split-cons_yes is_line_end x (front ++ 10 ∷ more) e ∙ ap (λ l. [] ∷ l) ih
        ∙ ap (λ l. l ++ parts more) (sym (slice_split-cons_yes is_line_end x front e))
    by_byte false e ih =
        slice_split-cons_no is_line_end x (front ++ 10 ∷ more) e ∙ ap (onto_first x) ih
        ∙ onto_first-append x (parts front) (parts more) (some_parts front)
        ∙ ap (λ l. l ++ parts more) (sym (slice_split-cons_no is_line_end x front e))

lines_of_parts-append : (ps qs : List (List ℕ)) → 0 < length qs → lines_of_parts (ps ++ qs) ≡ map strip_carriage_return ps ++ lines_of_parts qs
lines_of_parts-append [] qs some = refl
lines_of_parts-append (p ∷ ps) qs some =
    lines_of_parts-cons p (ps ++ qs) (omega (arith, length-append ps qs)) ∙ ap (λ l. strip_carriage_return p ∷ l) (lines_of_parts-append ps qs some)

whole_of_parts-append : (ps qs : List (List ℕ)) → 0 < length qs → whole_of_parts (ps ++ qs) ≡ map strip_carriage_return ps ++ whole_of_parts qs
whole_of_parts-append [] qs some = refl
whole_of_parts-append (p ∷ ps) qs some =
    whole_of_parts-cons p (ps ++ qs) (omega (arith, length-append ps qs)) ∙ ap (λ l. strip_carriage_return p ∷ l) (whole_of_parts-append ps qs some)

lines_joined : (front more : List ℕ) → lines_of (front ++ 10 ∷ more) ≡ map strip_carriage_return (parts front) ++ lines_of more
unfolding lines_of
lines_joined front more = ap lines_of_parts (parts-joined front more) ∙ lines_of_parts-append (parts front) (parts more) (some_parts more)

whole_lines_joined : (front more : List ℕ) → whole_lines_of (front ++ 10 ∷ more) ≡ map strip_carriage_return (parts front) ++ whole_lines_of more
unfolding whole_lines_of
whole_lines_joined front more = ap whole_of_parts (parts-joined front more) ∙ whole_of_parts-append (parts front) (parts more) (some_parts more)

lines_to_end : (front : List ℕ) → lines_of (front ++ 10 ∷ []) ≡ map strip_carriage_return (parts front)
lines_to_end front = lines_joined front [] ∙ ap (λ l. map strip_carriage_return (parts front) ++ l) lines_of-nil ∙ append-nil _

pub lines_behind : (seen more : List ℕ) → IsWhole seen → lines_of (seen ++ more) ≡ lines_of seen ++ lines_of more
lines_behind seen more (inl none) = rw none (ap (λ l. l ++ lines_of more) (sym lines_of-nil))
lines_behind seen more (inr (front, is)) =
    rw is (ap lines_of (append_assoc front (10 ∷ []) more) ∙ lines_joined front more ∙ ap (λ l. l ++ lines_of more) (sym (lines_to_end front)))

pub whole_lines_behind : (seen more : List ℕ) → IsWhole seen → whole_lines_of (seen ++ more) ≡ lines_of seen ++ whole_lines_of more
whole_lines_behind seen more (inl none) = rw none (ap (λ l. l ++ whole_lines_of more) (sym lines_of-nil))
whole_lines_behind seen more (inr (front, is)) =
    rw is (ap whole_lines_of (append_assoc front (10 ∷ []) more) ∙ whole_lines_joined front more ∙ ap (λ l. l ++ whole_lines_of more) (sym (lines_to_end front)))

pub nothing_is_whole : IsWhole []
nothing_is_whole = inl refl

-- one more line with its end
pub whole_more : (seen raw : List ℕ) → IsWhole (seen ++ (raw ++ 10 ∷ []))
whole_more seen raw = inr (seen ++ raw, sym (append_assoc seen raw (10 ∷ [])))

pub lines_more : (seen raw : List ℕ) → IsWhole seen → All (λ b. is_line_end b ≡ false) raw
    → lines_of (seen ++ (raw ++ 10 ∷ [])) ≡ lines_of seen ++ strip_carriage_return raw ∷ []
lines_more seen raw w h =
    lines_behind seen (raw ++ 10 ∷ []) w ∙ ap (λ l. lines_of seen ++ l) (lines_of-line raw [] h ∙ ap (λ l. strip_carriage_return raw ∷ l) lines_of-nil)

-- the whole lines where a line is open
pub open_end : (seen raw end : List ℕ) (lines : List (List ℕ)) → IsWhole seen → lines ≡ lines_of seen → All (λ b. is_line_end b ≡ false) raw → end ≡ []
    → whole_lines_of (seen ++ (raw ++ end)) ≡ lines
open_end seen raw end lines w given open_line none =
    ap (λ l. whole_lines_of (seen ++ (raw ++ l))) none ∙ ap (λ l. whole_lines_of (seen ++ l)) (append-nil raw) ∙ whole_lines_behind seen raw w
    ∙ ap (λ l. lines_of seen ++ l) (whole_lines_of-open raw open_line) ∙ append-nil (lines_of seen) ∙ sym given
