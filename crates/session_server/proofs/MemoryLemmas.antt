-- The lines of an output, and the entries that say Memory.
use Rattle.std.proofs.Common.{◌≡◌, ℕ, suc, ◌+◌, ◌<◌, ◌⊎◌, ◌↔◌, inl, inr, Bool, true, false, not, ◌&&◌, List, [], ◌∷◌, ◌++◌, length, drop, get_or, Option, refl, sym, ◌∙◌, ap, subst, arith, append_assoc, append-nil}
use Rattle.std.proofs.lemmas.List.{length-append}
use Rattle.std.proofs.lemmas.List.Splits.{slice_split-cons_yes, slice_split-cons_no, length-slice_split}
use Rattle.std.specs.List.{onto_first}
use Rattle.std.specs.Io.KnownBytes.{Appends}
use Rattle.pan_io.specs.Text.{is_line_end, parts}
use Rattle.repl_json.specs.OneLine.{is_unbroken, memory_line}
use Rattle.repl_json.specs.declared.request.Ask.{Ask}
use Rattle.state_tree.specs.declared.work.Found.{Found}
use Rattle.state_tree.specs.declared.work.Entry.{Entry}
use Rattle.state_tree.specs.declared.work.Gave.TheVariants.{Memory}
use Rattle.state_tree.specs.Value.{Value}
use Rattle.state_tree.specs.Server.{PlainTree, seq_of, step, after_all, MayAll, opening, replay, IsLegal}
use Rattle.state_tree.specs.Replies.{IsShown, RepliesAreShown}
use Rattle.state_tree.specs.TreeModel.{TreeModel}
use Rattle.state_tree.specs.Enters.{tree_of}
use Rattle.session_server.specs.Entered.{Adds, with_entries, output_of}
use Rattle.session_server.specs.Session.{Session}
use Rattle.session_server.specs.MemoryLines.{MarksMemory, ShowsMemory}
use Rattle.session_server.specs.declared.run.End.{End}
use Rattle.session_server.specs.declared.run.End.TheVariants as ending

-- ---- lines

is_not : (b : Bool) → not b ≡ true → b ≡ false
is_not true h = sym h
is_not false h = refl

and_left : (a b : Bool) → (a && b) ≡ true → a ≡ true
and_left true b h = refl
and_left false b h = h

and_right : (a b : Bool) → (a && b) ≡ true → b ≡ true
and_right true b h = h
and_right false b h = absurd cc

both : (a b : Bool) → a ≡ true → b ≡ true → (a && b) ≡ true
both true b p q = q
both false b p q = p

no_end : (x : ℕ) (xs : List ℕ) → is_unbroken (x ∷ xs) ≡ true → is_line_end x ≡ false
no_end x xs h = is_not (is_line_end x) (and_left (not (is_line_end x)) (is_unbroken xs) h)

no_ends : (x : ℕ) (xs : List ℕ) → is_unbroken (x ∷ xs) ≡ true → is_unbroken xs ≡ true
no_ends x xs h = and_right (not (is_line_end x)) (is_unbroken xs) h

pub parts_open : (xs : List ℕ) → is_unbroken xs ≡ true → parts xs ≡ xs ∷ []
parts_open [] h = refl
parts_open (x ∷ xs) h = slice_split-cons_no is_line_end x xs (no_end x xs h) ∙ ap (onto_first x) (parts_open xs (no_ends x xs h))

pub parts_line : (xs rest : List ℕ) → is_unbroken xs ≡ true → parts (xs ++ 10 ∷ rest) ≡ xs ∷ parts rest
parts_line [] rest h = slice_split-cons_yes is_line_end 10 rest refl
parts_line (x ∷ xs) rest h = slice_split-cons_no is_line_end x (xs ++ 10 ∷ rest) (no_end x xs h) ∙ ap (onto_first x) (parts_line xs rest (no_ends x xs h))

pub unbroken_front : (xs ys : List ℕ) → is_unbroken (xs ++ ys) ≡ true → is_unbroken xs ≡ true
unbroken_front [] ys h = refl
unbroken_front (x ∷ xs) ys h =
    both (not (is_line_end x)) (is_unbroken xs) (and_left (not (is_line_end x)) (is_unbroken (xs ++ ys)) h) (unbroken_front xs ys (and_right (not (is_line_end x)) (is_unbroken (xs ++ ys)) h))

-- the front of a text that begins with a line ends in that line, or goes past its end
abbrev pub IsCut : List ℕ → List ℕ → List ℕ → List ℕ → Type 0
IsCut front rest xs more = ((tail : List ℕ) × (xs ≡ front ++ tail)) ⊎ ((past : List ℕ) × (front ≡ xs ++ 10 ∷ past) × (past ++ rest ≡ more))

cut_more : (f x : ℕ) (front rest xs more : List ℕ) → f ≡ x → IsCut front rest xs more → IsCut (f ∷ front) rest (x ∷ xs) more
cut_more f x front rest xs more e (inl h) = inl (h.0, (λ i. sym e i ∷ h.1 i))
cut_more f x front rest xs more e (inr h) = inr (h.0, (λ i. e i ∷ h.1 i), h.2)

pub cut_at : (front rest xs more : List ℕ) → front ++ rest ≡ xs ++ 10 ∷ more → IsCut front rest xs more
cut_at [] rest xs more e = inl (xs, refl)
cut_at (f ∷ front) rest [] more e = inr (front, ap (λ b. b ∷ front) (ap (λ l. get_or l 0 0) e), ap (drop 1) e)
cut_at (f ∷ front) rest (x ∷ xs) more e = cut_more f x front rest xs more (ap (λ l. get_or l 0 0) e) (cut_at front rest xs more (ap (drop 1) e))

-- ---- marks

marks_more : (seq : ℕ) (line : List ℕ) (ps : List (List ℕ)) (entry : Entry) (entries : List Entry) → 0 < length ps → ((entry.gave ≡ Memory) ↔ (line ≡ memory_line seq)) → MarksMemory (seq + 1) ps entries
    → MarksMemory seq (line ∷ ps) (entry ∷ entries)
marks_more seq line [] entry entries some here later = tt
marks_more seq line (next ∷ more) entry entries some here later = (here, later)

pub some_parts : (bs : List ℕ) → 0 < length (parts bs)
some_parts bs = omega (arith, length-slice_split is_line_end bs)

none_left : (front rest : List ℕ) (seq : ℕ) → [] ≡ front ++ rest → MarksMemory seq (parts front) []
none_left [] rest seq e = tt
none_left (f ∷ front) rest seq e = absurd cc

module _ {E S : Type 0} (V : Ask → Found E S → Value E S) (shown : RepliesAreShown V) where
  -- the output of an entry and of those behind it, as a line and the rest
  first_line : (t : PlainTree E S) (entry : Entry) (entries : List Entry) (line : List ℕ) → IsShown V t entry line → output_of V t (entry ∷ entries) ≡ line ++ 10 ∷ output_of V (step V t entry) entries
  first_line t entry entries line h = ap (λ l. l ++ output_of V (step V t entry) entries) h.line.is ∙ append_assoc line (10 ∷ []) (output_of V (step V t entry) entries)

  pub next_seq : (t : PlainTree E S) (entry : Entry) → seq_of (step V t entry) ≡ seq_of t + 1
  next_seq t entry = length-append t.journal (entry ∷ [])

  by_cut : (t : PlainTree E S) (entry : Entry) (entries : List Entry) (front rest line : List ℕ) → IsShown V t entry line → IsCut front rest line (output_of V (step V t entry) entries)
      → ((past : List ℕ) → output_of V (step V t entry) entries ≡ past ++ rest → MarksMemory (seq_of (step V t entry)) (parts past) entries)
      → MarksMemory (seq_of t) (parts front) (entry ∷ entries)
  by_cut t entry entries front rest line h (inl (tail, is)) later =
      let one = parts_open front (unbroken_front front tail (subst (λ l. is_unbroken l ≡ true) is h.line.unbroken)) in
      subst (λ ps. MarksMemory (seq_of t) ps (entry ∷ entries)) (sym one) tt
  by_cut t entry entries front rest line h (inr (past, is, left)) later =
      let more = ap parts is ∙ parts_line line past h.line.unbroken in
      subst (λ ps. MarksMemory (seq_of t) ps (entry ∷ entries)) (sym more)
      (marks_more (seq_of t) line (parts past) entry entries (some_parts past) h.memory (subst (λ n. MarksMemory n (parts past) entries) (next_seq t entry) (later past (sym left))))

  marks : (t : PlainTree E S) (entries : List Entry) (front rest : List ℕ) → MayAll V t entries → output_of V t entries ≡ front ++ rest → MarksMemory (seq_of t) (parts front) entries
  marks t [] front rest may e = none_left front rest (seq_of t) e
  marks t (entry ∷ entries) front rest may e =
      let (line, h) = shown t entry may.0 in
      by_cut t entry entries front rest line h (cut_at front rest line (output_of V (step V t entry) entries) (sym e ∙ first_line t entry entries line h))
      (λ past left. marks (step V t entry) entries past rest may.1 left)

  -- each entry has a line
  lines_count : (t : PlainTree E S) (entries : List Entry) → MayAll V t entries → length (parts (output_of V t entries)) ≡ length entries + 1
  lines_count t [] may = refl
  lines_count t (entry ∷ entries) may =
      let (line, h) = shown t entry may.0 in
      let one : length (parts (output_of V t (entry ∷ entries))) ≡ suc (length (parts (output_of V (step V t entry) entries))) =
      ap (λ bs. length (parts bs)) (first_line t entry entries line h) ∙ ap length (parts_line line (output_of V (step V t entry) entries) h.line.unbroken) in
      omega (arith, one, lines_count (step V t entry) entries may.1)

  -- ---- a session

  pub may_rest : (t : PlainTree E S) (xs ys : List Entry) → MayAll V t (xs ++ ys) → MayAll V (after_all V t xs) ys
  may_rest t [] ys h = h
  may_rest t (x ∷ xs) ys h = may_rest (step V t x) xs ys h.1

  journal_after : (t : PlainTree E S) (xs : List Entry) → (after_all V t xs).journal ≡ t.journal ++ xs
  journal_after t [] = sym (append-nil t.journal)
  journal_after t (x ∷ xs) = journal_after (step V t x) xs ∙ append_assoc t.journal (x ∷ []) xs

  pub may_grown : (old new : TreeModel E) (entries : List Entry) → new ≡ with_entries old entries → IsLegal V new.book new.journal → MayAll V (tree_of V old) entries
  unfolding replay IsLegal
  may_grown old new entries grows legal = may_rest (opening V old.book) old.journal entries (subst (λ (g : TreeModel E). MayAll V (opening V g.book) g.journal) grows legal)

  may_added : (old new : TreeModel E) (entries : List Entry) → Adds old new entries → IsLegal V new.book new.journal → MayAll V (tree_of V old) entries
  may_added old new entries adds legal = may_grown old new entries adds.grows legal

  pub seq_is : (old : TreeModel E) → seq_of (tree_of V old) ≡ length old.journal
  unfolding replay
  seq_is old = ap length (journal_after (opening V old.book) old.journal)

  pub cancel : {A : Type 0} (xs ys zs : List A) → xs ++ ys ≡ xs ++ zs → ys ≡ zs
  cancel [] ys zs e = e
  cancel (x ∷ xs) ys zs e = cancel xs ys zs (ap (drop 1) e)

  same_entries : (old new : TreeModel E) (xs ys : List Entry) → Adds old new xs → Adds old new ys → xs ≡ ys
  same_entries old new xs ys p q = cancel old.journal xs ys (ap (λ (g : TreeModel E). g.journal) (sym p.grows ∙ q.grows))

  whole : (old : TreeModel E) (entries : List Entry) (out out' : Option (List ℕ)) (end : End) → MayAll V (tree_of V old) entries → Appends out out' (output_of V (tree_of V old) entries)
      → ShowsMemory (length old.journal) entries out out' end
  whole old entries out out' end may wrote = record {
    written = output_of V (tree_of V old) entries;
    taken = wrote;
    marks = subst (λ n. MarksMemory n (parts (output_of V (tree_of V old) entries)) entries) (seq_is old)
        (marks (tree_of V old) entries (output_of V (tree_of V old) entries) [] may (sym (append-nil (output_of V (tree_of V old) entries))));
    all = λ _. lines_count (tree_of V old) entries may;
  }

  shows_own : (input left out out' : Option (List ℕ)) (old new : TreeModel E) (end : End) (s : Session V input left old new out out' end) → IsLegal V new.book new.journal
      → ShowsMemory (length old.journal) s.entries out out' end
  shows_own input left out out' old new ending.WriteFault s legal =
      let (front, rest, is, took) = s.written in
      record {
        written = front;
        taken = took;
        marks = subst (λ n. MarksMemory n (parts front) s.entries) (seq_is old) (marks (tree_of V old) s.entries front rest (may_added old new s.entries s.adds legal) is);
        all = λ ne. absurd (ne refl);
      }
  shows_own input left out out' old new ending.Done s legal = whole old s.entries out out' ending.Done (may_added old new s.entries s.adds legal) s.written
  shows_own input left out out' old new ending.ReadFault s legal = whole old s.entries out out' ending.ReadFault (may_added old new s.entries s.adds legal) s.written
  shows_own input left out out' old new (ending.Full n) s legal = whole old s.entries out out' (ending.Full n) (may_added old new s.entries s.adds legal) s.written
  shows_own input left out out' old new (ending.Worn n) s legal = whole old s.entries out out' (ending.Worn n) (may_added old new s.entries s.adds legal) s.written
  shows_own input left out out' old new (ending.Long n) s legal = whole old s.entries out out' (ending.Long n) (may_added old new s.entries s.adds legal) s.written
  shows_own input left out out' old new ending.Memory s legal = whole old s.entries out out' ending.Memory (may_added old new s.entries s.adds legal) s.written

  pub session_shows : (input left out out' : Option (List ℕ)) (old new : TreeModel E) (end : End) → Session V input left old new out out' end → IsLegal V new.book new.journal
      → (entries : List Entry) → Adds old new entries → ShowsMemory (length old.journal) entries out out' end
  session_shows input left out out' old new end s legal entries adds =
      subst (λ es. ShowsMemory (length old.journal) es out out' end) (same_entries old new s.entries entries s.adds adds) (shows_own input left out out' old new end s legal)
