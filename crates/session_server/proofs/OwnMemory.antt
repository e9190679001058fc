-- The lines of a pass's output, and those of its entries that say Memory.
use Rattle.std.proofs.Common.{◌≡◌, ℕ, suc, ◌+◌, ◌<◌, ◌↔◌, inl, inr, Bool, true, false, cond, List, [], ◌∷◌, ◌++◌, length, Option, refl, sym, ◌∙◌, ap, subst, arith, append_assoc, append-nil}
use Rattle.std.specs.List.{flat_map}
use Rattle.std.specs.Io.KnownBytes.{Appends}
use Rattle.pan_io.specs.Text.{parts}
use Rattle.repl_json.specs.Reply.{text}
use Rattle.repl_json.specs.OneLine.{is_unbroken, memory_line}
use Rattle.repl_json.specs.declared.reply.Line.{Line}
use Rattle.repl_json.specs.declared.request.Ask.{Ask}
use Rattle.state_tree.specs.declared.work.Found.{Found}
use Rattle.state_tree.specs.declared.work.Entry.{Entry}
use Rattle.state_tree.specs.declared.work.Gave.TheVariants.{Memory}
use Rattle.state_tree.specs.Value.{Value}
use Rattle.state_tree.specs.Server.{PlainTree, seq_of, reply, step, MayAll, MayStand, IsLegal}
use Rattle.state_tree.specs.Replies.{IsShown, RepliesAreShown}
use Rattle.state_tree.specs.TreeModel.{TreeModel}
use Rattle.state_tree.specs.Enters.{tree_of}
use Rattle.session_server.specs.Own.{is_own, own, numbered, own_replies, own_output}
use Rattle.session_server.specs.PassSession.{PassSession}
use Rattle.session_server.specs.MemoryLines.{MarksOwn, ShowsOwnMemory}
use Rattle.session_server.specs.declared.run.End.{End}
use Rattle.session_server.specs.declared.run.End.TheVariants as ending
use Rattle.session_server.proofs.MemoryLemmas.{IsCut, parts_open, parts_line, unbroken_front, cut_at, some_parts, next_seq, may_grown, seq_is, cancel}

marks_more : (n : ℕ) (line : List ℕ) (ps : List (List ℕ)) (entry : Entry) (ns : List (ℕ × Entry)) → 0 < length ps → ((entry.gave ≡ Memory) ↔ (line ≡ memory_line n)) → MarksOwn ps ns → MarksOwn (line ∷ ps) ((n, entry) ∷ ns)
marks_more n line [] entry ns some here later = tt
marks_more n line (next ∷ more) entry ns some here later = (here, later)

none_left : (front rest : List ℕ) → [] ≡ front ++ rest → MarksOwn (parts front) []
none_left [] rest e = tt
none_left (f ∷ front) rest e = absurd cc

module _ {E S : Type 0} (V : Ask → Found E S → Value E S) (shown : RepliesAreShown V) (pass : ℕ) where
  by_cut : (t : PlainTree E S) (entry : Entry) (ns : List (ℕ × Entry)) (out front rest line : List ℕ) → IsShown V t entry line → IsCut front rest line out
      → ((past : List ℕ) → out ≡ past ++ rest → MarksOwn (parts past) ns) → MarksOwn (parts front) ((seq_of t, entry) ∷ ns)
  by_cut t entry ns out front rest line h (inl (tail, is)) later =
      let one = parts_open front (unbroken_front front tail (subst (λ l. is_unbroken l ≡ true) is h.line.unbroken)) in
      subst (λ ps. MarksOwn ps ((seq_of t, entry) ∷ ns)) (sym one) tt
  by_cut t entry ns out front rest line h (inr (past, is, left)) later =
      let more = ap parts is ∙ parts_line line past h.line.unbroken in
      subst (λ ps. MarksOwn ps ((seq_of t, entry) ∷ ns)) (sym more) (marks_more (seq_of t) line (parts past) entry ns (some_parts past) h.memory (later past (sym left)))

  -- the entry is the pass's own, or it has no line
  mark_one : (b : Bool) (t : PlainTree E S) (entry : Entry) (ls : List Line) (ns : List (ℕ × Entry)) (front rest : List ℕ) → MayStand t entry
      → flat_map text (cond b (reply V t entry ∷ ls) ls) ≡ front ++ rest → ((past : List ℕ) → flat_map text ls ≡ past ++ rest → MarksOwn (parts past) ns)
      → MarksOwn (parts front) (cond b ((seq_of t, entry) ∷ ns) ns)
  mark_one true t entry ls ns front rest may e later =
      let (line, h) = shown t entry may in
      by_cut t entry ns (flat_map text ls) front rest line h
      (cut_at front rest line (flat_map text ls) (sym e ∙ (ap (λ l. l ++ flat_map text ls) h.line.is ∙ append_assoc line (10 ∷ []) (flat_map text ls)))) later
  mark_one false t entry ls ns front rest may e later = later front e

  marks : (t : PlainTree E S) (seq : ℕ) (entries : List Entry) (front rest : List ℕ) → seq_of t ≡ seq → MayAll V t entries → own_output V pass t entries ≡ front ++ rest → MarksOwn (parts front) (numbered pass seq entries)
  marks t seq [] front rest at may e = none_left front rest e
  marks t seq (entry ∷ entries) front rest at may e =
      subst (λ (n : ℕ). MarksOwn (parts front) (cond (is_own pass entry) ((n, entry) ∷ numbered pass (seq + 1) entries) (numbered pass (seq + 1) entries))) at
      (mark_one (is_own pass entry) t entry (own_replies V pass (step V t entry) entries) (numbered pass (seq + 1) entries) front rest may.0 e
      (λ past left. marks (step V t entry) (seq + 1) entries past rest (next_seq V shown t entry ∙ ap (λ n. n + 1) at) may.1 left))

  count_one : (b : Bool) (t : PlainTree E S) (entry : Entry) (ls : List Line) (os : List Entry) → MayStand t entry → length (parts (flat_map text ls)) ≡ length os + 1
      → length (parts (flat_map text (cond b (reply V t entry ∷ ls) ls))) ≡ length (cond b (entry ∷ os) os) + 1
  count_one true t entry ls os may is =
      let (line, h) = shown t entry may in
      let one : length (parts (flat_map text (reply V t entry ∷ ls))) ≡ suc (length (parts (flat_map text ls))) =
      ap (λ bs. length (parts bs)) (ap (λ l. l ++ flat_map text ls) h.line.is ∙ append_assoc line (10 ∷ []) (flat_map text ls)) ∙ ap length (parts_line line (flat_map text ls) h.line.unbroken) in
      omega (arith, one, is)
  count_one false t entry ls os may is = is

  -- each of its entries has a line
  lines_count : (t : PlainTree E S) (entries : List Entry) → MayAll V t entries → length (parts (own_output V pass t entries)) ≡ length (own pass entries) + 1
  lines_count t [] may = refl
  lines_count t (entry ∷ entries) may = count_one (is_own pass entry) t entry (own_replies V pass (step V t entry) entries) (own pass entries) may.0 (lines_count (step V t entry) entries may.1)

  whole : (old : TreeModel E) (entries : List Entry) (out out' : Option (List ℕ)) (end : End) → MayAll V (tree_of V old) entries → Appends out out' (own_output V pass (tree_of V old) entries)
      → ShowsOwnMemory pass (length old.journal) entries out out' end
  whole old entries out out' end may wrote = record {
    written = own_output V pass (tree_of V old) entries;
    taken = wrote;
    marks = marks (tree_of V old) (length old.journal) entries (own_output V pass (tree_of V old) entries) [] (seq_is V shown old) may (sym (append-nil (own_output V pass (tree_of V old) entries)));
    all = λ _. lines_count (tree_of V old) entries may;
  }

  shows_since : (input left out out' : Option (List ℕ)) (old new : TreeModel E) (end : End) (s : PassSession V pass input left old new out out' end) → IsLegal V new.book new.journal
      → ShowsOwnMemory pass (length old.journal) s.since out out' end
  shows_since input left out out' old new ending.WriteFault s legal =
      let (front, rest, is, took) = s.written in
      record {
        written = front;
        taken = took;
        marks = marks (tree_of V old) (length old.journal) s.since front rest (seq_is V shown old) (may_grown V shown old new s.since s.grows legal) is;
        all = λ ne. absurd (ne refl);
      }
  shows_since input left out out' old new ending.Done s legal = whole old s.since out out' ending.Done (may_grown V shown old new s.since s.grows legal) s.written
  shows_since input left out out' old new ending.ReadFault s legal = whole old s.since out out' ending.ReadFault (may_grown V shown old new s.since s.grows legal) s.written
  shows_since input left out out' old new (ending.Full n) s legal = whole old s.since out out' (ending.Full n) (may_grown V shown old new s.since s.grows legal) s.written
  shows_since input left out out' old new (ending.Worn n) s legal = whole old s.since out out' (ending.Worn n) (may_grown V shown old new s.since s.grows legal) s.written
  shows_since input left out out' old new (ending.Long n) s legal = whole old s.since out out' (ending.Long n) (may_grown V shown old new s.since s.grows legal) s.written
  shows_since input left out out' old new ending.Memory s legal = whole old s.since out out' ending.Memory (may_grown V shown old new s.since s.grows legal) s.written

  -- whichever way the entries that the view grew by are given
  pub pass_shows : (input left out out' : Option (List ℕ)) (old new : TreeModel E) (end : End) → PassSession V pass input left old new out out' end → IsLegal V new.book new.journal
      → (since : List Entry) → old.journal ++ since ≡ new.journal → ShowsOwnMemory pass (length old.journal) since out out' end
  pass_shows input left out out' old new end s legal since is =
      let same : s.since ≡ since = cancel V shown old.journal s.since since (sym (ap (λ (g : TreeModel E). g.journal) s.grows) ∙ sym is) in
      subst (λ es. ShowsOwnMemory pass (length old.journal) es out out' end) same (shows_since input left out out' old new end s legal)
