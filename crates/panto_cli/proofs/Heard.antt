-- What the notes of serving took.
use Rattle.std.proofs.Common.{◌≡◌, ℕ, ◌≤◌, inl, inr, Bool, true, false, List, [], ◌++◌, map, Option, Some, None, refl, sym, ◌∙◌, ap, subst, append-nil, arith}
use Rattle.std.specs.Prelude.{is_some, option_map}
use Rattle.std.proofs.KnownBytes.{Appends-nil, Appends-trans}
use Rattle.std.specs.Io.KnownBytes.{Appends, Keeps}
use Rattle.term_syntax.specs.Lex.{Text}
use Rattle.pan_io.specs.Books.{NamedBytes}
use Rattle.pan_io.specs.Doors.{ListensOn}
use Rattle.pan_io.specs.Faults.{Rose}
use Rattle.command_line.specs.Form.{Command}
use Rattle.state_tree.specs.declared.work.Entry.{Entry}
use Rattle.shared_board.specs.Boards.{BoardPassMeaning}
use Rattle.session_server.specs.declared.run.End.{End}
use Rattle.link_server.specs.Doors.{DoorsMeaning}
use Rattle.link_server.specs.Links.{ServedMeaning}
use Rattle.panto_cli.specs.Books.{Items}
use Rattle.panto_cli.specs.Ends.{Counted}
use Rattle.panto_cli.specs.Links.{outcome_of_links}
use Rattle.panto_cli.specs.Notes.{Noted, address_of}
use Rattle.panto_cli.specs.Outcomes.{status_in, line_of}
use Rattle.panto_cli.specs.Serve.{Given, IsStatusLine, IsNoted, HasHeard, AreNotes, listening_line}
use Rattle.panto_cli.specs.Serving.{Hears, EndsServing}
use Rattle.panto_cli.specs.declared.notes.Outcome.{Outcome}
use Rattle.panto_cli.specs.declared.status.Status.{Status}
use Rattle.panto_cli.specs.declared.status.Status.TheVariants.{OpenFault}
use Rattle.panto_cli.proofs.Puts.{of_both, behind_first}

-- a count that rose later has risen
pub rose_later : (first before now : ℕ) → first ≤ before → Rose before now → Rose first now
rose_later first before now later (inl up) = inl (omega arith)
rose_later first before now later (inr most) = inr most

nothing_kept : (old new : Option (List ℕ)) → Keeps old new → Appends old new []
nothing_kept None new k = tt
nothing_kept (Some xs) None k = absurd k
nothing_kept (Some xs) (Some ys) k = k ∙ sym (append-nil xs)

-- the notes took nothing, where no board was opened
pub silent : {V : Type 0} (journal : Option V) (items : V → List Entry) (listen : Text) (doors after : DoorsMeaning) (served : List ServedMeaning) (last : Option (BoardPassMeaning Items))
    (status : Status) (told : Bool) (notes : Option (List ℕ)) (faults : ℕ) → journal ≡ None → told ≡ true
    → HasHeard listen (record { doors = doors; after = after; served = served; journal = option_map items journal; last = last }) status told notes notes faults faults
silent {V} journal items listen doors after served last status told notes faults none is =
    subst (λ (t : Bool). HasHeard listen (record { doors = doors; after = after; served = served; journal = option_map items journal; last = last }) status t notes notes faults faults) (sym is)
    (subst (λ (j : Option V). HasHeard listen (record { doors = doors; after = after; served = served; journal = option_map items j; last = last }) status true notes notes faults faults) (sym none)
    ([], refl, Appends-nil notes))

-- the notes took the line of the doors, where a board was opened
heard_so : (listen : Text) (given : Given) (journal : List Entry) (status : Status) (told : Bool) (unserved : Type 0) (notes notes' : Option (List ℕ)) (faults faults' : ℕ)
    → given.journal ≡ Some journal → Hears told (ListensOn given.after.address listen) unserved notes notes' faults faults'
    → (unserved → (given.served ≡ []) × (status ≡ OpenFault) × Rose given.doors.faults given.after.faults) → HasHeard listen given status told notes notes' faults faults'
heard_so listen given journal status true unserved notes notes' faults faults' is (inl line) why = (
  listening_line,
  subst (λ (j : Option (List Entry)). IsNoted listen given j status [] listening_line) (sym is) (inl (sym (append-nil listening_line), line.1)),
  line.0,
)
heard_so listen given journal status true unserved notes notes' faults faults' is (inr kept) why =
    let none = why kept.1 in
    ([], subst (λ (j : Option (List Entry)). IsNoted listen given j status [] []) (sym is) (inr (refl, none.0, none.1, none.2)), nothing_kept notes notes' kept.0)
heard_so listen given journal status false unserved notes notes' faults faults' is cut why = (ap is_some is, cut.0, cut.1, cut.2)

pub heard_closed : {A : Type 0} (as_meant : A → ServedMeaning) (served : List A) (journal : List Entry) (listen : Text) (doors after : DoorsMeaning) (last : Option (BoardPassMeaning Items))
    (o : Outcome) (failed told : Bool) (ends : List End) (notes notes' : Option (List ℕ)) (faults faults' : ℕ)
    → Hears told (ListensOn after.address listen) ((served ≡ []) × (failed ≡ true) × Rose doors.faults after.faults) notes notes' faults faults' → o ≡ outcome_of_links failed ends
    → HasHeard listen (record { doors = doors; after = after; served = map as_meant served; journal = Some journal; last = last }) (status_in o) told notes notes' faults faults'
heard_closed as_meant served journal listen doors after last o failed told ends notes notes' faults faults' heard is =
    heard_so listen (record { doors = doors; after = after; served = map as_meant served; journal = Some journal; last = last }) journal (status_in o) told
    ((served ≡ []) × (failed ≡ true) × Rose doors.faults after.faults) notes notes' faults faults' refl heard
    (λ none. (ap (λ xs. map as_meant xs) none.0, ap status_in is ∙ ap (λ (f : Bool). status_in (outcome_of_links f ends)) none.1, none.2))

-- the line of the status follows
noted_then : (listen : Text) (given : Given) (journal : Option (List Entry)) (status : Status) (text line : List ℕ) → IsNoted listen given journal status [] text
    → IsNoted listen given journal status line (text ++ line)
noted_then listen given None status text line is = ap (λ (t : List ℕ). t ++ line) is
noted_then listen given (Some journal) status text line (inl h) = inl (ap (λ (t : List ℕ). t ++ line) (h.0 ∙ append-nil listening_line), h.1)
noted_then listen given (Some journal) status text line (inr h) = inr (ap (λ (t : List ℕ). t ++ line) h.0, h.1, h.2, h.3)

noted_cut : (listen : Text) (given : Given) (journal : Option (List Entry)) (status : Status) (line : List ℕ) → is_some journal ≡ true → ListensOn given.after.address listen
    → IsNoted listen given journal status line (listening_line ++ line)
noted_cut listen given None status line e listens = absurd cc
noted_cut listen given (Some journal) status line e listens = inl (refl, listens)

module _ (books : Option (List NamedBytes)) (form : Option Command) (given : Given) (status : Status) (line : List ℕ) (is : IsStatusLine books form given.journal status line) where
  -- the line of the status was written behind what the notes had taken
  told_end : (notes middle last : Option (List ℕ)) (faults between after : ℕ) → HasHeard (address_of form) given status true notes middle faults between
      → faults ≤ between → Noted middle last between after line → (text : List ℕ) × AreNotes books form given status text × Noted notes last faults after text
  told_end notes middle last faults between after heard later (inl took) =
      (heard.0 ++ line, (line, is, noted_then (address_of form) given given.journal status heard.0 line heard.1), inl (Appends-trans notes middle last heard.0 line heard.2 took))
  told_end notes middle last faults between after heard later (inr cut) = (
    heard.0 ++ line,
    (line, is, noted_then (address_of form) given given.journal status heard.0 line heard.1),
    inr (rose_later faults between after later cut.0, behind_first notes middle last heard.0 line heard.2 cut.1),
  )

  -- it was not written
  cut_end : (notes last : Option (List ℕ)) (faults after : ℕ) → HasHeard (address_of form) given status false notes last faults after
      → (text : List ℕ) × AreNotes books form given status text × Noted notes last faults after text
  cut_end notes last faults after heard =
      (listening_line ++ line, (line, is, noted_cut (address_of form) given given.journal status line heard.0 heard.1), inr (heard.2, of_both notes last listening_line line heard.3))

  noted_end : (told : Bool) (notes middle last : Option (List ℕ)) (faults between after : ℕ) → HasHeard (address_of form) given status told notes middle faults between
      → faults ≤ between → (told ≡ true → Noted middle last between after line) → (told ≡ false → last ≡ middle) → (told ≡ false → after ≡ between)
      → (text : List ℕ) × AreNotes books form given status text × Noted notes last faults after text
  noted_end true notes middle last faults between after heard later took same same_count = told_end notes middle last faults between after heard later (took refl)
  noted_end false notes middle last faults between after heard later took same same_count =
      subst (λ (l : Option (List ℕ)). (text : List ℕ) × AreNotes books form given status text × Noted notes l faults after text) (sym (same refl))
      (subst (λ (n : ℕ). (text : List ℕ) × AreNotes books form given status text × Noted notes middle faults n text) (sym (same_count refl)) (cut_end notes middle faults between heard))

pub noted_so : {books : Option (List NamedBytes)} {form : Option Command} {shelf : Counted} {given : Given} {o : Outcome} → EndsServing books form shelf given o
    → (status : Status) → status ≡ status_in o → (told : Bool) (notes middle last : Option (List ℕ)) (faults between after : ℕ)
    → HasHeard (address_of form) given (status_in o) told notes middle faults between → faults ≤ between → (told ≡ true → Noted middle last between after (line_of o))
    → (told ≡ false → last ≡ middle) → (told ≡ false → after ≡ between)
    → (text : List ℕ) × AreNotes books form given status text × Noted notes last faults after text
noted_so {books} {form} {shelf} {given} {o} ends status is told notes middle last faults between after heard later took same same_count =
    subst (λ (s : Status). (text : List ℕ) × AreNotes books form given s text × Noted notes last faults after text) (sym is)
    (noted_end books form given (status_in o) (line_of o) ends.note told notes middle last faults between after heard later took same same_count)
