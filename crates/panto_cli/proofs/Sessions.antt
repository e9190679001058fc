-- What a session's end says of a run.
use Rattle.std.proofs.Common.{◌≡◌, ℕ, ◌≤◌, ◌^◌, inl, inr, List, [], ◌∷◌, length, Option, Some, refl, sym, ap, ◌∙◌, arith, subst}
use Rattle.std.specs.Prelude.{IfSome}
use Rattle.std.proofs.lemmas.List.{length-append, length-map}
use Rattle.std.proofs.lemmas.List.Elements.{All-nil}
use Rattle.ld_trees.specs.Term.{Term}
use Rattle.ld_rules.specs.Derivation.{sort}
use Rattle.ld_terms.specs.Names.{IsTextName}
use Rattle.ld_terms.specs.declared.globals.Item.{Item}
use Rattle.book_reader.specs.Reading.{read}
use Rattle.book_reader.proofs.Whole.{legal_all, book_named}
use Rattle.pan_io.specs.Books.{NamedBytes}
use Rattle.term_syntax.specs.Lex.{Text}
use Rattle.state_tree.specs.TreeModel.{TreeModel}
use Rattle.state_tree.specs.Server.{IsLegal}
use Rattle.command_set.specs.Theorems.{IsSound, AllPrintSoundly}
use Rattle.command_set.specs.Values.{value}
use Rattle.command_set.proofs.Proved.{printed_proofs_are_proofs}
use Rattle.goal_state.specs.State.{State}
use Rattle.session_server.specs.Input.{requests_of_input}
use Rattle.session_server.specs.Entered.{requests_in, Adds}
use Rattle.session_server.specs.MemoryLines.{ShowsMemory}
use Rattle.state_tree.specs.declared.work.Entry.{Entry}
use Rattle.panto_cli.specs.declared.notes.Outcome.{Outcome}
use Rattle.session_server.specs.Session.{Session, EntersOf}
use Rattle.session_server.specs.declared.run.End.{End}
use Rattle.session_server.specs.declared.run.End.TheVariants as ending
use Rattle.panto_cli.specs.Books.{Items, Accepts}
use Rattle.panto_cli.specs.Notes.{IsNote}
use Rattle.panto_cli.specs.Outcomes.{status_in, line_of, outcome_of}
use Rattle.panto_cli.specs.Run.{opened, Answered, Runs, Completed}
use Rattle.panto_cli.specs.Status.{status_of}
use Rattle.panto_cli.specs.declared.status.Status.{Status}
use Rattle.panto_cli.specs.declared.status.Status.TheVariants.{ReadFault, WriteFault, OpenFault}

-- the status of what a session's end comes to
pub status_is : (end : End) → status_in (outcome_of end) ≡ status_of end
status_is ending.Done = refl
status_is ending.ReadFault = refl
status_is ending.WriteFault = refl
status_is (ending.Full n) = refl
status_is (ending.Worn n) = refl
status_is (ending.Long n) = refl
status_is ending.Memory = refl

pub no_open : (end : End) → status_of end ≡ OpenFault → ⊥
no_open ending.Done e = absurd cc
no_open ending.ReadFault e = absurd cc
no_open ending.WriteFault e = absurd cc
no_open (ending.Full n) e = absurd cc
no_open (ending.Worn n) e = absurd cc
no_open (ending.Long n) e = absurd cc
no_open ending.Memory e = absurd cc

-- a book that is accepted makes a legal environment, whose items have names of the texts
book_is_sound : (books : Option (List NamedBytes)) (file : Option Text) (items : Items) → Accepts books file items → IsSound items
book_is_sound books file items accepts = record {
  legal = legal_all 10000000 [] (read accepts.text) items sort accepts.value;
  named = book_named 10000000 [] accepts.text items (All-nil (λ (i : Item Term). IsTextName i.name)) accepts.value;
}

-- what is printed as solved in a legal history is proved, over a book that was accepted
pub proofs_over : (books : Option (List NamedBytes)) (file : Option Text) (items : Items) → Accepts books file items → (journal : List Entry) → AllPrintSoundly items journal
proofs_over books file items accepts journal = printed_proofs_are_proofs items journal (book_is_sound books file items accepts)

module _ (items : Items) (entries : ℕ) (input left out out' : Option (List ℕ)) (tree : TreeModel Items) where
  abbrev Ran : End → Type 0
  Ran end = Session {S = State} value input left (opened items entries) tree out out' end

  -- a full journal holds the entries that the words leave room for
  pub full_number : (n : ℕ) → Ran (ending.Full n) → n ≡ entries
  full_number n s = s.tells.1 ∙ ap (λ (t : TreeModel Items). t.entries) s.adds.grows

  pub note_is : (books : Option (List NamedBytes)) (file : Option Text) (end : End) → Ran end → IsNote books file entries (status_in (outcome_of end)) (line_of (outcome_of end))
  note_is books file ending.Done s = refl
  note_is books file ending.ReadFault s = refl
  note_is books file ending.WriteFault s = refl
  note_is books file (ending.Full n) s = ap (λ n. line_of (outcome_of (ending.Full n))) (full_number n s)
  note_is books file (ending.Worn n) s = refl
  note_is books file (ending.Long n) s = refl
  note_is books file ending.Memory s = refl

  pub runs_so : (books : Option (List NamedBytes)) (file : Option Text) → Accepts books file items → IsLegal {S = State} value items tree.journal → length tree.journal ≤ entries → (end : End) → Ran end → ShowsMemory 0 tree.journal out out' end → Runs books file entries input left out out' (status_of end)
  runs_so books file accepts legal room ending.Done s shown = (items, accepts, record { end = ending.Done; named = refl; tree = tree; session = s; legal = legal; room = room; shown = shown }, proofs_over books file items accepts tree.journal)
  runs_so books file accepts legal room ending.ReadFault s shown = (items, accepts, record { end = ending.ReadFault; named = refl; tree = tree; session = s; legal = legal; room = room; shown = shown }, proofs_over books file items accepts tree.journal)
  runs_so books file accepts legal room ending.WriteFault s shown = (items, accepts, record { end = ending.WriteFault; named = refl; tree = tree; session = s; legal = legal; room = room; shown = shown }, proofs_over books file items accepts tree.journal)
  runs_so books file accepts legal room (ending.Full n) s shown = (items, accepts, record { end = ending.Full n; named = refl; tree = tree; session = s; legal = legal; room = room; shown = shown }, proofs_over books file items accepts tree.journal)
  runs_so books file accepts legal room (ending.Worn n) s shown = absurd s.tells
  runs_so books file accepts legal room (ending.Long n) s shown = (items, accepts, record { end = ending.Long n; named = refl; tree = tree; session = s; legal = legal; room = room; shown = shown }, proofs_over books file items accepts tree.journal)
  runs_so books file accepts legal room ending.Memory s shown = inr (items, accepts, record { end = ending.Memory; named = refl; tree = tree; session = s; legal = legal; room = room; shown = shown }, proofs_over books file items accepts tree.journal)

  own_lines : (end : End) → Ran end → ((es : List Entry) → Adds (opened items entries) tree es → ShowsMemory 0 es out out' end) → ShowsMemory 0 tree.journal out out' end
  own_lines end s shows = subst (λ es. ShowsMemory 0 es out out' end) (sym (ap (λ (t : TreeModel Items). t.journal) s.adds.grows)) (shows s.entries s.adds)

  -- what a session over a new tree leaves
  pub answered_so : (old : TreeModel Items) → old.book ≡ items → old.entries ≡ entries → old.journal ≡ [] → (end : End) → Session {S = State} value input left old tree out out' end
      → IsLegal {S = State} value tree.book tree.journal → length tree.journal ≤ tree.entries → ((es : List Entry) → Adds old tree es → ShowsMemory (length old.journal) es out out' end)
      → (o : Outcome) → o ≡ outcome_of end → Answered items entries input left out out' (status_in o)
  answered_so old b e j end s legal within shows o is =
      let same : old ≡ opened items entries = λ i. record { book = b i; entries = e i; journal = j i } in
      let own : Ran end = subst (λ (g : TreeModel Items). Session {S = State} value input left g tree out out' end) same s in
      record {
        end = end;
        named = ap status_in is ∙ status_is end;
        tree = tree;
        session = own;
        legal = subst (λ (b : Items). IsLegal {S = State} value b tree.journal) (ap (λ (t : TreeModel Items). t.book) own.adds.grows) legal;
        room = subst (λ n. length tree.journal ≤ n) (ap (λ (t : TreeModel Items). t.entries) own.adds.grows) within;
        shown = own_lines end own (subst (λ (g : TreeModel Items). (es : List Entry) → Adds g tree es → ShowsMemory (length g.journal) es out out' end) same shows);
      }

  -- of an input within its limit, with room for every request
  module _ (bytes : List ℕ) (known : input ≡ Some bytes) (short : length bytes ≤ 2 ^ 40) (room : length (requests_of_input bytes) ≤ entries) where
    pub entered : (end : End) (s : Ran end) → EntersOf bytes left (requests_in s.entries) end
    entered end s = subst (λ i. IfSome i (λ b. EntersOf b left (requests_in s.entries) end)) known s.entered

    pub not_full : (n : ℕ) → Ran (ending.Full n) → ⊥
    not_full n s =
        let some = entered (ending.Full n) s in
        let all = ap length some.2 ∙ length-append (requests_in s.entries) (some.0 ∷ some.1) in
        let grown : length tree.journal ≡ length s.entries = ap (λ (t : TreeModel Items). length t.journal) s.adds.grows in
        let holds : length tree.journal ≡ entries = s.tells.0 ∙ ap (λ (t : TreeModel Items). t.entries) s.adds.grows in
        absurd (omega (arith, all, room, grown, holds, length-map s.entries (λ e. e.request)))

    pub comes_to_its_end : (rose : Type 0) → (status : Status) (end : End) → status ≡ status_of end → Ran end → (status ≡ ReadFault → rose) → (status ≡ WriteFault → rose) → ¬ rose → Completed status
    comes_to_its_end rose status ending.Done named s r w calm = inl named
    comes_to_its_end rose status ending.ReadFault named s r w calm = absurd (calm (r named))
    comes_to_its_end rose status ending.WriteFault named s r w calm = absurd (calm (w named))
    comes_to_its_end rose status (ending.Full n) named s r w calm = absurd (not_full n s)
    comes_to_its_end rose status (ending.Worn n) named s r w calm = absurd s.tells
    comes_to_its_end rose status (ending.Long n) named s r w calm = absurd (omega (arith, (entered (ending.Long n) s).0, short))
    comes_to_its_end rose status ending.Memory named s r w calm = inr named
