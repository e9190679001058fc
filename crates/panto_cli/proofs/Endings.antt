-- How the words of a run end.
use Rattle.std.proofs.Common.{◌≡◌, ℕ, ◌⊎◌, inl, inr, List, length, Option, Some, None, refl, sym, ◌∙◌, subst}
use Rattle.std.specs.Io.KnownBytes.{Appends, Keeps}
use Rattle.pan_io.specs.Books.{NamedBytes}
use Rattle.pan_io.specs.Put.{AppendsPrefix}
use Rattle.term_syntax.specs.Lex.{Text}
use Rattle.command_line.specs.Form.{Command, run, serve, check, demo}
use Rattle.panto_cli.specs.Books.{Items, Accepts, IsNoBook}
use Rattle.panto_cli.specs.Ends.{Counted, HasRisen, Ends}
use Rattle.panto_cli.specs.Notes.{IsNote}
use Rattle.panto_cli.specs.Outcomes.{status_in, line_of, outcome_without}
use Rattle.panto_cli.specs.Demo.{demo_line}
use Rattle.panto_cli.specs.Run.{Answered, Runs, Demos, Leaves, IsServed, checked_line}
use Rattle.panto_cli.specs.declared.book.NoBook.{NoBook}
use Rattle.panto_cli.specs.declared.book.NoBook.TheVariants as no_book
use Rattle.panto_cli.specs.declared.notes.Outcome.{Outcome}
use Rattle.panto_cli.specs.declared.notes.Outcome.TheVariants as outcome
use Rattle.panto_cli.specs.declared.status.Status.{Status}
use Rattle.panto_cli.specs.declared.status.Status.TheVariants.{Done, Usage, ReadFault, WriteFault, Memory}
use Rattle.panto_cli.proofs.Refusals.{can_open, not_refused}
use Rattle.panto_cli.proofs.Sessions.{no_open, runs_so, comes_to_its_end}

pub kept : (out : Option (List ℕ)) → Keeps out out
kept None = tt
kept (Some xs) = refl

-- ---- a run that has no book

module _ (books : Option (List NamedBytes)) (input out : Option (List ℕ)) (shelf source sink : Counted) where
  pub run_without : (file : Option Text) (entries workers : ℕ) (fault : NoBook) → IsNoBook books file shelf.before shelf.after fault
      → Ends books (Some (run file entries workers)) input input out out shelf source sink (outcome_without fault)
  run_without file entries workers no_book.Fault h = record {
    leaves = kept out;
    note = refl;
    opened = λ _. h;
    read = λ e. absurd cc;
    write = λ e. absurd cc;
    complete = λ items bytes told accepts known short room calm. absurd (can_open books file items _ _ told accepts h (λ r. calm (inl r)));
  }
  run_without file entries workers (no_book.Refused object) h = record {
    leaves = (kept out, (object.items, h));
    note = (object.items, h, refl);
    opened = λ e. absurd cc;
    read = λ e. absurd cc;
    write = λ e. absurd cc;
    complete = λ items bytes told accepts known short room calm. absurd (not_refused books file items object.items told accepts h);
  }
  run_without file entries workers no_book.Memory h = record {
    leaves = inl (kept out);
    note = refl;
    opened = λ e. absurd cc;
    read = λ e. absurd cc;
    write = λ e. absurd cc;
    complete = λ items bytes told accepts known short room calm. inr refl;
  }

  pub check_without : (file : Text) (fault : NoBook) → IsNoBook books (Some file) shelf.before shelf.after fault
      → Ends books (Some (check file)) input input out out shelf source sink (outcome_without fault)
  check_without file no_book.Fault h = record {
    leaves = kept out;
    note = refl;
    opened = λ _. h;
    read = λ e. absurd cc;
    write = λ e. absurd cc;
    complete = λ items told accepts calm. absurd (can_open books (Some file) items _ _ told accepts h (λ r. calm (inl r)));
  }
  check_without file (no_book.Refused object) h = record {
    leaves = (kept out, (object.items, h));
    note = (object.items, h, refl);
    opened = λ e. absurd cc;
    read = λ e. absurd cc;
    write = λ e. absurd cc;
    complete = λ items told accepts calm. absurd (not_refused books (Some file) items object.items told accepts h);
  }
  check_without file no_book.Memory h = record {
    leaves = kept out;
    note = refl;
    opened = λ e. absurd cc;
    read = λ e. absurd cc;
    write = λ e. absurd cc;
    complete = λ items told accepts calm. inr refl;
  }

  -- memory ran out in a demo
  pub demo_without : (seed count : ℕ) → Ends books (Some (demo seed count)) input input out out shelf source sink (outcome.Plain Memory)
  demo_without seed count = record {
    leaves = kept out;
    note = refl;
    opened = λ e. absurd cc;
    read = λ e. absurd cc;
    write = λ e. absurd cc;
    complete = λ calm. inr refl;
  }

  -- there was no memory to read the words
  pub words_unread : (form : Option Command) → Ends books form input input out out shelf source sink (outcome.Plain Memory)
  words_unread None = record { leaves = (kept out, inr refl); note = refl; opened = λ e. absurd cc; read = λ e. absurd cc; write = λ e. absurd cc; complete = tt }
  words_unread (Some (run book entries workers)) = run_without book entries workers no_book.Memory tt
  words_unread (Some (serve listen book entries workers sessions)) = record { leaves = (kept out, inr refl); note = refl; opened = λ e. absurd cc; read = λ e. absurd cc; write = λ e. absurd cc; complete = tt }
  words_unread (Some (check file)) = check_without file no_book.Memory tt
  words_unread (Some (demo seed count)) = demo_without seed count

-- ---- a run over a book

module _ (books : Option (List NamedBytes)) (input left out out' : Option (List ℕ)) (shelf source sink : Counted) where
  pub run_over : (file : Option Text) (entries workers : ℕ) (items : Items) (o : Outcome) → Accepts books file items
      → ((status_in o ≡ Memory) × Keeps out out') ⊎ Answered items entries input left out out' (status_in o)
      → IsNote books file entries (status_in o) (line_of o) → (status_in o ≡ ReadFault → HasRisen source) → (status_in o ≡ WriteFault → HasRisen sink)
      → Ends books (Some (run file entries workers)) input left out out' shelf source sink o
  run_over file entries workers items o accepts (inl m) note read write = record {
    leaves = subst (λ s. Runs books file entries input left out out' s) (sym m.0) (inl m.1);
    note = note;
    opened = λ e. absurd (cc (m.0, e));
    read = read;
    write = write;
    complete = λ _ _ _ _ _ _ _ _. inr m.0;
  }
  run_over file entries workers items o accepts (inr a) note read write = record {
    leaves = subst (λ s. Runs books file entries input left out out' s) (sym a.named) (runs_so items entries input left out out' a.tree books file accepts a.legal a.room a.end a.session a.shown);
    note = note;
    opened = λ e. absurd (no_open a.end (sym a.named ∙ e));
    read = read;
    write = write;
    complete = λ _ bytes _ _ known short room calm.
        comes_to_its_end items entries input left out out' a.tree bytes known short room _ _ a.end a.named a.session (λ e. inr (inl (read e))) (λ e. inr (inr (write e))) calm;
  }

  pub check_done : (file : Text) (items : Items) → Accepts books (Some file) items → Appends out out' (checked_line (length items))
      → Ends books (Some (check file)) input left out out' shelf source sink (outcome.Plain Done)
  check_done file items accepts line = record {
    leaves = (items, accepts, line);
    note = refl;
    opened = λ e. absurd cc;
    read = λ e. absurd cc;
    write = λ e. absurd cc;
    complete = λ items told accepts calm. inl refl;
  }

  pub check_cut : (file : Text) (items : Items) → Accepts books (Some file) items → AppendsPrefix out out' (checked_line (length items)) → HasRisen sink
      → Ends books (Some (check file)) input left out out' shelf source sink (outcome.Plain WriteFault)
  check_cut file items accepts line rose = record {
    leaves = (items, accepts, line);
    note = refl;
    opened = λ e. absurd cc;
    read = λ e. absurd cc;
    write = λ _. rose;
    complete = λ items told accepts calm. absurd (calm (inr (inr rose)));
  }

  pub demo_done : (seed count : ℕ) → Appends out out' (demo_line seed count) → Ends books (Some (demo seed count)) input left out out' shelf source sink (outcome.Plain Done)
  demo_done seed count line = record {
    leaves = line;
    note = refl;
    opened = λ e. absurd cc;
    read = λ e. absurd cc;
    write = λ e. absurd cc;
    complete = λ calm. inl refl;
  }

  pub demo_cut : (seed count : ℕ) → AppendsPrefix out out' (demo_line seed count) → HasRisen sink → Ends books (Some (demo seed count)) input left out out' shelf source sink (outcome.Plain WriteFault)
  demo_cut seed count line rose = record {
    leaves = line;
    note = refl;
    opened = λ e. absurd cc;
    read = λ e. absurd cc;
    write = λ _. rose;
    complete = λ calm. absurd (calm (inr (inr rose)));
  }

-- ---- words of no form that is served

module _ (books : Option (List NamedBytes)) (input left out out' : Option (List ℕ)) where
  pub usage_of : (form : Option Command) (status : Status) → Leaves books form input left out out' status → status ≡ Usage → ¬ IsServed form
  usage_of None status l e served = served
  usage_of (Some (run book entries workers)) status l e served = subst (λ s. Runs books book entries input left out out' s) e l
  usage_of (Some (serve listen book entries workers sessions)) status l e served = served
  usage_of (Some (check file)) status l e served = subst (λ s. Leaves books (Some (check file)) input left out out' s) e l
  usage_of (Some (demo seed count)) status l e served = subst (λ s. Demos seed count out out' s) e l

  pub refused_of : (form : Option Command) (status : Status) → Leaves books form input left out out' status → ¬ IsServed form → (status ≡ Usage) ⊎ (status ≡ Memory)
  refused_of None status l unserved = l.1
  refused_of (Some (run book entries workers)) status l unserved = absurd (unserved tt)
  refused_of (Some (serve listen book entries workers sessions)) status l unserved = l.1
  refused_of (Some (check file)) status l unserved = absurd (unserved tt)
  refused_of (Some (demo seed count)) status l unserved = absurd (unserved tt)
