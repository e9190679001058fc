-- How the words of serving end.
use Rattle.std.proofs.Common.{◌≡◌, ℕ, ◌⊎◌, inl, inr, Bool, true, false, List, [], ◌∷◌, length, map, Option, Some, None, codes, refl, sym, ◌∙◌, ap, subst, All}
use Rattle.std.proofs.lemmas.List.Elements.{All-head, All-tail, All-map}
use Rattle.pan_io.specs.Books.{NamedBytes}
use Rattle.term_syntax.specs.Lex.{Text}
use Rattle.command_line.specs.Form.{Command, run, serve, check, demo}
use Rattle.state_tree.specs.declared.work.Entry.{Entry}
use Rattle.state_tree.specs.TreeModel.{TreeModel}
use Rattle.shared_board.specs.declared.board_tree.TreeGround.{TreeGround}
use Rattle.shared_board.specs.Boards.{BoardPassMeaning}
use Rattle.shared_board.specs.Calls.{tree_with}
use Rattle.session_server.specs.PassSession.{Reaches}
use Rattle.session_server.specs.declared.run.End.{End}
use Rattle.session_server.specs.declared.run.End.TheVariants as ending
use Rattle.link_server.specs.Doors.{DoorsMeaning, RoseAtDoors}
use Rattle.link_server.specs.Links.{Telling, ServedMeaning, served_as}
use Rattle.link_server.specs.Served.{HasServed}
use Rattle.link_server.specs.declared.served.Served.{Served}
use Rattle.panto_cli.specs.Books.{Items, Accepts, IsNoBook}
use Rattle.panto_cli.specs.Ends.{Counted}
use Rattle.panto_cli.specs.Links.{ground_of, first_of, first_end, outcome_of_links}
use Rattle.panto_cli.specs.Outcomes.{status_in, line_of, outcome_of, outcome_without}
use Rattle.panto_cli.specs.Run.{Completed}
use Rattle.panto_cli.specs.Serve.{IsServe, Given, IsUnopened, IsNamedBy, ServesOver, LeavesBy, LeavesLinks, IsServedBy, IsStatusLine, CompletesLinks, IsInTurns}
use Rattle.panto_cli.specs.Serving.{IsClosedBoard, EndsServing}
use Rattle.panto_cli.specs.Status.{status_of}
use Rattle.panto_cli.specs.declared.book.NoBook.{NoBook}
use Rattle.panto_cli.specs.declared.book.NoBook.TheVariants as no_book
use Rattle.panto_cli.specs.declared.notes.Outcome.{Outcome}
use Rattle.panto_cli.specs.declared.notes.Outcome.TheVariants as outcome
use Rattle.panto_cli.specs.declared.status.Status.{Status}
use Rattle.panto_cli.specs.declared.status.Status.TheVariants.{Done, Usage, ReadFault, WriteFault, BookRefused, Full, OpenFault, Worn, Memory, Long}
use Rattle.panto_cli.proofs.Refusals.{can_open, not_refused}
use Rattle.panto_cli.proofs.Sessions.{status_is, proofs_over}

-- ---- what all ends have

first_of_has : (P : End → Type 0) (end later : End) → P end → P later → P (first_of end later)
first_of_has P ending.Done later h l = l
first_of_has P ending.ReadFault later h l = h
first_of_has P ending.WriteFault later h l = h
first_of_has P (ending.Full n) later h l = h
first_of_has P (ending.Worn n) later h l = h
first_of_has P (ending.Long n) later h l = h
first_of_has P ending.Memory later h l = h

-- what Done and each of these ends have, the first that isn't Done has
first_has : (P : End → Type 0) → P ending.Done → (ends : List End) → All P ends → P (first_end ends)
first_has P done [] all = done
first_has P done (end ∷ more) all = first_of_has P end (first_end more) (All-head P end more all) (first_has P done more (All-tail P end more all))

-- a full journal holds the entries that there was room for
abbrev Tells : ℕ → End → Type 0
Tells entries (ending.Full n) = n ≡ entries
Tells entries end = Unit {0}

tells_of : (tree : TreeModel Items) (end : End) → Reaches tree end → Tells tree.entries end
tells_of tree ending.Done r = tt
tells_of tree ending.ReadFault r = tt
tells_of tree ending.WriteFault r = tt
tells_of tree (ending.Full n) r = r.1
tells_of tree (ending.Worn n) r = tt
tells_of tree (ending.Long n) r = tt
tells_of tree ending.Memory r = tt

-- the session read its input to its end, or memory ran out
abbrev IsOver : End → Type 0
IsOver end = (end ≡ ending.Done) ⊎ (end ≡ ending.Memory)

completed : (end : End) → IsOver end → Completed (status_of end)
completed end (inl e) = inl (ap status_of e)
completed end (inr e) = inr (ap status_of e)

-- ---- a board was closed

module _ (books : Option (List NamedBytes)) (file : Option Text) (listen : Text) (entries workers sessions : ℕ) where
  abbrev words_of : Option Command
  words_of = Some (serve listen file entries workers sessions)

  line_of_end : (journal : List Entry) (end : End) → Tells entries end → IsStatusLine books words_of (Some journal) (status_in (outcome_of end)) (line_of (outcome_of end))
  line_of_end journal ending.Done t = refl
  line_of_end journal ending.ReadFault t = refl
  line_of_end journal ending.WriteFault t = refl
  line_of_end journal (ending.Full n) t = ap (λ (n : ℕ). line_of (outcome_of (ending.Full n))) t
  line_of_end journal (ending.Worn n) t = refl
  line_of_end journal (ending.Long n) t = refl
  line_of_end journal ending.Memory t = refl

  line_of_links : (journal : List Entry) (failed : Bool) (ends : List End) → All (Tells entries) ends
      → IsStatusLine books words_of (Some journal) (status_in (outcome_of_links failed ends)) (line_of (outcome_of_links failed ends))
  line_of_links journal true ends all = refl
  line_of_links journal false ends all = line_of_end journal (first_end ends) (first_has (Tells entries) tt ends all)

  named_by : (given : Given) (failed : Bool) → HasServed sessions given.doors given.after (length given.served) failed
      → IsNamedBy sessions given (status_in (outcome_of_links failed (map (λ (s : ServedMeaning). s.end) given.served)))
  named_by given failed (inl h) =
      let ends : List End = map (λ (s : ServedMeaning). s.end) given.served in
      inl (h.0, ap (λ (f : Bool). status_in (outcome_of_links f ends)) h.1 ∙ status_is (first_end ends))
  named_by given failed (inr h) =
      let ends : List End = map (λ (s : ServedMeaning). s.end) given.served in
      inr (h.0, ap (λ (f : Bool). status_in (outcome_of_links f ends)) h.1, h.2)

  completed_by : (given : Given) (failed : Bool) → HasServed sessions given.doors given.after (length given.served) failed → ¬ RoseAtDoors sessions given.doors given.after
      → All (λ (s : ServedMeaning). IsOver s.end) given.served → Completed (status_in (outcome_of_links failed (map (λ (s : ServedMeaning). s.end) given.served)))
  completed_by given failed (inl h) calm over =
      let ends : List End = map (λ (s : ServedMeaning). s.end) given.served in
      subst Completed (sym (ap (λ (f : Bool). status_in (outcome_of_links f ends)) h.1 ∙ status_is (first_end ends)))
      (completed (first_end ends) (first_has IsOver (inl refl) ends (All-map IsOver (λ (s : ServedMeaning). s.end) given.served over)))
  completed_by given failed (inr h) calm over = absurd (calm h.2)

  module _ (items : Items) (given : Given) (failed : Bool) (journal : List Entry) (last : BoardPassMeaning Items)
      (closed : IsClosedBoard (ground_of items entries) listen sessions given.doors given.after given.served failed journal last) where
    all_tell : All (Tells entries) (map (λ (s : ServedMeaning). s.end) given.served)
    all_tell = All-map (Tells entries) (λ (s : ServedMeaning). s.end) given.served
        (λ place d lt. tells_of (tree_with (ground_of items entries) journal) _ (closed.fits.each place lt d).session.reaches)

    over_book : Accepts books file items → ServesOver items listen entries sessions given journal last (status_in (outcome_of_links failed (map (λ (s : ServedMeaning). s.end) given.served)))
    over_book accepts = record {
      legal = closed.fits.legal;
      sound = proofs_over books file items accepts journal;
      room = closed.fits.room;
      listens = closed.listens;
      left = closed.left;
      served = closed.fits.each;
      by_links = closed.fits.by_links;
      seen = closed.fits.seen;
      number = closed.fits.number;
      named = named_by given failed closed.count;
    }

    -- what serving over a book leaves, which was accepted
    serves_ground : (shelf : Counted) → Accepts books file items → given.journal ≡ Some journal → given.last ≡ Some last
        → EndsServing books words_of shelf given (outcome_of_links failed (map (λ (s : ServedMeaning). s.end) given.served))
    serves_ground shelf accepts is_journal is_last =
        let o : Outcome = outcome_of_links failed (map (λ (s : ServedMeaning). s.end) given.served) in
        record {
          leaves = subst (λ (j : Option (List Entry)). LeavesBy books words_of shelf given j given.last (status_in o)) (sym is_journal)
              (subst (λ (l : Option (BoardPassMeaning Items)). LeavesBy books words_of shelf given (Some journal) l (status_in o)) (sym is_last) (items, accepts, over_book accepts));
          note = subst (λ (j : Option (List Entry)). IsStatusLine books words_of j (status_in o) (line_of o)) (sym is_journal)
              (line_of_links journal failed (map (λ (s : ServedMeaning). s.end) given.served) all_tell);
          complete = λ _ inputs told _ known short room still calm_doors calm in_turns.
              completed_by given failed closed.count calm_doors
              (closed.complete inputs known short room calm (subst IsInTurns is_last in_turns));
        }

  serves_over : (items : Items) (the_ground : TreeGround Items) (given : Given) (failed : Bool) (journal : List Entry) (last : BoardPassMeaning Items) (shelf : Counted) (o : Outcome)
      → the_ground.book ≡ items → the_ground.entries ≡ entries → IsClosedBoard the_ground listen sessions given.doors given.after given.served failed journal last
      → given.journal ≡ Some journal → given.last ≡ Some last → o ≡ outcome_of_links failed (map (λ (s : ServedMeaning). s.end) given.served)
      → Accepts books file items → EndsServing books words_of shelf given o
  serves_over items the_ground given failed journal last shelf o book room closed is_journal is_last is accepts =
      let same : the_ground ≡ ground_of items entries = λ i. record { book = book i; entries = room i } in
      subst (λ (o : Outcome). EndsServing books words_of shelf given o) (sym is)
      (serves_ground items given failed journal last
      (subst (λ (g : TreeGround Items). IsClosedBoard g listen sessions given.doors given.after given.served failed journal last) same closed)
      shelf accepts is_journal is_last)

-- the ends of links, as they are given back
ends_of_links : {I O : Type 0} (tell : Telling I O) (links : List (Served I O)) → map (λ (link : Served I O). link.end) links ≡ map (λ (s : ServedMeaning). s.end) (map (served_as tell) links)
ends_of_links tell [] = refl
ends_of_links tell (link ∷ more) = ap (λ (ends : List End). link.end ∷ ends) (ends_of_links tell more)

pub serves_links : {I O : Type 0} (tell : Telling I O) (links : List (Served I O)) (books : Option (List NamedBytes)) (file : Option Text) (listen : Text) (entries workers sessions : ℕ)
    (items : Items) (the_ground : TreeGround Items) (old new : DoorsMeaning) (failed : Bool) (journal : List Entry) (last : BoardPassMeaning Items) (shelf : Counted) (o : Outcome)
    → the_ground.book ≡ items → the_ground.entries ≡ entries → IsClosedBoard the_ground listen sessions old new (map (served_as tell) links) failed journal last
    → (seen : List (Served I O)) → seen ≡ links → o ≡ outcome_of_links failed (map (λ (link : Served I O). link.end) seen) → Accepts books file items
    → EndsServing books (Some (serve listen file entries workers sessions)) shelf
    (record { doors = old; after = new; served = map (served_as tell) links; journal = Some journal; last = Some last }) o
serves_links {I} {O} tell links books file listen entries workers sessions items the_ground old new failed journal last shelf o book room closed seen same is accepts =
    serves_over books file listen entries workers sessions items the_ground
    (record { doors = old; after = new; served = map (served_as tell) links; journal = Some journal; last = Some last })
    failed journal last shelf o book room closed refl refl
    (is ∙ ap (λ (xs : List (Served I O)). outcome_of_links failed (map (λ (link : Served I O). link.end) xs)) same ∙ ap (λ (ends : List End). outcome_of_links failed ends) (ends_of_links tell links))
    accepts

-- ---- no board was opened

module _ (books : Option (List NamedBytes)) (shelf : Counted) (given : Given) (journal : given.journal ≡ None) (last : given.last ≡ None) (served : given.served ≡ []) (doors : given.after ≡ given.doors) where
  leaves_none : (form : Option Command) (status : Status) → IsUnopened books form shelf status → IsServedBy books form shelf given status
  leaves_none form status u =
      subst (λ (j : Option (List Entry)). LeavesBy books form shelf given j given.last status) (sym journal)
      (subst (λ (l : Option (BoardPassMeaning Items)). LeavesBy books form shelf given None l status) (sym last) (record { served = served; doors = doors }, u))

  line_none : (form : Option Command) (status : Status) (line : List ℕ) → IsStatusLine books form None status line → IsStatusLine books form given.journal status line
  line_none form status line l = subst (λ (j : Option (List Entry)). IsStatusLine books form j status line) (sym journal) l

  -- there is no book
  pub serve_without : (listen : Text) (file : Option Text) (entries workers sessions : ℕ) (fault : NoBook) → IsNoBook books file shelf.before shelf.after fault
      → EndsServing books (Some (serve listen file entries workers sessions)) shelf given (outcome_without fault)
  serve_without listen file entries workers sessions no_book.Fault h =
      let form : Option Command = Some (serve listen file entries workers sessions) in
      record {
        leaves = leaves_none form OpenFault (tt, h);
        note = line_none form OpenFault (codes "panto: cannot open\n") refl;
        complete = λ items inputs told accepts known short room calm _ _ _. absurd (can_open books file items _ _ told accepts h calm);
      }
  serve_without listen file entries workers sessions (no_book.Refused object) h =
      let form : Option Command = Some (serve listen file entries workers sessions) in
      record {
        leaves = leaves_none form BookRefused (tt, (object.items, h));
        note = line_none form BookRefused (line_of (outcome.BookRefused object)) (object.items, h, refl);
        complete = λ items inputs told accepts known short room calm _ _ _. absurd (not_refused books file items object.items told accepts h);
      }
  serve_without listen file entries workers sessions no_book.Memory h =
      let form : Option Command = Some (serve listen file entries workers sessions) in
      record {
        leaves = leaves_none form Memory tt;
        note = line_none form Memory (codes "panto: out of memory\n") refl;
        complete = λ items inputs told accepts known short room calm _ _ _. inr refl;
      }

  completes_other : (form : Option Command) → ¬ IsServe form → CompletesLinks books form shelf given Usage
  completes_other None other = tt
  completes_other (Some (run book entries workers)) other = tt
  completes_other (Some (serve listen book entries workers sessions)) other = absurd (other tt)
  completes_other (Some (check file)) other = tt
  completes_other (Some (demo seed count)) other = tt

  -- the words are of another form
  pub usage_ends : (form : Option Command) → ¬ IsServe form → EndsServing books form shelf given (outcome.Plain Usage)
  usage_ends form other = record {
    leaves = leaves_none form Usage other;
    note = line_none form Usage _ refl;
    complete = completes_other form other;
  }

  completes_memory : (form : Option Command) → CompletesLinks books form shelf given Memory
  completes_memory None = tt
  completes_memory (Some (run book entries workers)) = tt
  completes_memory (Some (serve listen book entries workers sessions)) = λ items inputs told accepts known short room calm _ _ _. inr refl
  completes_memory (Some (check file)) = tt
  completes_memory (Some (demo seed count)) = tt

  -- memory ran out
  pub memory_ends : (form : Option Command) → EndsServing books form shelf given (outcome.Plain Memory)
  memory_ends form = record {
    leaves = leaves_none form Memory tt;
    note = line_none form Memory _ refl;
    complete = completes_memory form;
  }

-- ---- words of another form

no_usage : (end : End) → status_of end ≡ Usage → ⊥
no_usage ending.Done e = absurd cc
no_usage ending.ReadFault e = absurd cc
no_usage ending.WriteFault e = absurd cc
no_usage (ending.Full n) e = absurd cc
no_usage (ending.Worn n) e = absurd cc
no_usage (ending.Long n) e = absurd cc
no_usage ending.Memory e = absurd cc

module _ (books : Option (List NamedBytes)) (shelf : Counted) (given : Given) where
  not_named : (sessions : ℕ) (status : Status) → IsNamedBy sessions given status → status ≡ Usage → ⊥
  not_named sessions status (inl h) e = no_usage (first_end (map (λ (s : ServedMeaning). s.end) given.served)) (sym h.1 ∙ e)
  not_named sessions status (inr h) e = let o = h.1 in absurd cc

  usage_links : (form : Option Command) (journal : List Entry) (last : BoardPassMeaning Items) (status : Status) → LeavesLinks books form given journal last status → status ≡ Usage → ⊥
  usage_links None journal last status l e = l
  usage_links (Some (run book entries workers)) journal last status l e = l
  usage_links (Some (serve listen book entries workers sessions)) journal last status l e = not_named sessions status l.2.named e
  usage_links (Some (check file)) journal last status l e = l
  usage_links (Some (demo seed count)) journal last status l e = l

  usage_by : (form : Option Command) (journal : Option (List Entry)) (last : Option (BoardPassMeaning Items)) (status : Status)
      → LeavesBy books form shelf given journal last status → status ≡ Usage → ¬ IsServe form
  usage_by form None None status l e = subst (λ (s : Status). IsUnopened books form shelf s) e l.1
  usage_by form (Some journal) (Some last) status l e = absurd (usage_links form journal last status l e)
  usage_by form None (Some last) status l e = absurd l
  usage_by form (Some journal) None status l e = absurd l

  usage_serves : (form : Option Command) (status : Status) → IsServedBy books form shelf given status → status ≡ Usage → ¬ IsServe form
  usage_serves form status l e = usage_by form given.journal given.last status l e

  refused_unopened : (form : Option Command) (status : Status) → IsUnopened books form shelf status → ¬ IsServe form → (status ≡ Usage) ⊎ (status ≡ Memory)
  refused_unopened form Done u other = absurd u
  refused_unopened form Usage u other = inl refl
  refused_unopened form ReadFault u other = absurd u
  refused_unopened form WriteFault u other = absurd u
  refused_unopened form BookRefused u other = absurd (other u.0)
  refused_unopened form Full u other = absurd u
  refused_unopened form OpenFault u other = absurd (other u.0)
  refused_unopened form Worn u other = absurd u
  refused_unopened form Memory u other = inr refl
  refused_unopened form Long u other = absurd u

  refused_links : (form : Option Command) (journal : List Entry) (last : BoardPassMeaning Items) (status : Status) → LeavesLinks books form given journal last status → ¬ IsServe form → ⊥
  refused_links None journal last status l other = l
  refused_links (Some (run book entries workers)) journal last status l other = l
  refused_links (Some (serve listen book entries workers sessions)) journal last status l other = other tt
  refused_links (Some (check file)) journal last status l other = l
  refused_links (Some (demo seed count)) journal last status l other = l

  refused_by : (form : Option Command) (journal : Option (List Entry)) (last : Option (BoardPassMeaning Items)) (status : Status)
      → LeavesBy books form shelf given journal last status → ¬ IsServe form → (status ≡ Usage) ⊎ (status ≡ Memory)
  refused_by form None None status l other = refused_unopened form status l.1 other
  refused_by form (Some journal) (Some last) status l other = absurd (refused_links form journal last status l other)
  refused_by form None (Some last) status l other = absurd l
  refused_by form (Some journal) None status l other = absurd l

  refused_serves : (form : Option Command) (status : Status) → IsServedBy books form shelf given status → ¬ IsServe form → (status ≡ Usage) ⊎ (status ≡ Memory)
  refused_serves form status l other = refused_by form given.journal given.last status l other

-- ---- the clauses of the call

pub usage_so : {books : Option (List NamedBytes)} {form : Option Command} {shelf : Counted} {given : Given} {o : Outcome} → EndsServing books form shelf given o
    → (status : Status) → status ≡ status_in o → status ≡ Usage → ¬ IsServe form
usage_so {books} {form} {shelf} {given} {o} ends status is e = usage_serves books shelf given form (status_in o) ends.leaves (sym is ∙ e)

pub refused_so : {books : Option (List NamedBytes)} {form : Option Command} {shelf : Counted} {given : Given} {o : Outcome} → EndsServing books form shelf given o
    → (status : Status) → status ≡ status_in o → ¬ IsServe form → (status ≡ Usage) ⊎ (status ≡ Memory)
refused_so {books} {form} {shelf} {given} {o} ends status is other =
    subst (λ (s : Status). (s ≡ Usage) ⊎ (s ≡ Memory)) (sym is) (refused_serves books shelf given form (status_in o) ends.leaves other)
