-- A session goes on, or ends.
use Rattle.std.proofs.Common.{◌≡◌, ℕ, Bool, ◌<◌, ◌≤◌, ◌^◌, List, [], ◌∷◌, ◌++◌, length, sym, ◌∙◌, append-nil, Option, inl, Result, Ok, Err, subst}
use Rattle.pan_io.specs.Reader.{Reader}
use Rattle.pan_io.specs.History.{History, Continues}
use Rattle.pan_io.specs.declared.taken.Stop.TheVariants.{Open}
use Rattle.pan_io.specs.declared.taken.Taken.TheVariants.{Line, TooLong, End, ReadFault, Long}
use Rattle.repl_json.specs.declared.request.Ask.{Ask}
use Rattle.state_tree.specs.declared.work.Found.{Found}
use Rattle.state_tree.specs.Value.{Value}
use Rattle.state_tree.specs.TreeModel.{TreeModel}
use Rattle.session_server.specs.Input.{requests_of_line, requests_of_lines}
use Rattle.session_server.specs.PassSession.{Serves}
use Rattle.session_server.specs.Answers.{Answered, AnswersLine}
use Rattle.session_server.specs.Progress.{Runs, Steps, step_of}
use Rattle.session_server.specs.declared.answer.Halt.{Halt}
use Rattle.session_server.specs.declared.answer.Halt.TheVariants.{Write, Full, Worn, Memory}
use Rattle.session_server.specs.declared.run.End.TheVariants as ending
use Rattle.session_server.proofs.AnswerLemmas.{answered_none, answered_more, cut_more}
use Rattle.session_server.proofs.InputLemmas.{HasTaken, with_line, write_enters, full_enters, memory_enters, nothing_enters, done_enters, fault_enters, long_enters}

module _ {E S : Type 0} (V : Ask → Found E S → Value E S) (alone : Bool) (pass : ℕ) where
  pub along_none : (left out : Option (List ℕ)) (g : TreeModel E) (reader : Reader) → ((l : Option (List ℕ)) → History l l reader [] []) → reader.stop ≡ Open → Runs V alone pass left left g g out out reader
  along_none left out g reader begun open_now = ([], [], record { history = begun left; answered = answered_none V alone pass g out; going = inl open_now })

  pub memory_first : (left out : Option (List ℕ)) (g : TreeModel E) → Serves V alone pass left left g g out out ending.Memory
  memory_first left out g =
      let none = answered_none V alone pass g out in
      record { session = record { since = none.since; grows = none.sees.grows; entered = nothing_enters left left _ none.requests; written = none.written; reaches = tt }; by_it = none.sees.by_it }

  -- a line was taken, and its requests were answered so
  settled : (start left out mid-out out' : Option (List ℕ)) (old mid new : TreeModel E) (was reader : Reader) (line : List ℕ) (lines : List (List ℕ)) (answered : Result (Unit {0}) Halt)
      → Answered V alone pass old mid out mid-out (requests_of_lines lines) → HasTaken start left reader lines line → was.used < reader.used
      → AnswersLine V alone pass mid new mid-out out' (requests_of_line line) answered → Steps V alone pass start left old new out out' was reader (step_of answered)
  settled start left out mid-out out' old mid new was reader line lines (Ok done) so_far took used answers = (
    (
      took.seen,
      lines ++ line ∷ [],
      record {
        history = took.history;
        answered = subst (Answered V alone pass old new out out') (sym (with_line lines line)) (answered_more V alone pass old mid new out mid-out out' _ _ so_far answers);
        going = took.going;
      },
    ),
    used,
  )
  settled start left out mid-out out' old mid new was reader line lines (Err Write) so_far took used (first, rest, is, cut) =
      let all = cut_more V alone pass old mid new out mid-out out' _ first so_far cut in
      record { session = record { since = all.since; grows = all.sees.grows; entered = write_enters start left reader lines line _ first rest took is all.requests; written = all.written; reaches = tt }; by_it = all.sees.by_it }
  settled start left out mid-out out' old mid new was reader line lines (Err (Full n)) so_far took used (first, next, rest, is, part, full, number) =
      let all = answered_more V alone pass old mid new out mid-out out' _ first so_far part in
      record { session = record { since = all.since; grows = all.sees.grows; entered = full_enters start left reader lines line _ first rest next n took is all.requests; written = all.written; reaches = (full, number) }; by_it = all.sees.by_it }
  settled start left out mid-out out' old mid new was reader line lines (Err (Worn n)) so_far took used (first, rest, is, part) =
      let all = answered_more V alone pass old mid new out mid-out out' _ first so_far part in
      record { session = record { since = all.since; grows = all.sees.grows; entered = write_enters start left reader lines line _ first rest took is all.requests; written = all.written; reaches = tt }; by_it = all.sees.by_it }
  settled start left out mid-out out' old mid new was reader line lines (Err Memory) so_far took used none =
      let all = answered_more V alone pass old mid new out mid-out out' _ [] so_far none in
      record { session = record { since = all.since; grows = all.sees.grows; entered = memory_enters start left reader lines line _ took (all.requests ∙ append-nil (requests_of_lines lines)); written = all.written; reaches = tt }; by_it = all.sees.by_it }

  pub line_taken : (start left left' out mid-out out' : Option (List ℕ)) (old mid new : TreeModel E) (was reader : Reader) (answered : Result (Unit {0}) Halt)
      → Runs V alone pass start left old mid out mid-out was → ((seen : List ℕ) (lines : List (List ℕ)) → History start left was seen lines → Continues start left' was reader lines Line)
      → (length reader.line ≤ 65536 → AnswersLine V alone pass mid new mid-out out' (requests_of_line reader.line) answered) → Steps V alone pass start left' old new out out' was reader (step_of answered)
  line_taken start left left' out mid-out out' old mid new was reader answered (seen, lines, along) continues answers =
      let (seen', history, short, used, going) = continues seen lines along.history in
      settled start left' out mid-out out' old mid new was reader reader.line lines answered along.answered
      (record { seen = seen'; history = history; going = going }) used (answers short)

  pub long_taken : (start left left' out mid-out out' : Option (List ℕ)) (old mid new : TreeModel E) (was reader : Reader) (n : ℕ) (answered : Result (Unit {0}) Halt)
      → Runs V alone pass start left old mid out mid-out was → ((seen : List ℕ) (lines : List (List ℕ)) → History start left was seen lines → Continues start left' was reader lines (TooLong n))
      → ((line : List ℕ) → length line ≡ n → AnswersLine V alone pass mid new mid-out out' (requests_of_line line) answered) → Steps V alone pass start left' old new out out' was reader (step_of answered)
  long_taken start left left' out mid-out out' old mid new was reader n answered (seen, lines, along) continues answers =
      let (seen', line, history, is, long, used, going) = continues seen lines along.history in
      settled start left' out mid-out out' old mid new was reader line lines answered along.answered
      (record { seen = seen'; history = history; going = going }) used (answers line is)

  pub end_taken : (start left left' out out' : Option (List ℕ)) (old new : TreeModel E) (was reader : Reader)
      → Runs V alone pass start left old new out out' was → ((seen : List ℕ) (lines : List (List ℕ)) → History start left was seen lines → Continues start left' was reader lines End)
      → reader.used ≤ 2 ^ 40 → Serves V alone pass start left' old new out out' ending.Done
  end_taken start left left' out out' old new was reader (seen, lines, along) continues most =
      let (seen', history, ended) = continues seen lines along.history in
      let all = along.answered in
      record { session = record { since = all.since; grows = all.sees.grows; entered = done_enters start left' reader seen' lines _ history ended most all.requests; written = all.written; reaches = tt }; by_it = all.sees.by_it }

  pub fault_taken : (start left left' out out' : Option (List ℕ)) (old new : TreeModel E) (was reader : Reader)
      → Runs V alone pass start left old new out out' was → ((seen : List ℕ) (lines : List (List ℕ)) → History start left was seen lines → Continues start left' was reader lines ReadFault)
      → Serves V alone pass start left' old new out out' ending.ReadFault
  fault_taken start left left' out out' old new was reader (seen, lines, along) continues =
      let (seen', history, faulted) = continues seen lines along.history in
      let all = along.answered in
      record { session = record { since = all.since; grows = all.sees.grows; entered = fault_enters start left' reader seen' lines _ history faulted all.requests; written = all.written; reaches = tt }; by_it = all.sees.by_it }

  pub exceeded_taken : (start left left' out out' : Option (List ℕ)) (old new : TreeModel E) (was reader : Reader) (n : ℕ)
      → Runs V alone pass start left old new out out' was → ((seen : List ℕ) (lines : List (List ℕ)) → History start left was seen lines → Continues start left' was reader lines (Long n))
      → Serves V alone pass start left' old new out out' (ending.Long n)
  exceeded_taken start left left' out out' old new was reader n (seen, lines, along) continues =
      let (seen', history, exceeded, is) = continues seen lines along.history in
      let all = along.answered in
      record { session = record { since = all.since; grows = all.sees.grows; entered = long_enters start left' reader seen' lines _ n history exceeded all.requests; written = all.written; reaches = is }; by_it = all.sees.by_it }
