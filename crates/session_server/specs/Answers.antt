-- The answers to requests.
use Rattle.std.specs.Prelude.{◌≡◌, ◌+◌, ◌<◌, Bool, if◌then◌else◌, List, [], ◌∷◌, ◌++◌, length, map, Option, Result, Ok, Err, true, false, ℕ}
use Rattle.std.specs.List.{AllByRecursion}
use Rattle.std.specs.Io.KnownBytes.{Appends}
use Rattle.pan_io.specs.Put.{AppendsPrefix}
use Rattle.repl_json.specs.declared.reply.Line.{Line}
use Rattle.repl_json.specs.declared.request.Ask.{Ask}
use Rattle.repl_json.specs.declared.request.Request.{Request}
use Rattle.state_tree.specs.declared.check.Known.{Known}
use Rattle.state_tree.specs.declared.work.Found.{Found}
use Rattle.state_tree.specs.declared.work.Entry.{Entry}
use Rattle.state_tree.specs.Value.{Value}
use Rattle.state_tree.specs.Server.{PlainTree}
use Rattle.state_tree.specs.Again.{is_bad}
use Rattle.state_tree.specs.Prepared.{Prepared, is_refused, known_by}
use Rattle.state_tree.specs.TreeModel.{TreeModel, Holds}
use Rattle.state_tree.specs.Enters.{tree_of}
use Rattle.session_server.specs.Entered.{requests_in}
use Rattle.session_server.specs.Own.{own, own_output}
use Rattle.session_server.specs.Sees.{Sees, OthersCome, EntersOne}
use Rattle.session_server.specs.declared.answer.Tried.{Tried}
use Rattle.session_server.specs.declared.answer.Tried.TheVariants.{Entered, Missed}
use Rattle.session_server.specs.declared.answer.Halt.{Halt}
use Rattle.session_server.specs.declared.answer.Halt.TheVariants.{Write, Full, Worn, Memory}

abbrev pub unless : Bool → ℕ
unless found = if found then 0 else 1

abbrev pub unknown : Known → ℕ
unknown known = unless known.env + unless known.one + unless known.two

module _ {E S : Type 0} where
  -- a prepared request that may be entered into this tree
  pub record IsFit (t : PlainTree E S) (ready : Prepared E S) : Type 0 where
    pub held : Holds t ready.request.ask ready.found
    pub bad : is_bad ready.request.ask ≡ true → is_refused ready ≡ false

  abbrev pub AreFit : PlainTree E S → List (Prepared E S) → Type 0
  AreFit t readies = AllByRecursion (IsFit t) readies

  abbrev pub requests_in_readies : List (Prepared E S) → List Request
  requests_in_readies readies = map (λ ready. ready.request) readies

  -- how many ids don't count as found, which a further look may find
  abbrev pub misses : Prepared E S → ℕ
  misses ready = unknown (known_by ready)

module _ {E S : Type 0} (V : Ask → Found E S → Value E S) (alone : Bool) (pass : ℕ) where
  -- these requests were entered, and their replies written. Entries of other passes may stand before, between and behind them
  pub record Answered (old new : TreeModel E) (out out' : Option (List ℕ)) (asked : List Request) : Type 0 where
    pub since : List Entry
    pub sees : Sees alone pass old new since
    pub requests : requests_in (own pass since) ≡ asked
    pub written : Appends out out' (own_output V pass (tree_of V old) since)

  -- these requests were entered, and a prefix of their replies written
  pub record Cut (old new : TreeModel E) (out out' : Option (List ℕ)) (asked : List Request) : Type 0 where
    pub since : List Entry
    pub sees : Sees alone pass old new since
    pub requests : requests_in (own pass since) ≡ asked
    pub written : AppendsPrefix out out' (own_output V pass (tree_of V old) since)

  -- what entering these requests leaves; it finds no want of memory
  abbrev pub Answers : TreeModel E → TreeModel E → Option (List ℕ) → Option (List ℕ) → List Request → Result (Unit {0}) Halt → Type 0
  Answers old new out out' requests (Ok done) = Answered old new out out' requests
  Answers old new out out' requests (Err Write) = (first : List Request) × (rest : List Request) × (requests ≡ first ++ rest) × Cut old new out out' first
  Answers old new out out' requests (Err (Full n)) = (first : List Request) × (next : Request) × (rest : List Request) × (requests ≡ first ++ next ∷ rest) × Answered old new out out' first
      × (length new.journal ≡ new.entries) × (n ≡ new.entries)
  Answers old new out out' requests (Err (Worn n)) = (first : List Request) × (rest : List Request) × (requests ≡ first ++ rest) × Answered old new out out' first
  Answers old new out out' requests (Err Memory) = ⊥

  -- the same for the requests of a line; where memory is wanted nothing of the line is entered
  abbrev pub AnswersLine : TreeModel E → TreeModel E → Option (List ℕ) → Option (List ℕ) → List Request → Result (Unit {0}) Halt → Type 0
  AnswersLine old new out out' requests (Err Memory) = Answered old new out out' []
  AnswersLine old new out out' requests answered = Answers old new out out' requests answered

  -- what entering one prepared request leaves, up to its reply
  abbrev pub IsReplied : TreeModel E → TreeModel E → Request → Result Line Halt → Type 0
  IsReplied old new request (Ok line) = EntersOne V alone pass old new request line
  IsReplied old new request (Err Write) = ⊥
  IsReplied old new request (Err (Full n)) = OthersCome alone pass old new × (length new.journal ≡ new.entries) × (n ≡ new.entries)
  IsReplied old new request (Err (Worn n)) = OthersCome alone pass old new
  IsReplied old new request (Err Memory) = ⊥

  -- and what one try leaves: it is entered, or it was looked up again and fewer ids are missed
  abbrev pub Tries : {W : Type 0} → TreeModel E → TreeModel E → Prepared E S → Result (Tried W E S) Halt → Type 0
  Tries old new ready (Ok (Entered line)) = EntersOne V alone pass old new ready.request line
  Tries old new ready (Ok (Missed again)) = OthersCome alone pass old new × (again.request ≡ ready.request) × IsFit (tree_of V new) again × (misses again < misses ready)
  Tries old new ready (Err halt) = IsReplied old new ready.request (Err halt)
