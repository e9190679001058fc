-- The steps of the lock, in the order in which a pass makes them: what each does to the view of the seat that makes it, and what it tells.
-- The words of the table are `next` (0), how many turns were drawn, `serving` (1), the ticket whose turn it is, and `count` (2), how many entries the journal has.
-- Its one slot has the value, at home or out with the seat that has the turn.
use Rattle.std.specs.Prelude.{◌≡◌, ℕ, ◌+◌, ◌<◌, ◌≤◌, max, if◌then◌else◌, nat_lt, ◌==◌, Bool, IsTrue, ◌↔◌, List, [], ◌∷◌, ◌++◌, length, Some}
use Rattle.atomic_table.specs.Seated.{TableId}
use Rattle.atomic_table.specs.Table.{Me, Step, rest}
use Rattle.turn_lock.specs.declared.view.View.{View}
use Rattle.turn_lock.specs.declared.view.Stage.{Stage}
use Rattle.turn_lock.specs.declared.view.Stage.TheVariants.{Spent, Note, Idle, Waiting, Called, Holding, Entered}
use Rattle.turn_lock.specs.Journals.{ExtendsByOthers, DifferByOthers, GrowsByOne, longer}
use Rattle.turn_lock.specs.Meanings.{MAX_TURNS}
use Rattle.turn_lock.specs.Views.{own_numbers}

-- a lock's table of three words and a slot, and a seat at it
abbrev pub IsSeatAt : TableId → TableId → Type 0
IsSeatAt table seat = (seat ≡ table) × (table.words ≡ 3) × (table.slots ≡ 1)

module _ {E G : Type 0} where
  -- 1. draw: `fetch_add` of 1 on `next` finds the ticket, the number of turns drawn before. One that comes after the last turn is kept as the found number alone
  abbrev pub after_draw : ℕ → View E G → View E G
  after_draw ticket v = record v { stage = (if nat_lt ticket MAX_TURNS then Waiting ticket else v.stage); found = ticket }

  abbrev pub Draws : {T : Type 0} → Step T → Me T (View E G) → ℕ → Me T (View E G) → Type 0
  Draws st me ticket me' = (me'.1 ≡ me.1) × (me'.0 ≡ after_draw ticket me.0) × (me.0.found ≤ ticket)

-- 2. watch: a load of `serving` finds whose turn it is, and a pass that waits for it is called
abbrev pub stage_after_watch : ℕ → Stage → Stage
stage_after_watch serving Spent = Spent
stage_after_watch serving Note = Note
stage_after_watch serving Idle = Idle
stage_after_watch serving (Waiting ticket) = if serving == ticket then Called ticket else Waiting ticket
stage_after_watch serving (Called ticket) = Called ticket
stage_after_watch serving (Holding ticket) = Holding ticket
stage_after_watch serving (Entered ticket) = Entered ticket

module _ {E G : Type 0} where
  abbrev pub after_watch : ℕ → View E G → View E G
  after_watch serving v = record v { stage = stage_after_watch serving v.stage }

  abbrev pub Watches : {T : Type 0} → Step T → Me T (View E G) → ℕ → Me T (View E G) → Type 0
  Watches st me serving me' = (me'.1 ≡ me.1) × (me'.0 ≡ after_watch serving me.0)

  -- 3. take: `fetch_add` of 0 on `serving` takes the value from its slot, and the pass sees the whole journal
  abbrev pub after_take : ℕ → List E → View E G → View E G
  after_take ticket journal v = record v { stage = Holding ticket; seen = journal }

module _ {T E G : Type 0} (entries : T → List E) (pass_of : E → ℕ) (ground_of : T → G) where
  -- the value that a seat takes: its list goes on from what the seat has seen by entries of other passes
  pub record Found (v : View E G) (value : T) : Type 0 where
    pub same : Some (ground_of value) ≡ v.the_ground
    pub more : ExtendsByOthers pass_of v.seen (entries value) (own_numbers v)

  abbrev pub Takes : Step T → Me T (View E G) → ℕ → Me T (View E G) → Type 0
  Takes st me serving me' = (ticket : ℕ) → me.0.stage ≡ Called ticket → (value : T) × (me'.1 ≡ (0, value) ∷ me.1) × (me'.0 ≡ after_take ticket (entries value) me.0) × Found me.0 value

  -- between 3 and 4 the closure works on the value that the seat holds. It leaves at most one entry more; `grew` says whether it did
  pub record Leaves (v : View E G) (value : T) (grew : Bool) : Type 0 where
    pub stays : Some (ground_of value) ≡ v.the_ground
    pub list : GrowsByOne pass_of v.number v.seen (entries value)
    pub tells : IsTrue grew ↔ (length v.seen < length (entries value))

module _ {E G : Type 0} where
  -- 4. enter: `fetch_add` of 1 on `count` puts the new entry into the journal. It is the one step by which the history grows, and a turn without an entry does not make it
  abbrev pub after_enter : ℕ → List E → View E G → View E G
  after_enter ticket journal v = record v { stage = Entered ticket; seen = journal }

  abbrev pub Enters : {T : Type 0} → (T → List E) → Step T → Me T (View E G) → ℕ → Me T (View E G) → Type 0
  Enters {T} entries st me count me' = (me'.1 ≡ me.1) × ((ticket : ℕ) (value : T) → me.0.stage ≡ Holding ticket → me.1 ≡ (0, value) ∷ [] → me'.0 ≡ after_enter ticket (entries value) me.0)

  -- 5. pass on: `fetch_add` of 1 on `serving` gives the value back to its slot and calls the next ticket
  abbrev pub after_pass_on : View E G → View E G
  after_pass_on v = record v { stage = Idle }

  abbrev pub PassesOn : {T : Type 0} → Step T → Me T (View E G) → ℕ → Me T (View E G) → Type 0
  PassesOn st me serving me' = (me'.1 ≡ rest me.1) × (me'.0 ≡ after_pass_on me.0)

  -- the view after the steps of a whole turn that left this journal
  abbrev pub after_turn : List E → View E G → View E G
  after_turn journal v = record v { stage = Idle; seen = journal }

  -- 6. split: pass 0 gives a number to a new pass, which has seen as much and has told and learnt nothing
  abbrev pub after_giving : ℕ → View E G → View E G
  after_giving number v = record v { gave = v.gave ++ number ∷ [] }

  abbrev pub new_pass : ℕ → View E G → View E G
  new_pass number v = record v { number = number; pending = []; pending_numbers = []; gave = []; took = []; told = 0; learnt = 0 }

  -- or a pass tells a note, which holds a copy of its view
  abbrev pub after_telling : View E G → View E G
  after_telling v = record v { told = v.told + 1 }

  abbrev pub new_note : View E G → View E G
  new_note v = record v { stage = Note; told = 0; learnt = 0 }

  -- or, when the lock is closed, the pass keeps a copy of what it knows, without the right to draw
  abbrev pub retired_view : View E G → View E G
  retired_view v = record v { stage = Spent }

  -- 7. join: a pass takes in a note, or another pass. Both views are kept until they are compared, and the greater found number stays
  abbrev pub after_learning : View E G → View E G → View E G
  after_learning v note = record v { pending = note.seen; learnt = v.learnt + 1; found = max v.found note.found }

  abbrev pub after_joining : View E G → View E G → View E G
  after_joining v other = record v { pending = other.seen; pending_numbers = own_numbers other; told = v.told + other.told; learnt = v.learnt + other.learnt; found = max v.found other.found }

  -- 8. read: a load of `count` finds that each view is a beginning of the journal, so that the longer one stays. Numbers of a pass that was joined are taken back
  abbrev pub after_comparing : View E G → View E G
  after_comparing v = record v { seen = longer v.seen v.pending; pending = []; pending_numbers = []; took = v.took ++ v.pending_numbers }

  abbrev pub Compares : {T : Type 0} → (E → ℕ) → Step T → Me T (View E G) → ℕ → Me T (View E G) → Type 0
  Compares pass_of st me count me' = (me'.1 ≡ me.1) × (me'.0 ≡ after_comparing me.0) × DifferByOthers pass_of me.0.seen (own_numbers me.0) me.0.pending me.0.pending_numbers

  -- where nothing was taken in, a read changes nothing, and finds that the pass has seen no more than the journal
  abbrev pub Reads : {T : Type 0} → Step T → Me T (View E G) → ℕ → Me T (View E G) → Type 0
  Reads st me count me' = (me'.1 ≡ me.1) × (me'.0 ≡ me.0) × (length me.0.seen ≤ count)
