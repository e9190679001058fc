-- The views of seats. A pass and a note each sit on a seat of the lock's table, and the seat's view is what they know.
use Rattle.std.specs.Prelude.{◌≡◌, ℕ, Bool, true, false, List, [], ◌∷◌, Some, None}
use Rattle.atomic_table.specs.Seated.{TableId}
use Rattle.atomic_table.specs.Table.{Me}
use Rattle.turn_lock.specs.declared.view.View.{View}
use Rattle.turn_lock.specs.declared.view.Stage.{Stage}
use Rattle.turn_lock.specs.declared.view.Stage.TheVariants.{Spent, Note, Idle, Waiting, Called, Holding, Entered}
use Rattle.turn_lock.specs.Meanings.{PassMeaning, NoteMeaning}

-- between two calls, with the right to draw
abbrev pub is_idle : Stage → Bool
is_idle Spent = false
is_idle Note = false
is_idle Idle = true
is_idle (Waiting ticket) = false
is_idle (Called ticket) = false
is_idle (Holding ticket) = false
is_idle (Entered ticket) = false

-- a pass, between two calls or in one
abbrev pub IsPass : Stage → Type 0
IsPass Spent = ⊥
IsPass Note = ⊥
IsPass Idle = Unit {0}
IsPass (Waiting ticket) = Unit {0}
IsPass (Called ticket) = Unit {0}
IsPass (Holding ticket) = Unit {0}
IsPass (Entered ticket) = Unit {0}

-- a pass or a note
abbrev pub IsLive : Stage → Type 0
IsLive Spent = ⊥
IsLive Note = Unit {0}
IsLive Idle = Unit {0}
IsLive (Waiting ticket) = Unit {0}
IsLive (Called ticket) = Unit {0}
IsLive (Holding ticket) = Unit {0}
IsLive (Entered ticket) = Unit {0}

-- the seat has taken the slot, and not given it back
abbrev pub HoldsSlot : Stage → Type 0
HoldsSlot Spent = ⊥
HoldsSlot Note = ⊥
HoldsSlot Idle = ⊥
HoldsSlot (Waiting ticket) = ⊥
HoldsSlot (Called ticket) = ⊥
HoldsSlot (Holding ticket) = Unit {0}
HoldsSlot (Entered ticket) = Unit {0}

-- the seat has this ticket
abbrev pub ShowsTicket : ℕ → Stage → Type 0
ShowsTicket n Spent = ⊥
ShowsTicket n Note = ⊥
ShowsTicket n Idle = ⊥
ShowsTicket n (Waiting ticket) = ticket ≡ n
ShowsTicket n (Called ticket) = ticket ≡ n
ShowsTicket n (Holding ticket) = ticket ≡ n
ShowsTicket n (Entered ticket) = ticket ≡ n

module _ {E G : Type 0} where
  -- the numbers that only this pass's entries carry
  abbrev pub own_numbers : View E G → List ℕ
  own_numbers v = v.number ∷ v.took

  -- the view of pass 0 when the lock opens
  abbrev pub first_view : List E → G → View E G
  first_view journal the_ground = record { stage = Idle; number = 0; the_ground = Some the_ground; seen = journal; pending = []; pending_numbers = []; gave = []; took = []; told = 0; learnt = 0; found = 0 }

  -- the view of a seat that was joined with another
  abbrev pub spent_view : View E G
  spent_view = record { stage = Spent; number = 0; the_ground = None; seen = []; pending = []; pending_numbers = []; gave = []; took = []; told = 0; learnt = 0; found = 0 }

  -- what a pass with this view means, and a note
  abbrev pub pass_meaning : TableId → View E G → PassMeaning E G
  pass_meaning table v = record { table = table; the_ground = v.the_ground; is_open = is_idle v.stage; number = v.number; seen = v.seen; gave = v.gave; took = v.took; told = v.told; learnt = v.learnt; found = v.found }

  abbrev pub note_meaning : TableId → View E G → NoteMeaning E G
  note_meaning table v = record { table = table; the_ground = v.the_ground; seen = v.seen; found = v.found }

  -- the seat of a pass between two calls: it holds no slot, and has compared all that it took in
  pub record IsAtRest {T : Type 0} (me : Me T (View E G)) : Type 0 where
    pub empty : me.1 ≡ []
    pub settled : (me.0.pending ≡ []) × (me.0.pending_numbers ≡ [])

  -- the seat of a note
  pub record IsNoteSeat {T : Type 0} (me : Me T (View E G)) : Type 0 where
    pub empty : me.1 ≡ []
    pub note : me.0.stage ≡ Note
    pub uncounted : (me.0.told ≡ 0) × (me.0.learnt ≡ 0)
