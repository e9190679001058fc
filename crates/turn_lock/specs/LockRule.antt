-- The rule of the lock: what holds of its table between any two steps.
use Rattle.std.specs.Prelude.{◌≡◌, ℕ, zero, suc, ◌+◌, ◌<◌, ◌≤◌, ◌⊎◌, Bool, true, if◌then◌else◌, List, [], ◌∷◌, ◌++◌, length, sum_by, All, Contains, Some}
use mathlib.Core.Option.{Option, none, some}
use lib.ListN.{get_elem?}
use Rattle.atomic_table.specs.Table.{State}
use Rattle.turn_lock.specs.declared.view.View.{View}
use Rattle.turn_lock.specs.declared.view.Stage.{Stage}
use Rattle.turn_lock.specs.declared.view.Stage.TheVariants.{Spent, Note, Idle, Waiting, Called, Holding, Entered}
use Rattle.turn_lock.specs.Journals.{ExtendsByOthers}
use Rattle.turn_lock.specs.Meanings.{MAX_TURNS}
use Rattle.turn_lock.specs.Views.{IsPass, IsLive, HoldsSlot, ShowsTicket}

-- the lock as the words tell it, and what no word tells
pub record LockState (T E : Type 0) : Type 0 where
  -- how many turns were drawn, the ticket whose turn it is, and the journal
  pub next : ℕ
  pub serving : ℕ
  pub journal : List E
  -- the value, where it is at home
  pub home : Option T
  -- the seat that drew a ticket, and the seat whose own a number is
  pub drawer : ℕ → ℕ
  pub owner : ℕ → ℕ
  -- the numbers of the passes that drew after the last turn
  pub late : ℕ → Bool
  -- the numbers that pass 0 gave
  pub gave : List ℕ

-- 0, or a number that pass 0 gave
abbrev pub IsGiven : List ℕ → ℕ → Type 0
IsGiven gave number = (number ≡ 0) ⊎ Contains gave number

-- how many of the numbers below n are marked
unfoldable pub count_below : ℕ → (ℕ → Bool) → ℕ
count_below zero marked = 0
count_below (suc n) marked = (if marked n then 1 else 0) + count_below n marked

-- Tickets

-- the seat has this ticket: it drew it in time, and its turn is not over
pub record HasTicket (serving next : ℕ) (drawer : ℕ → ℕ) (seat ticket : ℕ) : Type 0 where
  pub due : serving ≤ ticket
  pub drawn : ticket < next
  pub early : ticket < MAX_TURNS
  pub is : drawer ticket ≡ seat

-- the seat has the value and has seen the whole journal. Each turn makes one entry at most, and this one has made `made`
pub record HasSlot {T E : Type 0} (base serving : ℕ) (home : Option T) (journal seen : List E) (ticket made : ℕ) : Type 0 where
  pub now : ticket ≡ serving
  pub away : home ≡ none
  pub whole : seen ≡ journal
  pub room : length journal ≤ base + serving + made

-- what the stage of a seat says of the lock
module _ {T E : Type 0} (base serving next : ℕ) (drawer : ℕ → ℕ) (home : Option T) (journal : List E) (seat : ℕ) (seen : List E) where
  abbrev pub StageFits : Stage → Type 0
  StageFits Spent = Unit {0}
  StageFits Note = Unit {0}
  StageFits Idle = Unit {0}
  StageFits (Waiting ticket) = HasTicket serving next drawer seat ticket
  StageFits (Called ticket) = HasTicket serving next drawer seat ticket × (ticket ≡ serving)
  StageFits (Holding ticket) = HasTicket serving next drawer seat ticket × HasSlot base serving home journal seen ticket 0
  StageFits (Entered ticket) = HasTicket serving next drawer seat ticket × HasSlot base serving home journal seen ticket 1

-- each ticket that was drawn in time, and whose turn is not over, is out with the seat that drew it
abbrev pub TicketsAreOut : {E G : Type 0} → ℕ → ℕ → (ℕ → ℕ) → List (View E G) → Type 0
TicketsAreOut {E} {G} serving next drawer views = (ticket : ℕ) → serving ≤ ticket → ticket < next → ticket < MAX_TURNS → (u : View E G) × (get_elem? views (drawer ticket) ≡ some u) × ShowsTicket ticket u.stage

-- Notes

-- how many notes a seat told, and how many it learnt. A note counts as one that is learnt, since it will be
abbrev pub told_at : Stage → ℕ → ℕ
told_at Spent n = 0
told_at Note n = n
told_at Idle n = n
told_at (Waiting ticket) n = n
told_at (Called ticket) n = n
told_at (Holding ticket) n = n
told_at (Entered ticket) n = n

abbrev pub learnt_at : Stage → ℕ → ℕ
learnt_at Spent n = 0
learnt_at Note n = n + 1
learnt_at Idle n = n
learnt_at (Waiting ticket) n = n
learnt_at (Called ticket) n = n
learnt_at (Holding ticket) n = n
learnt_at (Entered ticket) n = n

module _ {E G : Type 0} where
  abbrev pub notes_told : View E G → ℕ
  notes_told v = told_at v.stage v.told

  abbrev pub notes_learnt : View E G → ℕ
  notes_learnt v = learnt_at v.stage v.learnt

-- Views

-- what the rule says of the view of a pass, field by field: `was_late` and `gave` are the lock's, `given` is the view's
pub record PassFits {E : Type 0} (pass_of : E → ℕ) (journal : List E) (owner : ℕ → ℕ) (was_late : ℕ → Bool) (gave : List ℕ) (seat : ℕ) (view pending : List E) (number : ℕ) (took pending_numbers given : List ℕ) (found : ℕ) : Type 0 where
  -- each entry that carries an own number stands in the view, and so for the view that it took in
  pub sees : ExtendsByOthers pass_of view journal (number ∷ took)
  pub sees_pending : ExtendsByOthers pass_of pending journal pending_numbers
  -- its own numbers are its own alone
  pub owns : (n : ℕ) → Contains (number ∷ took) n → (owner n ≡ seat) × IsGiven gave n
  pub owns_pending : (n : ℕ) → Contains pending_numbers n → (owner n ≡ seat) × IsGiven gave n
  pub small : number < 64
  -- a pass that drew after the last turn knows it
  pub late : was_late number ≡ true → MAX_TURNS ≤ found
  -- pass 0 knows all numbers that were given
  pub root : number ≡ 0 → given ≡ gave

module _ {E G : Type 0} (pass_of : E → ℕ) (journal : List E) (owner : ℕ → ℕ) (was_late : ℕ → Bool) (gave : List ℕ) (seat : ℕ) where
  abbrev pub PassViewFits : View E G → Type 0
  PassViewFits u = PassFits pass_of journal owner was_late gave seat u.seen u.pending u.number u.took u.pending_numbers u.gave u.found

-- what the rule says of one view: `base` is the length of the journal that `open` found
pub record ViewFits {T E G : Type 0} (pass_of : E → ℕ) (base : ℕ) (the_ground : G) (w : LockState T E) (seat : ℕ) (u : View E G) : Type 0 where
  pub stage : StageFits base w.serving w.next w.drawer w.home w.journal seat u.seen u.stage
  pub pass : IsPass u.stage → PassViewFits pass_of w.journal w.owner w.late w.gave seat u
  pub live : IsLive u.stage → (u.the_ground ≡ Some the_ground) × (base ≤ length u.seen)
  pub seen : ExtendsByOthers pass_of u.seen w.journal []
  -- no pass found more turns than were drawn
  pub found : u.found ≤ w.next

-- The lock

-- the value is at home, and its list is the journal, or a seat holds it
module _ {T E G : Type 0} (entries : T → List E) (ground_of : T → G) (base : ℕ) (the_ground : G) (journal : List E) (serving : ℕ) (views : List (View E G)) where
  abbrev pub SlotFits : Option T → Type 0
  SlotFits none = (seat : ℕ) × (u : View E G) × (get_elem? views seat ≡ some u) × HoldsSlot u.stage
  SlotFits (some value) = (entries value ≡ journal) × (ground_of value ≡ the_ground) × (length journal ≤ base + serving)

-- the rule of a lock that was opened with this value
pub record LockRule {T E G : Type 0} (entries : T → List E) (pass_of : E → ℕ) (ground_of : T → G) (opened : T) (s : State T (View E G)) : Type 0 where
  pub w : LockState T E
  pub words : s.words ≡ w.next ∷ w.serving ∷ length w.journal ∷ []
  pub homes : s.homes ≡ w.home ∷ []
  pub slot : SlotFits entries ground_of (length (entries opened)) (ground_of opened) w.journal w.serving s.views w.home
  -- the journal goes on from what `open` found, by entries that carry 0 or a number that pass 0 gave
  pub since : List E
  pub grows : entries opened ++ since ≡ w.journal
  pub carry : All (λ e. IsGiven w.gave (pass_of e)) since
  -- turns are served in the order of the tickets, and each of the at most 64 passes draws too late at most once
  pub served : w.serving ≤ MAX_TURNS
  pub behind : w.serving ≤ w.next
  pub drawn : w.next ≤ MAX_TURNS + count_below 64 w.late
  pub late : (n : ℕ) → w.late n ≡ true → IsGiven w.gave n
  pub short : length (entries opened) < MAX_TURNS
  pub tickets : TicketsAreOut w.serving w.next w.drawer s.views
  -- all that was told was learnt, or is a note that is out
  pub notes : sum_by notes_told s.views ≡ sum_by notes_learnt s.views
  pub each : (seat : ℕ) (u : View E G) → get_elem? s.views seat ≡ some u → ViewFits pass_of (length (entries opened)) (ground_of opened) w seat u
