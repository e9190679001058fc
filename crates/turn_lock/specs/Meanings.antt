-- What a lock, a pass and a note mean to their callers, and the condition that they belong together.
use Rattle.std.specs.Prelude.{◌≡◌, ℕ, Bool, true, List, [], ◌∷◌, Option, Some}
use Rattle.atomic_table.specs.Seated.{TableId}
use Rattle.turn_lock.specs.Journals.{ExtendsByOthers, GrowsByOne}

-- how many turns a lock has: 2 ^ 62
abbrev pub MAX_TURNS : ℕ
MAX_TURNS = 4611686018427387904

-- a `Shared`: its table, and the journal and the ground that `open` found in the value
pub record SharedMeaning (E G : Type 0) : Type 0 where
  pub table : TableId
  pub journal : List E
  pub the_ground : G

-- a `Pass`. Its own numbers are its number and those that it took back
pub record PassMeaning (E G : Type 0) : Type 0 where
  -- the lock that made it, the ground of that lock's value, and whether that lock is still open
  pub table : TableId
  pub the_ground : Option G
  pub is_open : Bool
  pub number : ℕ
  -- its view: the entries that it has seen
  pub seen : List E
  -- the numbers that it gave to passes, and those that it took back
  pub gave : List ℕ
  pub took : List ℕ
  -- how many notes it told, and how many it learnt
  pub told : ℕ
  pub learnt : ℕ
  -- its found number: the greatest number of turns that a draw found drawn before, as far as the pass knows
  pub found : ℕ

-- a `Note`: the view and the found number of the pass that told it
pub record NoteMeaning (E G : Type 0) : Type 0 where
  pub table : TableId
  pub the_ground : Option G
  pub seen : List E
  pub found : ℕ

module _ {E G : Type 0} where
  -- the lock made the pass, or split it off a pass that it made, and is open
  abbrev pub IsPassOf : SharedMeaning E G → PassMeaning E G → Type 0
  IsPassOf lock pass = (pass.table ≡ lock.table) × (pass.the_ground ≡ Some lock.the_ground) × (pass.is_open ≡ true)

  -- a pass of the lock told the note
  abbrev pub IsNoteOf : SharedMeaning E G → NoteMeaning E G → Type 0
  IsNoteOf lock note = (note.table ≡ lock.table) × (note.the_ground ≡ Some lock.the_ground)

  -- pass 0 of a new lock
  abbrev pub first_pass : SharedMeaning E G → PassMeaning E G
  first_pass lock = record { table = lock.table; the_ground = Some lock.the_ground; is_open = true; number = 0; seen = lock.journal; gave = []; took = []; told = 0; learnt = 0; found = 0 }

module _ {T E G : Type 0} (entries : T → List E) (pass_of : E → ℕ) (ground_of : T → G) where
  -- what a closure may find at a turn of the pass: the value has the lock's ground, and its list goes on from what the pass has seen by entries of other passes
  pub record Finds (lock : SharedMeaning E G) (pass : PassMeaning E G) (value : T) : Type 0 where
    pub same : ground_of value ≡ lock.the_ground
    pub more : ExtendsByOthers pass_of pass.seen (entries value) (pass.number ∷ pass.took)

  -- what a closure may leave: the ground stays, and the list has at most one entry more, which carries the pass's number
  pub record Grows (number : ℕ) (before after : T) : Type 0 where
    pub stays : ground_of after ≡ ground_of before
    pub list : GrowsByOne pass_of number (entries before) (entries after)
