-- The steps on an example, to be computed: a lock is opened on a value without entries, pass 1 is split off, pass 0 makes an entry and tells a note, pass 1 learns it and makes an entry, and pass 0 takes pass 1 back.
-- An entry is the number of its pass, and the ground is 7.
use Rattle.std.specs.Prelude.{◌≡◌, ℕ, List, [], ◌∷◌}
use Rattle.turn_lock.specs.declared.view.View.{View}
use Rattle.turn_lock.specs.declared.view.Stage.TheVariants.{Idle, Waiting}
use Rattle.turn_lock.specs.Views.{first_view}
use Rattle.turn_lock.specs.Steps.{after_draw, after_watch, after_take, after_enter, after_pass_on, after_turn, after_giving, new_pass, after_telling, new_note, after_learning, after_joining, after_comparing}

-- pass 0 when the lock opens, and with pass 1 split off
abbrev pub opened : View ℕ ℕ
opened = first_view [] 7

abbrev pub gave_one : View ℕ ℕ
gave_one = after_giving 1 opened

-- a turn that finds one journal, and leaves another with one entry more
abbrev pub turn_of : ℕ → List ℕ → List ℕ → View ℕ ℕ → View ℕ ℕ
turn_of ticket found left v = after_pass_on (after_enter ticket left (after_take ticket found (after_watch ticket (after_draw ticket v))))

abbrev pub first_turn : View ℕ ℕ
first_turn = turn_of 0 [] (0 ∷ []) gave_one

-- pass 1 has learnt of that turn, and has had its own
abbrev pub learnt_one : View ℕ ℕ
learnt_one = after_comparing (after_learning (new_pass 1 opened) (new_note first_turn))

abbrev pub second_turn : View ℕ ℕ
second_turn = turn_of 1 (0 ∷ []) (0 ∷ 1 ∷ []) learnt_one

abbrev pub joined : View ℕ ℕ
joined = after_comparing (after_joining (after_telling first_turn) second_turn)

-- the views at the end, what a whole turn comes to, and the two draws round the last turn
pub record ExampleOfSteps : Type 0 where
  pub turn : first_turn ≡ after_turn (0 ∷ []) gave_one
  pub learnt : learnt_one ≡ record (new_pass 1 opened) { seen = 0 ∷ []; learnt = 1 }
  pub at_end : joined ≡ record opened { seen = 0 ∷ 1 ∷ []; gave = 1 ∷ []; took = 1 ∷ []; told = 1; learnt = 1; found = 1 }
  pub last_draw : after_draw 4611686018427387903 opened ≡ record opened { stage = Waiting 4611686018427387903; found = 4611686018427387903 }
  pub late_draw : after_draw 4611686018427387904 opened ≡ record opened { stage = Idle; found = 4611686018427387904 }
