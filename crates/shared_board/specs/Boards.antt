-- What a board, its passes and its notes mean to their callers, and the condition that they belong together.
use Rattle.std.specs.Prelude.{◌≡◌, ◌<◌, ℕ, [], All}
use Rattle.repl_json.specs.declared.request.Ask.{Ask}
use Rattle.state_tree.specs.declared.work.Found.{Found}
use Rattle.state_tree.specs.declared.work.Entry.{Entry}
use Rattle.state_tree.specs.Value.{Value}
use Rattle.state_tree.specs.Server.{IsLegal}
use Rattle.turn_lock.specs.Meanings.{SharedMeaning, PassMeaning, NoteMeaning, IsPassOf, IsNoteOf}
use Rattle.shared_board.specs.declared.board_tree.TreeGround.{TreeGround}

-- the number of the pass that made an entry
abbrev pub pass_of : Entry → ℕ
pass_of entry = entry.pass

-- a `Board`: its lock, with the ground and the journal that `open` found in the tree, and how many passes `open` gave
pub record BoardMeaning (E : Type 0) : Type 0 where
  pub lock : SharedMeaning Entry (TreeGround E)
  pub passes : ℕ

-- a `BoardPass` means what the pass below it means: its number, its view (the entries that it has seen), how many notes it told and learnt, and its found number
abbrev pub BoardPassMeaning : Type 0 → Type 0
BoardPassMeaning E = PassMeaning Entry (TreeGround E)

-- a note holds the view of the pass that told it
abbrev pub BoardNoteMeaning : Type 0 → Type 0
BoardNoteMeaning E = NoteMeaning Entry (TreeGround E)

module _ {E S : Type 0} (V : Ask → Found E S → Value E S) (board : BoardMeaning E) where
  -- the board made the pass, and is open. So the pass took no other back, gave numbers of the board's other passes alone, and has seen a legal journal
  pub record IsBoardPassOf (pass : BoardPassMeaning E) : Type 0 where
    pub lock : IsPassOf board.lock pass
    pub took : pass.took ≡ []
    pub gave : All (λ number. (0 < number) × (number < board.passes)) pass.gave
    pub legal : IsLegal V board.lock.the_ground.book pass.seen

  -- a pass of the board told the note, so its view is a legal journal
  pub record IsBoardNoteOf (note : BoardNoteMeaning E) : Type 0 where
    pub lock : IsNoteOf board.lock note
    pub legal : IsLegal V board.lock.the_ground.book note.seen

  -- a pass as `open` gives it, at this place of the list: it has seen what `open` found, and has told and learnt nothing
  pub record IsNewPass (place : ℕ) (pass : BoardPassMeaning E) : Type 0 where
    pub own : IsBoardPassOf pass
    pub number : pass.number ≡ place
    pub seen : pass.seen ≡ board.lock.journal
    pub notes : (pass.told ≡ 0) × (pass.learnt ≡ 0)
    pub found : pass.found ≡ 0
