-- How the links of a call ended.
use Rattle.std.specs.Prelude.{ℕ, Bool, true, false, List, [], ◌∷◌}
use Rattle.shared_board.specs.declared.board_tree.TreeGround.{TreeGround}
use Rattle.session_server.specs.declared.run.End.{End}
use Rattle.session_server.specs.declared.run.End.TheVariants as ending
use Rattle.panto_cli.specs.Books.{Items}
use Rattle.panto_cli.specs.Outcomes.{outcome_of}
use Rattle.panto_cli.specs.declared.notes.Outcome.{Outcome}
use Rattle.panto_cli.specs.declared.notes.Outcome.TheVariants as outcome

-- what no call changes of a tree over this book, with room for so many entries
abbrev pub ground_of : Items → ℕ → TreeGround Items
ground_of items entries = record { book = items; entries = entries }

-- the first of two ends that isn't Done
abbrev pub first_of : End → End → End
first_of ending.Done later = later
first_of end later = end

-- the first of these ends that isn't Done, and Done where there is none
abbrev pub first_end : List End → End
first_end [] = ending.Done
first_end (end ∷ more) = first_of end (first_end more)

-- how a call ended whose doors failed or didn't, and whose links ended so
abbrev pub outcome_of_links : Bool → List End → Outcome
outcome_of_links true ends = outcome.DoorFault
outcome_of_links false ends = outcome_of (first_end ends)
