-- Links that were accepted and served, by what the accepting means.
use Rattle.std.proofs.Common.{◌≡◌, List, subst}
use Rattle.repl_json.specs.declared.request.Ask.{Ask}
use Rattle.state_tree.specs.declared.work.Found.{Found}
use Rattle.state_tree.specs.Value.{Value}
use Rattle.shared_board.specs.Boards.{BoardMeaning}
use Rattle.link_server.specs.Beside.{AreRun}
use Rattle.link_server.specs.Links.{Telling}
use Rattle.link_server.specs.Seats.{AcceptingMeaning, GivesLink, EndsLinks, AreServed, IsSeated}
use Rattle.link_server.specs.declared.seat.Seat.{Seat}
use Rattle.link_server.proofs.Along.{run_along}

-- a function of the values of this value's type
abbrev pub of_such : {A B : Type 0} → A → (A → B) → A → B
of_such a f = f

-- what holds of a value holds of one that equals it
pub moved : {D : Type 0} (P : D → Type 0) (old : D) {new : D} → P old → old ≡ new → P new
moved P old holds same = subst P same holds

module _ {E S : Type 0} (V : Ask → Found E S → Value E S) (board : BoardMeaning E) {W I O : Type 0} (tell : Telling I O) where
  pub served_along : {Q : Type 0} (means : Q → AcceptingMeaning E) {old new : Q} {seats more : List (Seat W I O E S)}
      → AreRun (λ q seat q'. GivesLink (tell.left seat.input) seat.pass (means q) (means q')) (λ seat seat'. IsSeated V board tell (tell.left seat.input) seat.pass seat') (λ q q'. EndsLinks (means q) (means q')) old new seats more
      → AreServed V board tell (means old) (means new) seats more
  served_along means run =
      run_along means (λ q seat q'. GivesLink (tell.left seat.input) seat.pass q q') (λ seat seat'. IsSeated V board tell (tell.left seat.input) seat.pass seat') EndsLinks run
