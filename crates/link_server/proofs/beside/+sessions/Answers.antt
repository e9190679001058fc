use Rattle.link_server.specs.Beside.{none}
use Rattle.link_server.proofs.InPlace.{next_in_place}
use Rattle.link_server.proofs.beside.+sessions.Goals as goal

pub run_all-returns-in-Some-place-clause-all : goal.run_all-returns-in-Some-place-clause-all
run_all-returns-in-Some-place-clause-all g t c =
    rw c.push_reserved.ensures.items (next_in_place c.in-Some.session c.in-Some-place.session c.run_beside.new.place c.in-Some.ensures.given c.in-Some-place.is c.run_beside.ensures.ran c.run_beside.ensures.all)

pub run_all-returns-in_default-clause-all : goal.run_all-returns-in_default-clause-all
run_all-returns-in_default-clause-all g t c = none c.in_default.ensures.ended
