use Rattle.std.proofs.Common.{◌≡◌, refl, Some, rules}
use Rattle.link_server.proofs.InPlace.{ran_there}
use Rattle.link_server.proofs.beside.run_in_place.Goals as goal

pub returns-in-Some : goal.returns-in-Some
returns-in-Some g c =
    let is : c.args.place.now ≡ Some c.in-Some.session = search rules in
    ran_there _ c.args.place.now c.in-Some.session c.serve.result is (c.args.shared, refl, c.serve.ensures)
