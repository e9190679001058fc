use Rattle.std.proofs.Common.{rules, Some}
use Rattle.std.proofs.lemmas.List.Elements.{All-pop}
use Rattle.shared_board.specs.Boards.{IsBoardPassOf}
use Rattle.link_server.proofs.links.AcceptingQueueHallSeatInOut.next.Goals as goal

pub returns-clause-fits : goal.returns-clause-fits
returns-clause-fits g c =
    let popped = All-pop (IsBoardPassOf g.W.Work.value c.args._hall.now.board.now) _ _ (Some c.in_ok-pass.pass) c.in_ok-pass.ensures.items c.requires.fits.2 in
    (c.requires.fits.0, c.requires.fits.1, popped.0)

pub returns-clause-ready : goal.returns-clause-ready
returns-clause-ready g c =
    let popped = All-pop (IsBoardPassOf g.W.Work.value c.args._hall.now.board.now) _ _ (Some c.in_ok-pass.pass) c.in_ok-pass.ensures.items c.requires.fits.2 in (
      c.requires.fits.0,
      c.requires.fits.1,
      popped.1,
      record { input_faults = search rules; output_faults = search rules; none_taken = search rules },
    )
