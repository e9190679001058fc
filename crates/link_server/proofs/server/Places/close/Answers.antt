use Rattle.link_server.proofs.Serving.{waiting_own, waiting_numbers, waiting_notes, no_entries, leaves_none}
use Rattle.link_server.proofs.server.Places.close.Goals as goal

pub close_board-requires-clause-own : goal.close_board-requires-clause-own
close_board-requires-clause-own g c = waiting_own g.W.Work.value c.args.self.board c.args.self.waiting.items c.requires.passes

pub close_board-requires-clause-numbers : goal.close_board-requires-clause-numbers
close_board-requires-clause-numbers g c = waiting_numbers g.W.Work.value c.args.self.board c.args.self.waiting.items c.requires.passes

pub close_board-requires-clause-notes : goal.close_board-requires-clause-notes
close_board-requires-clause-notes g c = waiting_notes g.W.Work.value c.args.self.board c.args.self.waiting.items c.requires.passes

pub returns-clause-journal : goal.returns-clause-journal
returns-clause-journal g c = no_entries g.W.Work.value c.args.self.board c.args.self.waiting.items c.requires.passes c.close_board.result.journal.items c.close_board.ensures.journal

pub returns-clause-fits : goal.returns-clause-fits
returns-clause-fits g c = λ links. leaves_none g.W.Work.value c.args.self.board c.args.self.waiting.items c.requires.passes c.close_board.result.journal.items c.close_board.ensures.journal
    links c.close_board.result.last c.close_board.ensures.legal c.close_board.ensures.room c.close_board.ensures.last
