use Rattle.panto_cli.proofs.Endings.{run_over}
use Rattle.panto_cli.proofs.run.serve_input.Goals as goal

pub returns-in-Ok-clause-ends : goal.returns-in-Ok-clause-ends
returns-in-Ok-clause-ends g c =
    run_over _ _ _ _ _ _ _ _ _ _ c.args.workers _ _ c.in-Ok.ensures.accepted c.serve_book.ensures.answered (c.serve_book.ensures.note _ _) c.serve_book.ensures.read c.serve_book.ensures.write
