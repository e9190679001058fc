use Rattle.std.proofs.Common.{ap, ◌∙◌}
use Rattle.panto_cli.specs.Demo.{all_answered, counts_of}
use Rattle.panto_cli.proofs.Demos.{at_ok}
use Rattle.panto_cli.proofs.Rounds.{session_has_room}
use Rattle.panto_cli.proofs.Lengths.{session_is_short}
use Rattle.panto_cli.proofs.demo.run_rounds.Goals as goal

pub run_text-requires-clause-short : goal.run_text-requires-clause-short
run_text-requires-clause-short g c = λ _ _. session_is_short c.args.seed c.args.rounds _ c.requires (c.into_vec.ensures ∙ c.in_ok-text.ensures)

pub run_text-requires-clause-room : goal.run_text-requires-clause-room
run_text-requires-clause-room g c = λ _ _. session_has_room c.args.seed c.args.rounds _ _ c.requires c.room_of.ensures (c.into_vec.ensures ∙ c.in_ok-text.ensures)

pub returns : goal.returns
returns g c = at_ok c.run_text.result (λ counts e. e ∙ ap (λ t. counts_of (all_answered t)) (c.into_vec.ensures ∙ c.in_ok-text.ensures)) c.run_text.ensures
