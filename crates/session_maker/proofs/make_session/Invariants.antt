use Rattle.std.proofs.Common.{◌≡◌, ◌≤◌, ◌*◌}
use Rattle.session_maker.specs.Generator.{number, states_before}
use Rattle.session_maker.specs.Session.{session}
use Rattle.session_maker.proofs.make_session.Given as goal

abbrev pub invariant-loop : goal.invariant-loop
invariant-loop l = record {
  drawn_is : l.drawn ≡ number l.seed l.counter;
  start_is : l.start ≡ states_before l.seed l.counter;
  few : l.start ≤ 8 * l.counter;
  text_is : l.text.items ≡ session l.seed l.counter;
}
