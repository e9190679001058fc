use Rattle.std.proofs.Common.{◌≡◌, ◌+◌, ap, sym, ◌∙◌, arith}
use Rattle.session_maker.specs.Generator.{next_number, number}
use Rattle.session_maker.proofs.Rounds.{number_next, states_next, session_next}
use Rattle.session_maker.proofs.make_session.Goals as goal

pub loop-preserved : goal.loop-preserved
loop-preserved c =
    let seed = c.args.seed in
    let n = c.loop.counter in
    let drawn_is : c.next_number-drawn.result ≡ number seed (n + 1) = c.next_number-drawn.ensures ∙ ap next_number c.loop.invariant.drawn_is ∙ sym (number_next seed n) in
    record {
      drawn_is = drawn_is;
      start_is = states_next seed n c.loop.start _ c.next_number-drawn.result c.loop.invariant.start_is c.arrow_count-arrows.ensures.value drawn_is;
      few = omega (arith, c.arrow_count-arrows.ensures.few, c.loop.invariant.few);
      text_is = session_next seed n c.loop.start c.next_number-drawn.result _ _ c.loop.invariant.text_is c.loop.invariant.start_is drawn_is c.in_ok-push_round.ensures;
    }
