use Rattle.std.proofs.Common.{ap, sym, ◌∙◌}
use Rattle.state_tree.specs.Server.{state_at}
use Rattle.shared_board.proofs.KeptStates.{found_held}
use Rattle.shared_board.proofs.state_cache.StateCache.keep.Goals as goal

pub returns : goal.returns
returns g c = record {
  kept = λ t are is.
      let mid = c.keep_named.ensures.kept t are (found_held t c.one_named.result c.args.found.now.one (ap (λ f. f.one) is ∙ ap (state_at t) (sym c.one_named.ensures))) in
      c.keep_named-2.ensures.kept t mid (found_held t c.two_named.result c.args.found.now.two (ap (λ f. f.two) is ∙ ap (state_at t) (sym c.two_named.ensures)));
}
