use Rattle.std.proofs.Common.{◌≡◌, suc, ◌+◌, ◌<◌, ◌++◌, length, take, drop, ap, ◌∙◌, subst, arith}
use Rattle.shared_board.proofs.TakingBack.{split_place}
use Rattle.shared_board.proofs.closing.take_root.Goals as goal

pub returns-clause-taken : goal.returns-clause-taken
returns-clause-taken g c =
    let passes = c.args.passes.now.items in
    let place = c.place_of_root-place.result in
    let within : place < length passes = subst (λ l. place < length l) c.deref.ensures.value c.place_of_root-place.ensures.place in
    let next : place + 1 ≡ suc place = omega arith in
    record {
      before = take place passes;
      after = drop (suc place) passes;
      all = split_place passes place c.remove.result within c.remove.ensures.value;
      rest_is = c.remove.ensures.by_index.2 ∙ ap (λ n. take place passes ++ drop n passes) next;
    }
