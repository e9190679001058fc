use Rattle.std.proofs.Common.{◌≡◌, [], ◌∷◌, ◌++◌, sym, ap, ◌∙◌, subst}
use Rattle.std.proofs.lemmas.List.{append-nil}
use Rattle.std.proofs.lemmas.List.Elements.{All-nil, All-cons}
use Rattle.turn_lock.specs.Meanings.{IsPassOf}
use Rattle.shared_board.specs.Boards.{BoardPassMeaning}
use Rattle.shared_board.proofs.TakingBack.{IsPlainPassOf, takes_none, takes_more, split_last, shift_done}
use Rattle.shared_board.proofs.closing.join_all.Goals as goal

pub loop-pass-init : goal.loop-pass-init
loop-pass-init g c = record {
  own = c.requires.own.0;
  others = c.requires.others;
  taken = ([], sym (append-nil c.args.passes.items), All-nil (λ pass. pass.took ≡ []), takes_none c.args.root.now c.requires.own.1);
}

pub join-requires-clause-other : goal.join-requires-clause-other
join-requires-clause-other g c =
    let lock = c.args.shared.now in
    let parts = split_last (IsPlainPassOf lock) c.loop-pass.passes.items c.pop.new.self.items c.in-Some.pass c.in-Some.ensures.items c.loop-pass.invariant.others in
    subst (IsPassOf lock) (sym c.pass.view_is) parts.1.0

pub loop-pass-preserved : goal.loop-pass-preserved
loop-pass-preserved g c =
    let lock = c.args.shared.now in
    let inv = c.loop-pass.invariant in
    let pass : BoardPassMeaning g.row.W-Env.Denot = c.pass.inside.pass in
    let is = c.in-Some.ensures.items ∙ ap (λ (q : BoardPassMeaning g.row.W-Env.Denot). c.pop.new.self.items ++ q ∷ []) (sym c.pass.view_is) in
    let parts = split_last (IsPlainPassOf lock) c.loop-pass.passes.items c.pop.new.self.items pass is inv.others in
    record {
      own = subst (IsPassOf lock) (sym c.join.ensures.pass) (inv.own.0, inv.own.1, inv.own.2);
      others = parts.0;
      taken = (
        pass ∷ inv.taken.0,
        shift_done c.args.passes.items c.loop-pass.passes.items c.pop.new.self.items inv.taken.0 pass inv.taken.1 is,
        All-cons (λ q. q.took ≡ []) pass inv.taken.0 parts.1.1 inv.taken.2,
        takes_more inv.taken.0 c.args.root.now c.loop-pass.root c.join.new.pass pass inv.taken.2 parts.1.1 c.join.ensures.pass c.join.ensures.prefix c.requires.own.1 inv.taken.3,
      );
    }
