use Rattle.std.proofs.Common.{◌++◌, sym, ap, ◌∙◌, subst}
use Rattle.state_tree.specs.declared.work.Entry.{Entry}
use Rattle.turn_lock.specs.Meanings.{SharedMeaning}
use Rattle.shared_board.specs.declared.board_tree.TreeGround.{TreeGround}
use Rattle.shared_board.specs.Closing.{IsWithout}
use Rattle.shared_board.proofs.TakingBack.{closed_journal, last_pass}
use Rattle.shared_board.proofs.AtClosing.{root_own, rest_plain, taken_apart, own_after, numbers_after, notes_after}
use Rattle.shared_board.proofs.board.Board.close.Goals as goal

pub join_all-requires-clause-own : goal.join_all-requires-clause-own
join_all-requires-clause-own g c =
    let without = subst (IsWithout c.args.passes.items c.take_root.new.passes.items) (sym c.pass.view_is) c.take_root.ensures.taken in
    let own = root_own g.W.Work.value c.args.self c.self.inside.shared (ap (λ b. b.lock) c.self.view_is) c.args.passes.items c.take_root.new.passes.items c.pass.inside.pass c.requires.own without in
    (own.0, own.1, ap (λ p. p.number) c.pass.view_is ∙ c.take_root.ensures.root)

pub join_all-requires-clause-others : goal.join_all-requires-clause-others
join_all-requires-clause-others g c =
    let without = subst (IsWithout c.args.passes.items c.take_root.new.passes.items) (sym c.pass.view_is) c.take_root.ensures.taken in
    rest_plain g.W.Work.value c.args.self c.self.inside.shared (ap (λ b. b.lock) c.self.view_is) c.args.passes.items c.take_root.new.passes.items c.pass.inside.pass c.requires.own without

pub close-kept-requires-clause-own : goal.close-kept-requires-clause-own
close-kept-requires-clause-own g c =
    let without = subst (IsWithout c.args.passes.items c.take_root.new.passes.items) (sym c.pass.view_is) c.take_root.ensures.taken in
    own_after g.W.Work.value c.args.self c.self.inside.shared (ap (λ b. b.lock) c.self.view_is) c.args.passes.items c.take_root.new.passes.items c.pass.inside.pass c.requires.own without c.join_all.new.root c.join_all.ensures

pub close-kept-requires-clause-numbers : goal.close-kept-requires-clause-numbers
close-kept-requires-clause-numbers g c =
    let without = subst (IsWithout c.args.passes.items c.take_root.new.passes.items) (sym c.pass.view_is) c.take_root.ensures.taken in
    numbers_after g.W.Work.value c.args.self c.self.inside.shared (ap (λ b. b.lock) c.self.view_is) c.args.passes.items c.take_root.new.passes.items c.pass.inside.pass c.requires.own without c.join_all.new.root c.join_all.ensures
    (ap (λ p. p.number) c.pass.view_is ∙ c.take_root.ensures.root) c.requires.numbers

pub close-kept-requires-clause-notes : goal.close-kept-requires-clause-notes
close-kept-requires-clause-notes g c =
    let without = subst (IsWithout c.args.passes.items c.take_root.new.passes.items) (sym c.pass.view_is) c.take_root.ensures.taken in
    notes_after g.W.Work.value c.args.self c.self.inside.shared (ap (λ b. b.lock) c.self.view_is) c.args.passes.items c.take_root.new.passes.items c.pass.inside.pass c.requires.own without c.join_all.new.root c.join_all.ensures
    (ap (λ p. p.number) c.pass.view_is ∙ c.take_root.ensures.root) c.requires.notes

pub returns-clause-journal : goal.returns-clause-journal
returns-clause-journal g c =
    let without = subst (IsWithout c.args.passes.items c.take_root.new.passes.items) (sym c.pass.view_is) c.take_root.ensures.taken in
    let lock_is = ap (λ b. b.lock) c.self.view_is in
    let made = c.close-kept.ensures.made in
    closed_journal c.args.self c.args.passes.items without.before without.after c.pass.inside.pass c.join_all.new.root without.all (ap (λ p. p.number) c.pass.view_is ∙ c.take_root.ensures.root)
    (taken_apart g.W.Work.value c.args.self c.self.inside.shared lock_is c.args.passes.items c.take_root.new.passes.items c.pass.inside.pass c.requires.own without c.join_all.new.root c.join_all.ensures)
    c.close-kept.result.0.tree.journal c.close-kept.ensures.value.1
    (made.0, ap (λ (l : SharedMeaning Entry (TreeGround g.row.W-Env.Denot)). l.journal ++ made.0) (sym lock_is) ∙ made.1, made.2)

pub returns-clause-last : goal.returns-clause-last
returns-clause-last g c =
    let without = subst (IsWithout c.args.passes.items c.take_root.new.passes.items) (sym c.pass.view_is) c.take_root.ensures.taken in
    let lock_is = ap (λ b. b.lock) c.self.view_is in
    last_pass c.args.self c.args.passes.items without.before without.after c.pass.inside.pass c.join_all.new.root without.all (ap (λ p. p.number) c.pass.view_is ∙ c.take_root.ensures.root)
    (taken_apart g.W.Work.value c.args.self c.self.inside.shared lock_is c.args.passes.items c.take_root.new.passes.items c.pass.inside.pass c.requires.own without c.join_all.new.root c.join_all.ensures)
    c.close-kept.result.0.tree.journal c.close-kept.result.1 c.close-kept.ensures.value.1 c.close-kept.ensures.pass
