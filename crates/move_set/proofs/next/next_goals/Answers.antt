use Rattle.std.proofs.Common.{◌≡◌, ◌∙◌, ◌++◌, List, ℕ, filter, ap, ap₂}
use Rattle.goal_state.specs.State.{is_open}
use Rattle.move_set.specs.Moves.{unlisted}
use Rattle.move_set.proofs.next.next_goals.Goals as goal

pub returns : goal.returns
returns g c =
    let ds = c.args.metas.now in
    let stated = filter (is_open ds) c.args.fresh.now in
    let first : c.push_open.new.goals.items ≡ stated = c.in_ok-push_open.ensures ∙ ap (λ (xs : List ℕ). xs ++ stated) c.new-next.ensures.items in
    let more : c.in_ok-more.more.items ≡ unlisted ds c.args.before stated = c.in_ok-more.ensures ∙ ap (unlisted ds c.args.before) (c.deref.ensures.value ∙ first) in
    let both : c.extend_from_slice.new.self.items ≡ stated ++ unlisted ds c.args.before stated = c.in_ok-extend_from_slice.ensures.items ∙ ap₂ ◌++◌ first (c.deref-2.ensures.value ∙ more) in
    c.of.ensures ∙ c.in_ok-push_open-2.ensures ∙ ap₂ ◌++◌ both (ap (filter (is_open ds)) c.others.ensures)
