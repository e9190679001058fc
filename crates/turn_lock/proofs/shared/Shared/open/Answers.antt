use Rattle.std.proofs.Common.{◌≡◌, ◌<◌, length, [], ◌∷◌, ◌++◌, ap, sym, ◌∙◌, subst}
use Rattle.turn_lock.specs.Meanings.{MAX_TURNS}
use Rattle.turn_lock.proofs.Opening.{begins}
use Rattle.turn_lock.proofs.shared.Shared.open.Goals as goal

pub new-requires : goal.new-requires
new-requires g c =
    let it = c.of-about.ensures in
    let x = c.of-about.result.value in
    let items : c.push.new.self.items ≡ x ∷ [] = c.in_ok-push.ensures.items ∙ (ap (λ l. l ++ c.args.value ∷ []) c.new-slots.ensures.items ∙ ap (λ v. v ∷ []) (sym it)) in
    let count : c.length-count.result ≡ length (g.T.Storied.entries x) = c.length-count.ensures ∙ ap (λ v. length (g.T.Storied.entries v)) (sym it) in
    let short : length (g.T.Storied.entries x) < MAX_TURNS = subst (λ v. length (g.T.Storied.entries v) < MAX_TURNS) (sym it) c.requires.short in
    rw (items, count) (begins _ _ _ x short)
