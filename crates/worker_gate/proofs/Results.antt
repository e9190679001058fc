-- Results that join those that are there.
use Rattle.std.proofs.Common.{◌≡◌, ℕ, List, [], ◌∷◌, ◌++◌}
use Rattle.std.proofs.lemmas.List.Elements.{All-push, All-append, All-nil}
use Rattle.worker_gate.specs.declared.task.Answer.{Answer}
use Rattle.worker_gate.specs.Results.{Gave, AllGave}

module _ {J D : Type 0} (jobs : List J) (gives : J → D → Type 0) (told : ℕ → Type 0) where
  pub AllGave-push : (answers : List (Answer D)) (a : Answer D) → AllGave jobs gives told answers → Gave jobs gives told a.at a.done → AllGave jobs gives told (answers ++ a ∷ [])
  AllGave-push answers a old new = All-push (λ (a : Answer D). Gave jobs gives told a.at a.done) answers a old new

  pub AllGave-append : (answers more : List (Answer D)) → AllGave jobs gives told answers → AllGave jobs gives told more → AllGave jobs gives told (answers ++ more)
  AllGave-append answers more old new = All-append (λ (a : Answer D). Gave jobs gives told a.at a.done) answers more old new

  pub AllGave-none : (answers : List (Answer D)) → answers ≡ [] → AllGave jobs gives told answers
  AllGave-none answers none = rw none (All-nil (λ (a : Answer D). Gave jobs gives told a.at a.done))
