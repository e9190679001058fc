use Rattle.std.proofs.Common.{◌≡◌, ◌<◌, ◌+◌, ℕ, List, ◌++◌, ◌∷◌, All, Contains, sym, ap, ◌∙◌, subst, inl, inr, ⊎_elim, arith}
use Rattle.std.proofs.lemmas.List.Elements.{All-push, All-weaker, Contains-append_left, Contains-append_right, Contains-push_cases}
use Rattle.turn_lock.proofs.Lists.{Contains-head}
use Rattle.turn_lock.proofs.tests.+come_and_go.Goals as goal

pub come_and_go-requires-clause-new : goal.come_and_go-requires-clause-new
come_and_go-requires-clause-new g t c κs within =
    let given : List ℕ = c.args.zero.now.gave in
    let more : All (λ (n : ℕ). n < c.args.number + 1) given = All-weaker (λ (n : ℕ). n < c.args.number) (λ (n : ℕ). n < c.args.number + 1) (λ n lt. omega arith) given c.requires.new in
    subst (All (λ (n : ℕ). n < c.args.number + 1)) (sym (ap (λ p. p.gave) c.split-pass.ensures.pass)) (All-push (λ (n : ℕ). n < c.args.number + 1) given c.args.number more (omega arith))

pub returns-then-number-lt64-clause-back : goal.returns-then-number-lt64-clause-back
returns-then-number-lt64-clause-back g t c = λ n there.
    let before : List ℕ = c.come_and_go.new.zero.took in
    let pass = c.make_step.new.pass in
    let took : c.exchange_and_join.new.zero.took ≡ before ++ (pass.number ∷ pass.took) = ap (λ p. p.took) c.exchange_and_join.ensures in
    let number : pass.number ≡ c.args.number = ap (λ p. p.number) c.make_step.ensures ∙ ap (λ p. p.number) c.split-pass.ensures.new in
    let own : Contains (before ++ (pass.number ∷ pass.took)) c.args.number = Contains-append_right before (pass.number ∷ pass.took) c.args.number (subst (Contains (pass.number ∷ pass.took)) number (Contains-head pass.number pass.took)) in
    let given : Contains c.come_and_go.new.zero.gave n = subst (λ (l : List ℕ). Contains l n) (ap (λ p. p.gave) c.exchange_and_join.ensures) there in
    ⊎_elim
    (λ (a : Contains c.split-pass.new.pass.gave n).
    ⊎_elim
    (λ (b : Contains c.args.zero.now.gave n). inl b)
    (λ (e : c.args.number ≡ n). inr (subst (λ (l : List ℕ). Contains l n) (sym took) (subst (Contains (before ++ (pass.number ∷ pass.took))) e own)))
    (Contains-push_cases c.args.zero.now.gave c.args.number n (subst (λ (l : List ℕ). Contains l n) (ap (λ p. p.gave) c.split-pass.ensures.pass) a)))
    (λ (b : Contains before n). inr (subst (λ (l : List ℕ). Contains l n) (sym took) (Contains-append_left before (pass.number ∷ pass.took) n b)))
    (c.come_and_go.ensures.back n given)
