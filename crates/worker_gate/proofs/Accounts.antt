-- Each move keeps the rule of a deque.
use Rattle.std.proofs.Common.{◌≡◌, ◌≢◌, ℕ, zero, suc, ◌+◌, ◌-◌, ◌<◌, ◌≤◌, List, [], ◌∷◌, ◌++◌, map, length, set, sym, refl, ap, ◌∙◌, subst, ⊎_elim, arith}
use mathlib.Core.Option.{some, some-ne-none, some-injective}
use lib.ListN.{get_elem?}
use Rattle.std.proofs.lemmas.List.{map-append}
use Rattle.crossbeam_deque.specs.Tasks.{Pushes, Takes, Forks, Merges}
use Rattle.crossbeam_deque.proofs.Lists.{at_set, at_snoc}
use Rattle.worker_gate.specs.declared.account.Account.{Account}
use Rattle.worker_gate.specs.Accounts.{account, weigh, total, IdleIsEmpty, Balanced, Took}

pub weigh-append : (h : ℕ → ℕ) (xs ys : List ℕ) → weigh h (xs ++ ys) ≡ weigh h xs + weigh h ys
weigh-append h [] ys = omega arith
weigh-append h (x ∷ xs) ys = let e = weigh-append h xs ys in omega arith

pub weigh-one : (xs : List ℕ) → weigh (λ _. 1) xs ≡ length xs
weigh-one [] = refl
weigh-one (x ∷ xs) = let e = weigh-one xs in omega arith

total_set : (f : Account → ℕ) (views : List Account) (port : ℕ) (v w : Account) → get_elem? views port ≡ some v → total f (set views port w) + f v ≡ total f views + f w
total_set f [] port v w at = absurd (some-ne-none v (sym at))
total_set f (x ∷ xs) zero v w at = let e : f x ≡ f v = ap f (some-injective x v at) in omega arith
total_set f (x ∷ xs) (suc port) v w at = let e = total_set f xs port v w at in omega arith

total_snoc : (f : Account → ℕ) (views : List Account) (v : Account) → total f (views ++ v ∷ []) ≡ total f views + f v
total_snoc f [] v = omega arith
total_snoc f (x ∷ xs) v = let e = total_snoc f xs v in omega arith

idle_set : (views : List Account) (port : ℕ) (w : Account) → (w.parts ≡ 0 → (w.put ≡ []) × (w.taken ≡ [])) → IdleIsEmpty views → IdleIsEmpty (set views port w)
idle_set views port w mine old j u at none =
    ⊎_elim (λ (x : (j ≡ port) × (w ≡ u)). subst (λ (y : Account). y.parts ≡ 0 → (y.put ≡ []) × (y.taken ≡ [])) x.1 mine none)
    (λ (x : (j ≢ port) × (get_elem? views j ≡ some u)). old j u x.1 none) (at_set views port j w u at)

idle_snoc : (views : List Account) (w : Account) → (w.parts ≡ 0 → (w.put ≡ []) × (w.taken ≡ [])) → IdleIsEmpty views → IdleIsEmpty (views ++ w ∷ [])
idle_snoc views w mine old j u at none =
    ⊎_elim (λ (x : get_elem? views j ≡ some u). old j u x none)
    (λ (x : w ≡ u). subst (λ (y : Account). y.parts ≡ 0 → (y.put ≡ []) × (y.taken ≡ [])) x mine none) (at_snoc views w u j at)

-- where no pass has a part, nothing is weighed
none_left : (f : Account → ℕ) (views : List Account) → ((v : Account) → (v.put ≡ []) × (v.taken ≡ []) → f v ≡ 0) → IdleIsEmpty views → total (λ v. v.parts) views ≡ 0 → total f views ≡ 0
none_left f [] zeros idle none = refl
none_left f (x ∷ xs) zeros idle none =
    let here : f x ≡ 0 = zeros x (idle 0 x refl (omega arith)) in
    let rest : total f xs ≡ 0 = none_left f xs zeros (λ j u at. idle (suc j) u at) (omega arith) in omega arith

-- no pass has more parts than there are
most : (views : List Account) (port : ℕ) (v : Account) → get_elem? views port ≡ some v → v.parts ≤ total (λ u. u.parts) views
most [] port v at = absurd (some-ne-none v (sym at))
most (x ∷ xs) zero v at = let e : x.parts ≡ v.parts = ap (λ (y : Account). y.parts) (some-injective x v at) in omega arith
most (x ∷ xs) (suc port) v at = let e = most xs port v at in omega arith

-- where a pass has every part, the total is its own
alone : (f : Account → ℕ) (views : List Account) (port : ℕ) (v : Account) → ((u : Account) → (u.put ≡ []) × (u.taken ≡ []) → f u ≡ 0) → IdleIsEmpty views → get_elem? views port ≡ some v → total (λ u. u.parts) views ≡ v.parts → total f views ≡ f v
alone f [] port v zeros idle at all = absurd (some-ne-none v (sym at))
alone f (x ∷ xs) zero v zeros idle at all =
    let is = some-injective x v at in
    let parts : x.parts ≡ v.parts = ap (λ (y : Account). y.parts) is in
    let here : f x ≡ f v = ap f is in
    let rest : total f xs ≡ 0 = none_left f xs zeros (λ j u e. idle (suc j) u e) (omega arith) in omega arith
alone f (x ∷ xs) (suc port) v zeros idle at all =
    let more : v.parts ≤ total (λ u. u.parts) xs = most xs port v at in
    let here : f x ≡ 0 = zeros x (idle 0 x refl (omega arith)) in
    let rest : total f xs ≡ f v = alone f xs port v zeros (λ j u e. idle (suc j) u e) at (omega arith) in omega arith

-- what is known where one pass has every part
pub known : (port : ℕ) (v : Account) (items : List ℕ) (views : List Account) → v.parts ≡ 1024 → Balanced items views → get_elem? views port ≡ some v → (h : ℕ → ℕ) → weigh h v.put ≡ weigh h v.taken + weigh h items
known port v items views every b at h =
    let all : total (λ u. u.parts) views ≡ v.parts = b.0 ∙ sym every in
    let put : total (λ u. weigh h u.put) views ≡ weigh h v.put = alone (λ u. weigh h u.put) views port v (λ u none. ap (weigh h) none.0) b.2 at all in
    let taken : total (λ u. weigh h u.taken) views ≡ weigh h v.taken = alone (λ u. weigh h u.taken) views port v (λ u none. ap (weigh h) none.1) b.2 at all in
    let e = b.1 h in omega arith

pub finds : (port : ℕ) (v : Account) (views : List Account) → Balanced [] views → get_elem? views port ≡ some v → v.parts ≡ 1024 → (h : ℕ → ℕ) → weigh h v.put ≡ weigh h v.taken
finds port v views b at every h = let e = known port v [] views every b at h in omega arith

module _ {T : Type 0} (place : T → ℕ) where
  abbrev pub Rule : List T → List Account → Type 0
  Rule items views = Balanced (map place items) views

  pub puts : (port : ℕ) (v : Account) (xs : List T) → 0 < v.parts → Pushes Rule port v xs (λ w. w ≡ account v.parts (v.put ++ map place xs) v.taken)
  puts port v xs some_part items views b at =
      let w : Account = account v.parts (v.put ++ map place xs) v.taken in (
        w,
        (
          (let s = total_set (λ u. u.parts) views port v w at in let p = b.0 in omega arith),
          (λ h.
              let s = total_set (λ u. weigh h u.put) views port v w at in
              let t = total_set (λ u. weigh h u.taken) views port v w at in
              let p = b.1 h in
              let a = weigh-append h v.put (map place xs) in
              let c : weigh h (map place (items ++ xs)) ≡ weigh h (map place items) + weigh h (map place xs) = ap (weigh h) (map-append place items xs) ∙ weigh-append h (map place items) (map place xs) in
              omega arith),
          idle_set views port w (λ none. absurd (omega arith)) b.2,
        ),
        refl,
      )

  pub steals : (port : ℕ) (v : Account) (most' : ℕ) → 0 < v.parts → Takes Rule port v most' (λ xs w. Took v (map place xs) w)
  steals port v most' some_part xs items views _ _ b at =
      let w : Account = account v.parts v.put (v.taken ++ map place xs) in (
        w,
        (
          (let s = total_set (λ u. u.parts) views port v w at in let p = b.0 in omega arith),
          (λ h.
              let s = total_set (λ u. weigh h u.put) views port v w at in
              let t = total_set (λ u. weigh h u.taken) views port v w at in
              let p = b.1 h in
              let a = weigh-append h v.taken (map place xs) in
              let c : weigh h (map place (xs ++ items)) ≡ weigh h (map place xs) + weigh h (map place items) = ap (weigh h) (map-append place xs items) ∙ weigh-append h (map place xs) (map place items) in
              omega arith),
          idle_set views port w (λ none. absurd (omega arith)) b.2,
        ),
        refl,
      )

  pub takes : (port : ℕ) (v : Account) (most' : ℕ) → 0 < v.parts → Takes Rule port v most' (λ xs w. Took v (map place xs) w × (v.parts ≡ 1024 → length w.taken ≤ length w.put))
  takes port v most' some_part xs items views some_task few b at =
      let r = steals port v most' some_part xs items views some_task few b at in (
        r.0,
        r.1,
        (
          r.2,
          λ every.
              let e = known port v (map place (xs ++ items)) views every b at (λ _. 1) in
              let c : weigh (λ _. 1) (map place (xs ++ items)) ≡ weigh (λ _. 1) (map place xs) + weigh (λ _. 1) (map place items) = ap (weigh (λ _. 1)) (map-append place xs items) ∙ weigh-append (λ _. 1) (map place xs) (map place items) in
              let a = weigh-append (λ _. 1) v.taken (map place xs) in
              let m = weigh-one (v.taken ++ map place xs) in
              let n = weigh-one v.put in
              let within : length (v.taken ++ map place xs) ≤ length v.put = omega arith in
              let P : Account → Type 0 = λ y. length y.taken ≤ length y.put in
              subst P (sym r.2) within,
        ),
      )

  pub forks : (port : ℕ) (v : Account) → 1 < v.parts → Forks Rule port v (account (v.parts - 1) v.put v.taken) (account 1 [] [])
  forks port v two_parts items views b at =
      let l : Account = account (v.parts - 1) v.put v.taken in let r : Account = account 1 [] [] in (
        (let s = total_set (λ u. u.parts) views port v l at in let t = total_snoc (λ u. u.parts) (set views port l) r in let p = b.0 in omega arith),
        (λ h.
            let s = total_set (λ u. weigh h u.put) views port v l at in let s' = total_snoc (λ u. weigh h u.put) (set views port l) r in
            let t = total_set (λ u. weigh h u.taken) views port v l at in let t' = total_snoc (λ u. weigh h u.taken) (set views port l) r in
            let p = b.1 h in omega arith),
        idle_snoc (set views port l) r (λ none. absurd (omega arith)) (idle_set views port l (λ none. absurd (omega arith)) b.2),
      )

  pub merges : (port : ℕ) (v : Account) (other : ℕ) (u : Account) → 0 < v.parts → Merges Rule port v other u (account (v.parts + u.parts) (v.put ++ u.put) (v.taken ++ u.taken)) (account 0 [] [])
  merges port v other u some_part items views b at apart at' =
      let both : Account = account (v.parts + u.parts) (v.put ++ u.put) (v.taken ++ u.taken) in let spent : Account = account 0 [] [] in let vs : List Account = set views port both in (
        (let s = total_set (λ y. y.parts) views port v both at in let t = total_set (λ y. y.parts) vs other u spent at' in let p = b.0 in omega arith),
        (λ h.
            let s = total_set (λ y. weigh h y.put) views port v both at in let s' = total_set (λ y. weigh h y.put) vs other u spent at' in
            let t = total_set (λ y. weigh h y.taken) views port v both at in let t' = total_set (λ y. weigh h y.taken) vs other u spent at' in
            let a = weigh-append h v.put u.put in let c = weigh-append h v.taken u.taken in
            let p = b.1 h in omega arith),
        idle_set vs other spent (λ _. (refl, refl)) (idle_set views port both (λ none. absurd (omega arith)) b.2),
      )

pub begins : Balanced [] (account 1024 [] [] ∷ [])
begins = (
  refl,
  (λ h. refl),
  λ j u at none. elim j as (λ j. get_elem? (account 1024 [] [] ∷ []) j ≡ some u → (u.put ≡ []) × (u.taken ≡ [])) [
    | zero ↦ λ e. let is = some-injective (account 1024 [] []) u e in (sym (ap (λ (y : Account). y.put) is), sym (ap (λ (y : Account). y.taken) is))
    | suc i ↦ λ e. absurd (some-ne-none u (sym e))
  ] at,
)
