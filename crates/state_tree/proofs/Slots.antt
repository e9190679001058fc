-- Flags of states.
use Rattle.std.proofs.Common.{◌≡◌, ℕ, zero, suc, ◌+◌, ◌<◌, ◌≤◌, List, [], ◌∷◌, ◌++◌, length, map, take, drop, get_or, set, refl, sym, ◌∙◌, ap, arith, false}
use Rattle.std.proofs.lemmas.List.{set_at, get_or_at, drop_more, take_more, map_push, length-map, length-take, length-drop, length-append, length-take-le, append_assoc}
use Rattle.state_tree.specs.declared.slot.Slot.{Slot}
use Rattle.state_tree.specs.Server.{ended, without, live_count}

module _ {S : Type 0} where
  pub set_ended : (xs : List (Slot S)) (i : ℕ) (x : Slot S) → i < length xs → x ≡ get_or xs i x → set xs i (ended x) ≡ without xs i
  set_ended [] i x within is = absurd (omega arith)
  set_ended (y ∷ xs) zero x within is = ap (λ s. ended s ∷ xs) is
  set_ended (y ∷ xs) (suc i) x within is = ap (λ l. y ∷ l) (set_ended xs i x (omega arith) is)

  pub without_past : (xs : List (Slot S)) (i : ℕ) → length xs ≤ i → without xs i ≡ xs
  without_past [] i past = refl
  without_past (y ∷ xs) zero past = absurd (omega arith)
  without_past (y ∷ xs) (suc i) past = ap (λ l. y ∷ l) (without_past xs i (omega arith))

  -- one that isn't live is ended already
  pub set_same : (xs : List (Slot S)) (i : ℕ) (x : Slot S) → i < length xs → x ≡ get_or xs i x → x.live ≡ false → set xs i x ≡ without xs i
  set_same xs i x within is dead = ap (λ b. set xs i (record { state = x.state; live = b })) dead ∙ set_ended xs i x within is

  -- the first i are ended
  abbrev pub part_ended : List (Slot S) → ℕ → List (Slot S)
  part_ended xs i = map ended (take i xs) ++ drop i xs

  pub end_more : (xs cur : List (Slot S)) (i : ℕ) (d : Slot S) → cur ≡ part_ended xs i → i < length cur → set cur i (ended (get_or cur i d)) ≡ part_ended xs (i + 1)
  end_more xs cur i d is within =
      let inside : i < length xs = omega (arith, ap length is, length-append (map ended (take i xs)) (drop i xs), length-map (take i xs) ended, length-take i xs, length-drop i xs) in
      let size : length (map ended (take i xs)) ≡ i = length-map (take i xs) ended ∙ length-take-le i xs (omega arith) in
      let parts : cur ≡ map ended (take i xs) ++ get_or xs i d ∷ drop (i + 1) xs = is ∙ ap (λ l. map ended (take i xs) ++ l) (drop_more xs i d inside) in
      let item : get_or cur i d ≡ get_or xs i d = ap (λ l. get_or l i d) parts ∙ get_or_at _ _ _ d i size in
      ap (λ y. set cur i (ended y)) item
      ∙ ap (λ l. set l i (ended (get_or xs i d))) parts
      ∙ set_at _ _ _ (ended (get_or xs i d)) i size
      ∙ sym (ap (λ l. l ++ drop (i + 1) xs) (ap (map ended) (take_more xs i d inside) ∙ map_push ended (take i xs) (get_or xs i d)) ∙ append_assoc (map ended (take i xs)) (ended (get_or xs i d) ∷ []) (drop (i + 1) xs))

  pub length-without : (xs : List (Slot S)) (i : ℕ) → length (without xs i) ≡ length xs
  length-without [] i = refl
  length-without (y ∷ xs) zero = refl
  length-without (y ∷ xs) (suc i) = ap suc (length-without xs i)

  pub live-ended : (xs : List (Slot S)) → live_count (map ended xs) ≡ 0
  live-ended [] = refl
  live-ended (x ∷ xs) = live-ended xs
