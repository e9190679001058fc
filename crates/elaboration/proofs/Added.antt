-- Work with the holes of a text added, numbered in text order.
use Rattle.std.proofs.Common.{◌≡◌, ℕ, suc, ◌+◌, ◌≤◌, List, [], ◌∷◌, ◌++◌, length, refl, sym, ap, ap₂, ◌∙◌, append_assoc, length-append, arith}
use Rattle.std.proofs.lemmas.List.{append-nil}
use Rattle.unification.specs.Refusals.{Plain}
use Rattle.elaboration.specs.Elaboration.{Work, with_metas, with_goal, with_hole}
use Rattle.elaboration.specs.Order.{Hole, Asked, Wild, Ascend, asked_among, wild_among}
use Rattle.elaboration.proofs.Growth.{Grows, grows_itself}

-- ---- numbers that ascend

ascend_below : (from below more : ℕ) (ks : List ℕ) → Ascend from below ks → below ≤ more → Ascend from more ks
ascend_below from below more [] a l = omega (arith, a, l)
ascend_below from below more (k ∷ ks) a l = (a.0, ascend_below (suc k) below more ks a.1 l)

ascend_from : (less from below : ℕ) (ks : List ℕ) → less ≤ from → Ascend from below ks → Ascend less below ks
ascend_from less from below [] l a = omega (arith, a, l)
ascend_from less from below (k ∷ ks) l a = (let b = a.0 in omega (arith, b, l), a.1)

ascend_more : (from middle below : ℕ) (ks js : List ℕ) → Ascend from middle ks → Ascend middle below js → Ascend from below (ks ++ js)
ascend_more from middle below [] js a b = ascend_from from middle below js a b
ascend_more from middle below (k ∷ ks) js a b = (a.0, ascend_more (suc k) middle below ks js a.1 b)

-- ---- the numbers of each kind

asked_more : (hs gs : List Hole) (ks js : List ℕ) → length ks ≡ length hs → asked_among (hs ++ gs) (ks ++ js) ≡ asked_among hs ks ++ asked_among gs js
asked_more [] gs [] js e = refl
asked_more [] gs (k ∷ ks) js e = absurd (omega (arith, e))
asked_more (Asked at ∷ hs) gs [] js e = absurd (omega (arith, e))
asked_more (Wild at ∷ hs) gs [] js e = absurd (omega (arith, e))
asked_more (Asked at ∷ hs) gs (k ∷ ks) js e = ap (λ xs. k ∷ xs) (asked_more hs gs ks js (omega (arith, e)))
asked_more (Wild at ∷ hs) gs (k ∷ ks) js e = asked_more hs gs ks js (omega (arith, e))

wild_more : (hs gs : List Hole) (ks js : List ℕ) → length ks ≡ length hs → wild_among (hs ++ gs) (ks ++ js) ≡ wild_among hs ks ++ wild_among gs js
wild_more [] gs [] js e = refl
wild_more [] gs (k ∷ ks) js e = absurd (omega (arith, e))
wild_more (Asked at ∷ hs) gs [] js e = absurd (omega (arith, e))
wild_more (Wild at ∷ hs) gs [] js e = absurd (omega (arith, e))
wild_more (Asked at ∷ hs) gs (k ∷ ks) js e = wild_more hs gs ks js (omega (arith, e))
wild_more (Wild at ∷ hs) gs (k ∷ ks) js e = ap (λ xs. (k, at) ∷ xs) (wild_more hs gs ks js (omega (arith, e)))

-- ---- work

-- work on a part without holes
pub record Keeps (w v : Work) : Type 0 where
  pub grows : Grows w.metas v.metas
  pub goals : v.goals ≡ w.goals
  pub holes : v.holes ≡ w.holes

-- work on a part with these holes
pub record Adds (hs : List Hole) (w v : Work) : Type 0 where
  pub numbers : List ℕ
  pub each : length numbers ≡ length hs
  pub ascend : Ascend (length w.metas) (length v.metas) numbers
  pub goals : v.goals ≡ w.goals ++ asked_among hs numbers
  pub holes : v.holes ≡ w.holes ++ wild_among hs numbers

pub keeps_itself : (w : Work) → Keeps w w
keeps_itself w = record { grows = grows_itself w.metas; goals = refl; holes = refl }

pub adds_none : (w v : Work) → Keeps w v → Adds [] w v
adds_none w v k = record { numbers = []; each = refl; ascend = k.grows; goals = k.goals ∙ sym (append-nil w.goals); holes = k.holes ∙ sym (append-nil w.holes) }

-- a `?` and a `_` get the next number
pub adds_goal : (at : ℕ) (w : Work) (after : Plain) → length after ≡ suc (length w.metas) → Adds (Asked at ∷ []) w (with_goal (length w.metas) (with_metas after w))
adds_goal at w after e = record { numbers = length w.metas ∷ []; each = refl; ascend = (grows_itself w.metas, omega (arith, e)); goals = refl; holes = sym (append-nil w.holes) }

pub adds_hole : (at : ℕ) (w : Work) (after : Plain) → length after ≡ suc (length w.metas) → Adds (Wild at ∷ []) w (with_hole at (length w.metas) (with_metas after w))
adds_hole at w after e = record { numbers = length w.metas ∷ []; each = refl; ascend = (grows_itself w.metas, omega (arith, e)); goals = sym (append-nil w.goals); holes = refl }

-- work on one part after another
pub adds_more : (hs gs : List Hole) (w v u : Work) → Adds hs w v → Adds gs v u → Adds (hs ++ gs) w u
adds_more hs gs w v u a b = record {
  numbers = a.numbers ++ b.numbers;
  each = length-append a.numbers b.numbers ∙ ap₂ ◌+◌ a.each b.each ∙ sym (length-append hs gs);
  ascend = ascend_more (length w.metas) (length v.metas) (length u.metas) a.numbers b.numbers a.ascend b.ascend;
  goals =
      b.goals ∙ ap (λ xs. xs ++ asked_among gs b.numbers) a.goals ∙ append_assoc w.goals (asked_among hs a.numbers) (asked_among gs b.numbers)
      ∙ ap (λ xs. w.goals ++ xs) (sym (asked_more hs gs a.numbers b.numbers a.each));
  holes =
      b.holes ∙ ap (λ xs. xs ++ wild_among gs b.numbers) a.holes ∙ append_assoc w.holes (wild_among hs a.numbers) (wild_among gs b.numbers)
      ∙ ap (λ xs. w.holes ++ xs) (sym (wild_more hs gs a.numbers b.numbers a.each));
}

pub adds_kept : (hs : List Hole) (w v u : Work) → Adds hs w v → Keeps v u → Adds hs w u
adds_kept hs w v u a k = record { numbers = a.numbers; each = a.each; ascend = ascend_below (length w.metas) (length v.metas) (length u.metas) a.numbers a.ascend k.grows; goals = k.goals ∙ a.goals; holes = k.holes ∙ a.holes }
