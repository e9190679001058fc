-- The lock is closed.
use Rattle.std.proofs.Common.{◌≡◌, ℕ, ◌≤◌, true, List, [], ◌∷◌, ◌++◌, length, refl, sym, ap, ◌∙◌, subst, ⊎_elim, All, Contains}
use Rattle.std.proofs.lemmas.List.{append-nil}
use Rattle.std.proofs.lemmas.List.Elements.{All-weaker}
use mathlib.Core.Option.{Option, none, some, some-injective}
use lib.ListN.{get_elem?}
use Rattle.atomic_table.specs.Table.{State, Final, Seen}
use Rattle.atomic_table.specs.Seated.{TableId}
use Rattle.turn_lock.specs.declared.view.Stage.TheVariants.{Called, Entered, Holding, Idle, Note, Spent, Waiting}
use Rattle.turn_lock.specs.declared.view.Stage.{Stage}
use Rattle.turn_lock.specs.declared.view.View.{View}
use Rattle.turn_lock.specs.Views.{HoldsSlot, IsLive, IsPass, is_idle, own_numbers, pass_meaning}
use Rattle.turn_lock.specs.LockRule.{IsGiven, LockRule, SlotFits, ViewFits}
use Rattle.turn_lock.specs.Meanings.{IsPassOf, PassMeaning, SharedMeaning}
use Rattle.turn_lock.proofs.Lists.{All-back, All-front, Contains-cons, Contains-head, beginnings, no_elements}
use Rattle.turn_lock.proofs.Staying.{is_pass}

module _ {T E G : Type 0} (entries : T → List E) (pass_of : E → ℕ) (ground_of : T → G) where
  -- the value is that of the last pass
  pub record Closes (x : T) (seen : List E) (numbers : List ℕ) (y : T) : Type 0 where
    pub same : ground_of y ≡ ground_of x
    pub list : entries y ≡ seen
    pub since : List E
    pub grows : entries x ++ since ≡ seen
    pub carry : All (λ e. Contains numbers (pass_of e)) since

  module _ (x : T) (s : State T (View E G)) (h : LockRule entries pass_of ground_of x s) (j : ℕ) (v : View E G) (at : get_elem? s.views j ≡ some v) (idle : v.stage ≡ Idle) (root : v.number ≡ 0) (back : (n : ℕ) → Contains v.gave n → Contains v.took n) where
    mine : ViewFits pass_of (length (entries x)) (ground_of x) h.w j v
    mine = h.each j v at

    given : (n : ℕ) → IsGiven h.w.gave n → Contains (own_numbers v) n
    given n t =
        let p = mine.pass (subst IsPass (sym idle) tt) in
        ⊎_elim (λ (e : n ≡ 0). subst (Contains (own_numbers v)) (root ∙ sym e) (Contains-head v.number v.took)) (λ (a : Contains h.w.gave n). Contains-cons v.number v.took n (back n (subst (λ (l : List ℕ). Contains l n) (sym (p.root root)) a))) t

    at_home : (home : Option T) → SlotFits entries ground_of (length (entries x)) (ground_of x) h.w.journal h.w.serving s.views home → (y : T) × (home ≡ some y) × (entries y ≡ h.w.journal) × (ground_of y ≡ ground_of x)
    at_home none (i, u, there, out) =
        let p = mine.pass (subst IsPass (sym idle) tt) in
        let q = (h.each i u there).pass (is_pass u.stage out) in
        let theirs = q.owns u.number (Contains-head u.number u.took) in
        let ours = p.owns u.number (given u.number theirs.1) in
        let same : i ≡ j = sym theirs.0 ∙ ours.0 in
        let view : u ≡ v = some-injective _ _ (sym there ∙ (ap (λ (k : ℕ). get_elem? s.views k) same ∙ at)) in
        absurd (subst HoldsSlot (ap (λ (z : View E G). z.stage) view ∙ idle) out)
    at_home (some y) t = (y, refl, t.0, t.1)

    -- where pass 0 has taken back all numbers, the value is at home, and the pass has seen the whole journal
    pub closes : (y : T) × (get_elem? s.homes 0 ≡ some (some y)) × Closes x v.seen (own_numbers v) y
    closes =
        let p = mine.pass (subst IsPass (sym idle) tt) in
        let y = at_home h.w.home h.slot in
        let long : length (entries x) ≤ length v.seen = (mine.live (subst IsLive (sym idle) tt)).1 in
        let t = beginnings (entries x) v.seen h.since p.sees.more (h.grows ∙ sym p.sees.is) long in
        let all : All (λ (e : E). Contains (own_numbers v) (pass_of e)) h.since = All-weaker (λ (e : E). IsGiven h.w.gave (pass_of e)) (λ (e : E). Contains (own_numbers v) (pass_of e)) (λ e g. given (pass_of e) g) h.since h.carry in
        let both : All (λ (e : E). Contains (own_numbers v) (pass_of e)) (t.0 ++ p.sees.more) = subst (All (λ (e : E). Contains (own_numbers v) (pass_of e))) t.2 all in
        let none_more : p.sees.more ≡ [] = no_elements (λ (e : E). Contains (own_numbers v) (pass_of e)) p.sees.more (All-back (λ (e : E). Contains (own_numbers v) (pass_of e)) t.0 p.sees.more both) p.sees.by_others in
        let whole : v.seen ≡ h.w.journal = sym (append-nil v.seen) ∙ (ap (λ (l : List E). v.seen ++ l) (sym none_more) ∙ p.sees.is) in
        let home : get_elem? s.homes 0 ≡ some (some y.0) = ap (λ (l : List (Option T)). get_elem? l 0) (h.homes ∙ ap (λ (o : Option T). o ∷ []) y.1) in
        (y.0, home, record { same = y.3; list = y.2 ∙ sym whole; since = t.0; grows = t.1; carry = All-front (λ (e : E). Contains (own_numbers v) (pass_of e)) t.0 p.sees.more both })

  -- after the last step
  pub last : (x : T) (ws : List ℕ) (xs : List T) (j : ℕ) (v : View E G) → v.stage ≡ Idle → v.number ≡ 0 → ((n : ℕ) → Contains v.gave n → Contains v.took n) → Final (Seen (LockRule entries pass_of ground_of x) j v) ws xs → (z : T) → get_elem? xs 0 ≡ some z → Closes x v.seen (own_numbers v) z
  last x ws xs j v idle root back end z here =
      let c = closes x end.0 end.1.0 j v end.1.1 idle root back in
      let same : c.0 ≡ z = some-injective _ _ (sym (end.4 0 c.0 c.1) ∙ here) in
      subst (Closes x v.seen (own_numbers v)) same c.2

-- a pass whose lock is open is between two calls
pub idle_of : (stage : Stage) → is_idle stage ≡ true → stage ≡ Idle
idle_of Spent e = cc
idle_of Note e = cc
idle_of Idle e = refl
idle_of (Waiting k) e = cc
idle_of (Called k) e = cc
idle_of (Holding k) e = cc
idle_of (Entered k) e = cc

module _ {T E G : Type 0} (entries : T → List E) (pass_of : E → ℕ) (ground_of : T → G) where
  Closed : SharedMeaning E G → PassMeaning E G → T → Type 0
  Closed o p y = ((ground_of y ≡ o.the_ground) × (entries y ≡ p.seen)) × ((since : List E) × (o.journal ++ since ≡ p.seen) × All (λ e. Contains (p.number ∷ p.took) (pass_of e)) since)

  -- the same of what the pass means
  pub ends : (x : T) (ws : List ℕ) (xs : List T) (j : ℕ) (v v' : View E G) (z t : TableId) (o : SharedMeaning E G) (p : PassMeaning E G) → v' ≡ v → pass_meaning z v ≡ p → record { table = t; journal = entries x; the_ground = ground_of x } ≡ o → IsPassOf o p → p.number ≡ 0 → ((n : ℕ) → Contains p.gave n → Contains p.took n)
      → Final (Seen (LockRule entries pass_of ground_of x) j v') ws xs → (y : T) → get_elem? xs 0 ≡ some y → ((ground_of y ≡ o.the_ground) × (entries y ≡ p.seen)) × ((since : List E) × (o.journal ++ since ≡ p.seen) × All (λ e. Contains (p.number ∷ p.took) (pass_of e)) since)
  unfolding Closed
  ends x ws xs j v v' z t o p was is about own root back end y here =
      let P : PassMeaning E G → Type 0 = λ q. (q.is_open ≡ true) × (q.number ≡ 0) × ((n : ℕ) → Contains q.gave n → Contains q.took n) in
      let at = subst P (sym is) (own.2, root, back) in
      let idle : v.stage ≡ Idle = idle_of v.stage at.0 in
      let F : View E G → Type 0 = λ u. Final (Seen (LockRule entries pass_of ground_of x) j u) ws xs in
      let c = last entries pass_of ground_of x ws xs j v idle at.1 at.2 (subst F was end) y here in
      let first : Closed record { table = t; journal = entries x; the_ground = ground_of x } (pass_meaning z v) y = ((c.same, c.list), (c.since, c.grows, c.carry)) in
      let A : SharedMeaning E G → Type 0 = λ a. Closed a (pass_meaning z v) y in
      let B : PassMeaning E G → Type 0 = λ q. Closed o q y in
      subst B is (subst A about first)
