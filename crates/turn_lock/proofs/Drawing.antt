-- A turn is drawn.
use Rattle.std.proofs.Common.{◌≡◌, ℕ, ◌+◌, ◌%◌, ◌^◌, ◌<◌, ◌≤◌, ◌≢◌, Bool, true, false, List, [], ◌∷◌, length, set, refl, sym, ap, ◌∙◌, subst, arith, if◌then◌else◌, nat_lt}
use Rattle.std.specs.Prelude.{slice_index}
use Rattle.std.proofs.Math.Nat.{mod-eq_of_lt}
use Rattle.std.proofs.lemmas.Bool.{ltb-true, ltb-false}
use mathlib.Core.Option.{none, some}
use mathlib.Core.Logic.{dite}
use native.Mathlib.Decide.{ℕ_discrete}
use lib.ListN.{get_elem?}
use Rattle.atomic_table.specs.Table.{State, Me, step, keeps, Allows}
use Rattle.turn_lock.specs.declared.view.Stage.TheVariants.{Idle, Waiting}
use Rattle.turn_lock.specs.declared.view.Stage.{Stage}
use Rattle.turn_lock.specs.declared.view.View.{View}
use Rattle.turn_lock.specs.Steps.{Draws, after_draw}
use Rattle.turn_lock.specs.LockRule.{HasTicket, IsGiven, LockRule, LockState, ViewFits, count_below, learnt_at, told_at}
use Rattle.turn_lock.specs.Views.{HoldsSlot, IsLive, IsPass, ShowsTicket}
use Rattle.turn_lock.specs.Meanings.{MAX_TURNS}
use Rattle.turn_lock.proofs.Lists.{Contains-head, count_le, count_put, each_set, put, put_else, put_here}
use Rattle.turn_lock.proofs.Staying.{home_set, not_true, notes_same, stage_draws, tickets_draw, tickets_set}

module _ {T E G : Type 0} (entries : T → List E) (pass_of : E → ℕ) (ground_of : T → G) (x : T) (s : State T (View E G)) (h : LockRule entries pass_of ground_of x s) (j : ℕ) (v : View E G) (at : get_elem? s.views j ≡ some v) (idle : v.stage ≡ Idle) (early : v.found < MAX_TURNS) where
  abbrev base : ℕ
  base = length (entries x)

  abbrev Fit : LockState T E → ℕ → View E G → Type 0
  Fit w k u = ViewFits pass_of base (ground_of x) w k u

  mine : Fit h.w j v
  mine = h.each j v at

  not_out : HoldsSlot v.stage → ⊥
  not_out out = subst HoldsSlot idle out

  -- the seat j draws a ticket
  drawn_in_time : h.w.next < MAX_TURNS → LockRule entries pass_of ground_of x record { words = (h.w.next + 1) ∷ h.w.serving ∷ length h.w.journal ∷ []; homes = s.homes; views = set s.views j (record v { stage = Waiting h.w.next; found = h.w.next }) }
  drawn_in_time soon =
      let w' : LockState T E = record h.w { next = h.w.next + 1; drawer = put h.w.drawer h.w.next j } in
      let more : (k t : ℕ) → HasTicket h.w.serving h.w.next h.w.drawer k t → HasTicket h.w.serving (h.w.next + 1) (put h.w.drawer h.w.next j) k t
      = λ k t e. let lt : t < h.w.next = e.drawn in record { due = e.due; drawn = omega arith; early = e.early; is = put_else h.w.drawer h.w.next j t (λ is. omega arith) ∙ e.is } in
      let others : (k : ℕ) (u : View E G) → Fit h.w k u → Fit w' k u
      = λ k u f. let le : u.found ≤ h.w.next = f.found in record { stage = stage_draws base h.w.serving h.w.next h.w.drawer h.w.home h.w.journal k u.seen (h.w.next + 1) (put h.w.drawer h.w.next j) (more k) u.stage f.stage; pass = f.pass; live = f.live; seen = f.seen; found = omega arith } in
      let p = mine.pass (subst IsPass (sym idle) tt) in
      let me : Fit w' j (record v { stage = Waiting h.w.next; found = h.w.next }) = record {
        stage = record { due = h.behind; drawn = omega arith; early = soon; is = put_here h.w.drawer h.w.next j };
        pass = λ _. record { sees = p.sees; sees_pending = p.sees_pending; owns = p.owns; owns_pending = p.owns_pending; small = p.small; late = λ e. let le : MAX_TURNS ≤ v.found = p.late e in absurd (omega arith); root = p.root };
        live = λ _. mine.live (subst IsLive (sym idle) tt);
        seen = mine.seen;
        found = omega arith;
      } in record {
        w = w';
        words = refl;
        homes = h.homes;
        slot = home_set entries ground_of base (ground_of x) h.w.journal h.w.serving s.views j v _ at not_out h.w.home h.slot;
        since = h.since;
        grows = h.grows;
        carry = h.carry;
        served = h.served;
        behind = omega (arith, h.behind);
        drawn = omega arith;
        late = h.late;
        short = h.short;
        tickets = tickets_draw h.w.serving h.w.next h.w.drawer s.views h.tickets j v _ at (λ k t. subst (ShowsTicket k) idle t) refl;
        notes = notes_same s.views h.notes j v at _ (sym (ap (λ (z : Stage). told_at z v.told) idle)) (sym (ap (λ (z : Stage). learnt_at z v.learnt) idle));
        each = each_set (Fit w') s.views j _ (λ k u ne e. others k u (h.each k u e)) me;
      }

  -- or it draws after the last turn, which each pass does once
  drawn_late : MAX_TURNS ≤ h.w.next → LockRule entries pass_of ground_of x record { words = (h.w.next + 1) ∷ h.w.serving ∷ length h.w.journal ∷ []; homes = s.homes; views = set s.views j (record v { found = h.w.next }) }
  drawn_late over =
      let w' : LockState T E = record h.w { next = h.w.next + 1; late = put h.w.late v.number true } in
      let p = mine.pass (subst IsPass (sym idle) tt) in
      let more : (k t : ℕ) → HasTicket h.w.serving h.w.next h.w.drawer k t → HasTicket h.w.serving (h.w.next + 1) h.w.drawer k t
      = λ k t e. let lt : t < h.w.next = e.drawn in record { due = e.due; drawn = omega arith; early = e.early; is = e.is } in
      let others : (k : ℕ) (u : View E G) → k ≢ j → Fit h.w k u → Fit w' k u
      = λ k u apart f. let le : u.found ≤ h.w.next = f.found in record {
        stage = stage_draws base h.w.serving h.w.next h.w.drawer h.w.home h.w.journal k u.seen (h.w.next + 1) h.w.drawer (more k) u.stage f.stage;
        pass = λ q. let r = f.pass q in let ne : u.number ≢ v.number = λ e. apart (sym (r.owns u.number (Contains-head u.number u.took)).0 ∙ (ap h.w.owner e ∙ (p.owns v.number (Contains-head v.number v.took)).0)) in
            record { sees = r.sees; sees_pending = r.sees_pending; owns = r.owns; owns_pending = r.owns_pending; small = r.small; late = λ e. r.late (sym (put_else h.w.late v.number true u.number ne) ∙ e); root = r.root };
        live = f.live;
        seen = f.seen;
        found = omega arith;
      } in
      let me : Fit w' j (record v { found = h.w.next }) = record {
        stage = stage_draws base h.w.serving h.w.next h.w.drawer h.w.home h.w.journal j v.seen (h.w.next + 1) h.w.drawer (more j) v.stage mine.stage;
        pass = λ _. record { sees = p.sees; sees_pending = p.sees_pending; owns = p.owns; owns_pending = p.owns_pending; small = p.small; late = λ e. over; root = p.root };
        live = mine.live;
        seen = mine.seen;
        found = omega arith;
      } in
      let before : h.w.late v.number ≡ false = not_true _ (λ e. let le : MAX_TURNS ≤ v.found = p.late e in omega arith) in
      let counted : count_below 64 (put h.w.late v.number true) ≡ count_below 64 h.w.late + 1 = count_put 64 h.w.late v.number p.small before in
      let was : h.w.next ≤ MAX_TURNS + count_below 64 h.w.late = h.drawn in record {
        w = w';
        words = refl;
        homes = h.homes;
        slot = home_set entries ground_of base (ground_of x) h.w.journal h.w.serving s.views j v _ at not_out h.w.home h.slot;
        since = h.since;
        grows = h.grows;
        carry = h.carry;
        served = h.served;
        behind = omega (arith, h.behind);
        drawn = omega arith;
        late = λ n e. dite (ℕ_discrete n v.number) (λ is. subst (IsGiven h.w.gave) (sym is) (p.owns v.number (Contains-head v.number v.took)).1) (λ ne. h.late n (sym (put_else h.w.late v.number true n ne) ∙ e));
        short = h.short;
        tickets = λ k due drawn early. tickets_set h.w.serving h.w.next h.w.drawer s.views h.tickets j v _ at h.w.serving (omega arith) (λ _ _ t. t) k due (omega arith) early;
        notes = notes_same s.views h.notes j v at _ refl refl;
        each = each_set (Fit w') s.views j _ (λ k u ne e. others k u ne (h.each k u e)) me;
      }

  abbrev after : ℕ → Bool → State T (View E G)
  after n b = record { words = (h.w.next + 1) ∷ h.w.serving ∷ length h.w.journal ∷ []; homes = s.homes; views = set s.views j (record v { stage = (if b then Waiting n else v.stage); found = n }) }

  drawn_now : (b : Bool) → nat_lt h.w.next MAX_TURNS ≡ b → LockRule entries pass_of ground_of x (after h.w.next b)
  drawn_now true e = drawn_in_time (ltb-true _ _ e)
  drawn_now false e = drawn_late (ltb-false _ _ e)

  -- either way the rule holds after the draw
  pub drawn_next : LockRule entries pass_of ground_of x (after h.w.next (nat_lt h.w.next MAX_TURNS))
  drawn_next = drawn_now (nat_lt h.w.next MAX_TURNS) refl

module _ {T E G : Type 0} (entries : T → List E) (pass_of : E → ℕ) (ground_of : T → G) (x : T) where
  -- draw
  pub draws : (j : ℕ) (me : Me T (View E G)) → me.0.stage ≡ Idle → me.0.found < MAX_TURNS → Allows (LockRule entries pass_of ground_of x) 1 j me 0 (λ n. (n + 1) % 2 ^ 64) (Draws (step 0 0 0 0 none) me)
  draws j me idle early s h deep at small =
      let n : ℕ = slice_index s.words 0 in
      let is : n ≡ h.w.next = ap (λ (l : List ℕ). slice_index l 0) h.words in
      let few : count_below 64 h.w.late ≤ 64 = count_le 64 h.w.late in
      let was : h.w.next ≤ MAX_TURNS + count_below 64 h.w.late = h.drawn in
      let fits : (n + 1) % 2 ^ 64 ≡ h.w.next + 1 = ap (λ (k : ℕ). (k + 1) % 2 ^ 64) is ∙ mod-eq_of_lt (omega arith) in
      let words : set s.words 0 ((n + 1) % 2 ^ 64) ≡ (h.w.next + 1) ∷ h.w.serving ∷ length h.w.journal ∷ [] = ap (λ (l : List ℕ). set l 0 ((n + 1) % 2 ^ 64)) h.words ∙ ap (λ (k : ℕ). k ∷ h.w.serving ∷ length h.w.journal ∷ []) fits in
      let end : LockRule entries pass_of ground_of x (after entries pass_of ground_of x s h j me.0 at idle early h.w.next (nat_lt h.w.next MAX_TURNS)) = drawn_next entries pass_of ground_of x s h j me.0 at idle early in
      let le : me.0.found ≤ h.w.next = (h.each j me.0 at).found in (
        after_draw n me.0,
        keeps,
        tt,
        subst (λ (p : List ℕ × ℕ). LockRule entries pass_of ground_of x record { words = p.0; homes = s.homes; views = set s.views j (after_draw p.1 me.0) }) (λ i. (sym words i, sym is i)) end,
        (refl, refl, omega arith),
      )
