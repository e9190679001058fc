-- A pass or a note is taken in, and compared.
use Rattle.std.proofs.Common.{◌≡◌, ℕ, ◌≤◌, ◌≢◌, List, [], ◌∷◌, length, set, refl, sym, ap, ◌∙◌, subst, ⊎_elim, arith, eqb, eq-eqb, ne_eqb, if◌then◌else◌, ◌+◌, Contains}
use Rattle.std.specs.Prelude.{slice_index}
use Rattle.std.proofs.lemmas.List.Elements.{Contains-append_cases}
use mathlib.Core.Option.{none, some}
use lib.ListN.{get_elem?}
use Rattle.atomic_table.specs.Table.{State, Me, step, keeps, Joins, Allows}
use Rattle.atomic_table.proofs.Lists.{at_set, set_else}
use Rattle.turn_lock.specs.declared.view.Stage.TheVariants.{Idle, Note}
use Rattle.turn_lock.specs.declared.view.Stage.{Stage}
use Rattle.turn_lock.specs.declared.view.View.{View}
use Rattle.turn_lock.specs.Steps.{Compares, after_comparing, after_joining, after_learning}
use Rattle.turn_lock.specs.Journals.{ExtendsByOthers, longer}
use Rattle.turn_lock.specs.Views.{HoldsSlot, IsLive, IsPass, ShowsTicket, own_numbers, spent_view}
use Rattle.turn_lock.specs.LockRule.{LockRule, LockState, StageFits, ViewFits, learnt_at, notes_learnt, notes_told, told_at}
use Rattle.turn_lock.specs.Meanings.{MAX_TURNS}
use Rattle.turn_lock.proofs.Lists.{each_set, none_in_nil}
use Rattle.turn_lock.proofs.Extending.{goes_for, goes_none, meets}
use Rattle.turn_lock.proofs.Staying.{home_set, notes_merge, tickets_set}
use Rattle.turn_lock.proofs.Serving.{same_state}

-- what belonged to the seat i belongs to j
abbrev pub moved : (ℕ → ℕ) → ℕ → ℕ → ℕ → ℕ
moved owner i j n = if eqb (owner n) i then j else owner n

moved_there : (owner : ℕ → ℕ) (i j n : ℕ) → owner n ≡ i → moved owner i j n ≡ j
moved_there owner i j n e = rw (eq-eqb (owner n) i e)

moved_else : (owner : ℕ → ℕ) (i j n k : ℕ) → owner n ≡ k → k ≢ i → moved owner i j n ≡ k
moved_else owner i j n k e ne = let other : owner n ≢ i = λ f. ne (sym e ∙ f) in rw (ne_eqb (owner n) i other) e

module _ {T E G : Type 0} (entries : T → List E) (pass_of : E → ℕ) (ground_of : T → G) (x : T) where
  -- a spent seat says nothing of the lock
  spent_fits : (w : LockState T E) (i : ℕ) → ViewFits pass_of (length (entries x)) (ground_of x) w i spent_view
  spent_fits w i = record { stage = tt; pass = λ p. absurd p; live = λ p. absurd p; seen = goes_none pass_of w.journal; found = omega arith }

  -- one view takes in another, and the other is gone
  merge : (s : State T (View E G)) (h : LockRule entries pass_of ground_of x s) (j : ℕ) (v both : View E G) (i : ℕ) (u : View E G) → get_elem? s.views j ≡ some v → (HoldsSlot v.stage → ⊥) → i ≢ j → get_elem? (set s.views j both) i ≡ some u → (HoldsSlot u.stage → ⊥) → ((k : ℕ) → ShowsTicket k v.stage → ShowsTicket k both.stage) → ((k : ℕ) → ShowsTicket k u.stage → ⊥) → notes_told both + (notes_learnt v + notes_learnt u) ≡ notes_told v + notes_told u + notes_learnt both
      → (owner : ℕ → ℕ) → let w' : LockState T E = record h.w { owner = owner } in ViewFits pass_of (length (entries x)) (ground_of x) w' j both → ((k : ℕ) (z : View E G) → k ≢ j → k ≢ i → ViewFits pass_of (length (entries x)) (ground_of x) h.w k z → ViewFits pass_of (length (entries x)) (ground_of x) w' k z)
      → LockRule entries pass_of ground_of x record { words = s.words; homes = s.homes; views = set (set s.views j both) i spent_view }
  merge s h j v both i u at not_out apart there not_out' has has' even owner mine others =
      let base : ℕ = length (entries x) in
      let w' : LockState T E = record h.w { owner = owner } in
      let views : List (View E G) = set s.views j both in
      let first = home_set entries ground_of base (ground_of x) h.w.journal h.w.serving s.views j v both at not_out h.w.home h.slot in
      let most : (k : ℕ) (z : View E G) → k ≢ i → get_elem? views k ≡ some z → ViewFits pass_of base (ground_of x) w' k z
      = λ k z ne e. ⊎_elim
      (λ (t : (k ≡ j) × (both ≡ z)). subst (λ (y : ℕ × View E G). ViewFits pass_of base (ground_of x) w' y.0 y.1) (λ l. (sym t.0 l, t.1 l)) mine)
      (λ (t : (k ≢ j) × (get_elem? s.views k ≡ some z)). others k z t.0 ne (h.each k z t.1))
      (at_set s.views j k both z e) in
      record {
        w = w';
        words = h.words;
        homes = h.homes;
        slot = home_set entries ground_of base (ground_of x) h.w.journal h.w.serving views i u spent_view there not_out' h.w.home first;
        since = h.since;
        grows = h.grows;
        carry = h.carry;
        served = h.served;
        behind = h.behind;
        drawn = h.drawn;
        late = h.late;
        short = h.short;
        tickets = tickets_set h.w.serving h.w.next h.w.drawer views (tickets_set h.w.serving h.w.next h.w.drawer s.views h.tickets j v both at h.w.serving (omega arith) (λ k _ t. has k t)) i u spent_view there h.w.serving (omega arith) (λ k _ t. has' k t);
        notes = notes_merge s.views h.notes j v at both i u spent_view there refl refl even;
        each = each_set (ViewFits pass_of base (ground_of x) w') views i spent_view most (spent_fits w' i);
      }

  -- join of a note
  pub hears : (j : ℕ) (v : View E G) (i : ℕ) (u : View E G) → v.stage ≡ Idle → v.pending_numbers ≡ [] → u.stage ≡ Note → u.told ≡ 0 → u.learnt ≡ 0 → Joins (LockRule entries pass_of ground_of x) j v i u (after_learning v u) spent_view
  hears j v i u idle settled note no_told no_learnt s h at apart there =
      let base : ℕ = length (entries x) in
      let f : ViewFits pass_of base (ground_of x) h.w j v = h.each j v at in
      let p = f.pass (subst IsPass (sym idle) tt) in
      let was : get_elem? s.views i ≡ some u = sym (set_else s.views j i (after_learning v u) apart) ∙ there in
      let q : ViewFits pass_of base (ground_of x) h.w i u = h.each i u was in
      let le : v.found ≤ h.w.next = f.found in
      let le' : u.found ≤ h.w.next = q.found in
      let mine : ViewFits pass_of base (ground_of x) h.w j (after_learning v u) = record {
        stage = f.stage;
        pass = λ _. record { sees = p.sees; sees_pending = subst (ExtendsByOthers pass_of u.seen h.w.journal) (sym settled) q.seen; owns = p.owns; owns_pending = p.owns_pending; small = p.small; late = λ e. let l : MAX_TURNS ≤ v.found = p.late e in omega arith; root = p.root };
        live = f.live;
        seen = f.seen;
        found = omega arith;
      } in
      let P : Stage → Stage → Type 0 = λ a b. told_at a v.told + (learnt_at a v.learnt + learnt_at b u.learnt) ≡ told_at a v.told + told_at b u.told + learnt_at a (v.learnt + 1) in
      let even : P v.stage u.stage = subst (λ (a : Stage). P a u.stage) (sym idle) (subst (P Idle) (sym note) (omega arith)) in
      merge s h j v (after_learning v u) i u at (λ o. subst HoldsSlot idle o) apart there (λ o. subst HoldsSlot note o) (λ k t. t) (λ k t. subst (ShowsTicket k) note t) even h.w.owner mine (λ k z _ _ r. r)

  -- join of a pass, whose numbers are then owned by the seat j
  pub joins : (j : ℕ) (v : View E G) (i : ℕ) (u : View E G) → v.stage ≡ Idle → u.stage ≡ Idle → Joins (LockRule entries pass_of ground_of x) j v i u (after_joining v u) spent_view
  joins j v i u idle idle' s h at apart there =
      let base : ℕ = length (entries x) in
      let f : ViewFits pass_of base (ground_of x) h.w j v = h.each j v at in
      let p = f.pass (subst IsPass (sym idle) tt) in
      let was : get_elem? s.views i ≡ some u = sym (set_else s.views j i (after_joining v u) apart) ∙ there in
      let r : ViewFits pass_of base (ground_of x) h.w i u = h.each i u was in
      let q = r.pass (subst IsPass (sym idle') tt) in
      let owner : ℕ → ℕ = moved h.w.owner i j in
      let w' : LockState T E = record h.w { owner = owner } in
      let le : v.found ≤ h.w.next = f.found in
      let le' : u.found ≤ h.w.next = r.found in
      let mine : ViewFits pass_of base (ground_of x) w' j (after_joining v u) = record {
        stage = f.stage;
        pass = λ _. record {
          sees = p.sees;
          sees_pending = q.sees;
          owns = λ n is. let t = p.owns n is in (moved_else h.w.owner i j n j t.0 (λ e. apart (sym e)), t.1);
          owns_pending = λ n is. let t = q.owns n is in (moved_there h.w.owner i j n t.0, t.1);
          small = p.small;
          late = λ e. let l : MAX_TURNS ≤ v.found = p.late e in omega arith;
          root = p.root;
        };
        live = f.live;
        seen = f.seen;
        found = omega arith;
      } in
      let others : (k : ℕ) (z : View E G) → k ≢ j → k ≢ i → ViewFits pass_of base (ground_of x) h.w k z → ViewFits pass_of base (ground_of x) w' k z
      = λ k z _ ne e. record {
        stage = e.stage;
        pass = λ y. let a = e.pass y in
            record {
              sees = a.sees;
              sees_pending = a.sees_pending;
              owns = λ n is. let t = a.owns n is in (moved_else h.w.owner i j n k t.0 ne, t.1);
              owns_pending = λ n is. let t = a.owns_pending n is in (moved_else h.w.owner i j n k t.0 ne, t.1);
              small = a.small;
              late = a.late;
              root = a.root;
            };
        live = e.live;
        seen = e.seen;
        found = e.found;
      } in
      let P : Stage → Stage → Type 0 = λ a b. told_at a (v.told + u.told) + (learnt_at a v.learnt + learnt_at b u.learnt) ≡ told_at a v.told + told_at b u.told + learnt_at a (v.learnt + u.learnt) in
      let even : P v.stage u.stage = subst (λ (a : Stage). P a u.stage) (sym idle) (subst (P Idle) (sym idle') (omega arith)) in
      merge s h j v (after_joining v u) i u at (λ o. subst HoldsSlot idle o) apart there (λ o. subst HoldsSlot idle' o) (λ k t. t) (λ k t. subst (ShowsTicket k) idle' t) even owner mine others

module _ {T E G : Type 0} (entries : T → List E) (pass_of : E → ℕ) (ground_of : T → G) (x : T) where
  -- read: what was taken in is compared
  pub compares : (j : ℕ) (me : Me T (View E G)) → me.0.stage ≡ Idle → Allows (LockRule entries pass_of ground_of x) 1 j me 2 (λ n. n) (Compares pass_of (step 0 0 0 0 none) me)
  compares j me idle s h deep at small =
      let v = me.0 in
      let base : ℕ = length (entries x) in
      let words : set s.words 2 (slice_index s.words 2) ≡ h.w.next ∷ h.w.serving ∷ length h.w.journal ∷ [] = ap (λ (l : List ℕ). set l 2 (slice_index l 2)) h.words in
      let f : ViewFits pass_of base (ground_of x) h.w j v = h.each j v at in
      let p = f.pass (subst IsPass (sym idle) tt) in
      let m = meets pass_of v.seen v.pending h.w.journal (own_numbers v) v.pending_numbers p.sees p.sees_pending in
      let known = f.live (subst IsLive (sym idle) tt) in
      let long : base ≤ length v.seen = known.1 in
      let long' : length v.seen ≤ length (longer v.seen v.pending) = m.long in
      let fit : ViewFits pass_of base (ground_of x) h.w j (after_comparing v) = record {
        stage = subst (StageFits base h.w.serving h.w.next h.w.drawer h.w.home h.w.journal j (longer v.seen v.pending)) (sym idle) tt;
        pass = λ _. record {
          sees = m.sees;
          sees_pending = goes_none pass_of h.w.journal;
          owns = λ n is. ⊎_elim (λ (a : Contains (own_numbers v) n). p.owns n a) (λ (b : Contains v.pending_numbers n). p.owns_pending n b) (Contains-append_cases (own_numbers v) v.pending_numbers n is);
          owns_pending = λ n is. absurd (none_in_nil n is);
          small = p.small;
          late = p.late;
          root = p.root;
        };
        live = λ _. (known.0, omega arith);
        seen = goes_for pass_of _ h.w.journal _ [] (λ n there. absurd (none_in_nil n there)) m.sees;
        found = f.found;
      } in
      (after_comparing v, keeps, tt, same_state entries pass_of ground_of x s h j v at _ words (λ o. subst HoldsSlot idle o) _ refl refl (λ k t. t) fit, (refl, refl, m.differ))
